-- Runs side by side: what laying gives for entries one after the other, and that two adjoining runs are one
-- (`run_append`).
-- Assumes nothing.
use Rattle.std.specs.Prelude.{ℕ, suc, ◌+◌, ◌*◌, ◌≤◌, ◌<◌, ◌≡◌, refl, Bool, true, false, not, ◌||◌, List, [], ◌∷◌, ◌++◌, map, length, replicate, eqb}
use Rattle.std.proofs.Common.{sym, ap, ap₂, ◌∙◌, subst, arith, add-zero, le_refl, length-append, ne_eqb}
use Rattle.std.proofs.Math.Bool.{or_assoc, or-false}
use Rattle.std.proofs.lemmas.List.{map-append, replicate-append-replicate}
use Rattle.rules.specs.Lists.{any}
use Rattle.rules.specs.Word.{Word}
use Rattle.rules.specs.Entry.{Entry, same_home}
use Rattle.rules.specs.Lay.{has_home, ends_group, lay}
use Rattle.rules.specs.Put.{lay_run}
use Rattle.theory.specs.Run.{Asc, none, next, unlock, Run}
use Rattle.theory.specs.Insert.{asc_weaken, asc_append, asc_below}

-- ---- homes
pub has_home_append : (xs ys : List Entry) (x : ℕ) → has_home (xs ++ ys) x ≡ (has_home xs x || has_home ys x)
unfolding has_home any
has_home_append [] ys x = refl
has_home_append (e ∷ xs) ys x =
    ap (λ (b : Bool). eqb e.home_place x || b) (has_home_append xs ys x)
    ∙ sym (or_assoc (eqb e.home_place x) (has_home xs x) (has_home ys x))

-- no home lies at or right of the bound of ascending entries, and none left of where they begin
pub has_home_right : {d c b : ℕ} {es : List Entry} (x : ℕ) → Asc d c b es → c ≤ x → has_home es x ≡ false
unfolding has_home any
has_home_right x none le = refl
has_home_right x (next {e = e} p q r up) le =
    ap₂ ◌||◌ (ne_eqb e.home_place x (λ (same : e.home_place ≡ x). omega arith)) (has_home_right x up le)

pub has_home_left :
    {d c b : ℕ} {es : List Entry} (x : ℕ) → d ≤ 4096 → Asc d c b es → suc x * 4096 ≤ b → has_home es x ≡ false
unfolding has_home any
has_home_left x s none le = refl
has_home_left x s (next {e = e} p q r up) le =
    ap₂ ◌||◌ (ne_eqb e.home_place x (λ (same : e.home_place ≡ x). omega arith)) (has_home_left x s up (omega arith))

-- ---- laying entries one after the other
-- an entry with a home below c ends its group before entries from home c on
ends_before :
    {d c c' : ℕ} (e : Entry) {ys : List Entry} → d ≤ 4096 → e.home_place < c → Asc d c' (c * 4096) ys →
    ends_group e ys ≡ true
unfolding ends_group same_home
ends_before e s lt none = refl
ends_before e s lt (next {e = f} p q r up) =
    ap not (ne_eqb e.home_place f.home_place (λ (same : e.home_place ≡ f.home_place). omega arith))

pub lay_append :
    {d c c' b : ℕ} (whole : List Entry) (p q : ℕ) (os : List Bool) {xs ys : List Entry} →
    d ≤ 4096 →
    Asc d c b xs →
    Asc d c' (c * 4096) ys →
    q ≡ p + length xs →
    lay whole p (replicate (length xs) true ++ os) (xs ++ ys)
    ≡ lay whole p (replicate (length xs) true) xs ++ lay whole q os ys
unfolding lay ends_group
lay_append whole p q os {ys = ys} s none down at = ap (λ (n : ℕ). lay whole n os ys) (omega arith)
lay_append whole p q os {ys = ys} s (next {e = e} b₁ l u none) down at =
    ap₂
    (λ (b : Bool) (n : ℕ).
    record { remainder = e.remainder; occupied = true; virgin = has_home whole p; change = b; lock = false }
    ∷ lay whole n os ys)
    (ends_before e s u down)
    (omega arith)
lay_append whole p q os {ys = ys} s (next {e = e} b₁ l u (next {e = f} {es = es} b₂ l₂ u₂ up)) down at =
    ap
    (λ (ws : List Word).
    record {
      remainder = e.remainder;
      occupied = true;
      virgin = has_home whole p;
      change = ends_group e (f ∷ es);
      lock = false;
    }
    ∷ ws)
    (lay_append whole (suc p) q os s (next b₂ l₂ u₂ up) down (omega arith))

-- which entries are taken for the whole matters only for the homes at the places laid
pub lay_whole :
    (whole other : List Entry) (p : ℕ) (es : List Entry) →
    ((i : ℕ) → i < length es → has_home whole (p + i) ≡ has_home other (p + i)) →
    lay whole p (replicate (length es) true) es ≡ lay other p (replicate (length es) true) es
unfolding lay
lay_whole whole other p [] same = refl
lay_whole whole other p (e ∷ es) same =
    ap₂
    (λ (b : Bool) (ws : List Word).
    record {
      remainder = e.remainder;
      occupied = true;
      virgin = b;
      change = ends_group e es;
      lock = false;
    }
    ∷ ws)
    here
    (lay_whole whole other (suc p) es later)
  where
    here : has_home whole p ≡ has_home other p
    here = subst (λ (x : ℕ). has_home whole x ≡ has_home other x) (add-zero p) (same 0 (omega arith))

    later : (i : ℕ) → i < length es → has_home whole (suc p + i) ≡ has_home other (suc p + i)
    later i lt = subst (λ (x : ℕ). has_home whole x ≡ has_home other x) (omega arith) (same (suc i) (omega arith))

-- ---- two adjoining runs are one
pub run_append :
    {d a b : ℕ} {u v : List Word} {xs ys : List Entry} →
    d ≤ 4096 → Run d a u xs → b ≡ a + length u → Run d b v ys → Run d a (u ++ v) (xs ++ ys)
unfolding lay_run
run_append {d} {a} {b} {u} {v} {xs} {ys} s r at t =
    record {
      size = length-append xs ys ∙ ap₂ ◌+◌ r.size t.size ∙ sym (length-append u v);
      asc = asc_append lower (asc_weaken (le_refl _) wider r.asc) (asc_below s left_asc) right_asc;
      laid = whole_laid;
    }
  where
    left_asc : Asc d b (a * 4096) xs
    left_asc = asc_weaken (le_refl _) (omega arith) r.asc

    lower : a * 4096 ≤ b * 4096
    lower = omega arith

    wider : a + length u ≤ a + length (u ++ v)
    wider = omega (arith, length-append u v)

    right_asc : Asc d (a + length (u ++ v)) (b * 4096) ys
    right_asc = asc_weaken (le_refl _) (omega (arith, length-append u v)) t.asc

    left_home : (i : ℕ) → i < length xs → has_home (xs ++ ys) (a + i) ≡ has_home xs (a + i)
    left_home i lt =
        has_home_append xs ys (a + i)
        ∙ ap (λ (h : Bool). has_home xs (a + i) || h) (has_home_left (a + i) s right_asc (omega (arith, r.size)))
        ∙ or-false (has_home xs (a + i))

    right_home : (i : ℕ) → i < length ys → has_home (xs ++ ys) (b + i) ≡ has_home ys (b + i)
    right_home i lt =
        has_home_append xs ys (b + i)
        ∙ ap (λ (h : Bool). h || has_home ys (b + i)) (has_home_right (b + i) left_asc (omega arith))

    whole_laid : lay (xs ++ ys) a (replicate (length (xs ++ ys)) true) (xs ++ ys) ≡ map unlock (u ++ v)
    whole_laid =
        ap
        (λ (os : List Bool). lay (xs ++ ys) a os (xs ++ ys))
        (ap (λ (n : ℕ). replicate n true) (length-append xs ys)
        ∙ sym (replicate-append-replicate (length xs) (length ys) true))
        ∙ lay_append (xs ++ ys) a b (replicate (length ys) true) s left_asc right_asc (omega (arith, r.size))
        ∙ ap₂
        ◌++◌
        (lay_whole (xs ++ ys) xs a xs left_home ∙ r.laid)
        (lay_whole (xs ++ ys) ys b ys right_home ∙ t.laid)
        ∙ sym (map-append unlock u v)
