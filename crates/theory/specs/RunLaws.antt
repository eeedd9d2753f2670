-- A run of occupied words is sound exactly if it is what laying its entries gives, each home inside the run:
-- `sound_is_run`, `run_is_sound`, `run_entries`. (Theorems A and B for one cluster.)
-- Assumes nothing.
use Rattle.std.specs.Prelude.{ℕ, zero, suc, ◌+◌, ◌*◌, ◌≤◌, ◌<◌, ◌≡◌, refl, Bool, true, false, not, cond, ◌&&◌, ◌||◌, List, [], ◌∷◌, ◌++◌, map, length, get_or, replicate, eqb}
use Rattle.std.proofs.Common.{sym, ap, ap₂, ◌∙◌, subst, arith, add-zero, le_refl, le_trans, eqb-true, eq-eqb, ne_eqb}
use Rattle.std.proofs.lemmas.Bool.{eqb-false}
use Rattle.rules.specs.declared.Shape.{Shape}
use Rattle.rules.specs.Lists.{bit_of, count, all, any}
use Rattle.rules.specs.Word.{Word, zero_word}
use Rattle.rules.specs.Entry.{Entry, same_home}
use Rattle.rules.specs.Shape.{remainders}
use Rattle.rules.specs.Table.{ends_in_change, sound_run, virgin_places, deal}
use Rattle.rules.specs.Lay.{has_home, ends_group, lay}
use Rattle.rules.specs.Put.{lay_run}
use Rattle.theory.specs.Run.{Asc, none, next, unlock, Run, code}
use Rattle.theory.specs.Dealt.{is_change, is_virgin, is_occupied, is_low, and_left, and_right, and_both, Least, Dealt}
use Rattle.theory.specs.Dealt.{dealt_none, dealt_ends, dealt_goes, dealt, dealt_deal, dealt_count, dealt_size}
use Rattle.theory.specs.Dealt.{dealt_ends_in_change, dealt_low, dealt_rising, dealt_homes, dealt_asc, dealt_lay}
use Rattle.theory.specs.Dealt.{among, Rising, rising_none, rising_next}
use Rattle.theory.specs.Locks.{sound_run_unlock, virgin_unlock, deal_unlock, all_unlock}

-- ---- the virgin places of a run
-- a rising list rises from any earlier place too
rising_from : {c k j : ℕ} {hs : List ℕ} → j ≤ k → Rising c k hs → Rising c j hs
rising_from le rising_none = rising_none
rising_from le (rising_next a b up) = rising_next (le_trans le a) b up

-- what lies below a rising list's start is not among it
among_below : {c k : ℕ} (x : ℕ) {hs : List ℕ} → x < k → Rising c k hs → among x hs ≡ false
unfolding among any
among_below x lt rising_none = refl
among_below x lt (rising_next {h = h} a b up) =
    ap₂ ◌||◌ (ne_eqb h x (λ (same : h ≡ x). omega arith)) (among_below x (omega arith) up)

virgin_rising : (c p : ℕ) (ws : List Word) → p + length ws ≤ c → Rising c p (virgin_places p ws)
unfolding virgin_places
virgin_rising c p [] room = rising_none
virgin_rising c p (w ∷ ws) room = go w.virgin (virgin_rising c (suc p) ws (omega arith))
  where
    go :
        (b : Bool) → Rising c (suc p) (virgin_places (suc p) ws) →
        Rising c p (cond b (p ∷ virgin_places (suc p) ws) (virgin_places (suc p) ws))
    go true up = rising_next (le_refl p) (omega arith) up
    go false up = rising_from (omega arith) up

pub virgin_count : (p : ℕ) (ws : List Word) → length (virgin_places p ws) ≡ count is_virgin ws
unfolding virgin_places count
virgin_count p [] = refl
virgin_count p (w ∷ ws) = go w.virgin (virgin_count (suc p) ws)
  where
    go :
        (b : Bool) → length (virgin_places (suc p) ws) ≡ count is_virgin ws →
        length (cond b (p ∷ virgin_places (suc p) ws) (virgin_places (suc p) ws)) ≡ bit_of b + count is_virgin ws
    go true e = omega arith
    go false e = omega arith

pub virgins_append :
    (p : ℕ) (us vs : List Word) → virgin_places p (us ++ vs) ≡ virgin_places p us ++ virgin_places (p + length us) vs
unfolding virgin_places
virgins_append p [] vs = ap (λ (n : ℕ). virgin_places n vs) (sym (add-zero p))
virgins_append p (w ∷ us) vs = go w.virgin (rw (next p us) at (virgins_append (suc p) us vs))
  where
    next : (p : ℕ) (us : List Word) → suc p + length us ≡ p + suc (length us)
    next p us = omega arith

    go :
        (b : Bool) →
        virgin_places (suc p) (us ++ vs) ≡ virgin_places (suc p) us ++ virgin_places (p + suc (length us)) vs →
        cond b (p ∷ virgin_places (suc p) (us ++ vs)) (virgin_places (suc p) (us ++ vs))
        ≡ cond b (p ∷ virgin_places (suc p) us) (virgin_places (suc p) us) ++ virgin_places (p + suc (length us)) vs
    go true e = ap (λ (hs : List ℕ). p ∷ hs) e
    go false e = e

-- a place of the run is among them where its word has virgin
virgin_among :
    (p : ℕ) (ws : List Word) (i : ℕ) → i < length ws → among (p + i) (virgin_places p ws) ≡ (get_or ws i zero_word).virgin
unfolding virgin_places among any
virgin_among p [] i lt = absurd (omega arith)
virgin_among p (w ∷ ws) zero lt = rw (add-zero p) (go w.virgin)
  where
    go : (b : Bool) → among p (cond b (p ∷ virgin_places (suc p) ws) (virgin_places (suc p) ws)) ≡ b
    go true = ap (λ (b : Bool). b || among p (virgin_places (suc p) ws)) (eq-eqb p p refl)
    go false = among_below p (omega arith) (virgin_rising (suc p + length ws) (suc p) ws (le_refl _))
virgin_among p (w ∷ ws) (suc i) lt =
    go
    w.virgin
    (ap (λ (x : ℕ). among x (virgin_places (suc p) ws)) (plus p i) ∙ virgin_among (suc p) ws i (omega arith))
  where
    plus : (p i : ℕ) → p + suc i ≡ suc p + i
    plus p i = omega arith

    go :
        (b : Bool) →
        among (p + suc i) (virgin_places (suc p) ws) ≡ (get_or ws i zero_word).virgin →
        among (p + suc i) (cond b (p ∷ virgin_places (suc p) ws) (virgin_places (suc p) ws)) ≡ (get_or ws i zero_word).virgin
    go true e =
        ap
        (λ (b : Bool). b || among (p + suc i) (virgin_places (suc p) ws))
        (ne_eqb p (p + suc i) (λ (same : p ≡ p + suc i). omega arith))
        ∙ e
    go false e = e

-- ---- A: a sound run is what laying its entries gives
pub sound_is_run :
    (sh : Shape) (a : ℕ) (run : List Word) →
    remainders sh ≤ 4096 →
    all is_occupied run ≡ true → sound_run sh run ≡ true → Run (remainders sh) a run (deal (virgin_places a run) run)
unfolding sound_run lay_run
sound_is_run sh a run s occ snd =
    record {
      size = dealt_size given;
      asc = dealt_asc (a * 4096) s given up (least given up);
      laid = dealt_lay (deal (virgin_places a run) run) a given up occ
          (λ i lt. dealt_homes (a + i) given ∙ virgin_among a run i lt);
    }
  where
    counts : Bool
    counts = eqb (count is_virgin run) (count is_change run)

    given : Dealt (remainders sh) (virgin_places a run) run (deal (virgin_places a run) run)
    given =
        dealt (remainders sh) run
        (and_right counts (ends_in_change run) (and_left (counts && ends_in_change run) _ snd))
        (and_left (all (is_low (remainders sh)) run) _ (and_right (counts && ends_in_change run) _ snd))
        (and_right (all (is_low (remainders sh)) run) _ (and_right (counts && ends_in_change run) _ snd))
        (virgin_places a run)
        (virgin_count a run
        ∙ eqb-true
        (count is_virgin run)
        (count is_change run)
        (and_left counts _ (and_left (counts && ends_in_change run) _ snd)))

    up : Rising (a + length run) a (virgin_places a run)
    up = virgin_rising (a + length run) a run (le_refl _)

    least :
        {hs : List ℕ} {ws : List Word} {es : List Entry} →
        Dealt (remainders sh) hs ws es → Rising (a + length run) a hs → Least (a * 4096) es
    least dealt_none q = tt
    least (dealt_ends c l p q rest) (rising_next k b u) = omega arith
    least (dealt_goes c l r p q rest) (rising_next k b u) = omega arith

-- ---- B: the homes of ascending entries, each once, are the virgin places of what laying them gives
later : Entry → List Entry → List ℕ
later e [] = []
later e (f ∷ es) = cond (same_home e f) (later f es) (f.home_place ∷ later f es)

same_home_lem : (e f : Entry) → same_home e f ≡ true → e.home_place ≡ f.home_place
unfolding same_home
same_home_lem e f same = eqb-true e.home_place f.home_place same

other_home : (e f : Entry) → same_home e f ≡ false → e.home_place ≡ f.home_place → ⊥
unfolding same_home
other_home e f other = eqb-false e.home_place f.home_place other

-- each of some ascending entries has its word dealt to it
asc_dealt :
    {d c b : ℕ} (whole : List Entry) (q h : ℕ) (e : Entry) (es : List Entry) →
    e.home_place ≡ h →
    Asc d c b (e ∷ es) → Dealt d (h ∷ later e es) (lay whole q (replicate (length (e ∷ es)) true) (e ∷ es)) (e ∷ es)
unfolding later lay ends_group
asc_dealt whole q h e [] p (next b l u none) = dealt_ends refl l p refl dealt_none
asc_dealt {d} {b = low} whole q h e (f ∷ es) p (next b l u (next b₁ l₁ u₁ up)) =
    go (same_home e f) refl (λ g r. asc_dealt {b = suc (code e)} whole (suc q) g f es r (next b₁ l₁ u₁ up))
  where
    go :
        (x : Bool) →
        same_home e f ≡ x →
        ((g : ℕ) → f.home_place ≡ g →
        Dealt d (g ∷ later f es) (lay whole (suc q) (replicate (length (f ∷ es)) true) (f ∷ es)) (f ∷ es)) →
        Dealt
        d
        (h ∷ cond x (later f es) (f.home_place ∷ later f es))
        (lay whole q (replicate (length (e ∷ f ∷ es)) true) (e ∷ f ∷ es))
        (e ∷ f ∷ es)
    go true same rest =
        let rises : e.remainder < f.remainder = omega (arith, same_home_lem e f same) in
        dealt_goes (ap not same) l rises p refl (rest h (omega (arith, same_home_lem e f same)))
    go false other rest = dealt_ends (ap not other) l p refl (rest f.home_place refl)

later_rising :
    {d c b : ℕ} (e : Entry) (es : List Entry) →
    d ≤ 4096 → Asc d c b (e ∷ es) → (k : ℕ) → k ≤ suc e.home_place → Rising c k (later e es)
unfolding later
later_rising e [] s up k le = rising_none
later_rising {c = c} {b = low} e (f ∷ es) s (next b l u (next b₁ l₁ u₁ up)) k le =
    go (same_home e f) refl (later_rising {b = suc (code e)} f es s (next b₁ l₁ u₁ up))
  where
    go :
        (x : Bool) →
        same_home e f ≡ x →
        ((j : ℕ) → j ≤ suc f.home_place → Rising c j (later f es)) →
        Rising c k (cond x (later f es) (f.home_place ∷ later f es))
    go true same rest = rest k (omega (arith, same_home_lem e f same))
    go false other rest =
        let after : k ≤ f.home_place = omega (arith, other_home e f other) in
        rising_next after u₁ (rest (suc f.home_place) (le_refl _))

-- the places of a stretch that pass a test
pick : (ℕ → Bool) → ℕ → ℕ → List ℕ
pick f q zero = []
pick f q (suc n) = cond (f q) (q ∷ pick f (suc q) n) (pick f (suc q) n)

pick_at :
    (f : ℕ → Bool) (q n : ℕ) (b : Bool) → f q ≡ b →
    pick f q (suc n) ≡ cond b (q ∷ pick f (suc q) n) (pick f (suc q) n)
unfolding pick
pick_at f q n b e = ap (λ (x : Bool). cond x (q ∷ pick f (suc q) n) (pick f (suc q) n)) e

pick_step :
    (f : ℕ → Bool) (n q c : ℕ) (hs : List ℕ) →
    Rising c q hs →
    ((x : ℕ) → q ≤ x → f x ≡ among x hs) →
    ((gs : List ℕ) → Rising c (suc q) gs → ((x : ℕ) → suc q ≤ x → f x ≡ among x gs) → pick f (suc q) n ≡ gs) →
    pick f q (suc n) ≡ hs
unfolding among any
pick_step f n q c [] up same rest =
    pick_at f q n false (same q (le_refl q)) ∙ rest [] rising_none (λ x le. same x (omega arith))
pick_step f n q c (h ∷ hs) (rising_next k b up) same rest = go (eqb h q) refl
  where
    go : (x : Bool) → eqb h q ≡ x → pick f q (suc n) ≡ h ∷ hs
    go true e =
        let here : h ≡ q = eqb-true h q e in
        pick_at f q n true (same q (le_refl q) ∙ ap (λ (x : Bool). x || among q hs) e)
        ∙ ap₂
        ◌∷◌
        (sym here)
        (rest
        hs
        (rising_from (omega arith) up)
        (λ x le.
        same x (omega arith) ∙ ap (λ (y : Bool). y || among x hs) (ne_eqb h x (λ (at_x : h ≡ x). omega arith))))
    go false e =
        let after : suc q ≤ h = omega (arith, eqb-false h q e) in
        pick_at f q n false (same q (le_refl q) ∙ among_below q after (rising_next (le_refl h) b up))
        ∙ rest (h ∷ hs) (rising_next after b up) (λ x le. same x (omega arith))

-- a rising list is what is picked by being among it
pick_rising :
    (f : ℕ → Bool) (n q c : ℕ) (hs : List ℕ) →
    c ≤ q + n → Rising c q hs → ((x : ℕ) → q ≤ x → f x ≡ among x hs) → pick f q n ≡ hs
unfolding pick
pick_rising f zero q c [] room up same = refl
pick_rising f zero q c (h ∷ hs) room (rising_next k b up) same = absurd (omega arith)
pick_rising f (suc n) q c hs room up same =
    pick_step f n q c hs up same (λ gs. pick_rising f n (suc q) c gs (omega arith))

-- the virgin places of laid entries are picked by being a home
lay_virgins :
    (whole : List Entry) (q : ℕ) (es : List Entry) →
    virgin_places q (lay whole q (replicate (length es) true) es) ≡ pick (has_home whole) q (length es)
unfolding virgin_places lay pick
lay_virgins whole q [] = refl
lay_virgins whole q (e ∷ es) = ap (λ (hs : List ℕ). cond (has_home whole q) (q ∷ hs) hs) (lay_virgins whole (suc q) es)

lay_occupied :
    (whole : List Entry) (q : ℕ) (es : List Entry) →
    all is_occupied (lay whole q (replicate (length es) true) es) ≡ true
unfolding lay all
lay_occupied whole q [] = refl
lay_occupied whole q (e ∷ es) = lay_occupied whole (suc q) es

-- the homes of ascending entries that lie in a stretch, with what dealing them to the laid words gives
record LaidOut (d a : ℕ) (es : List Entry) : Type 0 where
  homes : List ℕ
  here : virgin_places a (lay_run a es) ≡ homes
  given : Dealt d homes (lay_run a es) es

laid_out : (d a : ℕ) (es : List Entry) → d ≤ 4096 → Asc d (a + length es) (a * 4096) es → LaidOut d a es
unfolding lay_run pick lay
laid_out d a [] s up = record { homes = []; here = lay_virgins [] a []; given = dealt_none }
laid_out d a (e ∷ es) s (next b l u up) =
    record {
      homes = e.home_place ∷ later e es;
      here =
          lay_virgins (e ∷ es) a (e ∷ es)
          ∙ pick_rising (has_home (e ∷ es)) (length (e ∷ es)) a (a + length (e ∷ es)) (e.home_place ∷ later e es)
          (le_refl _)
          (rising_next from u (later_rising e es s (next b l u up) (suc e.home_place) (le_refl _)))
          (λ x le. dealt_homes x cards);
      given = cards;
    }
  where
    from : a ≤ e.home_place
    from = omega arith

    cards : Dealt d (e.home_place ∷ later e es) (lay (e ∷ es) a (replicate (length (e ∷ es)) true) (e ∷ es)) (e ∷ es)
    cards = asc_dealt (e ∷ es) a e.home_place e es refl (next b l u up)

laid_sound : (sh : Shape) (a : ℕ) (es : List Entry) → LaidOut (remainders sh) a es → sound_run sh (lay_run a es) ≡ true
unfolding sound_run
laid_sound sh a es l =
    and_both
    _
    _
    (and_both
    _
    _
    (eq-eqb _ _ (sym (virgin_count a (lay_run a es)) ∙ ap length l.here ∙ sym (dealt_count l.given)))
    (dealt_ends_in_change l.given))
    (and_both _ _ (dealt_low l.given) (dealt_rising l.given))

run_laid_out : {d a : ℕ} {run : List Word} {es : List Entry} → d ≤ 4096 → Run d a run es → LaidOut d a es
run_laid_out {d} {a} {run} {es} s r =
    laid_out d a es s (subst (λ (n : ℕ). Asc d (a + n) (a * 4096) es) (sym r.size) r.asc)

-- B: a run is sound, is all occupied, and shows its entries
pub run_is_sound :
    (sh : Shape) {a : ℕ} {run : List Word} {es : List Entry} →
    remainders sh ≤ 4096 → Run (remainders sh) a run es → sound_run sh run ≡ true
run_is_sound sh {a} {run} {es} s r =
    sym (sound_run_unlock sh run) ∙ ap (sound_run sh) (sym r.laid) ∙ laid_sound sh a es (run_laid_out s r)

pub run_occupied : {d a : ℕ} {run : List Word} {es : List Entry} → Run d a run es → all is_occupied run ≡ true
unfolding lay_run
run_occupied {a = a} {run} {es} r =
    sym (all_unlock is_occupied (λ w. refl) run) ∙ ap (all is_occupied) (sym r.laid) ∙ lay_occupied es a es

pub run_entries :
    {d a : ℕ} {run : List Word} {es : List Entry} → d ≤ 4096 → Run d a run es → deal (virgin_places a run) run ≡ es
run_entries {d} {a} {run} {es} s r =
    sym (ap₂ deal (virgin_unlock a run) refl)
    ∙ sym (deal_unlock (virgin_places a (map unlock run)) run)
    ∙ ap (λ (ws : List Word). deal (virgin_places a ws) ws) (sym r.laid)
    ∙ ap (λ (hs : List ℕ). deal hs (lay_run a es)) l.here
    ∙ dealt_deal l.given
  where
    l : LaidOut d a es
    l = run_laid_out s r
