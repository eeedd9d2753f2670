-- One entry more: filling an empty home, the gap left of the home's cluster, or the gap right of it, gives a table
-- that shows the entry inserted. Each fill joins what lies on both sides of the filled place into one run. No rule is
-- chosen here.
-- Assumes nothing.
use Prim.Native.Nat.{ℕ, zero, suc, ◌+◌, ◌*◌, ◌≤◌, ◌<◌}
use Rattle.std.specs.Prelude.{◌≡◌, refl, Bool, true, false, ◌||◌, replicate}
use Rattle.std.proofs.Math.Path.{sym, ap, ap₂, subst}
use Rattle.std.proofs.Common.{◌∙◌, subst₂, true≢false, arith, le_refl}
use mathlib.Core.List.{List, [], ◌∷◌, ◌++◌, append_assoc, map-append}
use Rattle.std.proofs.Math.ListN.{length, length-append, set}
use Rattle.std.proofs.lemmas.List.{length-map}
use Rattle.std.proofs.Math.Seq.{set-append_seam}
use Rattle.rules.specs.Lists.{any}
use Rattle.rules.specs.Word.{Word}
use Rattle.rules.specs.Entry.{Entry}
use Rattle.rules.specs.Table.{occupied_places, locked}
use Rattle.rules.specs.Lay.{holds, insert}
use Rattle.rules.specs.Put.{lay_run}
use Rattle.theory.specs.Run.{Asc, none, Run}
use Rattle.theory.specs.Every as every
use Rattle.theory.specs.Insert.{asc_weaken, asc_below, insert_asc, insert_length, insert_front, insert_back}
use Rattle.theory.specs.Locks.{locked_append}
use Rattle.theory.specs.Joined.{run_append}
use Rattle.theory.specs.Seen.{Right, right_end, right_more, Left, left_start, left_more, Table, whole, left_asc}
use Rattle.theory.specs.Seen.{right_asc, AtGap, InRun}
use Rattle.theory.specs.Pairs.{lay_run_lem, lay_free, all_occupied}
use Rattle.theory.specs.RunLaws.{run_occupied}
use Rattle.theory.specs.Dealt.{is_occupied}

-- ---- a run that adjoins what lies left, or right, of a filled place
pub left_join :
    {d q : ℕ} {u : List Word} {xs : List Entry} (l : List Word) (ls : List Entry) →
    d ≤ 4096 → Left d u xs → 0 < length u → q ≡ length u → Run d q l ls → Left d (u ++ l) (xs ++ ls)
left_join l ls s (left_start e f) some at t = absurd (omega (arith, ap length e))
left_join {q = q} l ls s (left_more u g run xs ys left void r e f) some at t =
    left_more
    u
    g
    (run ++ l)
    xs
    (ys ++ ls)
    left
    void
    (run_append s r place t)
    (ap (λ (w : List Word). w ++ l) e ∙ append_assoc u (g ∷ run) l)
    (ap (λ (w : List Entry). w ++ ls) f ∙ append_assoc xs ys ls)
  where
    place : q ≡ suc (length u) + length run
    place = omega (arith, ap length e, length-append u (g ∷ run))

pub right_join :
    {d p q : ℕ} {v : List Word} {zs : List Entry} (l : List Word) (ls : List Entry) →
    d ≤ 4096 → Run d p l ls → q ≡ p + length l → Right d q v zs → 0 < length v → Right d p (l ++ v) (ls ++ zs)
right_join l ls s t at (right_end e f) some = absurd (omega (arith, ap length e))
right_join {d} {p} {q} l ls s t at (right_more run g v xs ys r void right e f) some =
    right_more
    (l ++ run)
    g
    v
    (ls ++ xs)
    ys
    (run_append s t at r)
    void
    (subst (λ (n : ℕ). Right d (suc n) v ys) place right)
    (ap (λ (w : List Word). l ++ w) e ∙ sym (append_assoc l run (g ∷ v)))
    (ap (λ (w : List Entry). ls ++ w) f ∙ sym (append_assoc ls xs ys))
  where
    place : q + length run ≡ p + length (l ++ run)
    place = omega (arith, length-append l run)

-- what lies left of a place and what lies right of it, both with a run there, are a table together
pub seam :
    {d q : ℕ} {u v : List Word} {xs zs : List Entry} →
    d ≤ 4096 →
    Left d u xs → 0 < length u → q ≡ length u → Right d q v zs → 0 < length v → Table d (u ++ v) (xs ++ zs)
seam s (left_start e f) some at right more = absurd (omega (arith, ap length e))
seam {d} {q} {v = v} {zs = zs} s (left_more u g run xs ys left void r e f) some at right more =
    subst₂
    (Table d)
    (sym (ap (λ (w : List Word). w ++ v) e ∙ append_assoc u (g ∷ run) v))
    (sym (ap (λ (w : List Entry). w ++ zs) f ∙ append_assoc xs ys zs))
    (whole g left void (right_join run ys s r place right more))
  where
    place : q ≡ suc (length u) + length run
    place = omega (arith, ap length e, length-append u (g ∷ run))

-- ---- the enlarged run
-- one entry more over one place more
pub enlarged :
    {d b a c : ℕ} (e : Entry) (ys : List Entry) (n : ℕ) →
    d ≤ 4096 →
    e.remainder < d →
    a ≤ e.home_place →
    e.home_place < a + suc n →
    a * 4096 ≤ b →
    c ≤ a + suc n →
    length ys ≡ n → holds e ys ≡ false → Asc d c b ys → Run d a (lay_run a (insert e ys)) (insert e ys)
unfolding lay_run
enlarged {d} {b} {a} {c} e ys n s low first last under over size absent up =
    lay_run_lem (insert e ys) (insert e ys) wide (λ i lt. refl)
  where
    wide : Asc d (a + length (insert e ys)) (a * 4096) (insert e ys)
    wide =
        subst
        (λ (m : ℕ). Asc d (a + m) (a * 4096) (insert e ys))
        (sym (insert_length e ys absent ∙ ap suc size))
        (insert_asc
        e
        s
        (record { above = omega arith; low = low; inside = last })
        (asc_weaken under over up))

-- ---- the entry in its place among all
pub insert_between :
    {d c b : ℕ} (n m : ℕ) (e : Entry) {xs : List Entry} (ys : List Entry) {zs : List Entry} →
    d ≤ 4096 →
    e.remainder < d →
    Asc d n b xs →
    n ≤ e.home_place → e.home_place < m → Asc d c (m * 4096) zs →
    insert e (xs ++ (ys ++ zs)) ≡ xs ++ (insert e ys ++ zs)
insert_between n m e {xs} ys {zs} s low up first last down =
    insert_back e (ys ++ zs) (omega arith) (every.all_map (λ f lt. omega arith) (asc_below s up))
    ∙ ap (λ (es : List Entry). xs ++ es) (insert_front e ys s down (omega arith))

-- ---- what adding gives
pub record Added (d : ℕ) (ws : List Word) (es : List Entry) (e : Entry) (p : ℕ) (vs : List Word) : Type 0 where
  pub table : Table d vs (insert e es)
  pub free : locked ws ≡ false → locked vs ≡ false
  pub places : occupied_places vs ≡ set (occupied_places ws) p true

pub or_parts : (a b : Bool) → (a || b) ≡ false → (a ≡ false) × (b ≡ false)
or_parts true b e = absurd (true≢false e)
or_parts false b e = (refl, e)

-- a stretch replaced by laid words is unlocked where the rest was
replaced_free :
    (u mid v : List Word) (l : List Word) → locked l ≡ false → locked (u ++ (mid ++ v)) ≡ false →
    locked (u ++ (l ++ v)) ≡ false
replaced_free u mid v l here free =
    locked_append u (l ++ v)
    ∙ ap₂ ◌||◌ outer.0 (locked_append l v ∙ ap₂ ◌||◌ here inner.1)
  where
    outer : (locked u ≡ false) × (locked (mid ++ v) ≡ false)
    outer = or_parts (locked u) (locked (mid ++ v)) (sym (locked_append u (mid ++ v)) ∙ free)

    inner : (locked mid ≡ false) × (locked v ≡ false)
    inner = or_parts (locked mid) (locked v) (sym (locked_append mid v) ∙ outer.1)

occupied_append : (u v : List Word) → occupied_places (u ++ v) ≡ occupied_places u ++ occupied_places v
unfolding occupied_places
occupied_append u v = map-append is_occupied u v

-- the occupied places with the gap between two parts filled
filled :
    (u : List Word) (g : Word) (v : List Word) →
    set (occupied_places (u ++ (g ∷ v))) (length u) true ≡ occupied_places u ++ (true ∷ occupied_places v)
unfolding occupied_places
filled u g v =
    ap (λ (os : List Bool). set os (length u) true) (map-append is_occupied u (g ∷ v))
    ∙ ap (λ (n : ℕ). set (occupied_places u ++ (g.occupied ∷ occupied_places v)) n true) (sym (length-map u is_occupied))
    ∙ set-append_seam (occupied_places u) g.occupied (occupied_places v) true

run_all :
    {d a : ℕ} {run : List Word} {es : List Entry} (n : ℕ) → Run d a run es → length es ≡ n →
    occupied_places run ≡ replicate n true
run_all {run = run} n r size =
    all_occupied run (run_occupied r) ∙ ap (λ (k : ℕ). replicate k true) (sym r.size ∙ size)

lay_run_free : (a : ℕ) (es : List Entry) → locked (lay_run a es) ≡ false
unfolding lay_run
lay_run_free a es = lay_free es a (replicate (length es) true) es

replicate_last : (n : ℕ) (os : List Bool) → replicate (suc n) true ++ os ≡ replicate n true ++ (true ∷ os)
replicate_last zero os = refl
replicate_last (suc n) os = ap (λ (us : List Bool). true ∷ us) (replicate_last n os)

-- an empty home is filled
pub add_home :
    {d : ℕ} {ws : List Word} {es : List Entry} (e : Entry) (t : AtGap d ws es e.home_place) →
    d ≤ 4096 →
    e.remainder < d →
    0 < length t.u →
    0 < length t.v → Added d ws es e (length t.u) (t.u ++ (lay_run (length t.u) (insert e []) ++ t.v))
unfolding holds any insert
add_home {d} {ws} {es} e t s low some more =
    record {
      table =
          subst₂
          (Table d)
          (append_assoc t.u l t.v)
          (append_assoc t.xs (e ∷ []) t.ys
          ∙ sym (ap (insert e) t.shown
          ∙ insert_between
          (length t.u)
          (suc (length t.u))
          e
          []
          s
          low
          (left_asc s t.left)
          at_home
          at_home'
          (right_asc s t.right)))
          (seam
          s
          (left_join l (e ∷ []) s t.left some refl here)
          (omega (arith, long))
          (omega (arith, long, here.size))
          t.right
          more);
      free = λ u.
          replaced_free
          t.u
          (t.g ∷ [])
          t.v
          l
          (lay_run_free (length t.u) (e ∷ []))
          (sym (ap locked t.words) ∙ u);
      places =
          occupied_append t.u (l ++ t.v)
          ∙ ap
          (λ (os : List Bool). occupied_places t.u ++ os)
          (occupied_append l t.v ∙ ap (λ (os : List Bool). os ++ occupied_places t.v) (run_all 1 here refl))
          ∙ sym
          (ap (λ (vs : List Word). set (occupied_places vs) (length t.u) true) t.words
          ∙ filled t.u t.g t.v);
    }
  where
    l : List Word
    l = lay_run (length t.u) (insert e [])

    at_home : length t.u ≤ e.home_place
    at_home = omega (arith, t.here)

    at_home' : e.home_place < suc (length t.u)
    at_home' = omega (arith, t.here)

    here : Run d (length t.u) l (e ∷ [])
    here = enlarged e [] 0 s low at_home (omega (arith, t.here)) (le_refl _) (le_refl _) refl refl none

    long : length (t.u ++ l) ≡ length t.u + length l
    long = length-append t.u l

-- the cluster about the home, enlarged by the gap left of it or by the gap right of it: as a run
module _ {d : ℕ} {ws : List Word} {es : List Entry} (e : Entry) (t : InRun d ws es e.home_place)
    (s : d ≤ 4096) (low : e.remainder < d) (absent : holds e t.ys ≡ false)
  where
    in_order :
        insert e es ≡ t.xs ++ (insert e t.ys ++ t.zs)
    in_order =
        ap (insert e) t.shown
        ∙ insert_between
        (length t.u)
        (suc (length t.u) + length t.run)
        e
        t.ys
        s
        low
        (left_asc s t.left)
        (omega (arith, t.after))
        t.before
        (asc_weaken (omega arith) (le_refl _) (right_asc s t.right))

    one_more : length (insert e t.ys) ≡ suc (length t.run)
    one_more = insert_length e t.ys absent ∙ ap suc t.inside.size

    -- from the gap on the left on, or from the cluster's first place on
    over :
        (a : ℕ) → length t.u ≤ a → a ≤ suc (length t.u) → Run d a (lay_run a (insert e t.ys)) (insert e t.ys)
    over a from to =
        enlarged
        e
        t.ys
        (length t.run)
        s
        low
        (omega (arith, t.after))
        (omega (arith, t.before))
        (omega arith)
        (omega arith)
        t.inside.size
        absent
        t.inside.asc

    -- the gap left of the home's cluster is filled
    pub add_left :
        0 < length t.u →
        Added d ws es e (length t.u) (t.u ++ (lay_run (length t.u) (insert e t.ys) ++ (t.h ∷ t.v)))
    add_left some =
        record {
          table =
              subst₂
              (Table d)
              (append_assoc t.u l (t.h ∷ t.v))
              (append_assoc t.xs (insert e t.ys) t.zs ∙ sym in_order)
              (whole
              t.h
              (left_join l (insert e t.ys) s t.left some refl here)
              t.hollow
              (subst (λ (n : ℕ). Right d (suc n) t.v t.zs) place t.right));
          free = λ u.
              replaced_free
              t.u
              (t.g ∷ t.run)
              (t.h ∷ t.v)
              l
              (lay_run_free (length t.u) (insert e t.ys))
              (sym (ap locked t.words) ∙ u);
          places =
              occupied_append t.u (l ++ (t.h ∷ t.v))
              ∙ ap
              (λ (os : List Bool). occupied_places t.u ++ os)
              (occupied_append l (t.h ∷ t.v)
              ∙ ap (λ (os : List Bool). os ++ occupied_places (t.h ∷ t.v))
              (run_all (suc (length t.run)) here one_more)
              ∙ ap
              (λ (os : List Bool). true ∷ (os ++ occupied_places (t.h ∷ t.v)))
              (sym (run_all (length t.run) t.inside t.inside.size))
              ∙ ap (λ (os : List Bool). true ∷ os) (sym (occupied_append t.run (t.h ∷ t.v))))
              ∙ sym
              (ap (λ (vs : List Word). set (occupied_places vs) (length t.u) true) t.words
              ∙ filled t.u t.g (t.run ++ (t.h ∷ t.v)));
        }
      where
        l : List Word
        l = lay_run (length t.u) (insert e t.ys)

        here : Run d (length t.u) l (insert e t.ys)
        here = over (length t.u) (le_refl _) (omega arith)

        place : suc (length t.u) + length t.run ≡ length (t.u ++ l)
        place = omega (arith, length-append t.u l, here.size, one_more)

    -- the gap right of the home's cluster is filled
    pub add_right :
        0 < length t.v →
        Added d ws es e (suc (length t.u) + length t.run)
        (t.u ++ (t.g ∷ (lay_run (suc (length t.u)) (insert e t.ys) ++ t.v)))
    unfolding occupied_places
    add_right more =
        record {
          table =
              subst
              (Table d (t.u ++ (t.g ∷ (l ++ t.v))))
              (sym in_order)
              (whole t.g t.left t.void (right_join l (insert e t.ys) s here place t.right more));
          free = λ u.
              subst (λ (vs : List Word). locked vs ≡ false) (append_assoc t.u (t.g ∷ []) (l ++ t.v))
              (replaced_free
              (t.u ++ (t.g ∷ []))
              (t.run ++ (t.h ∷ []))
              t.v
              l
              (lay_run_free (suc (length t.u)) (insert e t.ys))
              (ap
              locked
              (append_assoc t.u (t.g ∷ []) _
              ∙ ap (λ (vs : List Word). t.u ++ (t.g ∷ vs)) (append_assoc t.run (t.h ∷ []) t.v))
              ∙ sym (ap locked t.words)
              ∙ u));
          places =
              occupied_append t.u (t.g ∷ (l ++ t.v))
              ∙ ap
              (λ (os : List Bool). occupied_places t.u ++ (t.g.occupied ∷ os))
              (occupied_append l t.v
              ∙ ap (λ (os : List Bool). os ++ occupied_places t.v) (run_all (suc (length t.run)) here one_more)
              ∙ replicate_last (length t.run) (occupied_places t.v)
              ∙ ap
              (λ (os : List Bool). os ++ (true ∷ occupied_places t.v))
              (sym (run_all (length t.run) t.inside t.inside.size)))
              ∙ sym (append_assoc (occupied_places t.u) (t.g.occupied ∷ occupied_places t.run)
              (true ∷ occupied_places t.v))
              ∙ ap (λ (os : List Bool). os ++ (true ∷ occupied_places t.v))
              (sym (occupied_append t.u (t.g ∷ t.run)))
              ∙ sym (filled (t.u ++ (t.g ∷ t.run)) t.h t.v)
              ∙ ap₂
              (λ (vs : List Word) (n : ℕ). set (occupied_places vs) n true)
              (append_assoc t.u (t.g ∷ t.run) (t.h ∷ t.v) ∙ sym t.words)
              far;
        }
      where
        far : length (t.u ++ (t.g ∷ t.run)) ≡ suc (length t.u) + length t.run
        far = omega (arith, length-append t.u (t.g ∷ t.run))

        l : List Word
        l = lay_run (suc (length t.u)) (insert e t.ys)

        here : Run d (suc (length t.u)) l (insert e t.ys)
        here = over (suc (length t.u)) (omega arith) (le_refl _)

        place : suc (suc (length t.u) + length t.run) ≡ suc (length t.u) + length l
        place = omega (arith, here.size, one_more)
