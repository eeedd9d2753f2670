-- Put on an unlocked table: a shown key is found, a full table is full, and otherwise the key is added at the place
-- that the rule names. `Puts` has the cases; `put_table` says which holds.
-- Assumes nothing.
use Rattle.std.specs.Prelude.{ℕ, suc, ◌+◌, ◌≤◌, ◌<◌, ◌≡◌, Bool, true, cond, length, get_or, drop, replicate}
use Rattle.std.proofs.Math.Path.{refl, ap}
use Rattle.std.proofs.Common.{sym, ap₂, ◌∙◌, subst, subst₂, true≢false, arith, length-append, take_at, drop_at}
use Rattle.std.proofs.Math.Bool.{false}
use mathlib.Core.List.{List, [], ◌∷◌, ◌++◌, append_assoc}
use Rattle.std.proofs.lemmas.List.{length-replicate}
use Rattle.std.proofs.lemmas.List.Edits.{sets, sets-eq}
use Rattle.rules.specs.declared.Shape.{Shape}
use Rattle.rules.specs.Lists.{all}
use Rattle.rules.specs.Word.{Word}
use Rattle.rules.specs.Entry.{Entry}
use Rattle.rules.specs.Shape.{remainders, places, right_guard}
use Rattle.rules.specs.Table.{at, occupied_places, left_gap, right_gap, cluster_entries, locked}
use Rattle.rules.specs.Room.{Room, place, full, room_for}
use Rattle.rules.specs.Lay.{holds, insert}
use Rattle.rules.specs.Answer.{says, refuses}
use Rattle.rules.specs.Put.{lay_run, enlarged_from, add_at, Outcome, keeps, writes, add_to, put_in}
use Rattle.theory.specs.Dealt.{is_occupied}
use Rattle.theory.specs.RunLaws.{run_occupied, run_entries}
use Rattle.theory.specs.Insert.{insert_length}
use Rattle.theory.specs.Pairs.{lay_length}
use Rattle.theory.specs.SoundTable.{table_guards}
use Rattle.theory.specs.Gaps.{Free, Taken, Guarded, HomePlace, Chosen, room_chosen}
use Rattle.theory.specs.Gaps as gaps
use Rattle.theory.specs.Seen.{Table, AtGap, InRun, Located, at_gap, in_run, locate}
use Rattle.theory.specs.Places.{void_free, occupied_at, at_seam, gap_left, gap_entries, run_taken, run_left}
use Rattle.theory.specs.Places.{run_right, run_cluster_entries, seam_free}
use Rattle.theory.specs.Cut.{void_guarded}
use Rattle.theory.specs.Finding.{origin, Surroundings, surroundings, around_free}
use Rattle.theory.specs.Adding.{Added, add_home, add_left, add_right}

-- a stretch of words replaced by as many others
pub spliced :
    (u mid v l : List Word) (p : ℕ) → p ≡ length u → length l ≡ length mid → sets (u ++ (mid ++ v)) p l ≡ u ++ (l ++ v)
spliced u mid v l p at size =
    sets-eq l (u ++ (mid ++ v)) p (omega (arith, length-append u (mid ++ v), length-append mid v))
    ∙ ap₂
    (λ (x y : List Word). (x ++ l) ++ y)
    (take_at u (mid ++ v) p (sym at))
    (ap (drop (p + length l)) (sym (append_assoc u mid v))
    ∙ drop_at (u ++ mid) v (p + length l) (omega (arith, length-append u mid)))
    ∙ append_assoc u l v

-- ---- what the definition of adding gives, seen from the home
lay_run_length : (a : ℕ) (es : List Entry) → length (lay_run a es) ≡ length es
unfolding lay_run
lay_run_length a es = lay_length es a (replicate (length es) true) es ∙ length-replicate (length es) true

-- adding from the enlarged cluster's first place, and the cluster's entries
pub add_from :
    (ws : List Word) (e : Entry) (p a : ℕ) (ys : List Entry) →
    enlarged_from ws e.home_place p ≡ a →
    cluster_entries ws e.home_place ≡ ys → add_at ws e p ≡ sets ws a (lay_run a (insert e ys))
unfolding add_at
add_from ws e p a ys from here =
    ap₂ (λ (n : ℕ) (xs : List Entry). sets ws n (lay_run n (insert e xs))) from here

added_home :
    {d : ℕ} {ws : List Word} {es : List Entry} (e : Entry) (t : AtGap d ws es e.home_place) →
    d ≤ 4096 →
    e.remainder < d →
    0 < length t.u → 0 < length t.v → Added d ws es e e.home_place (add_at ws e e.home_place)
unfolding enlarged_from insert
added_home {d} {ws} {es} e t s low some more =
    subst₂
    (Added d ws es e)
    (sym t.here)
    (sym
    (add_from
    ws
    e
    e.home_place
    (length t.u)
    []
    first
    (ap₂ cluster_entries t.words t.here ∙ gap_entries _ _ empty)
    ∙ ap (λ (vs : List Word). sets vs (length t.u) (lay_run (length t.u) (insert e []))) t.words
    ∙ spliced
    t.u
    (t.g ∷ [])
    t.v
    (lay_run (length t.u) (insert e []))
    (length t.u)
    refl
    (lay_run_length (length t.u) (e ∷ []))))
    (add_home e t s low some more)
  where
    empty : (at (t.u ++ (t.g ∷ t.v)) (length t.u)).occupied ≡ false
    empty = seam_free t.u t.g t.v t.void

    gap : left_gap (occupied_places ws) e.home_place ≡ length t.u
    gap =
        ap₂ (λ (vs : List Word) (q : ℕ). left_gap (occupied_places vs) q) t.words t.here
        ∙ gap_left _ _ empty

    first : enlarged_from ws e.home_place e.home_place ≡ length t.u
    first = omega (arith, gap, t.here)

-- the gaps and the entries of the home's cluster
pub record Sees {d : ℕ} {ws : List Word} {es : List Entry} {p : ℕ} (t : InRun d ws es p) : Type 0 where
  pub left : left_gap (occupied_places ws) p ≡ length t.u
  pub right : right_gap (occupied_places ws) p ≡ suc (length t.u) + length t.run
  pub entries : cluster_entries ws p ≡ t.ys
  pub taken : Taken (occupied_places ws) p

pub sees :
    {d : ℕ} {ws : List Word} {es : List Entry} {p : ℕ} (t : InRun d ws es p) →
    d ≤ 4096 → (at ws 0).occupied ≡ false → Sees t
sees {d} {ws} {es} {p} t s start =
    record {
      left =
          ap (λ (vs : List Word). left_gap (occupied_places vs) p) t.words
          ∙ run_left t.u t.g t.run t.h t.v empty occ hollow origin_here p t.after t.before;
      right =
          ap (λ (vs : List Word). right_gap (occupied_places vs) p) t.words
          ∙ run_right t.u t.g t.run t.h t.v empty occ hollow origin_here p t.after t.before;
      entries =
          ap (λ (vs : List Word). cluster_entries vs p) t.words
          ∙ run_cluster_entries
          t.u
          t.g
          t.run
          t.h
          t.v
          empty
          occ
          hollow
          origin_here
          p
          t.after
          t.before
          ∙ run_entries s t.inside;
      taken =
          ap (λ (vs : List Word). get_or (occupied_places vs) p false) t.words
          ∙ run_taken t.u t.g t.run t.h t.v empty occ hollow origin_here p t.after t.before;
    }
  where
    empty : t.g.occupied ≡ false
    empty = void_free t.g t.void

    hollow : t.h.occupied ≡ false
    hollow = void_free t.h t.hollow

    occ : all is_occupied t.run ≡ true
    occ = run_occupied t.inside

    origin_here : (at (t.u ++ (t.g ∷ (t.run ++ (t.h ∷ t.v)))) 0).occupied ≡ false
    origin_here = sym (ap (λ (vs : List Word). (at vs 0).occupied) t.words) ∙ start

added_left :
    {d : ℕ} {ws : List Word} {es : List Entry} (e : Entry) (t : InRun d ws es e.home_place) →
    Sees t →
    d ≤ 4096 →
    e.remainder < d →
    holds e t.ys ≡ false →
    0 < length t.u → Added d ws es e (left_gap (occupied_places ws) e.home_place)
    (add_at ws e (left_gap (occupied_places ws) e.home_place))
unfolding enlarged_from
added_left {d} {ws} {es} e t look s low absent some =
    subst₂
    (Added d ws es e)
    (sym look.left)
    (sym
    (add_from ws e (left_gap (occupied_places ws) e.home_place) (length t.u) t.ys (omega (arith, look.left))
    look.entries
    ∙ ap (λ (vs : List Word). sets vs (length t.u) l) t.words
    ∙ spliced t.u (t.g ∷ t.run) (t.h ∷ t.v) l (length t.u) refl long))
    (add_left e t s low absent some)
  where
    l : List Word
    l = lay_run (length t.u) (insert e t.ys)

    long : length l ≡ suc (length t.run)
    long = lay_run_length (length t.u) (insert e t.ys) ∙ insert_length e t.ys absent ∙ ap suc t.inside.size

added_right :
    {d : ℕ} {ws : List Word} {es : List Entry} (e : Entry) (t : InRun d ws es e.home_place) →
    Sees t →
    d ≤ 4096 →
    e.remainder < d →
    holds e t.ys ≡ false →
    0 < length t.v →
    Added d ws es e (right_gap (occupied_places ws) e.home_place)
    (add_at ws e (right_gap (occupied_places ws) e.home_place))
unfolding enlarged_from
added_right {d} {ws} {es} e t look s low absent more =
    subst₂
    (Added d ws es e)
    (sym look.right)
    (sym
    (add_from
    ws
    e
    (right_gap (occupied_places ws) e.home_place)
    (suc (length t.u))
    t.ys
    (omega (arith, look.left, look.right))
    look.entries
    ∙ ap (λ (vs : List Word). sets vs (suc (length t.u)) l) (t.words ∙ parts)
    ∙ spliced (t.u ++ (t.g ∷ [])) (t.run ++ (t.h ∷ [])) t.v l (suc (length t.u)) first long
    ∙ append_assoc t.u (t.g ∷ []) (l ++ t.v)))
    (add_right e t s low absent more)
  where
    l : List Word
    l = lay_run (suc (length t.u)) (insert e t.ys)

    parts :
        t.u ++ (t.g ∷ (t.run ++ (t.h ∷ t.v))) ≡ (t.u ++ (t.g ∷ [])) ++ ((t.run ++ (t.h ∷ [])) ++ t.v)
    parts =
        ap (λ (vs : List Word). t.u ++ (t.g ∷ vs)) (sym (append_assoc t.run (t.h ∷ []) t.v))
        ∙ sym (append_assoc t.u (t.g ∷ []) ((t.run ++ (t.h ∷ [])) ++ t.v))

    first : suc (length t.u) ≡ length (t.u ++ (t.g ∷ []))
    first = omega (arith, length-append t.u (t.g ∷ []))

    long : length l ≡ length (t.run ++ (t.h ∷ []))
    long =
        lay_run_length (suc (length t.u)) (insert e t.ys)
        ∙ insert_length e t.ys absent
        ∙ omega (arith, t.inside.size, length-append t.run (t.h ∷ []))

-- ---- put
pub data Puts (sh : Shape) (ws : List Word) (es : List Entry) (e : Entry) : Outcome → Type 0 where
  found : holds e es ≡ true → Puts sh ws es e (keeps (says 1))
  inserted :
      (p : ℕ) →
      holds e es ≡ false →
      room_for sh (occupied_places ws) e.home_place ≡ place p →
      Added (remainders sh) ws es e p (add_at ws e p) → Puts sh ws es e (writes (says 2) (add_at ws e p))
  overflow : holds e es ≡ false → room_for sh (occupied_places ws) e.home_place ≡ full →
      Puts sh ws es e (keeps (refuses 8))

pub table_guarded :
    (sh : Shape) {ws : List Word} {es : List Entry} →
    length ws ≡ places sh → Table (remainders sh) ws es → Guarded sh (occupied_places ws)
table_guarded sh {ws} size t = void_guarded sh ws size (table_guards sh size t)

-- a gap on the left that is not the left guard has words before it; one on the right that is not the right guard has
-- words after it
words_after_lem :
    (sh : Shape) (u : List Word) (g : Word) (v ws : List Word) →
    ws ≡ u ++ (g ∷ v) → length ws ≡ places sh → (length u ≡ right_guard sh → ⊥) → 0 < length v
unfolding places right_guard
words_after_lem sh u g v ws e size n = omega (arith, ap length e, length-append u (g ∷ v))

module _ (sh : Shape) {ws : List Word} {es : List Entry} (e : Entry)
    (s : remainders sh ≤ 4096)
    (size : length ws ≡ places sh)
    (k : HomePlace sh e.home_place)
    (low : e.remainder < remainders sh)
    (t : Table (remainders sh) ws es)
    (absent : holds e es ≡ false)
  where
    puts_gap :
        {r : Room} →
        AtGap (remainders sh) ws es e.home_place →
        room_for sh (occupied_places ws) e.home_place ≡ r →
        Chosen gaps.left sh (occupied_places ws) e.home_place r → Puts sh ws es e (add_to ws e r)
    unfolding right_guard
    puts_gap x named c = go c
        (occupied_at ws e.home_place ∙ ap (λ (q : ℕ). (at ws q).occupied) x.here ∙ empty) named
      where
        empty : (at ws (length x.u)).occupied ≡ false
        empty =
            ap (λ (vs : List Word). (at vs (length x.u)).occupied) x.words
            ∙ ap is_occupied (at_seam x.u x.g x.v)
            ∙ void_free x.g x.void

        far : length x.u ≡ right_guard sh → ⊥
        far at_guard = omega (arith, x.here, k.last)

        go :
            {r : Room} →
            Chosen gaps.left sh (occupied_places ws) e.home_place r →
            Free (occupied_places ws) e.home_place → room_for sh (occupied_places ws) e.home_place ≡ r →
            Puts sh ws es e (add_to ws e r)
        go (gaps.home_at f) free at_home =
            inserted e.home_place absent at_home
            (added_home
            e
            x
            s
            low
            (omega (arith, x.here, k.first))
            (words_after_lem sh x.u x.g x.v ws x.words size far))
        go (gaps.first y n) free at_home = absurd (true≢false (sym y ∙ free))
        go (gaps.second y a b) free at_home = absurd (true≢false (sym y ∙ free))
        go (gaps.none y a b) free at_home = absurd (true≢false (sym y ∙ free))

    puts_run :
        {r : Room} →
        InRun (remainders sh) ws es e.home_place →
        room_for sh (occupied_places ws) e.home_place ≡ r →
        Chosen gaps.left sh (occupied_places ws) e.home_place r → Puts sh ws es e (add_to ws e r)
    puts_run x named c = go c named
      where
        look : Sees x
        look = sees x s (origin t)

        more : (right_gap (occupied_places ws) e.home_place ≡ right_guard sh → ⊥) → 0 < length x.v
        more n =
            words_after_lem
            sh
            (x.u ++ (x.g ∷ x.run))
            x.h
            x.v
            ws
            (x.words ∙ sym (append_assoc x.u (x.g ∷ x.run) (x.h ∷ x.v)))
            size
            (λ at_guard. n (look.right ∙ sym far ∙ at_guard))
          where
            far : length (x.u ++ (x.g ∷ x.run)) ≡ suc (length x.u) + length x.run
            far = omega (arith, length-append x.u (x.g ∷ x.run))

        not_here : holds e x.ys ≡ false
        not_here = ap (holds e) (sym look.entries) ∙ (surroundings sh e s size k low t).same ∙ absent

        go :
            {r : Room} →
            Chosen gaps.left sh (occupied_places ws) e.home_place r →
            room_for sh (occupied_places ws) e.home_place ≡ r → Puts sh ws es e (add_to ws e r)
        go (gaps.home_at f) at_home = absurd (true≢false (sym look.taken ∙ f))
        go (gaps.first y n) at_home =
            inserted
            (left_gap (occupied_places ws) e.home_place)
            absent
            at_home
            (added_left e x look s low not_here (omega (arith, look.left, n)))
        go (gaps.second y a n) at_home =
            inserted (right_gap (occupied_places ws) e.home_place) absent at_home
            (added_right e x look s low not_here (more n))
        go (gaps.none y a b) at_home = overflow absent at_home

    puts_absent : Puts sh ws es e (add_to ws e (room_for sh (occupied_places ws) e.home_place))
    unfolding places
    puts_absent = go (locate e.home_place t (omega (arith, k.last)))
      where
        go : Located (remainders sh) ws es e.home_place →
            Puts sh ws es e (add_to ws e (room_for sh (occupied_places ws) e.home_place))
        go (at_gap x) = puts_gap x refl (room_chosen sh (occupied_places ws) e.home_place)
        go (in_run x) = puts_run x refl (room_chosen sh (occupied_places ws) e.home_place)

-- put on an unlocked table
pub put_table :
    (sh : Shape) {ws : List Word} {es : List Entry} (e : Entry) →
    remainders sh ≤ 4096 →
    length ws ≡ places sh →
    HomePlace sh e.home_place →
    e.remainder < remainders sh →
    Table (remainders sh) ws es → locked ws ≡ false → Puts sh ws es e (put_in sh ws e)
unfolding put_in
put_table sh {ws} {es} e s size k low t free =
    subst
    (Puts sh ws es e)
    (sym (rw (look.sound, around_free ws e.home_place free, look.same) refl))
    (go (holds e es) refl)
  where
    look : Surroundings sh ws es e
    look = surroundings sh e s size k low t

    go :
        (b : Bool) → holds e es ≡ b →
        Puts sh ws es e (cond b (keeps (says 1)) (add_to ws e (room_for sh (occupied_places ws) e.home_place)))
    go true h = found h
    go false h = puts_absent sh e s size k low t h
