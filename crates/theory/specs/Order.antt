-- The order of fills does not matter, over the occupied places alone.
-- `Rule` is what the argument needs of a rule: `fills_swap` is proved from it, and both sides to look first have it.
-- Counting: a fill adds one, and finds no place only where every home place is occupied.
-- Assumes nothing.
use Rattle.std.specs.Prelude.{ℕ, zero, suc, ◌≤◌, ◌<◌, ◌≡◌, refl, ◌≢◌, Bool, true, false, List, [], ◌∷◌, length, get_or, set, leb, eqb}
use Rattle.std.proofs.Common.{sym, ap, ◌∙◌, subst, true≢false, le_refl, arith, length-set, get_or-set_other, leb-true, leb-false, eqb-true}
use Rattle.std.proofs.lemmas.Bool.{false≢true, eqb-false}
use Rattle.std.proofs.lemmas.List.{set_comm}
use Rattle.rules.specs.declared.Shape.{Shape}
use Rattle.rules.specs.Lists.{count}
use Rattle.rules.specs.Shape.{homes, places, right_guard}
use Rattle.rules.specs.Room.{Room, place, full, room_for}
use Rattle.theory.specs.Gaps.{Taken, Free, TakenFrom, AllTaken, Guarded, HomePlace, Nearest, set_keeps, set_taken}
use Rattle.theory.specs.Gaps.{set_guarded, Side, left, other, home_no_guard, gap_stays, gap_shared, room_from}
use Rattle.theory.specs.Gaps.{Chosen, home_at, first, second, chosen, chosen_only, chosen_nearest, chosen_full}
use Rattle.theory.specs.Gaps.{room_left, room_full}

-- the occupied places after a fill
abbrev pub fill_at : List Bool → Room → List Bool
fill_at os (place p) = set os p true
fill_at os full = os

unfoldable pub fill_places : Shape → List Bool → ℕ → List Bool
fill_places sh os h = fill_at os (room_for sh os h)

-- ---- two fills commute, for every rule with these four properties

pub record Rule (sh : Shape) (room : List Bool → ℕ → Room) : Type 0 where
  -- the place that it names is the home's, or all between are occupied
  pub nearest :
      (os : List Bool) (h p : ℕ) → Guarded sh os → HomePlace sh h → room os h ≡ place p → Nearest sh os h p
  -- it names none only in a full table
  pub filled : (os : List Bool) (h : ℕ) → Guarded sh os → HomePlace sh h → room os h ≡ full → AllTaken sh os
  -- a fill of another place does not move it
  pub stays :
      (os : List Bool) (h p q : ℕ) → Guarded sh os → HomePlace sh q → room os h ≡ place p → q ≢ p →
      room (set os q true) h ≡ place p
  -- it names one place for all homes of a cluster
  pub shared :
      (os : List Bool) (a b : ℕ) → Guarded sh os → a ≤ b → TakenFrom os a (suc b) → room os a ≡ room os b

-- homes with one place to fill lie in one cluster once it is filled
joined :
    {sh : Shape} {os : List Bool} {a b p : ℕ} → Guarded sh os → Nearest sh os a p → Nearest sh os b p →
    TakenFrom (set os p true) a (suc b)
joined {sh} {os} {a} {b} {p} g x y q j k = go (eqb q p) (leb q p) refl refl
  where
    go : (s t : Bool) → eqb q p ≡ s → leb q p ≡ t → Taken (set os p true) q
    go true t e l = ap (λ (i : ℕ). get_or (set os p true) i false) (eqb-true q p e) ∙ set_taken g x.inside
    go false true e l =
        let n = eqb-false q p e in
        let m = leb-true q p l in
        set_keeps os p q (x.above q j (omega arith))
    go false false e l =
        let m = leb-false q p l in
        set_keeps os p q (y.below q m k)

module _ {sh : Shape} {room : List Bool → ℕ → Room} (R : Rule sh room) where
  -- and then have one place again
  same_room :
      {os : List Bool} {a b p : ℕ} → Guarded sh os → Nearest sh os a p → Nearest sh os b p →
      room (set os p true) a ≡ room (set os p true) b
  same_room {os} {a} {b} {p} g x y = go (leb a b) refl
    where
      go : (t : Bool) → leb a b ≡ t → room (set os p true) a ≡ room (set os p true) b
      go true l = R.shared (set os p true) a b (set_guarded g x.inside) (leb-true a b l) (joined g x y)
      go false l =
          let m = leb-false a b l in
          sym (R.shared (set os p true) b a (set_guarded g x.inside) (omega arith) (joined g y x))

  -- two homes filled in either order; if to one place, then the second fill is at the place of their common cluster
  pub fills_swap :
      {os : List Bool} {a b : ℕ} → Guarded sh os → HomePlace sh a → HomePlace sh b →
      fill_at (fill_at os (room os a)) (room (fill_at os (room os a)) b)
      ≡ fill_at (fill_at os (room os b)) (room (fill_at os (room os b)) a)
  fills_swap {os} {a} {b} g ha hb = go (room os a) (room os b) refl refl
    where
      room_left_over : {h k p : ℕ} → HomePlace sh h → HomePlace sh k → room os h ≡ full → room os k ≡ place p → ⊥
      room_left_over {h} {k} {p} x y e f =
          let n = R.nearest os k p g y f in
          true≢false (sym (R.filled os h g x e p n.inside) ∙ n.free)

      two :
          (p q : ℕ) → room os a ≡ place p → room os b ≡ place q → (t : Bool) → eqb p q ≡ t →
          fill_at (set os p true) (room (set os p true) b) ≡ fill_at (set os q true) (room (set os q true) a)
      two p q e f true t =
          let k = eqb-true p q t in
          let x = R.nearest os a p g ha e in
          let y = R.nearest os b p g hb (f ∙ ap place (sym k)) in
          ap (fill_at (set os p true)) (same_room g y x)
          ∙ ap (λ (j : ℕ). fill_at (set os j true) (room (set os j true) a)) k
      two p q e f false t =
          let n = eqb-false p q t in
          let x = R.nearest os a p g ha e in
          let y = R.nearest os b q g hb f in
          ap (fill_at (set os p true)) (R.stays os b q p g x.inside f n)
          ∙ set_comm os p q true true n
          ∙ sym (ap (fill_at (set os q true)) (R.stays os a p q g y.inside e (λ k. n (sym k))))

      go :
          (x y : Room) → room os a ≡ x → room os b ≡ y →
          fill_at (fill_at os x) (room (fill_at os x) b) ≡ fill_at (fill_at os y) (room (fill_at os y) a)
      go full full e f = ap (fill_at os) (f ∙ sym e)
      go full (place q) e f = absurd (room_left_over ha hb e f)
      go (place p) full e f = absurd (room_left_over hb ha f e)
      go (place p) (place q) e f = two p q e f (eqb p q) refl

-- ---- the rule that looks to a side first

chosen_stays :
    {s : Side} {sh : Shape} {os : List Bool} {h p q : ℕ} → Guarded sh os → HomePlace sh q → q ≢ p →
    Chosen s sh os h (place p) → Chosen s sh (set os q true) h (place p)
chosen_stays {os = os} {h} {q = q} g k n (home_at f) =
    home_at (get_or-set_other os q h true false (λ e. n (sym e)) ∙ f)
chosen_stays {s} {sh} {os} {h} {q = q} g k n (first t m) =
    let e = gap_stays s h g k n in
    subst
    (λ (p : ℕ). Chosen s sh (set os q true) h (place p))
    e
    (first (set_keeps os q h t) (λ i. m (sym e ∙ i)))
chosen_stays {s} {sh} {os} {h} {q = q} g k n (second t i m) =
    let d = gap_stays s h g k (λ j. home_no_guard s k (j ∙ i)) in
    let e = gap_stays (other s) h g k n in
    subst
    (λ (p : ℕ). Chosen s sh (set os q true) h (place p))
    e
    (second (set_keeps os q h t) (d ∙ i) (λ j. m (sym e ∙ j)))

-- both rules, left first and right first
pub room_rule : (s : Side) (sh : Shape) → Rule sh (room_from s sh)
unfolding room_from
room_rule s sh =
    record {
      nearest = λ os h p g k e. chosen_nearest g k (view os h (place p) e);
      filled = λ os h g k e. chosen_full g (view os h full e);
      stays = λ os h p q g k e n. chosen_only (chosen_stays g k n (view os h (place p) e));
      shared =
          λ os a b g h t.
          rw
          (t a (le_refl a) (omega arith), t b h (omega arith), gap_shared s a b g h t, gap_shared (other s) a b g h t);
    }
  where
    view : (os : List Bool) (h : ℕ) (r : Room) → room_from s sh os h ≡ r → Chosen s sh os h r
    view os h r e = subst (Chosen s sh os h) e (chosen s sh os h)

-- the paper's rule: two fills, in either order
pub fills_commute :
    {sh : Shape} {os : List Bool} {g h : ℕ} → Guarded sh os → HomePlace sh g → HomePlace sh h →
    fill_places sh (fill_places sh os g) h ≡ fill_places sh (fill_places sh os h) g
unfolding fill_places
fills_commute {sh} x y z = simp room_left (fills_swap (room_rule left sh) x y z)

-- ---- counting

-- how many places are occupied
abbrev pub taken : List Bool → ℕ
taken os = count (λ (o : Bool). o) os

pub taken_set : (os : List Bool) (p : ℕ) → p < length os → Free os p → taken (set os p true) ≡ suc (taken os)
unfolding count
taken_set [] p l f = absurd (omega arith)
taken_set (true ∷ os) zero l f = absurd (true≢false f)
taken_set (false ∷ os) zero l f = omega arith
taken_set (o ∷ os) (suc p) l f = omega (arith, taken_set os p (omega arith) f)

taken_length : (os : List Bool) → taken os ≤ length os
unfolding count
taken_length [] = omega arith
taken_length (true ∷ os) = omega (arith, taken_length os)
taken_length (false ∷ os) = omega (arith, taken_length os)

taken_run : (os : List Bool) (n : ℕ) → TakenFrom os 0 n → n ≤ taken os
unfolding count
taken_run os zero t = omega arith
taken_run [] (suc n) t = absurd (false≢true (t 0 (omega arith) (omega arith)))
taken_run (true ∷ os) (suc n) t = omega (arith, taken_run os n (λ q x y. t (suc q) (omega arith) (omega arith)))
taken_run (false ∷ os) (suc n) t = absurd (false≢true (t 0 (omega arith) (omega arith)))

-- the guards are free, so no more places are occupied than there are homes
pub taken_homes : {sh : Shape} {os : List Bool} → Guarded sh os → taken os ≤ homes sh
unfolding places right_guard
taken_homes {sh} {os} g =
    let ps : List Bool = set os 0 true in
    let f : Free ps (right_guard sh) = get_or-set_other os 0 (right_guard sh) true false (omega arith) ∙ g.right in
    omega (
      arith,
      g.size,
      taken_set os 0 (omega (arith, g.size)) g.left,
      length-set os 0 true,
      taken_set ps (right_guard sh) (omega (arith, g.size, length-set os 0 true)) f,
      length-set ps (right_guard sh) true,
      taken_length (set ps (right_guard sh) true),
    )

taken_all : {sh : Shape} {os : List Bool} → Guarded sh os → AllTaken sh os → taken os ≡ homes sh
unfolding places count
taken_all {sh} {os = []} g t = absurd (omega (arith, g.size))
taken_all {sh} {os = o ∷ os} g t =
    omega
    (arith, taken_homes g, taken_run os (homes sh) (λ q x y. t (suc q) (record { first = omega arith; last = y })))

-- where fewer places are occupied than there are homes, there is a place to fill
pub room_place :
    {sh : Shape} {os : List Bool} (h : ℕ) → Guarded sh os → taken os < homes sh →
    (p : ℕ) × (room_for sh os h ≡ place p)
room_place {sh} {os} h g l = go (room_for sh os h) refl
  where
    go : (r : Room) → room_for sh os h ≡ r → (p : ℕ) × (room_for sh os h ≡ place p)
    go (place p) e = (p, e)
    go full e = absurd (omega (arith, taken_all g (room_full h g e)))
