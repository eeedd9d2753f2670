-- When a record fits (01, Tasks and their steps). `fits_left` to `at_end`: what is asked of a busy one, by the phase.
-- `Fits`: what then holds of it; `fitting`: its test tells it.
-- Assumes nothing.
use Rattle.std.specs.Prelude.{suc, ◌≤◌, ◌<◌, ◌≡◌, Bool, true, false, not, ◌&&◌, ◌||◌, ltb, leb, eqb}
use Rattle.std.proofs.Common.{sym, true≢false, arith}
use Rattle.std.proofs.Math.Bool.{and-eq-true_iff}
use borrow.Author.Tests.{le-leb, lt-leb, ne_eqb, eq-eqb, ltb-true, leb-true, eqb-false, not-true}
use Rattle.rules.specs.declared.Shape.{Shape}
use Rattle.rules.specs.declared.Task.{Task}
use Rattle.rules.specs.Shape.{homes, keys, right_guard}
use Rattle.rules.specs.Record.{home_place_of, within, implies, busy, at_rest, fits_hand, fits_busy, fits}
use Rattle.table_words.specs.Tests.{Between, inside, between}
use Rattle.theory.specs.Record.{fits_works}

-- what a busy record is asked, each with all before it: key and left, from phase 2; right, from phase 3; hand, goal and
-- mark, in 8 to 10
abbrev pub fits_left : Shape → Task → Bool
fits_left sh t = ltb t.key (keys sh) && ltb t.left (home_place_of sh t)

abbrev pub fits_right : Shape → Task → Bool
fits_right sh t = fits_left sh t && within (suc (home_place_of sh t)) (right_guard sh) t.right

abbrev pub fits_work : Shape → Task → Bool
fits_work sh t = fits_right sh t && fits_hand sh t

-- in 8 hand is left or right
abbrev pub at_end : Task → Bool
at_end t = eqb t.hand t.left || eqb t.hand t.right

-- no record with a phase above 13 fits
pub fits_beyond : (sh : Shape) (t : Task) → 13 < t.phase → fits sh t ≡ false
unfolding fits at_rest busy
fits_beyond sh t h = grind (arith, le-leb, lt-leb, ne_eqb)

-- hand and goal from 1 to 2^m; goal at least 2 for mark 1
pub record FitsHand (sh : Shape) (t : Task) : Type 0 where
  pub hand_low : 1 ≤ t.hand
  pub hand_high : t.hand ≤ homes sh
  pub goal_low : 1 ≤ t.goal
  pub goal_high : t.goal ≤ homes sh
  pub mark_one : t.mark ≡ 1 → 2 ≤ t.goal

-- the key is in range; from phase 2 on left is below the home place; from phase 3 on right is above it
pub record Fits (sh : Shape) (t : Task) : Type 0 where
  pub key : t.key < keys sh
  pub left : 2 ≤ t.phase → t.left < home_place_of sh t
  pub right_low : 3 ≤ t.phase → home_place_of sh t < t.right
  pub right_high : 3 ≤ t.phase → t.right ≤ right_guard sh
  pub hand : 8 ≤ t.phase → t.phase ≤ 10 → FitsHand sh t
  pub apart : t.phase ≡ 9 → t.hand ≡ t.goal → ⊥

-- both of two tests that hold together
both : (a b : Bool) → (a && b) ≡ true → (a ≡ true) × (b ≡ true)
both a b = (and-eq-true_iff a b).0

-- what a condition asks is so where the condition is
asked : (a b : Bool) → implies a b ≡ true → a ≡ true → b ≡ true
asked true b e h = e
asked false b e h = absurd (true≢false (sym h))

fitting_hand : (sh : Shape) (t : Task) → fits_hand sh t ≡ true → FitsHand sh t
unfolding fits_hand
fitting_hand sh t e =
    let (e, mark_one) = both _ (implies (eqb t.mark 1) (leb 2 t.goal && ltb t.left t.goal)) e in
    let (e, mark) = both _ (leb t.mark 2) e in
    let (e, goal-between) = both _ (within t.left t.right t.goal) e in
    let (e, hand-between) = both _ (within t.left t.right t.hand) e in
    let (hand, goal) = both (within 1 (homes sh) t.hand) (within 1 (homes sh) t.goal) e in
    let hand_in = between 1 (homes sh) t.hand hand in
    let goal_in = between 1 (homes sh) t.goal goal in
    record {
      hand_low = hand_in.least;
      hand_high = hand_in.most;
      goal_low = goal_in.least;
      goal_high = goal_in.most;
      mark_one = λ one.
          leb-true 2 t.goal
          (both (leb 2 t.goal) (ltb t.left t.goal)
          (asked (eqb t.mark 1) _ mark_one (eq-eqb t.mark 1 one))).0;
    }

fitting_busy : (sh : Shape) (t : Task) → fits_busy sh t ≡ true → Fits sh t
unfolding fits_busy
fitting_busy sh t e =
    let (e, ten) = both _ (implies (eqb t.phase 10) (eqb t.hand t.goal)) e in
    let (e, nine) = both _ (implies (eqb t.phase 9) (not (eqb t.hand t.goal))) e in
    let (e, eight) = both _ (implies (eqb t.phase 8) (eqb t.hand t.left || eqb t.hand t.right)) e in
    let (e, hand) = both _ (implies (within 8 10 t.phase) (fits_hand sh t)) e in
    let (e, right) =
    both _ (implies (leb 3 t.phase) (within (suc (home_place_of sh t)) (right_guard sh) t.right)) e in
    let (key, left) = both (ltb t.key (keys sh)) (implies (leb 2 t.phase) (ltb t.left (home_place_of sh t))) e in
    let right_in : 3 ≤ t.phase → Between (suc (home_place_of sh t)) (right_guard sh) t.right =
    λ h. between _ _ t.right (asked (leb 3 t.phase) _ right (le-leb 3 t.phase h)) in
    record {
      key = ltb-true t.key (keys sh) key;
      left = λ h. ltb-true t.left (home_place_of sh t) (asked (leb 2 t.phase) _ left (le-leb 2 t.phase h));
      right_low = λ h. (right_in h).least;
      right_high = λ h. (right_in h).most;
      hand = λ low high. fitting_hand sh t (asked (within 8 10 t.phase) _ hand (inside 8 10 t.phase low high));
      apart = λ h.
          eqb-false t.hand t.goal (not-true _ (asked (eqb t.phase 9) _ nine (eq-eqb t.phase 9 h)));
    }

-- a record that fits and is not at rest is busy, and all of this holds of it
pub fitting : (sh : Shape) (t : Task) → fits sh t ≡ true → at_rest t ≡ false → Fits sh t
fitting sh t e rest = fitting_busy sh t (fits_works t sh e rest).1
