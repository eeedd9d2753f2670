-- What has been asked before a phase acts (01, Tasks and their steps), and what follows for the places that the record
-- names: each stands in the table, and an occupied one is no guard.
-- Assumes nothing.
use Rattle.std.specs.Prelude.{ℕ, suc, ◌+◌, ◌*◌, ◌≤◌, ◌<◌, ◌≡◌, true, false, List, length}
use Rattle.std.proofs.Common.{ap, ◌∙◌, arith}
use Rattle.rules.specs.declared.Shape.{Shape}
use Rattle.rules.specs.declared.Task.{Task}
use Rattle.rules.specs.Bytes.{words_of}
use Rattle.rules.specs.Shape.{homes, places, right_guard}
use Rattle.rules.specs.Entry.{remainder_of}
use Rattle.rules.specs.Table.{at, guards_void}
use Rattle.rules.specs.Record.{home_place_of}
use Rattle.table_words.specs.Range.{InRange, homes_high, remainders_high}
use Rattle.table_words.specs.Split.{split_in_shape, remainder_below}
use Rattle.theory.specs.Places.{left_free}
use Rattle.theory.specs.Motion.{toward, toward_lt}
use Rattle.table_cluster.specs.Ends.{some_before}
use Rattle.task_fits.specs.declared.phase.Phase.{Phase}
use Rattle.task_fits.specs.declared.phase.Phase.TheVariants.{Move}
use Rattle.task_fits.specs.Fit.{Fits, FitsHand}
use Rattle.task_fits.specs.Phase.{number_of}

-- a shape in range, a table of its length, void guards, and a record in a phase that fits
pub record Ready (p : Phase) (sh : Shape) (bytes : List ℕ) (t : Task) : Type 0 where
  pub range : InRange sh
  pub size : length bytes ≡ 2 * places sh
  pub guards : guards_void sh (words_of bytes) ≡ true
  pub phase : t.phase ≡ number_of p
  pub fits : Fits sh t

module _ {p : Phase} {sh : Shape} {bytes : List ℕ} {t : Task} (ready : Ready p sh bytes t) where
  -- the home lies between the guards
  pub home_low : 1 ≤ home_place_of sh t
  unfolding home_place_of
  home_low = (split_in_shape sh t.key ready.fits.key).home_low

  pub home_high : home_place_of sh t ≤ homes sh
  unfolding home_place_of
  home_high = (split_in_shape sh t.key ready.fits.key).home_high

  -- so it has a neighbour
  pub home_small : home_place_of sh t < 4294967295
  home_small = omega (arith, home_high, homes_high sh ready.range)

  -- and its key's remainder fits a word
  pub remainder_small : remainder_of sh t.key < 4096
  remainder_small = omega (arith, remainder_below sh t.key, remainders_high sh ready.range)

  inside : {q : ℕ} → q ≤ right_guard sh → 2 * q + 1 < length bytes
  unfolding right_guard places
  inside below = omega arith

  pub home_inside : 2 * home_place_of sh t + 1 < length bytes
  unfolding right_guard
  home_inside = inside (omega (arith, home_high))

  pub left_inside : 2 ≤ number_of p → 2 * t.left + 1 < length bytes
  unfolding right_guard
  left_inside h = let below = ready.fits.left (omega arith) in inside (omega (arith, home_high))

  pub right_inside : 3 ≤ number_of p → 2 * t.right + 1 < length bytes
  right_inside h = inside (ready.fits.right_high (omega arith))

  pub right_small : 3 ≤ number_of p → t.right < 4294967295
  unfolding right_guard
  right_small h = let high = ready.fits.right_high (omega arith) in omega (arith, homes_high sh ready.range)

  -- the home lies between left and right
  pub ends_apart : 3 ≤ number_of p → t.left < t.right
  ends_apart h =
      let left = ready.fits.left (omega arith) in
      let right = ready.fits.right_low (omega arith) in
      omega arith

  pub right_within : 3 ≤ number_of p → 2 * t.right ≤ length bytes
  right_within h = omega (arith, right_inside h)

  -- in phases 8 to 10 hand and goal lie between the guards, and so does the neighbour of hand
  pub hand_bounds : 8 ≤ number_of p → number_of p ≤ 10 → FitsHand sh t
  hand_bounds low high = ready.fits.hand (omega arith) (omega arith)

  pub hand_inside : 8 ≤ number_of p → number_of p ≤ 10 → 2 * t.hand + 1 < length bytes
  unfolding right_guard
  hand_inside low high = inside (omega (arith, hand_bounds low high))

  pub goal_inside : 8 ≤ number_of p → number_of p ≤ 10 → 2 * t.goal + 1 < length bytes
  unfolding right_guard
  goal_inside low high = inside (omega (arith, hand_bounds low high))

  pub hand_apart : p ≡ Move → t.hand ≡ t.goal → ⊥
  hand_apart e = ready.fits.apart (ready.phase ∙ ap number_of e)

  pub neighbour_inside : p ≡ Move → 2 * toward t.hand t.goal + 1 < length bytes
  unfolding right_guard
  neighbour_inside e =
      let is : number_of p ≡ 9 = ap number_of e in
      let bounds = hand_bounds (omega arith) (omega arith) in
      let below = toward_lt t.hand t.goal (suc (homes sh)) (hand_apart e) (omega arith) (omega arith) in
      inside (omega arith)

  -- the left guard is unoccupied, so an occupied place is another
  pub guard_free : (at (words_of bytes) 0).occupied ≡ false
  guard_free = left_free sh (words_of bytes) ready.guards

  pub occupied_positive : (q : ℕ) → (at (words_of bytes) q).occupied ≡ true → 1 ≤ q
  occupied_positive q full = some_before (words_of bytes) q guard_free full
