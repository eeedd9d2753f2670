-- The gaps on the two sides of a place, found from place to place: a step of each search, and the end of a table.
-- An unoccupied place, where they stop, is its own gap: the theory's `own_gap`.
-- Assumes nothing.
use Rattle.std.specs.Prelude.{ℕ, zero, suc, ◌+◌, ◌-◌, ◌/◌, ◌≤◌, ◌<◌, ◌≡◌, refl, Bool, true, false, List, [], ◌∷◌, length, get_or}
use Rattle.std.proofs.Common.{◌∙◌, add-one, add-zero, arith, drop_of_length-le}
use Rattle.std.proofs.Math.Seq.{drop-cons}
use Rattle.rules.specs.Bytes.{words_of}
use Rattle.rules.specs.Table.{occupied_places, left_gap, lead, right_gap}
use Rattle.theory.specs.Gaps as gaps
use Rattle.theory.specs.Gaps.{own_gap}
use Rattle.theory.specs.Places.{occupied_length}

-- the number of a table's words: a last byte without its fellow is none
pub words_count : (bs : List ℕ) → length (words_of bs) ≡ length bs / 2
unfolding words_of
words_count [] = refl
words_count (low ∷ []) = refl
words_count (low ∷ high ∷ bs) = omega (arith, words_count bs)

module _ (os : List Bool) where
  -- to the left
  pub left_step : (i : ℕ) → 0 < i → get_or os i false ≡ true → left_gap os (i - 1) ≡ left_gap os i
  unfolding left_gap
  left_step zero h t = absurd (omega arith)
  left_step (suc i) h t = let back : suc i - 1 ≡ i = omega arith in rw (back, t)

  -- to the right
  pub right_step : (i : ℕ) → i < length os → get_or os i false ≡ true → right_gap os (i + 1) ≡ right_gap os i
  unfolding right_gap lead
  right_step i h t = rw (add-one, drop-cons os i false h, t) (omega arith)

  pub right_end : (i : ℕ) → length os ≤ i → right_gap os i ≡ i
  unfolding right_gap lead
  right_end i h = rw (drop_of_length-le os {i = i} h) (add-zero i)

-- the same in a table's bytes: a taken place is passed, a free one is the gap, and so is any past the words
module _ (bs : List ℕ) (i : ℕ) where
  size : length (occupied_places (words_of bs)) ≡ length bs / 2
  size = occupied_length (words_of bs) ∙ words_count bs

  pub gap_passed :
      i < length bs / 2 → get_or (occupied_places (words_of bs)) i false ≡ true →
      right_gap (occupied_places (words_of bs)) (i + 1) ≡ right_gap (occupied_places (words_of bs)) i
  gap_passed low t = right_step (occupied_places (words_of bs)) i (omega (arith, size)) t

  pub gap_met :
      get_or (occupied_places (words_of bs)) i false ≡ false → right_gap (occupied_places (words_of bs)) i ≡ i
  gap_met f = own_gap gaps.right (occupied_places (words_of bs)) i f

  pub gap_past : length bs / 2 ≤ i → right_gap (occupied_places (words_of bs)) i ≡ i
  gap_past high = right_end (occupied_places (words_of bs)) i (omega (arith, size))

-- what the search to the right goes by
pub ruleset gap_laws = (gap_passed, gap_met, gap_past)
