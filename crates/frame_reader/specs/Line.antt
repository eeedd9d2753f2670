-- Laws of a line's length. `line_position`, `line_found`: as the library has it. The end itself: it is inside the bytes
-- (`line_inside`, `end_below`), a line feed follows or not (`end_met`), and the line stands before it (`line_is`).
-- Assumes nothing.
use Rattle.std.specs.List.{position_or_len}
use Rattle.std.specs.Prelude.{Option, Some, None, unwrap_or, ℕ, suc, ◌+◌, ◌-◌, ◌≤◌, ◌<◌, ◌≡◌, refl, Bool, true, false, cond, List, [], ◌∷◌, length, take, drop, eqb, ltb}
use Rattle.std.proofs.Common.{sym, ap, ap₂, ◌∙◌, drop_of_length-le, arith, length-drop}
use borrow.Author.Tests.{lt-ltb, le-ltb, ltb-true, ltb-false}
use Rattle.std.proofs.Math.Seq.{take_all}
use Rattle.std.proofs.lemmas.Bool.Decides.{nat_tests}
use Rattle.std.proofs.lemmas.List.Recursion.{is_position_or_len}
use Rattle.frame_rules.specs.Feed.{line_length}

-- ---- as the library has it
-- the place of the first line feed, or the end
pub line_position : (xs : List ℕ) → line_length xs ≡ position_or_len (λ b. eqb b 10) xs
unfolding line_length
line_position xs = is_position_or_len line_length (λ b. eqb b 10) refl more xs
  where
    more : (b : ℕ) (bs : List ℕ) → line_length (b ∷ bs) ≡ cond (eqb b 10) 0 (1 + line_length bs)
    more b bs = ap (cond (eqb b 10) 0) (omega arith)

-- none beyond the end
pub line_over : (xs : List ℕ) (i : ℕ) → length xs ≤ i → 0 ≡ line_length (drop i xs)
unfolding line_length
line_over xs i over = rw (drop_of_length-le xs over)

found_or_end : (p l : ℕ) → p ≤ l → unwrap_or (cond (ltb p l) (Some p) None) l ≡ p
found_or_end p l inside = grind (arith, nat_tests)

-- ---- where it ends
pub line_inside : (xs : List ℕ) → line_length xs ≤ length xs
unfolding line_length
line_inside [] = omega arith
line_inside (b ∷ xs) = go (eqb b 10) (line_inside xs)
  where
    go : (t : Bool) → line_length xs ≤ length xs → cond t 0 (suc (line_length xs)) ≤ suc (length xs)
    go true h = omega arith
    go false h = omega arith

-- of the line at a place, with its end as a number that the code has
module _ (xs : List ℕ) (at e : ℕ) (ends : e ≡ at + line_length (drop at xs)) where
  -- beyond the end there is no byte, and the line ends where it begins
  pub end_below : (k : ℕ) → at < k → length xs < k → e < k
  end_below k low short = omega (arith, line_inside (drop at xs), length-drop at xs)

  -- whether a line feed follows
  pub end_met : ltb (line_length (drop at xs)) (length (drop at xs)) ≡ ltb e (length xs)
  end_met = go (ltb (line_length (drop at xs)) (length (drop at xs))) refl
    where
      go : (t : Bool) → ltb (line_length (drop at xs)) (length (drop at xs)) ≡ t → t ≡ ltb e (length xs)
      go true t = sym (lt-ltb e (length xs) (omega (arith, ltb-true _ (length (drop at xs)) t, length-drop at xs)))
      go false t = sym (le-ltb e (length xs) (omega (arith, ltb-false _ (length (drop at xs)) t, length-drop at xs)))

  -- the line's bytes, as the part of the slice up to its end
  pub line_is : take (e - at) (drop at xs) ≡ take (line_length (drop at xs)) (drop at xs)
  line_is = let long : e - at ≡ line_length (drop at xs) = omega arith in rw long

-- ---- the search for it
-- the bytes from a place on, as the code has them
pub rest_is : (xs : List ℕ) (at : ℕ) → take (length xs - at) (drop at xs) ≡ drop at xs
rest_is xs at = take_all (length xs - at) (drop at xs) (omega (arith, length-drop at xs))

pub line_found :
    (xs : List ℕ) (o : Option ℕ) →
    o
    ≡ cond (ltb (position_or_len (λ b. eqb b 10) xs) (length xs)) (Some (position_or_len (λ b. eqb b 10) xs)) None →
    (n : ℕ) → n ≡ length xs → unwrap_or o n ≡ line_length xs
line_found xs o is n long =
    ap₂ (λ (p : Option ℕ) (k : ℕ). unwrap_or p k) is long
    ∙ rw (← line_position xs) (found_or_end (line_length xs) (length xs) (line_inside xs))
