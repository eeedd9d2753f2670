-- Tests and counts over a list, for the definitions beside this file: `bit_of`, `count`, `all`, `any`; and what is
-- written to the front of lent slots, `at_front`.
-- Assumes nothing.
use Rattle.std.specs.Prelude.{ℕ, ◌+◌, Bool, true, false, ◌&&◌, ◌||◌, List, [], ◌∷◌, ◌++◌, length, drop}

-- a bit as a number
abbrev pub bit_of : Bool → ℕ
bit_of true = 1
bit_of false = 0

module _ {A : Type 0} where
  -- how many of a list pass a test
  unfoldable pub count : (A → Bool) → List A → ℕ
  count f [] = 0
  count f (x ∷ xs) = bit_of (f x) + count f xs

  -- whether all of a list pass a test
  unfoldable pub all : (A → Bool) → List A → Bool
  all f [] = true
  all f (x ∷ xs) = f x && all f xs

  -- whether any of a list passes a test
  unfoldable pub any : (A → Bool) → List A → Bool
  any f [] = false
  any f (x ∷ xs) = f x || any f xs

-- numbers at the front of lent slots; the slots behind them stay as they were
unfoldable pub at_front : List ℕ → List ℕ → List ℕ
at_front ks slots = ks ++ drop (length ks) slots
