-- How many of a list pass a test, `count`: no more than there are, `count_le`; over lists joined, `count_append`.
-- Assumes nothing.
use Rattle.std.specs.Prelude.{◌+◌, ◌≤◌, ◌≡◌, Bool, List, [], ◌∷◌, ◌++◌, length}
use Rattle.std.proofs.Common.{arith}
use Rattle.rules.specs.Lists.{count}
use Rattle.table_words.specs.Number.{bit_small}

module _ {A : Type 0} (f : A → Bool) where
  pub count_le : (xs : List A) → count f xs ≤ length xs
  unfolding count
  count_le [] = omega arith
  count_le (x ∷ xs) = omega (arith, count_le xs, bit_small (f x))

  pub count_append : (xs ys : List A) → count f (xs ++ ys) ≡ count f xs + count f ys
  unfolding count
  count_append [] ys = omega arith
  count_append (x ∷ xs) ys = omega (arith, count_append xs ys)
