-- A key split into home and remainder, joined again, and the one order of keys (01, Shape and layout).
-- Everything that splits, joins or compares keys does it by these definitions.
-- Assumes nothing.
use Rattle.std.specs.Prelude.{ℕ, ◌+◌, ◌-◌, ◌*◌, ◌/◌, ◌%◌, Bool, ◌&&◌, ◌||◌, ltb, eqb}
use Rattle.rules.specs.declared.Shape.{Shape}
use Rattle.rules.specs.Shape.{remainders}

-- home h stands at place h + 1: the one conversion, and its way back
unfoldable pub place_of_home : ℕ → ℕ
place_of_home h = h + 1

unfoldable pub home_of_place : ℕ → ℕ
home_of_place p = p - 1

-- a key as the table holds it: the place of its home, and its remainder
pub record Entry : Type 0 where
  pub home_place : ℕ
  pub remainder : ℕ

unfoldable pub home_of : Shape → ℕ → ℕ
home_of sh key = key / remainders sh

unfoldable pub remainder_of : Shape → ℕ → ℕ
remainder_of sh key = key % remainders sh

unfoldable pub split : Shape → ℕ → Entry
split sh key = record { home_place = place_of_home (home_of sh key); remainder = remainder_of sh key }

unfoldable pub join : Shape → Entry → ℕ
join sh e = home_of_place e.home_place * remainders sh + e.remainder

-- by home, then by remainder
unfoldable pub same_home : Entry → Entry → Bool
same_home e f = eqb e.home_place f.home_place

unfoldable pub same_entry : Entry → Entry → Bool
same_entry e f = same_home e f && eqb e.remainder f.remainder

unfoldable pub precedes : Entry → Entry → Bool
precedes e f = ltb e.home_place f.home_place || (same_home e f && ltb e.remainder f.remainder)
