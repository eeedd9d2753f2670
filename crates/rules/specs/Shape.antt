-- The shape and the numbers that follow from it (01, Shape and layout). Places run from 0 to 2^m + 1, both ends guards.
-- Assumes nothing.
use Rattle.std.specs.Prelude.{ℕ, ◌+◌, ◌*◌, ◌^◌, Bool, ◌&&◌, leb, eqb}
use Rattle.rules.specs.declared.Shape.{Shape}

-- the shape that a call's bare numbers say
abbrev pub shape_of : ℕ → ℕ → Shape
shape_of m r = record { m = m; r = r }

-- home bits 1 to 20, remainder bits 1 to 12
unfoldable pub in_range : Shape → Bool
in_range sh = leb 1 sh.m && leb sh.m 20 && (leb 1 sh.r && leb sh.r 12)

-- how many homes there are, and remainders, and keys
unfoldable pub homes : Shape → ℕ
homes sh = 2 ^ sh.m

unfoldable pub remainders : Shape → ℕ
remainders sh = 2 ^ sh.r

unfoldable pub keys : Shape → ℕ
keys sh = 2 ^ (sh.m + sh.r)

-- how many places; the left guard is place 0
unfoldable pub places : Shape → ℕ
places sh = homes sh + 2

unfoldable pub right_guard : Shape → ℕ
right_guard sh = homes sh + 1

-- the length in bytes of a lent table is two for each place
unfoldable pub fits_length : Shape → ℕ → Bool
fits_length sh n = eqb n (2 * places sh)

-- both, as refusal 1 asks of every call that is lent a table
unfoldable pub good_table : Shape → ℕ → Bool
good_table sh n = in_range sh && fits_length sh n
