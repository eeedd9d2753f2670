-- A key and its entry determine each other: `join_split`, and `split_join` for an entry in the shape.
-- `split_in_shape`, `join_below`: a key in range has such an entry, and such an entry a key in range.
-- Assumes nothing.
use Rattle.std.specs.Prelude.{ℕ, ◌+◌, ◌-◌, ◌≤◌, ◌<◌, ◌≡◌}
use Rattle.std.proofs.Common.{arith, div-add-mod', div-lt_iff_lt-mul}
use Rattle.std.proofs.Math.Nat.{mod-lt, add-sub_cancel}
use Rattle.std.proofs.Math.Arith.{digits_div, digits_mod, digits_lt}
use Rattle.rules.specs.declared.Shape.{Shape}
use Rattle.rules.specs.Shape.{homes, remainders, keys}
use Rattle.rules.specs.Entry.{Entry, place_of_home, home_of_place, home_of, remainder_of, split, join}
use Rattle.table_words.specs.Range.{InRange, some_remainders, homes_high, remainders_high, keys_are, keys_high}

module _ (sh : Shape) (key : ℕ) where
  pub remainder_below : remainder_of sh key < remainders sh
  unfolding remainder_of
  remainder_below = mod-lt key (some_remainders sh)

  pub home_below : key < keys sh → home_of sh key < homes sh
  unfolding home_of
  home_below h = (div-lt_iff_lt-mul (some_remainders sh)).1 (rw keys_are at h)

  pub join_split : join sh (split sh key) ≡ key
  unfolding join split home_of_place place_of_home home_of remainder_of
  join_split = rw add-sub_cancel (div-add-mod' key (remainders sh))

-- an entry that a table of the shape can hold: its home's place lies between the guards
pub record InShape (sh : Shape) (e : Entry) : Type 0 where
  pub home_low : 1 ≤ e.home_place
  pub home_high : e.home_place ≤ homes sh
  pub remainder_low : e.remainder < remainders sh

pub split_in_shape : (sh : Shape) (key : ℕ) → key < keys sh → InShape sh (split sh key)
unfolding split place_of_home
split_in_shape sh key h =
    let below = home_below sh key h in
    record { home_low = omega arith; home_high = omega arith; remainder_low = remainder_below sh key }

module _ (sh : Shape) (e : Entry) (i : InShape sh e) where
  pub split_join : split sh (join sh e) ≡ e
  unfolding join split home_of_place place_of_home home_of remainder_of
  split_join =
      let back : e.home_place - 1 + 1 ≡ e.home_place = omega arith in
      rw (digits_div (e.home_place - 1) i.remainder_low, digits_mod (e.home_place - 1) i.remainder_low, back)

  pub join_below : join sh e < keys sh
  unfolding join home_of_place
  join_below =
      let home_number : e.home_place - 1 < homes sh = omega arith in
      rw keys_are (digits_lt home_number i.remainder_low)

-- so a key that is joined fits 32 bits
pub join_fits : (sh : Shape) (e : Entry) → InRange sh → InShape sh e → join sh e < 4294967296
join_fits sh e range i = omega (arith, join_below sh e i, keys_high sh range)

-- and so does the place of a key's home; its remainder fits 16 bits
pub home_fits : (sh : Shape) (key : ℕ) → InRange sh → key < keys sh → home_of sh key < 4294967295
home_fits sh key range h = omega (arith, home_below sh key h, homes_high sh range)

pub remainder_fits : (sh : Shape) (key : ℕ) → InRange sh → remainder_of sh key < 65536
remainder_fits sh key range = omega (arith, remainder_below sh key, remainders_high sh range)

-- what `remainder_of` goes by
pub ruleset remainder_laws = (remainder_fits, some_remainders)
