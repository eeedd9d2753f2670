-- A shape in range (01, Shape and layout): what its test tells, `in_range_lem`, `range_in`, `good_table_lem`;
-- and the bounds of the numbers of homes, remainders and keys.
-- Assumes nothing.
use Rattle.std.specs.Prelude.{ℕ, ◌+◌, ◌*◌, ◌≤◌, ◌<◌, ◌≡◌, true, ◌&&◌, leb, eqb}
use Rattle.std.proofs.Math.Bool.{and-eq-true_iff}
use Rattle.std.proofs.Common.{arith, leb-true, le-leb, eqb-true}
use Rattle.std.proofs.Math.Pow.{pow_pos, pow_mono, pow-add}
use Rattle.rules.specs.declared.Shape.{Shape}
use Rattle.rules.specs.Shape.{in_range, homes, remainders, keys, places, fits_length, good_table}

-- home bits 1 to 20, remainder bits 1 to 12
pub record InRange (sh : Shape) : Type 0 where
  pub m_low : 1 ≤ sh.m
  pub m_high : sh.m ≤ 20
  pub r_low : 1 ≤ sh.r
  pub r_high : sh.r ≤ 12

pub in_range_lem : (sh : Shape) → in_range sh ≡ true → InRange sh
unfolding in_range
in_range_lem sh e =
    let tests = (and-eq-true_iff (leb 1 sh.m && leb sh.m 20) (leb 1 sh.r && leb sh.r 12)).0 e in
    let (m_low, m_high) = (and-eq-true_iff (leb 1 sh.m) (leb sh.m 20)).0 tests.0 in
    let (r_low, r_high) = (and-eq-true_iff (leb 1 sh.r) (leb sh.r 12)).0 tests.1 in
    record {
      m_low = leb-true 1 sh.m m_low;
      m_high = leb-true sh.m 20 m_high;
      r_low = leb-true 1 sh.r r_low;
      r_high = leb-true sh.r 12 r_high;
    }

pub range_in : (sh : Shape) → InRange sh → in_range sh ≡ true
unfolding in_range
range_in sh s =
    rw (le-leb 1 sh.m s.m_low, le-leb sh.m 20 s.m_high)
    (rw (le-leb 1 sh.r s.r_low, le-leb sh.r 12 s.r_high))

-- a table that is good has a shape in range, and two bytes for each place
pub good_table_lem : (sh : Shape) (n : ℕ) → good_table sh n ≡ true → InRange sh × (n ≡ 2 * places sh)
unfolding good_table fits_length
good_table_lem sh n e =
    let (range, size) = (and-eq-true_iff (in_range sh) (eqb n (2 * places sh))).0 e in
    (in_range_lem sh range, eqb-true n (2 * places sh) size)

module _ (sh : Shape) where
  pub some_remainders : 0 < remainders sh
  unfolding remainders
  some_remainders = pow_pos sh.r

  pub keys_are : keys sh ≡ homes sh * remainders sh
  unfolding keys homes remainders
  keys_are = pow-add 2 sh.m sh.r

module _ (sh : Shape) (s : InRange sh) where
  pub homes_high : homes sh ≤ 1048576
  unfolding homes
  homes_high = pow_mono {i = sh.m} {j = 20} s.m_high

  pub remainders_high : remainders sh ≤ 4096
  unfolding remainders
  remainders_high = pow_mono {i = sh.r} {j = 12} s.r_high

  pub keys_high : keys sh ≤ 4294967296
  unfolding keys
  keys_high = pow_mono {i = sh.m + sh.r} {j = 32} (omega arith)
