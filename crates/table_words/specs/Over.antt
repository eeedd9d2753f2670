-- Numbers laid over one another, `bit_or`: each is below a power of two exactly where what they make is.
-- Assumes nothing.
use Rattle.std.specs.Prelude.{ℕ, ◌^◌, ◌≤◌, ◌≡◌, refl, Bool, true, false, ◌&&◌, ltb}
use Rattle.std.proofs.Common.{arith, ltb-true, ltb-false, lt-ltb, le-ltb}
use Rattle.std.specs.Int.Bits.{bit_or, or_add_and}
use Rattle.std.proofs.lemmas.Nat.{or_lt, or_comm, and_le_r}

or_above : (a b : ℕ) → b ≤ bit_or a b
or_above a b = omega (arith, or_add_and b a, and_le_r b a, or_comm a b)

pub over_below : (d a b : ℕ) → ltb (bit_or a b) (2 ^ d) ≡ (ltb a (2 ^ d) && ltb b (2 ^ d))
over_below d a b = go (ltb a (2 ^ d)) (ltb b (2 ^ d)) refl refl
  where
    go :
        (s t : Bool) → ltb a (2 ^ d) ≡ s → ltb b (2 ^ d) ≡ t → ltb (bit_or a b) (2 ^ d) ≡ (s && t)
    go true true p q = lt-ltb _ _ (or_lt d a b (ltb-true a _ p) (ltb-true b _ q))
    go true false p q = le-ltb (bit_or a b) (2 ^ d) (omega (arith, ltb-false b (2 ^ d) q, or_above a b))
    go false t p q =
        le-ltb (bit_or a b) (2 ^ d) (omega (arith, ltb-false a (2 ^ d) p, or_above b a, or_comm a b))
