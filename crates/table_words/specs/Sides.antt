-- The two sides of a place: the neighbour on a side, `beside`, and what lies that way, `Ahead` and `Toward`.
-- Laws of a walk to a side: `goes_on`, `room_beside`, `still_toward`, `arrived`.
-- Assumes nothing.
use Rattle.std.specs.Prelude.{ℕ, ◌+◌, ◌-◌, ◌≤◌, ◌<◌, ◌≡◌, Bool, true, false, ltb}
use Rattle.std.proofs.Common.{arith, ltb-true, ltb-false}

pub data Side : Type 0 where
  left right : Side

-- going to a side from place a, place b is met later
abbrev pub Ahead : Side → ℕ → ℕ → Type 0
Ahead left a b = b < a
Ahead right a b = a < b

abbrev pub is_ahead : Side → ℕ → ℕ → Bool
is_ahead left a b = ltb b a
is_ahead right a b = ltb a b

-- at once or later
abbrev pub Toward : Side → ℕ → ℕ → Type 0
Toward left a b = b ≤ a
Toward right a b = a ≤ b

-- the neighbour on a side
abbrev pub beside : Side → ℕ → ℕ
beside left p = p - 1
beside right p = p + 1

-- where 32 bits hold it
abbrev pub HasBeside : Side → ℕ → Type 0
HasBeside left p = 0 < p
HasBeside right p = p < 4294967295

pub goes_on : (s : Side) (a b : ℕ) → is_ahead s a b ≡ true → Ahead s a b
goes_on left a b e = ltb-true b a e
goes_on right a b e = ltb-true a b e

pub arrived : (s : Side) (a b : ℕ) → Toward s a b → is_ahead s a b ≡ false → a ≡ b
arrived left a b h e = omega (arith, ltb-false b a e)
arrived right a b h e = omega (arith, ltb-false a b e)

pub room_beside : (s : Side) (a b : ℕ) → Ahead s a b → b < 4294967296 → HasBeside s a
room_beside left a b h small = omega arith
room_beside right a b h small = omega arith

pub still_toward : (s : Side) (a b : ℕ) → Ahead s a b → Toward s (beside s a) b
still_toward left a b h = omega arith
still_toward right a b h = omega arith
