-- The place that the rule names for a new key (01, Where a new key goes), from the occupied places and the home's
-- place alone.
-- Assumes nothing.
use Rattle.std.specs.Prelude.{ℕ, Bool, false, cond, List, get_or, eqb}
use Rattle.rules.specs.declared.Shape.{Shape}
use Rattle.rules.specs.Shape.{right_guard}
use Rattle.rules.specs.Table.{left_gap, right_gap}

-- a place to fill, or none
pub data Room : Type 0 where
  place : ℕ → Room
  full : Room

-- the end of a cluster that is filled, by the empty places beside it: the left one; if that is the left guard, the
-- right one; if that is the right guard, neither
pub data ToFill : Type 0 where
  on_left : ToFill
  on_right : ToFill
  on_neither : ToFill

unfoldable pub which_end : Shape → ℕ → ℕ → ToFill
which_end sh left right = cond (eqb left 0) (cond (eqb right (right_guard sh)) on_neither on_right) on_left

-- the place at that end
abbrev pub room_at : ToFill → ℕ → ℕ → Room
room_at on_left left right = place left
room_at on_right left right = place right
room_at on_neither left right = full

-- where the home is occupied: beside its cluster
unfoldable pub room_beside : Shape → List Bool → ℕ → Room
room_beside sh os home_at =
    room_at (which_end sh (left_gap os home_at) (right_gap os home_at)) (left_gap os home_at) (right_gap os home_at)

-- the home's place itself if it is empty
unfoldable pub room_for : Shape → List Bool → ℕ → Room
room_for sh os home_at = cond (get_or os home_at false) (room_beside sh os home_at) (place home_at)
