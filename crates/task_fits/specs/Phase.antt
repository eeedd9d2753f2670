-- The number of a phase (01, Tasks and their steps), and of which phase a number is.
-- Assumes nothing.
use Rattle.std.specs.Prelude.{ℕ, ◌<◌, ◌≡◌, Result, MatchResult}
use Rattle.task_fits.specs.declared.phase.Phase.{Phase}
use Rattle.task_fits.specs.declared.phase.Phase.TheVariants.{Idle, Home, LookLeft, LookRight, LockLeft, LockRight}
use Rattle.task_fits.specs.declared.phase.Phase.TheVariants.{BackOff, Read, FillHand, Move, Mark, FreeLeft, FreeRight}
use Rattle.task_fits.specs.declared.phase.Phase.TheVariants.{Done}
use Rattle.task_fits.specs.declared.phase.UnknownPhase.{UnknownPhase}

abbrev pub number_of : Phase → ℕ
number_of Idle = 0
number_of Home = 1
number_of LookLeft = 2
number_of LookRight = 3
number_of LockLeft = 4
number_of LockRight = 5
number_of BackOff = 6
number_of Read = 7
number_of FillHand = 8
number_of Move = 9
number_of Mark = 10
number_of FreeLeft = 11
number_of FreeRight = 12
number_of Done = 13

-- the phase with this number, or no phase has it
abbrev pub Numbered : ℕ → Result Phase UnknownPhase → Type 0
Numbered n r = MatchResult r (λ phase. number_of phase ≡ n) (λ e. (e.0 ≡ n) × (13 < n))
