-- `round` meets its contract. The invariant is `Turning`.
-- Assumes nothing.
use Rattle.std.proofs.Common.{rules}
use Rattle.frame_rounds.specs.Desk.{turning_on}
use Rattle.frame_rounds.proofs.round.round.Goals as goal

pub loop-i-preserved : goal.loop-i-preserved
loop-i-preserved c = search (rules, turning_on)
