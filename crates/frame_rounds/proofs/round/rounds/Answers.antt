-- `rounds` meets its contract. The invariant is `Playing`.
-- Assumes nothing.
use Rattle.std.proofs.Common.{rules}
use Rattle.frame_rounds.specs.Desk.{playing_on}
use Rattle.frame_rounds.proofs.round.rounds.Goals as goal

pub loop-gone-preserved : goal.loop-gone-preserved
loop-gone-preserved c = search (rules, playing_on)
