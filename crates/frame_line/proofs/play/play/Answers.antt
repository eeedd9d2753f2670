-- `play` meets its contract: the answers are cleared, the desk is idle, and the rounds do the rest.
-- Assumes nothing.
use Rattle.std.proofs.Common.{rules}
use Rattle.frame_line.specs.Play.{play_is}
use Rattle.frame_line.proofs.play.play.Goals as goal

pub returns : goal.returns
returns c = search (rules, play_is)
