-- `look_right` meets its contract: right lies in the table.
-- Assumes nothing.
use Rattle.std.proofs.Common.{arith}
use Rattle.task_fits.specs.Ready.{right_inside, right_small}
use Rattle.task_phases.proofs.Busy.look_right.Goals as goal

pub word_at-requires : goal.word_at-requires
word_at-requires c = right_inside c.requires (omega arith)

pub right_of-requires : goal.right_of-requires
right_of-requires c = right_small c.requires (omega arith)
