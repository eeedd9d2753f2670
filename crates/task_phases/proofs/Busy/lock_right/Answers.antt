-- `lock_right` meets its contract: right lies in the table.
-- Assumes nothing.
use Rattle.std.proofs.Common.{arith}
use Rattle.task_fits.specs.Ready.{right_inside}
use Rattle.task_phases.proofs.Busy.lock_right.Goals as goal

pub word_at-requires : goal.word_at-requires
word_at-requires c = right_inside c.requires (omega arith)

pub set_lock-requires : goal.set_lock-requires
set_lock-requires c = right_inside c.requires (omega arith)
