-- `free_left` meets its contract: left lies in the table.
-- Assumes nothing.
use Rattle.std.proofs.Common.{arith}
use Rattle.task_fits.specs.Ready.{left_inside}
use Rattle.task_phases.proofs.Busy.free_left.Goals as goal

pub set_lock-requires : goal.set_lock-requires
set_lock-requires c = left_inside c.requires (omega arith)
