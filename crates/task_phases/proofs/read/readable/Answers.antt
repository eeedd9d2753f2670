-- `readable` meets its contract: left and right lie in the table.
-- Assumes nothing.
use Rattle.std.proofs.Common.{arith}
use Rattle.task_fits.specs.Ready.{left_inside, right_inside, right_within}
use Rattle.task_phases.proofs.read.readable.Goals as goal

pub word_at-requires : goal.word_at-requires
word_at-requires c = left_inside c.requires (omega arith)

pub word_at-requires-then-is_lock : goal.word_at-requires-then-is_lock
word_at-requires-then-is_lock c = right_inside c.requires (omega arith)

pub all_occupied-requires-clause-inside : goal.all_occupied-requires-clause-inside
all_occupied-requires-clause-inside c = right_within c.requires (omega arith)

pub sound_run-requires-clause-inside : goal.sound_run-requires-clause-inside
sound_run-requires-clause-inside c = right_within c.requires (omega arith)
