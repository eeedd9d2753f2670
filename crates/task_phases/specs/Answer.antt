-- The number of a task's answer (01, Tasks and their steps).
-- Assumes nothing.
use Rattle.std.specs.Prelude.{ℕ}
use Rattle.task_phases.specs.declared.answer.Answer.{Answer}
use Rattle.task_phases.specs.declared.answer.Answer.TheVariants.{Found, Inserted, Full, Unsound}

abbrev pub number_of : Answer → ℕ
number_of Found = 1
number_of Inserted = 2
number_of Full = 3
number_of Unsound = 4
