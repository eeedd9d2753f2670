-- `mark` meets its contract: goal and home lie in the table.
-- Assumes nothing.
use Rattle.std.proofs.Common.{arith}
use Rattle.rules.specs.Record.{home_place_of}
use Rattle.task_fits.specs.Ready.{home_inside, goal_inside}
use Rattle.task_phases.proofs.Busy.mark.Goals as goal

pub mark-requires-clause-fact_1 : goal.mark-requires-clause-fact_1
mark-requires-clause-fact_1 c = goal_inside c.requires (omega arith) (omega arith)

pub mark-requires-clause-fact_2 : goal.mark-requires-clause-fact_2
unfolding home_place_of
mark-requires-clause-fact_2 c = rw c.home_place.ensures (home_inside c.requires)
