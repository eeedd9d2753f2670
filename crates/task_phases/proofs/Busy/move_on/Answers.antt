-- `move_on` meets its contract: hand lies in the table, and so does its neighbour towards goal.
-- Assumes nothing.
use Rattle.std.proofs.Common.{arith}
use Rattle.std.proofs.Common.{refl}
use Rattle.rules.specs.Phase.{move}
use Rattle.theory.specs.Motion.{neighbour_toward}
use Rattle.task_fits.specs.Ready.{hand_inside, neighbour_inside}
use Rattle.task_phases.proofs.Busy.move_on.Goals as goal

pub word_at-requires : goal.word_at-requires
word_at-requires c = rw c.toward-next.ensures (neighbour_inside c.requires refl)

pub exchange-requires-clause-fact_1 : goal.exchange-requires-clause-fact_1
exchange-requires-clause-fact_1 c = hand_inside c.requires (omega arith) (omega arith)

pub exchange-requires-clause-fact_2 : goal.exchange-requires-clause-fact_2
exchange-requires-clause-fact_2 c = rw c.toward-next.ensures (neighbour_inside c.requires refl)

pub returns-then-occupied : goal.returns-then-occupied
unfolding move
returns-then-occupied c = grind (arith, neighbour_toward)

pub returns : goal.returns
unfolding move
returns c = grind (arith, neighbour_toward)
