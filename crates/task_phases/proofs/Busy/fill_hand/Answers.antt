-- `fill_hand` meets its contract: hand lies in the table, and the remainder fits a word.
-- Assumes nothing.
use Rattle.std.proofs.Common.{arith}
use Rattle.task_fits.specs.Ready.{hand_inside, remainder_small}
use Rattle.task_phases.proofs.Busy.fill_hand.Goals as goal

pub word_at-requires : goal.word_at-requires
word_at-requires c = hand_inside c.requires (omega arith) (omega arith)

pub fill_at-requires-clause-fact_1 : goal.fill_at-requires-clause-fact_1
fill_at-requires-clause-fact_1 c = hand_inside c.requires (omega arith) (omega arith)

pub fill_at-requires-clause-fact_2 : goal.fill_at-requires-clause-fact_2
fill_at-requires-clause-fact_2 c = rw c.remainder_of.ensures (remainder_small c.requires)
