-- `bring` meets its contract: a remainder of the shape fits a word.
-- Assumes nothing.
use Rattle.table_put.specs.Putting.{remainder_small}
use Rattle.table_put.proofs.adding.bring.Goals as goal

pub fill_at-requires-clause-fact_2 : goal.fill_at-requires-clause-fact_2
fill_at-requires-clause-fact_2 c = remainder_small c.args.k
