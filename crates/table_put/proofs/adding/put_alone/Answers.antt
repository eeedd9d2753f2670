-- `put_alone` meets its contract: a remainder of the shape fits a word.
-- Assumes nothing.
use Rattle.table_put.specs.Putting.{remainder_small}
use Rattle.table_put.proofs.adding.put_alone.Goals as goal

pub alone_word-requires : goal.alone_word-requires
alone_word-requires c = remainder_small c.args.k
