-- `with_remainder` meets its contract by the law of the changed fields.
-- Assumes nothing.
use Rattle.std.proofs.Common.{arith}
use Rattle.table_words.specs.Change.{filled_with_lem}
use Rattle.table_words.proofs.word.filled_with.Goals as goal

pub returns : goal.returns
returns c = filled_with_lem c.args.w c.ranges.w.fits c.args.x _ c.requires (omega arith)
