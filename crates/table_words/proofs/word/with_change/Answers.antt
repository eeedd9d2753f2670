-- `with_change` meets its contract by the law of the changed field.
-- Assumes nothing.
use Rattle.std.proofs.Common.{arith}
use Rattle.table_words.specs.Change.{with_change_lem}
use Rattle.table_words.proofs.word.with_change.Goals as goal

pub returns : goal.returns
returns c = let w = c.args.w in with_change_lem w c.ranges.w.fits c.args.b _ (omega arith)
