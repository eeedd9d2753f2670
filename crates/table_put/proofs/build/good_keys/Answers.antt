-- `good_keys` meets its contract: the keys are laid over one another.
-- Assumes nothing.
use Rattle.std.proofs.Common.{◌∙◌, ◌≡◌, rules}
use Rattle.std.specs.Int.Bits.{bit_or}
use Rattle.std.specs.List.{fold}
use Rattle.std.proofs.iter.runs.Made.{chains}
use Rattle.table_put.specs.Building.{goods_laid}
use Rattle.table_put.proofs.build.good_keys.Goals as goal

pub returns : goal.returns
returns c =
    let laid : c.fold-over.result ≡ fold bit_or 0 c.args.keys.now = search (rules, chains) in
    rw laid at c.has_key.ensures ∙ goods_laid c.args.sh.shape c.args.keys.now
