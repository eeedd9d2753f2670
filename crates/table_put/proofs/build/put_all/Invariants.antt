use Rattle.std.proofs.Common.{◌≡◌, map, length, drop}
use Rattle.rules.specs.Bytes.{words_of}
use Rattle.rules.specs.Entry.{split}
use Rattle.table_put.specs.Filling.{filled, fill_all, Clean}
use Rattle.table_put.proofs.build.put_all.Given as goal

abbrev pub invariant-loop-key : goal.invariant-loop-key
invariant-loop-key l = (length l.table ≡ length l.initial.table)
    × (fill_all l.sh.shape (filled (words_of l.table)) (map (split l.sh.shape) (drop l.key-index l.keys))
    ≡ fill_all l.sh.shape (filled (words_of l.initial.table)) (map (split l.sh.shape) l.keys))
    × Clean l.sh.shape (words_of l.table)
