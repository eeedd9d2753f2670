-- `check_table` meets its contract: the guards and the two passes tell whether the table is sound.
-- Assumes nothing.
use Rattle.rules.specs.Bytes.{words_of}
use Rattle.table_words.specs.Range.{remainders_high}
use Rattle.table_words.specs.Layout.{words_length}
use Rattle.table_list.specs.Check.{order_of, gaps_of, check_of}
use Rattle.table_list.specs.Sound.{sound_checked}
use Rattle.table_list.proofs.check.check_table.Goals as goal

pub returns : goal.returns
unfolding order_of gaps_of check_of
returns c =
    let bs = c.args.t.bytes.now in
    rw (
      c.check_order-order.ensures,
      c.check_gaps-gaps.ensures,
      c.guards_void.ensures,
      sound_checked c.args.t.sh.shape (words_of bs)
          (remainders_high c.args.t.sh.shape c.args.t.sh.in_range)
          (words_length bs _ c.args.t.size),
    )
