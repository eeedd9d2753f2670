-- `put_open` meets its contract: an empty home gets the key's one word.
-- Assumes nothing.
use Rattle.table_words.specs.Layout.{words_length}
use Rattle.table_find.specs.Around.{home_bit}
use Rattle.table_put.specs.Putting.{put_alone}
use Rattle.table_put.proofs.adding.put_open.Goals as goal

pub returns-else-occupied : goal.returns-else-occupied
returns-else-occupied c =
    let empty = home_bit c.word_at.ensures c.occupied.ensures c.if-occupied.false in
    rw (
      put_alone c.args.k _ (words_length _ _ c.requires.size) c.requires.open empty,
      c.put_alone.ensures,
    )
