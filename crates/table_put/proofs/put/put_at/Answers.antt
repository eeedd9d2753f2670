-- `put_at` meets its contract: an empty home that passes its check by its word gets the key's one word.
-- Assumes nothing.
use Rattle.std.proofs.Common.{sym, ◌∙◌, ap}
use Rattle.table_words.specs.Layout.{words_length}
use Rattle.table_cluster.specs.Check.{passed}
use Rattle.table_find.specs.Around.{around_open, empty_checked, home_bit}
use Rattle.table_put.specs.Putting.{put_alone}
use Rattle.table_put.proofs.put.put_at.Goals as goal

pub returns : goal.returns
returns c =
    let void = sym c.guards_void.ensures ∙ c.if-not-guards_void.false in
    let empty = sym c.occupied.ensures ∙ c.if-occupied.false in
    let checked = empty_checked c.args.k _ c.requires.size void _ c.word_at-w.ensures empty in
    let o = around_open (c.in_ok-passes.ensures ∙ ap passed (rw (c.is_void.ensures, c.lock.ensures) checked)) in
    rw (
      put_alone c.args.k _ (words_length _ _ c.requires.size) o
          (home_bit c.word_at-w.ensures c.occupied.ensures c.if-occupied.false),
      c.put_alone.ensures,
    )
