-- `list_in` meets its contract: what does not pass is not listed, then 9, and only then the keys.
-- Assumes nothing.
use Rattle.std.proofs.Common.{◌≡◌, ◌∙◌, ap, true, false, length, le-leb}
use Rattle.std.proofs.lemmas.Bool.{lt-leb}
use Rattle.rules.specs.Bytes.{words_of}
use Rattle.rules.specs.Table.{sound, locked, list}
use Rattle.rules.specs.Listing.{list_in}
use Rattle.table_words.specs.Range.{remainders_high}
use Rattle.table_words.specs.Layout.{words_length}
use Rattle.table_list.specs.Check.{barred, check_good}
use Rattle.table_list.specs.Queue.{keys_counted}
use Rattle.table_list.specs.declared.check.Check.{Check}
use Rattle.table_list.proofs.list.list_in.Goals as goal
use Rattle.table_list.proofs.list.list_in.Goals.{In_ok-passes}

-- what the check tells: a sound table has one key for each occupied word
module _ (c : In_ok-passes) where
  abbrev told : (sound c.args.t.sh.shape (words_of c.args.t.bytes.now) ≡ true)
      × (locked (words_of c.args.t.bytes.now) ≡ false)
      × (c.check_table-check.result.keys ≡ length (list c.args.t.sh.shape (words_of c.args.t.bytes.now)))
  told =
      let good = check_good _ _ _ (c.in_ok-passes.ensures ∙ ap barred c.check_table-check.ensures) in (
        good.0,
        good.1,
        ap (λ (x : Check). x.keys) c.check_table-check.ensures
            ∙ good.2
            ∙ keys_counted c.args.t.sh.shape (words_of c.args.t.bytes.now)
            (remainders_high c.args.t.sh.shape c.args.t.sh.in_range)
            (words_length c.args.t.bytes.now _ c.args.t.size)
            good.0,
      )

pub write_keys-requires : goal.write_keys-requires
write_keys-requires c =
    let good = told (goal.at.write_keys-requires c).In_ok-passes in
    record {
      range = c.args.t.sh.in_range;
      size = c.args.t.size;
      snd = good.0;
      keys = good.2;
      room = c.if-n-slots.true;
    }

pub returns-then-n-slots : goal.returns-then-n-slots
unfolding list_in
returns-then-n-slots c =
    let good = told (goal.at.returns-then-n-slots c).In_ok-passes in
    rw (good.0, good.1, ← good.2, le-leb _ _ c.if-n-slots.true, c.write_keys.ensures)

pub returns-else-n-slots : goal.returns-else-n-slots
unfolding list_in
returns-else-n-slots c =
    let good = told (goal.at.returns-else-n-slots c).In_ok-passes in
    rw (good.0, good.1, ← good.2, lt-leb _ _ c.if-n-slots.false)
