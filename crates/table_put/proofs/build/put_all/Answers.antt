-- `put_all` meets its contract. The invariant: filling on with the keys to come is filling with all from the start.
-- Assumes nothing.
use Rattle.std.proofs.Common.{◌∙◌}
use Rattle.std.proofs.lemmas.Result.{err_from_is_err_and}
use Rattle.rules.specs.Bytes.{words_of}
use Rattle.table_put.specs.Building.{key_good, fill_passed, fill_refused, fill_ends}
use Rattle.table_put.specs.Filling.{key_clean}
use Rattle.table_put.proofs.build.put_all.Goals as goal

pub put_clean-requires-clause-low : goal.put_clean-requires-clause-low
put_clean-requires-clause-low c =
    key_good c.args.sh.shape c.args.keys.now c.loop-key.key-index c.loop-key-test.true c.requires.low

pub put_clean-requires-clause-clean : goal.put_clean-requires-clause-clean
put_clean-requires-clause-clean c = c.loop-key.invariant.2

pub returns-in_err-put_clean-clause-room : goal.returns-in_err-put_clean-clause-room
returns-in_err-put_clean-clause-room c =
    let (n, is, same) = err_from_is_err_and c.from_residual.result c.from_residual.ensures.1 in
    rw is
    (fill_refused _ _ c.args.keys.now _ c.loop-key-test.true c.in_err-put_clean.ensures.room ∙ c.loop-key.invariant.1)

pub loop-key-preserved : goal.loop-key-preserved
loop-key-preserved c =
    let room = c.in_ok-put_clean.ensures.room in (
      c.put_clean.auto.table ∙ c.loop-key.invariant.0,
      fill_passed _ _ c.args.keys.now _ c.loop-key-test.true _ room ∙ c.loop-key.invariant.1,
      key_clean
          c.args.sh
          _
          _
          _
          (key_good c.args.sh.shape c.args.keys.now c.loop-key.key-index c.loop-key-test.true c.requires.low)
          c.loop-key.invariant.2
          room,
    )

pub returns-clause-room : goal.returns-clause-room
returns-clause-room c =
    fill_ends c.args.sh.shape (words_of c.loop-key.table) c.args.keys.now c.loop-key.key-index c.loop-key-test.false
    ∙ c.loop-key.invariant.1
