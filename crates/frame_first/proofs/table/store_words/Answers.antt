-- `store_words` meets its contract. The invariant is `Storing`.
-- Assumes nothing.
use Rattle.frame_first.specs.Table.{storing_begins, storing_on, storing_ends, word_bytes}
use Rattle.frame_first.proofs.table.store_words.Goals as goal

pub loop-i-init : goal.loop-i-init
loop-i-init c = storing_begins _ _ _ c.requires.long c.requires.room

pub loop-i-preserved : goal.loop-i-preserved
loop-i-preserved c =
    let r = c.requires in
    let w = c.number.ensures in
    let (low, high) = word_bytes _ w.low _ c.to_le_bytes.ensures in
    rw (low, high) (storing_on _ _ _ r.long r.room c.loop-i.invariant c.loop-i-test.true _ w.value)

pub returns : goal.returns
returns c = storing_ends _ _ _ c.requires.long c.requires.room c.loop-i.invariant c.loop-i-test.false
