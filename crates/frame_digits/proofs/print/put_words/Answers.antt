-- `put_words` meets its contract. The invariant is `Wording`.
-- Assumes nothing.
use Rattle.std.proofs.Common.{arith}
use Rattle.frame_digits.specs.Print.{wording_begins, wording_on, wording_ends}
use Rattle.frame_digits.proofs.print.put_words.Goals as goal

pub loop-i-init : goal.loop-i-init
loop-i-init c = wording_begins _ _ c.requires

pub loop-i-preserved : goal.loop-i-preserved
loop-i-preserved c =
    let words = c.as_chunks.ensures in
    wording_on _ _ c.requires c.loop-i.invariant _ words.front (omega arith) _ _
    c.put_byte.ensures
    c.put_byte-in-loop-i.ensures

pub returns : goal.returns
returns c = wording_ends _ _ c.requires c.loop-i.invariant (omega arith)
