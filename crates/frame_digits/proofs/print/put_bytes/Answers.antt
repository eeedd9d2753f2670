-- `put_bytes` meets its contract. The invariant is `Printing`.
-- Assumes nothing.
use Rattle.frame_digits.specs.Print.{printing_begins, printing_on, printing_ends}
use Rattle.frame_digits.proofs.print.put_bytes.Goals as goal

pub loop-i-init : goal.loop-i-init
loop-i-init c = printing_begins _ _ c.requires

pub loop-i-preserved : goal.loop-i-preserved
loop-i-preserved c =
    printing_on _ _ c.requires c.loop-i.invariant c.loop-i-test.true _ c.put_byte.ensures

pub returns : goal.returns
returns c = printing_ends _ _ c.requires c.loop-i.invariant c.loop-i-test.false
