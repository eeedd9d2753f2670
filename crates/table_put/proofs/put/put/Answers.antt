-- `put` meets its contract: the words that are left are the bytes.
-- Assumes nothing.
use Rattle.std.proofs.Common.{◌∙◌, rules}
use Rattle.rules.specs.Shape.{places}
use Rattle.rules.specs.Put.{put}
use Rattle.table_put.specs.Putting.{bytes_left}
use Rattle.table_put.proofs.put.put.Goals as goal

pub returns : goal.returns
unfolding put
returns c =
    let good = c.in_ok-sh.ensures in
    let parts = c.in_ok-k.ensures in
    rw (← good.good, ← good.ok, ← parts.good, ← parts.ok.1)
    (bytes_left
    c.args.table.now
    c.put_at.new.table
    (places c.in_ok-sh.sh.shape)
    _
    _
    good.size
    (c.put_at.auto.table ∙ good.size)
    (λ i. (search rules))
    (λ i. (c.type_inv.table i).fits)
    (rw parts.ok.0 at c.put_at.ensures))
