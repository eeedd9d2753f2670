-- `look` meets its contract: a law for each order of the two remainders.
-- Assumes nothing.
use Rattle.std.proofs.Common.{ℕ, sym, arith}
use Rattle.table_read.specs.Read.{look_below, look_above, look_equal}
use Rattle.table_read.proofs.read.look.Goals as goal

pub returns-then-y-x : goal.returns-then-y-x
returns-then-y-x c = λ (home_at : ℕ). sym (look_below _ _ _ (omega arith) (omega arith) c.if-y-x.true)

pub returns-then-x-y : goal.returns-then-x-y
returns-then-x-y c = λ (home_at : ℕ). sym (look_above _ _ _ (omega arith) (omega arith) c.if-x-y.true)

pub returns-else-x-y : goal.returns-else-x-y
returns-else-x-y c =
    λ (home_at : ℕ). sym (look_equal _ _ _ (omega arith) (omega arith) c.if-y-x.false c.if-x-y.false)
