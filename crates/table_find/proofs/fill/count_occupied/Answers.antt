-- `count_occupied` meets its contract. The invariant: what is counted and what is to come make the whole.
-- Assumes nothing.
use Rattle.std.proofs.Common.{sym, ◌∙◌, ap, arith}
use Rattle.rules.specs.Lists.{bit_of}
use Rattle.table_find.specs.Count.{count_begins, count_passes, count_ends}
use Rattle.table_find.proofs.fill.count_occupied.Goals as goal

pub loop-i-init : goal.loop-i-init
loop-i-init c = (omega arith, count_begins c.args.table.now c.args.n c.requires.size)

pub loop-i-preserved : goal.loop-i-preserved
loop-i-preserved c = (
  omega (arith, c.loop-i.invariant.0, c.bit_of-k.ensures),
  count_passes
      c.args.table.now
      c.args.n
      c.loop-i.k
      c.loop-i.i
      c.word_at.result
      c.bit_of-k.result
      c.loop-i-test.true
      c.requires.size
      c.word_at.ensures
      (c.bit_of-k.ensures.0 ∙ ap bit_of c.occupied.ensures)
      ∙ c.loop-i.invariant.1,
)

pub returns : goal.returns
returns c =
    sym (count_ends c.args.table.now c.args.n c.loop-i.k c.loop-i.i c.loop-i-test.false)
    ∙ c.loop-i.invariant.1
