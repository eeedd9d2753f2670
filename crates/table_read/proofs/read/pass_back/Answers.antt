-- `pass_back` meets its contract. The invariant: the groups that are left lead to the same place, and are there.
-- Assumes nothing.
use Rattle.std.proofs.Common.{sym, ◌∙◌, ap, arith, ◌+◌, ◌-◌}
use Rattle.rules.specs.Lists.{bit_of}
use Rattle.table_read.specs.FromLeft.{back_on, back_stop, back_end}
use Rattle.table_read.proofs.read.pass_back.Goals as goal

pub returns-then-left-eq0 : goal.returns-then-left-eq0
returns-then-left-eq0 c =
    omega (
      arith,
      c.right_of.ensures,
      c.loop-i.invariant.1,
      back_stop c.args.table.now (c.args.l.0 + 1) c.loop-i.i (omega arith) (omega arith)
          c.word_at.result 1 c.loop-i.left c.word_at.ensures
          (sym (ap bit_of (sym c.change.ensures ∙ c.if-change.true)))
          (omega arith),
    )

-- a group is passed over, or a word within one
pub loop-i-preserved-then-change : goal.loop-i-preserved-then-change
loop-i-preserved-then-change c =
    let on =
    back_on c.args.table.now (c.args.l.0 + 1) c.loop-i.i (omega arith) (omega arith) c.word_at.result 1 c.loop-i.left
    c.word_at.ensures
    (sym (ap bit_of (sym c.change.ensures ∙ c.if-change.true)))
    (c.loop-i.left - 1)
    (omega arith)
    c.loop-i.invariant.0 in
    (on.0, on.1 ∙ c.loop-i.invariant.1)

pub loop-i-preserved : goal.loop-i-preserved
loop-i-preserved c =
    let on =
    back_on c.args.table.now (c.args.l.0 + 1) c.loop-i.i (omega arith) (omega arith) c.word_at.result 0 c.loop-i.left
    c.word_at.ensures
    (sym (ap bit_of (sym c.change.ensures ∙ c.if-change.false)))
    c.loop-i.left
    (omega arith)
    c.loop-i.invariant.0 in
    (on.0, on.1 ∙ c.loop-i.invariant.1)

pub returns : goal.returns
returns c =
    omega (
      arith,
      c.right_of-2.ensures,
      c.loop-i.invariant.1,
      back_end c.args.table.now (c.args.l.0 + 1) c.loop-i.i c.loop-i.left (omega arith),
    )
