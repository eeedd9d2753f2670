-- `check_order` meets its contract. The invariant: what is known of the words behind and the words to come, from place
-- i - 1 on, make the whole pass.
-- Assumes nothing.
use Rattle.std.proofs.Common.{◌-◌, ◌≡◌, sym, ◌∙◌, ap, arith}
use Rattle.rules.specs.Bytes.{words_of}
use Rattle.rules.specs.Shape.{places, right_guard}
use Rattle.table_list.specs.Scan.{whole_table}
use Rattle.table_list.specs.Check.{ordered, order_begins, order_on, order_ends}
use Rattle.table_list.proofs.check.check_order.Goals as goal
use Rattle.table_list.proofs.check.check_order.Goals.{After-right_guard}

pub loop-i-preserved : goal.loop-i-preserved
loop-i-preserved c =
    order_on
    c.args.t.sh.shape
    c.args.t.bytes.now
    c.loop-i.i
    c.places-i-end.result
    c.loop-i.up
    c.loop-i.over
    c.word-v.result
    c.word-w.result
    c.stands-up.result
    c.loop-i.auto.i
    c.loop-i-test.true
    (omega (arith, c.args.t.size, c.places-i-end.ensures))
    (rw c.left_of.ensures at c.word-v.ensures)
    c.word-w.ensures
    (omega (arith, c.loop-i.auto.over-fits))
    (omega (arith, c.word-v.type_inv))
    c.stands-up.ensures
    ∙ c.loop-i.invariant

-- the loop ends at the right guard's place
pub word-last-requires : goal.word-last-requires
unfolding places right_guard
word-last-requires c = omega arith

guard_left : (guard : After-right_guard) → guard.right_guard.result.0 ≡ guard.loop-i.i - 1
unfolding places right_guard
guard_left guard =
    omega (
      arith,
      guard.right_guard.ensures,
      guard.loop-i-test.false,
      guard.loop-i.auto.i-end,
      guard.places-i-end.ensures,
    )

pub returns : goal.returns
unfolding places
returns c =
    let sh = c.args.t.sh.shape in
    let bs = c.args.t.bytes.now in
    let end = c.places-i-end.result in
    rw
    (c.lock.ensures, c.is_void.ensures, c.remainders.ensures, c.remainder.ensures)
    (sym
    (order_ends sh bs c.loop-i.i end c.loop-i.up c.loop-i.over c.word-last.result
    c.loop-i.auto.i
    (omega (arith, c.loop-i-test.false, c.loop-i.auto.i-end))
    (omega (arith, c.args.t.size, c.places-i-end.ensures))
    (rw (guard_left (goal.at.returns c).After-right_guard) at c.word-last.ensures)
    (omega (arith, c.loop-i.auto.over-fits))
    (omega (arith, c.word-last.type_inv))))
    ∙ c.loop-i.invariant
    ∙ ap
    (ordered sh _ 0)
    (whole_table bs end (places sh) c.args.t.size c.places-i-end.ensures)
    ∙ order_begins sh (words_of bs)
