-- `next_place` meets its contract. The invariant: what is found after place i is what is found after the place given.
-- Assumes nothing.
use Rattle.std.proofs.Common.{◌+◌, arith}
use Rattle.table_cluster.specs.Scan.{words_count}
use Rattle.table_list.specs.Scan.{found_inside, found_passed, found_met}
use Rattle.table_list.proofs.keys.next_place.Goals as goal

pub overflow_add-i : goal.overflow_add-i
overflow_add-i g c =
    omega (
      arith,
      found_inside _ c.args.table.now (c.loop-sought.i + 1) _ c.loop-sought.invariant c.requires.found,
      words_count c.args.table.now,
    )

pub word_at-requires : goal.word_at-requires
word_at-requires g c =
    omega (
      arith,
      found_inside _ c.args.table.now (c.loop-sought.i + 1) _ c.loop-sought.invariant c.requires.found,
      words_count c.args.table.now,
    )

pub returns-then-sought : goal.returns-then-sought
returns-then-sought g c =
    found_met _ c.args.table.now (c.loop-sought.i + 1) _ c.loop-sought.invariant
    (found_inside _ c.args.table.now (c.loop-sought.i + 1) _ c.loop-sought.invariant c.requires.found)
    c.word_at.result
    (omega (arith, c.word_at.type_inv))
    c.word_at.ensures
    (rw c.if-sought.true at c.sought.ensures)

pub loop-sought-smaller : goal.loop-sought-smaller
loop-sought-smaller g c =
    omega (
      arith,
      found_inside _ c.args.table.now (c.loop-sought.i + 1) _ c.loop-sought.invariant c.requires.found,
    )

pub loop-sought-preserved : goal.loop-sought-preserved
loop-sought-preserved g c =
    found_passed _ c.args.table.now (c.loop-sought.i + 1) _ c.loop-sought.invariant
    (found_inside _ c.args.table.now (c.loop-sought.i + 1) _ c.loop-sought.invariant c.requires.found)
    c.word_at.result
    (omega (arith, c.word_at.type_inv))
    c.word_at.ensures
    (rw c.if-sought.false at c.sought.ensures)
