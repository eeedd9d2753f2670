-- `pass_groups` meets its contract. The invariant: the groups that are left lead to the same place, and are there.
-- Assumes nothing.
use Rattle.std.proofs.Common.{ℕ, ◌+◌, ◌<◌, ◌≡◌, sym, ◌∙◌, ap, arith}
use Rattle.rules.specs.Lists.{bit_of}
use Rattle.table_read.specs.Group.{passed, places_of, words_from, group_there, word_past, fewer_groups, passed_all}
use Rattle.table_read.proofs.read.pass_groups.Goals as goal
use Rattle.table_read.proofs.read.pass_groups.Goals.{In-loop-left}

-- at each turn there is a word
there :
    (turn : In-loop-left) →
    turn.loop-left.i < places_of turn.args.table.now
there turn =
    group_there
    turn.args.table.now
    turn.loop-left.i
    (places_of turn.args.table.now)
    turn.loop-left.left
    turn.loop-left-test.true
    turn.loop-left.invariant.0

pub word_at-w-requires : goal.word_at-w-requires
word_at-w-requires c = omega (arith, there c)

pub overflow_add-i : goal.overflow_add-i
overflow_add-i c = omega (arith, there (goal.at.overflow_add-i c).In-loop-left)

pub loop-left-smaller : goal.loop-left-smaller
loop-left-smaller c = omega (arith, there (goal.at.loop-left-smaller c).In-loop-left)

pub loop-left-preserved : goal.loop-left-preserved
loop-left-preserved c =
    let bs = c.args.table.now in
    let bit = c.bit_of-left.ensures.0 ∙ ap bit_of c.change.ensures in (
      fewer_groups
          bs
          c.loop-left.i
          (places_of bs)
          (there (goal.at.loop-left-preserved c).In-loop-left)
          (omega arith)
          c.word_at-w.result
          c.word_at-w.ensures
          c.loop-left.left
          c.bit_of-left.result
          bit
          c.loop-left.invariant.0,
      word_past
          bs
          c.loop-left.i
          (places_of bs)
          (there (goal.at.loop-left-preserved c).In-loop-left)
          (omega arith)
          c.word_at-w.result
          c.word_at-w.ensures
          c.loop-left.left
          c.bit_of-left.result
          c.loop-left-test.true
          bit
          ∙ c.loop-left.invariant.1,
    )

pub returns : goal.returns
returns c =
    let bs = c.args.table.now in
    let none : c.loop-left.left ≡ 0 = omega (arith, c.loop-left-test.false) in
    sym (ap (λ (k : ℕ). c.loop-left.i + passed (words_from bs c.loop-left.i) k) none ∙ passed_all _ _)
    ∙ c.loop-left.invariant.1
