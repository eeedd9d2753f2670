-- `add_beside` meets its contract: the tests are the rule's, and each fill is brought to its goal.
-- Assumes nothing.
use Rattle.std.proofs.Common.{◌≡◌, ◌+◌, ap, arith}
use Rattle.rules.specs.Shape.{places, right_guard}
use Rattle.rules.specs.Answer.{says, leaves}
use Rattle.table_words.specs.Range.{homes_high}
use Rattle.table_find.specs.Around.{table_small}
use Rattle.table_put.specs.Putting.{reach, added_left, added_right, added_none}
use Rattle.table_put.proofs.adding.add_beside.Goals as goal

pub right_by-goal-requires : goal.right_by-goal-requires
unfolding places
right_by-goal-requires c =
    omega (arith, reach c.requires.ready, homes_high c.args.k.sh.shape c.args.k.sh.in_range)

pub bring-requires-clause-goal_inside : goal.bring-requires-clause-goal_inside
bring-requires-clause-goal_inside c =
    omega (arith, c.right_by-goal.ensures, reach c.requires.ready, c.requires.size)

pub returns-then-ne : goal.returns-then-ne
returns-then-ne c =
    let far : c.args.gap.0 ≡ 0 → ⊥ = λ e. grind arith in
    rw (c.bring.ensures.answer, added_left c.requires.ready far)
    (ap (leaves (says 2)) (rw c.right_by-goal.ensures at c.bring.ensures.words))

pub right_gap-r-requires : goal.right_gap-r-requires
right_gap-r-requires c = table_small c.args.k _ c.requires.size

pub returns-then-eq : goal.returns-then-eq
returns-then-eq c =
    let near : c.args.gap.0 ≡ 0 = grind arith in
    let none : c.right_gap-r.result.0 ≡ right_guard c.args.k.sh.shape = grind arith in
    rw (added_none c.requires.ready c.right_gap-r.result c.right_gap-r.ensures near none)

pub right_by-goal-requires-2 : goal.right_by-goal-requires-2
unfolding places
right_by-goal-requires-2 c =
    omega (
      arith,
      c.right_of.ensures,
      reach c.requires.ready,
      homes_high c.args.k.sh.shape c.args.k.sh.in_range,
    )

pub bring-requires-2-clause-goal_inside : goal.bring-requires-2-clause-goal_inside
bring-requires-2-clause-goal_inside c =
    omega (arith, c.right_by-goal-2.ensures, c.right_of.ensures, reach c.requires.ready, c.requires.size)

pub returns : goal.returns
returns c =
    let near : c.args.gap.0 ≡ 0 = grind arith in
    let far : c.right_gap-r.result.0 ≡ right_guard c.args.k.sh.shape → ⊥ = λ e. grind arith in
    let further : c.right_by-goal-2.result.0 ≡ 1 + c.args.read.smaller =
    omega (arith, c.right_by-goal-2.ensures, c.right_of.ensures, near) in
    rw (c.bring-2.ensures.answer, added_right c.requires.ready c.right_gap-r.result c.right_gap-r.ensures near far)
    (ap (leaves (says 2)) (rw further at c.bring-2.ensures.words))
