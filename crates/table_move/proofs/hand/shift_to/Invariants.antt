use Rattle.theory.specs.Motion.{distance}
use Rattle.table_words.specs.Sides.{Toward}
use Rattle.table_move.specs.Carry.{Shifting}
use Rattle.table_move.proofs.hand.shift_to.Given as goal

abbrev pub invariant-loop-goal : goal.invariant-loop-goal
invariant-loop-goal g l =
    Shifting l.initial.table l.initial.p.0 l.goal.0 l.table l.p.0 × Toward g.S.Side.side l.p.0 l.goal.0

abbrev pub decreases-loop-goal : goal.decreases-loop-goal
decreases-loop-goal g l = distance l.p.0 l.goal.0
