use Rattle.frame_rules.specs.Lines.{keys_of}
use Rattle.frame_rounds.specs.Desk.{floor_of, Turning}
use Rattle.frame_rounds.proofs.round.round.Given as goal

abbrev pub invariant-loop-i : goal.invariant-loop-i
invariant-loop-i l =
    Turning l.f (keys_of l.line.text.now) (floor_of l.f.first.tasks l.initial.table l.initial.answers l.initial.desk)
    l.table l.answers l.desk l.i
