use Rattle.frame_rules.specs.Lines.{keys_of}
use Rattle.frame_rounds.specs.Desk.{floor_of, Playing}
use Rattle.frame_rounds.proofs.round.rounds.Given as goal

abbrev pub invariant-loop-gone : goal.invariant-loop-gone
invariant-loop-gone l =
    Playing l.f (keys_of l.line.text.now) l.limit
    (floor_of l.f.first.tasks l.initial.table l.initial.answers l.initial.desk)
    l.table l.answers l.desk l.gone
