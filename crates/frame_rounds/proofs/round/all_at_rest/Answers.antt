-- `all_at_rest` meets its contract: each seat's task is asked.
-- Assumes nothing.
use Rattle.std.proofs.Common.{List, refl, rules}
use Rattle.std.proofs.lemmas.List.Recursion.{and_is}
use Rattle.rules.specs.Lists.{all}
use Rattle.rules.specs.Record.{at_rest}
use Rattle.frame_rounds.specs.declared.round.Seat.{Seat}
use Rattle.frame_rounds.specs.Desk.{tasks_of, no_seat}
use Rattle.frame_rounds.proofs.round.all_at_rest.Goals as goal

pub returns : goal.returns
unfolding all
returns c =
    and_is (λ (seats : List Seat). all at_rest (tasks_of seats)) (λ (s : Seat). at_rest s.task) refl (λ _ _. refl)
    c.args.seats.now no_seat _
    (search rules)
    (search rules)
