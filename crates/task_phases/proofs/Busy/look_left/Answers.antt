-- `look_left` meets its contract: left lies in the table, and is not the left guard where it is occupied.
-- Assumes nothing.
use Rattle.std.proofs.Common.{arith}
use Rattle.rules.specs.Record.{home_place_of}
use Rattle.task_fits.specs.Taken.{tells}
use Rattle.task_fits.specs.Ready.{left_inside, occupied_positive, home_small}
use Rattle.task_phases.proofs.Busy.look_left.Goals as goal

pub word_at-requires : goal.word_at-requires
word_at-requires c = left_inside c.requires (omega arith)

pub left_of-requires : goal.left_of-requires
left_of-requires c =
    occupied_positive c.requires _
    (tells (λ w. w.occupied) c.occupied.ensures c.word_at.ensures c.if-occupied.true)

pub right_of-requires : goal.right_of-requires
unfolding home_place_of
right_of-requires c = rw c.home_place-h.ensures (home_small c.requires)
