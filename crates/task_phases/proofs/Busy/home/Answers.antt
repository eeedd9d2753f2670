-- `home` meets its contract: the home lies in the table, right of the left guard, and the remainder fits a word.
-- Assumes nothing.
use Rattle.rules.specs.Record.{home_place_of}
use Rattle.task_fits.specs.Ready.{home_low, home_inside, remainder_small}
use Rattle.task_phases.proofs.Busy.home.Goals as goal

pub word_at-w-requires : goal.word_at-w-requires
unfolding home_place_of
word_at-w-requires c = rw c.home_place-h.ensures (home_inside c.requires)

pub alone_word-alone-requires : goal.alone_word-alone-requires
alone_word-alone-requires c = rw c.remainder_of.ensures (remainder_small c.requires)

pub set_word-requires : goal.set_word-requires
unfolding home_place_of
set_word-requires c = rw c.home_place-h.ensures (home_inside c.requires)

pub left_of-requires : goal.left_of-requires
unfolding home_place_of
left_of-requires c = rw c.home_place-h.ensures (home_low c.requires)
