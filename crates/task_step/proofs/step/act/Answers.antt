-- `act` meets its contract: a busy record is ready for its phase.
-- Assumes nothing.
use Rattle.std.proofs.Common.{refl, rules}
use Rattle.task_step.specs.Stepping.{acts_ready}
use Rattle.task_step.proofs.step.act.Goals as goal

pub home-requires : goal.home-requires
home-requires c = acts_ready c.requires.asked c.requires.its_phase c.in-Home.is refl

pub look_left-requires : goal.look_left-requires
look_left-requires c = search (rules, acts_ready)

pub look_right-requires : goal.look_right-requires
look_right-requires c = search (rules, acts_ready)

pub lock_left-requires : goal.lock_left-requires
lock_left-requires c = search (rules, acts_ready)

pub lock_right-requires : goal.lock_right-requires
lock_right-requires c = search (rules, acts_ready)

pub back_off-requires : goal.back_off-requires
back_off-requires c = search (rules, acts_ready)

pub read-requires : goal.read-requires
read-requires c = search (rules, acts_ready)

pub fill_hand-requires : goal.fill_hand-requires
fill_hand-requires c = search (rules, acts_ready)

pub move_on-requires : goal.move_on-requires
move_on-requires c = search (rules, acts_ready)

pub mark-requires : goal.mark-requires
mark-requires c = search (rules, acts_ready)

pub free_left-requires : goal.free_left-requires
free_left-requires c = search (rules, acts_ready)

pub free_right-requires : goal.free_right-requires
free_right-requires c = search (rules, acts_ready)
