-- `begun` meets its contract: a good first line is within its limits, so its shape is in range.
-- Assumes nothing.
use Rattle.std.proofs.Common.{ℕ, ◌*◌, ◌∙◌, ap, arith}
use Rattle.frame_rules.specs.Frame.{used}
use Rattle.test_schedule.specs.Begins.{begun_good, begun_bad}
use Rattle.test_schedule.proofs.Good.{good_limits}
use Rattle.test_schedule.proofs.run.Run.begun.Goals as goal

pub overflow_cast-result : goal.overflow_cast-result
overflow_cast-result c = omega (arith, (good_limits _ _ _ c.read_first.ensures c.in_ok-f.was).tasks_high)

pub invariant_of-sh : goal.invariant_of-sh
invariant_of-sh c = record { in_range = (good_limits _ _ _ c.read_first.ensures c.in_ok-f.was).range }

pub returns-in_err-f : goal.returns-in_err-f
returns-in_err-f c = c.from_residual.ensures ∙ begun_bad _ _ c.read_first.ensures c.in_err-f.was

pub returns : goal.returns
unfolding used
returns c =
    begun_good _ _ c.in_ok-f.f _ _
    c.read_first.ensures c.in_ok-f.was (ap (λ (n : ℕ). 2 * n) c.places.ensures) c.no_task.ensures
