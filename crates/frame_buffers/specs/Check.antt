-- The refusals of feed and finish, by the lengths of what is lent.
-- Assumes nothing.
use Rattle.std.specs.Prelude.{ℕ, ◌≡◌, refl, cond, ◌&&◌, length, leb, eqb}
use Rattle.std.proofs.Common.{arith}
use Rattle.rules.specs.declared.Refusal.{Refusal}
use Rattle.rules.specs.declared.Refusal.TheVariants.{BadShape, BadKey, BadTask, Busy, AtRest, Unsound, Locked, Full}
use Rattle.rules.specs.declared.Refusal.TheVariants.{TooFewSlots}
use Rattle.rules.specs.Answer.{number_of_refusal}
use Rattle.frame_rules.specs.declared.Run.{Run}
use Rattle.frame_rules.specs.declared.Stage.{Stage}
use Rattle.frame_rules.specs.Feed.{Buffers, good_shape_at, good_tasks_at, refusal}

-- what the stage alone gives
abbrev pub refusal_at : Stage → ℕ
refusal_at stage = cond (good_shape_at stage) (cond (good_tasks_at stage) 0 3) 1

unfoldable pub refusal_by : Run → ℕ → ℕ → ℕ → ℕ
refusal_by run line table out =
    cond (good_shape_at run.stage && eqb table 32772)
    (cond (good_tasks_at run.stage)
    (cond (leb 4096 line && leb 66570 out) 0 9)
    3)
    1

pub refusal_by_lem :
    (run : Run) (b : Buffers) → refusal_by run (length b.line) (length b.table) (length b.out) ≡ refusal run b
unfolding refusal_by refusal
refusal_by_lem run b = refl

-- a refusal's number is not 0
pub some_number : (n : Refusal) → number_of_refusal n ≡ 0 → ⊥
some_number BadShape e = omega arith
some_number BadKey e = omega arith
some_number BadTask e = omega arith
some_number Busy e = omega arith
some_number AtRest e = omega arith
some_number Unsound e = omega arith
some_number Locked e = omega arith
some_number Full e = omega arith
some_number TooFewSlots e = omega arith
