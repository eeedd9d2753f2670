-- One step of a task (01, Tasks and their steps): the record must fit, be busy, and the guards be unoccupied and sound;
-- then the phase decides.
-- Assumes nothing.
use Rattle.std.specs.Prelude.{ℕ, cond, List, length, set, eqb}
use Rattle.rules.specs.declared.Shape.{Shape}
use Rattle.rules.specs.declared.Task.{Task}
use Rattle.rules.specs.Word.{Word}
use Rattle.rules.specs.Bytes.{words_of, bytes_of}
use Rattle.rules.specs.Shape.{good_table}
use Rattle.rules.specs.Table.{guards_void}
use Rattle.rules.specs.Answer.{says, refuses, Leaves, leaves}
use Rattle.rules.specs.Record.{at_rest, fits, task_at, good_task}
use Rattle.rules.specs.Phase as phase
use Rattle.rules.specs.Phase.{Step, to, unsound}

-- what the phases 1 to 12 do, by number
abbrev pub by_number : ℕ → Shape → List Word → Task → Step
by_number n sh ws t =
    cond (eqb n 1) (phase.home sh ws t)
    (cond (eqb n 2) (phase.look_left sh ws t)
    (cond (eqb n 3) (phase.look_right sh ws t)
    (cond (eqb n 4) (phase.lock_left sh ws t)
    (cond (eqb n 5) (phase.lock_right sh ws t)
    (cond (eqb n 6) (phase.back_off sh ws t)
    (cond (eqb n 7) (phase.read sh ws t)
    (cond (eqb n 8) (phase.fill_hand sh ws t)
    (cond (eqb n 9) (phase.move sh ws t)
    (cond (eqb n 10) (phase.mark sh ws t)
    (cond (eqb n 11) (phase.free_left sh ws t) (phase.free_right sh ws t)))))))))))

unfoldable pub of_phase : Shape → List Word → Task → Step
of_phase sh ws t = by_number t.phase sh ws t

-- what a step leaves: the record and the words, or all as it was with the refusal's number
pub data Stepped : Type 0 where
  steps : Task → List Word → Stepped
  refused : ℕ → Stepped

abbrev pub or_unsound : Step → Stepped
or_unsound (to t ws) = steps t ws
or_unsound unsound = refused 6

-- one step on one record: 3 if it does not fit, 5 at rest, 6 by the guards or the phase
unfoldable pub step_of : Shape → List Word → Task → Stepped
step_of sh ws t =
    cond (fits sh t)
    (cond (at_rest t) (refused 5) (cond (guards_void sh ws) (or_unsound (of_phase sh ws t)) (refused 6)))
    (refused 3)

-- the answer, with the lent bytes and the lent records as they are left
pub record Lent : Type 0 where
  pub table : List ℕ
  pub tasks : List Task

abbrev pub lent_after : List ℕ → List Task → ℕ → Stepped → Leaves Lent
lent_after bytes ts i (steps t ws) = leaves (says 0) (record { table = bytes_of ws; tasks = set ts i t })
lent_after bytes ts i (refused n) = leaves (refuses n) (record { table = bytes; tasks = ts })

-- step (the shape, the lent table, the lent records, task number)
unfoldable pub step : Shape → List ℕ → List Task → ℕ → Leaves Lent
step sh bytes ts i =
    cond (good_table sh (length bytes))
    (cond (good_task ts i)
    (lent_after bytes ts i (step_of sh (words_of bytes) (task_at ts i)))
    (leaves (refuses 3) (record { table = bytes; tasks = ts })))
    (leaves (refuses 1) (record { table = bytes; tasks = ts }))
