-- Give (01, Tasks and their steps): a key for a task that is not busy; the record's other fields become zero.
-- Assumes nothing.
use Rattle.std.specs.Prelude.{ℕ, cond, List, set, ltb}
use Rattle.rules.specs.declared.Shape.{Shape}
use Rattle.rules.specs.declared.Task.{Task}
use Rattle.rules.specs.Shape.{in_range, keys}
use Rattle.rules.specs.Answer.{says, refuses, Leaves, leaves}
use Rattle.rules.specs.Record.{busy, task_at, good_task}

-- sets key and phase 1 and zeroes the rest
unfoldable pub given : ℕ → Task
given key =
    record { key = key; phase = 1; left = 0; right = 0; hand = 0; goal = 0; mark = 0; answer = 0 }

-- give on one record
unfoldable pub give_to : Task → ℕ → Leaves Task
give_to t key = cond (busy t) (leaves (refuses 4) t) (leaves (says 0) (given key))

abbrev pub stored_at : List Task → ℕ → Leaves Task → Leaves (List Task)
stored_at ts i (leaves a t) = leaves a (set ts i t)

-- give (the shape, key, the lent records, task number), with the records as they are left
unfoldable pub give : Shape → ℕ → List Task → ℕ → Leaves (List Task)
give sh key ts i =
    cond (in_range sh)
    (cond (ltb key (keys sh))
    (cond (good_task ts i) (stored_at ts i (give_to (task_at ts i) key)) (leaves (refuses 3) ts))
    (leaves (refuses 2) ts))
    (leaves (refuses 1) ts)
