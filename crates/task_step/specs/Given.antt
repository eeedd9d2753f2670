-- Give on one record (01, Tasks and their steps).
-- `give_one_lem`: the rules' give is give on the record of the task number, stored back.
-- Assumes nothing.
use Rattle.std.specs.Prelude.{ℕ, ◌≡◌, refl, Bool, true, false, cond, List, ltb}
use Rattle.std.proofs.Common.{ap, sym}
use Rattle.std.proofs.lemmas.List.{set-get_or}
use Rattle.rules.specs.declared.Shape.{Shape}
use Rattle.rules.specs.declared.Task.{Task}
use Rattle.rules.specs.Shape.{in_range, keys}
use Rattle.rules.specs.Answer.{refuses, Leaves, leaves}
use Rattle.rules.specs.Give.{give_to, stored_at, give}
use Rattle.rules.specs.Record.{no_task, task_at, good_task}

-- give (the shape, key, the record)
unfoldable pub give_one : Shape → ℕ → Task → Leaves Task
give_one sh key t =
    cond (in_range sh)
    (cond (ltb key (keys sh)) (give_to t key) (leaves (refuses 2) t))
    (leaves (refuses 1) t)

pub give_one_lem :
    (sh : Shape) (key : ℕ) (ts : List Task) (i : ℕ) →
    good_task ts i ≡ true → give sh key ts i ≡ stored_at ts i (give_one sh key (task_at ts i))
unfolding give give_one
give_one_lem sh key ts i good = rw good (go (in_range sh) (ltb key (keys sh)))
  where
    go : (shape small : Bool) →
        cond shape
        (cond small (stored_at ts i (give_to (task_at ts i) key)) (leaves (refuses 2) ts))
        (leaves (refuses 1) ts)
        ≡ stored_at ts i
        (cond shape
        (cond small (give_to (task_at ts i) key) (leaves (refuses 2) (task_at ts i)))
        (leaves (refuses 1) (task_at ts i)))
    go true true = refl
    go true false = ap (leaves (refuses 2)) (sym (set-get_or ts i no_task))
    go false small = ap (leaves (refuses 1)) (sym (set-get_or ts i no_task))
