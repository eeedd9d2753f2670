-- Give and step over lent records: what is answered where no record has the task number, and nothing changes.
-- `give_stores`, `give_keeps`, `give_bad`: the record that follows is stored, or it stays, or there is none. Step too.
-- `give_all`, `step_all`: the calls on the first n of sixteen records that a caller keeps by value.
-- Assumes nothing.
use Rattle.std.specs.Prelude.{ℕ, ◌≤◌, ◌<◌, ◌≡◌, Bool, List, ◌++◌, length, set, take, drop, ltb, leb}
use Rattle.std.proofs.Math.Path.{refl, ap}
use Rattle.std.proofs.Common.{sym, ◌∙◌}
use Rattle.std.proofs.Math.Bool.{true, false, cond}
use Rattle.std.proofs.lemmas.List.{set-get_or}
use borrow.Author.Tests.{le-leb, lt-leb}
use Rattle.rules.specs.declared.Shape.{Shape}
use Rattle.rules.specs.declared.Task.{Task}
use Rattle.rules.specs.Shape.{in_range, keys, good_table}
use Rattle.rules.specs.Answer.{Answer, refuses, Leaves, leaves}
use Rattle.rules.specs.Give.{stored_at, give}
use Rattle.rules.specs.Record.{no_task, task_at, good_task}
use Rattle.rules.specs.Step.{Lent, step}
use Rattle.theory.specs.Record.{good_task_lem}
use Rattle.task_step.specs.Given.{give_one, give_one_lem}
use Rattle.task_step.specs.Stepping.{step_one, lent_of, step_one_lem}

-- give, where no record has the task number
unfoldable pub give_none : Shape → ℕ → Answer
give_none sh key =
    cond (in_range sh) (cond (ltb key (keys sh)) (refuses 3) (refuses 2)) (refuses 1)

-- step, where no record has the task number
unfoldable pub step_none : Shape → ℕ → Answer
step_none sh len = cond (good_table sh len) (refuses 3) (refuses 1)

module _ (sh : Shape) (key : ℕ) (ts : List Task) (i : ℕ) where
  -- no record has the task number: nothing changes
  pub give_bad : good_task ts i ≡ false → leaves (give_none sh key) ts ≡ give sh key ts i
  unfolding give_none give
  give_bad bad = rw bad (go (in_range sh) (ltb key (keys sh)))
    where
      go : (shape small : Bool) →
          leaves (cond shape (cond small (refuses 3) (refuses 2)) (refuses 1)) ts
          ≡ cond shape (cond small (leaves (refuses 3) ts) (leaves (refuses 2) ts)) (leaves (refuses 1) ts)
      go true true = refl
      go true false = refl
      go false small = refl

  -- one has it: what give on it leaves is stored back
  pub give_stores : length ts ≤ 16 → i < length ts → (a : Answer) (t : Task) → leaves a t
      ≡ give_one sh key (task_at ts i) → leaves a (set ts i t) ≡ give sh key ts i
  give_stores few near a t e =
      ap (stored_at ts i) e ∙ sym (give_one_lem sh key ts i (good_task_lem ts i few near))

  -- or it stays as it was
  pub give_keeps : length ts ≤ 16 → i < length ts → (a : Answer) → leaves a (task_at ts i)
      ≡ give_one sh key (task_at ts i) → leaves a ts ≡ give sh key ts i
  give_keeps few near a e = sym (ap (leaves a) (set-get_or ts i no_task)) ∙ give_stores few near a (task_at ts i) e

-- nothing lent changes
abbrev still : Answer → List ℕ → List Task → Leaves Lent
still a bytes ts = leaves a (record { table = bytes; tasks = ts })

module _ (sh : Shape) (bytes : List ℕ) (ts : List Task) (i : ℕ) where
  pub step_bad : good_task ts i ≡ false → still (step_none sh (length bytes)) bytes ts ≡ step sh bytes ts i
  unfolding step_none step
  step_bad bad = rw bad (go (good_table sh (length bytes)))
    where
      go : (good : Bool) →
          still (cond good (refuses 3) (refuses 1)) bytes ts
          ≡ cond good (still (refuses 3) bytes ts) (still (refuses 1) bytes ts)
      go true = refl
      go false = refl

  pub step_stores : length ts ≤ 16 → i < length ts → (a : Answer) (after : List ℕ) (t : Task)
      → leaves a (record { table = after; task = t }) ≡ step_one sh bytes (task_at ts i)
      → still a after (set ts i t) ≡ step sh bytes ts i
  step_stores few near a after t e =
      ap (lent_of ts i) e ∙ sym (step_one_lem sh bytes ts i (good_task_lem ts i few near))

  pub step_keeps : length ts ≤ 16 → i < length ts → (a : Answer) (after : List ℕ)
      → leaves a (record { table = after; task = task_at ts i }) ≡ step_one sh bytes (task_at ts i)
      → still a after ts ≡ step sh bytes ts i
  step_keeps few near a after e =
      sym (ap (still a after) (set-get_or ts i no_task)) ∙ step_stores few near a after (task_at ts i) e

-- sixteen records of which the first n are lent: what is left of them, before those that were not
abbrev front : ℕ → List Task → Leaves (List Task) → Leaves (List Task)
front n ts (leaves a us) = leaves a (us ++ drop n ts)

abbrev front_beside : ℕ → List Task → Leaves Lent → Leaves Lent
front_beside n ts (leaves a x) = still a x.table (x.tasks ++ drop n ts)

unfoldable pub give_all : Shape → ℕ → List Task → ℕ → ℕ → Leaves (List Task)
give_all sh key ts n i =
    cond (leb n 16) (front n ts (give sh key (take n ts) i)) (leaves (give_none sh key) ts)

unfoldable pub step_all : Shape → List ℕ → List Task → ℕ → ℕ → Leaves Lent
step_all sh bytes ts n i =
    cond (leb n 16) (front_beside n ts (step sh bytes (take n ts) i)) (still (step_none sh (length bytes)) bytes ts)

module _ (sh : Shape) (key : ℕ) (ts : List Task) (n i : ℕ) where
  pub give_few : n ≤ 16 → (a : Answer) (us : List Task) → leaves a us ≡ give sh key (take n ts) i
      → leaves a (us ++ drop n ts) ≡ give_all sh key ts n i
  unfolding give_all
  give_few few a us e = rw (le-leb n 16 few) (ap (front n ts) e)

  pub give_many : 16 < n → (a : Answer) → a ≡ give_none sh key → leaves a ts ≡ give_all sh key ts n i
  unfolding give_all
  give_many many a e = rw (lt-leb n 16 many) (ap (λ (z : Answer). leaves z ts) e)

module _ (sh : Shape) (bytes : List ℕ) (ts : List Task) (n i : ℕ) where
  pub step_few : n ≤ 16 → (a : Answer) (after : List ℕ) (us : List Task) → still a after us
      ≡ step sh bytes (take n ts) i
      → still a after (us ++ drop n ts) ≡ step_all sh bytes ts n i
  unfolding step_all
  step_few few a after us e = rw (le-leb n 16 few) (ap (front_beside n ts) e)

  pub step_many : 16 < n → (a : Answer) → a ≡ step_none sh (length bytes) → still a bytes ts ≡ step_all sh bytes ts n i
  unfolding step_all
  step_many many a e = rw (lt-leb n 16 many) (ap (λ (z : Answer). still z bytes ts) e)
