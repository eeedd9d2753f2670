-- One line's keys run through the tasks in rounds (01, The frame program): who takes a key, who steps, when a key is
-- answered, and the limit of rounds.
-- Assumes nothing.
use Rattle.std.specs.Prelude.{ℕ, zero, suc, ◌+◌, ◌*◌, Bool, cond, ◌&&◌, List, length, get_or, set, replicate, ltb, eqb}
use Rattle.rules.specs.declared.Shape.{Shape}
use Rattle.rules.specs.declared.Task.{Task}
use Rattle.rules.specs.Lists.{all}
use Rattle.rules.specs.Shape.{places}
use Rattle.rules.specs.Record.{at_rest, no_task, task_at}
use Rattle.rules.specs.Answer.{Leaves, leaves}
use Rattle.rules.specs.Give.{give}
use Rattle.rules.specs.Step.{Lent, step}
use Rattle.frame_rules.specs.declared.First.{First}

-- where a line stands: the table, the tasks, which of the line's keys each task holds (by number, from 0), how many
-- keys are taken, and the answers in key order (0 where there is none yet)
pub record Floor : Type 0 where
  pub table : List ℕ
  pub tasks : List Task
  pub serving : List ℕ
  pub taken : ℕ
  pub answers : List ℕ

-- idle tasks, and no key taken
unfoldable pub start : List ℕ → ℕ → List ℕ → Floor
start bytes n ks =
    record {
      table = bytes;
      tasks = replicate n no_task;
      serving = replicate n 0;
      taken = 0;
      answers = replicate (length ks) 0;
    }

-- task i takes the line's next key
abbrev pub after_take : Floor → ℕ → Leaves (List Task) → Floor
after_take p i (leaves a ts) =
    record {
      table = p.table;
      tasks = ts;
      serving = set p.serving i p.taken;
      taken = suc p.taken;
      answers = p.answers;
    }

-- task i has made a step; if it is done, its key is answered
abbrev pub after_step : Floor → ℕ → Leaves Lent → Floor
after_step p i (leaves a l) =
    record {
      table = l.table;
      tasks = l.tasks;
      serving = p.serving;
      taken = p.taken;
      answers =
          cond
          (eqb (task_at l.tasks i).phase 13)
          (set p.answers (get_or p.serving i 0) (task_at l.tasks i).answer)
          p.answers;
    }

-- an idle or done task takes the next key if there is one, else does nothing; any other task makes one step
unfoldable pub turn : First → List ℕ → ℕ → Floor → Floor
turn f ks i p =
    cond
    (at_rest (task_at p.tasks i))
    (cond (ltb p.taken (length ks))
    (after_take p i (give f.shape (get_or ks p.taken 0) p.tasks i))
    p)
    (after_step p i (step f.shape p.table p.tasks i))

-- the turns of n tasks, from task i up
unfoldable pub turns : First → List ℕ → ℕ → ℕ → Floor → Floor
turns f ks zero i p = p
turns f ks (suc n) i p = turns f ks n (suc i) (turn f ks i p)

unfoldable pub round : First → List ℕ → Floor → Floor
round f ks p = turns f ks (length p.tasks) 0 p

-- all the line's keys are answered: each is taken, and each task that took one is done
unfoldable pub all_answered : List ℕ → Floor → Bool
all_answered ks p = eqb p.taken (length ks) && all at_rest p.tasks

-- rounds until then, n at most
unfoldable pub rounds : First → List ℕ → ℕ → Floor → Floor
rounds f ks zero p = p
rounds f ks (suc n) p = cond (all_answered ks p) p (rounds f ks n (round f ks p))

-- how many rounds a line of n keys may take
unfoldable pub limit : Shape → ℕ → ℕ
limit sh n = n * (8 * places sh + 66)

-- a line's keys run through the tasks
unfoldable pub play : First → List ℕ → List ℕ → Floor
play f bytes ks = rounds f ks (limit f.shape (length ks)) (start bytes f.tasks ks)
