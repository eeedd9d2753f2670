-- Runs of gives and steps, over the definitions that the contracts of give and step cite: what is lent, and the
-- history.
-- Assumes nothing.
use Rattle.std.specs.Prelude.{ℕ, Bool, cond, ◌&&◌, List, [], ◌∷◌, eqb}
use Rattle.rules.specs.declared.Shape.{Shape}
use Rattle.rules.specs.declared.Task.{Task}
use Rattle.rules.specs.Lists.{count, all}
use Rattle.rules.specs.Answer.{Leaves, leaves}
use Rattle.rules.specs.Record.{at_rest, task_at}
use Rattle.rules.specs.Give.{give}
use Rattle.rules.specs.Step.{Lent, step}

-- a give (task number, key) or a step (task number)
pub data Action : Type 0 where
  gives : ℕ → ℕ → Action
  steps : ℕ → Action

-- a done task's answer
pub record Said : Type 0 where
  pub key : ℕ
  pub answer : ℕ

-- what is lent, and the history: the accepted keys and the answers, newest first
pub record World : Type 0 where
  pub table : List ℕ
  pub tasks : List Task
  pub given : List ℕ
  pub said : List Said

-- the history before anything happened
abbrev pub begin : List ℕ → List Task → World
begin bytes ts = record { table = bytes; tasks = ts; given = []; said = [] }

-- an accepted give is remembered
abbrev pub after_give : World → ℕ → Leaves (List Task) → World
after_give w key (leaves a ts) =
    record {
      table = w.table;
      tasks = ts;
      given = cond (eqb a.number 0) (key ∷ w.given) w.given;
      said = w.said;
    }

-- a task that becomes done has said its answer
abbrev pub after_step : World → ℕ → Leaves Lent → World
after_step w i (leaves a l) =
    record {
      table = l.table;
      tasks = l.tasks;
      given = w.given;
      said =
          cond
          (eqb a.number 0 && eqb (task_at l.tasks i).phase 13)
          (record { key = (task_at l.tasks i).key; answer = (task_at l.tasks i).answer } ∷ w.said)
          w.said;
    }

unfoldable pub act : Shape → World → Action → World
act sh w (gives i key) = after_give w key (give sh key w.tasks i)
act sh w (steps i) = after_step w i (step sh w.table w.tasks i)

-- any number of actions, one after the other
unfoldable pub course : Shape → World → List Action → World
course sh w [] = w
course sh w (a ∷ more) = course sh (act sh w a) more

-- every task is idle or done
unfoldable pub quiet : List Task → Bool
quiet ts = all at_rest ts

-- how often a key was given, answered, and answered inserted
unfoldable pub times_given : ℕ → List ℕ → ℕ
times_given key ks = count (eqb key) ks

unfoldable pub times_said : ℕ → List Said → ℕ
times_said key ss = count (λ (s : Said). eqb s.key key) ss

unfoldable pub times_inserted : ℕ → List Said → ℕ
times_inserted key ss = count (λ (s : Said). eqb s.key key && eqb s.answer 2) ss
