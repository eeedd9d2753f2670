-- One task's turn on its own record (01, The frame program). `turn_one`: the turn of task i on the floor is that turn,
-- with what it leaves put back.
-- Assumes nothing.
use Prim.Native.Nat.{ℕ, suc, ◌≤◌, ◌<◌}
use Rattle.std.specs.Prelude.{◌≡◌, refl, Bool, List, length, get_or, set, ltb, eqb, Err, Ok, Result}
use Rattle.std.proofs.Math.Path.{sym, ap}
use Rattle.std.proofs.Common.{◌∙◌, get_or-set_same}
use Rattle.std.proofs.Math.Bool.{true, false, cond}
use Rattle.std.proofs.Math.Seq.{set-get_or, set_out}
use Rattle.rules.specs.declared.Refusal.{Refusal}
use Rattle.rules.specs.declared.Task.{Task}
use Rattle.rules.specs.Record.{at_rest, no_task, task_at, good_task}
use Rattle.rules.specs.Answer.{Leaves, leaves, turn_says}
use Rattle.rules.specs.Give.{stored_at, give}
use Rattle.rules.specs.Step.{step}
use Rattle.task_step.specs.Given.{give_one, give_one_lem}
use Rattle.theory.specs.Record.{good_task_lem}
use Rattle.task_step.specs.Stepping.{Left, step_says, step_one, lent_of, step_one_lem}
use Rattle.frame_rules.specs.declared.First.{First}
use Rattle.frame_rules.specs.Rounds.{Floor, after_take, after_step, turn}
use Rattle.frame_rounds.specs.declared.turn.Sitting.{Sitting}

-- the record that a call leaves
abbrev pub left_task : Leaves Task → Task
left_task (leaves a t) = t

-- what a turn leaves: the table, the answers, and the task as it now sits
pub record Sat : Type 0 where
  pub table : List ℕ
  pub answers : List ℕ
  pub sitting : Sitting

abbrev pub sat : List ℕ → List ℕ → Sitting → Sat
sat table answers s = record { table = table; answers = answers; sitting = s }

-- a task at rest takes the next key, if there is one
unfoldable pub take_next : First → List ℕ → Sitting → Sitting
take_next f ks s =
    cond (ltb s.taken (length ks))
    (record {
      task = left_task (give_one f.shape (get_or ks s.taken 0) s.task);
      serving = s.taken;
      taken = suc s.taken;
    })
    s

-- a task that is done has answered its key
unfoldable pub answered : List ℕ → ℕ → Task → List ℕ
answered answers i t = cond (eqb t.phase 13) (set answers i t.answer) answers

abbrev pub seated : Sitting → Task → Sitting
seated s t = record { task = t; serving = s.serving; taken = s.taken }

abbrev pub after_one : List ℕ → Sitting → Leaves Left → Sat
after_one answers s (leaves a l) = sat l.table (answered answers s.serving l.task) (seated s l.task)

unfoldable pub make_step : First → List ℕ → List ℕ → Sitting → Sat
make_step f table answers s = after_one answers s (step_one f.shape table s.task)

unfoldable pub turn_one : First → List ℕ → List ℕ → List ℕ → Sitting → Sat
turn_one f ks table answers s =
    cond (at_rest s.task) (sat table answers (take_next f ks s)) (make_step f table answers s)

-- the task that sits at a place of the floor, and the floor with what its turn leaves
abbrev pub sitting_at : Floor → ℕ → Sitting
sitting_at p i = record { task = task_at p.tasks i; serving = get_or p.serving i 0; taken = p.taken }

abbrev pub put_back : Floor → ℕ → Sat → Floor
put_back p i x =
    record {
      table = x.table;
      tasks = set p.tasks i x.sitting.task;
      serving = set p.serving i x.sitting.serving;
      taken = x.sitting.taken;
      answers = x.answers;
    }

module _ (f : First) (ks : List ℕ) (i : ℕ) (p : Floor) (here : i < length p.tasks)
    (few : length p.tasks ≤ 16)
  where
    good : good_task p.tasks i ≡ true
    good = good_task_lem p.tasks i few here

    -- a task and a number that stay as they were are put back as they were
    put_same : p ≡ put_back p i (sat p.table p.answers (sitting_at p i))
    put_same = rw (set-get_or p.tasks i no_task, set-get_or p.serving i 0)

    took : (x : Leaves Task) →
        after_take p i (stored_at p.tasks i x)
        ≡ put_back p i
        (sat p.table p.answers (record { task = left_task x; serving = p.taken; taken = suc p.taken }))
    took (leaves a t) = refl

    takes : after_take p i (give f.shape (get_or ks p.taken 0) p.tasks i)
        ≡ put_back p i
        (sat p.table p.answers
        (record {
          task = left_task (give_one f.shape (get_or ks p.taken 0) (task_at p.tasks i));
          serving = p.taken;
          taken = suc p.taken;
        }))
    takes = ap (after_take p i) (give_one_lem f.shape (get_or ks p.taken 0) p.tasks i good)
        ∙ took (give_one f.shape (get_or ks p.taken 0) (task_at p.tasks i))

    stepped : (x : Leaves Left) →
        after_step p i (lent_of p.tasks i x) ≡ put_back p i (after_one p.answers (sitting_at p i) x)
    unfolding answered
    stepped (leaves a l) = rw (get_or-set_same p.tasks i l.task no_task here, set-get_or p.serving i 0)

    pub turn_one_lem : turn f ks i p ≡ put_back p i (turn_one f ks p.table p.answers (sitting_at p i))
    unfolding turn turn_one take_next make_step
    turn_one_lem = go (at_rest (task_at p.tasks i)) (ltb p.taken (length ks))
      where
        go : (rest more : Bool) →
            cond rest
            (cond more (after_take p i (give f.shape (get_or ks p.taken 0) p.tasks i)) p)
            (after_step p i (step f.shape p.table p.tasks i))
            ≡ put_back p i
            (cond rest
            (sat p.table p.answers
            (cond more
            (record {
              task = left_task (give_one f.shape (get_or ks p.taken 0) (task_at p.tasks i));
              serving = p.taken;
              taken = suc p.taken;
            })
            (sitting_at p i)))
            (after_one p.answers (sitting_at p i)
            (step_one f.shape p.table (task_at p.tasks i))))
        go true true = takes
        go true false = put_same
        go false more = ap (after_step p i) (step_one_lem f.shape p.table p.tasks i good)
            ∙ stepped (step_one f.shape p.table (task_at p.tasks i))

-- a step's turn, and the record kept of it
pub after_says :
    (answers : List ℕ) (s : Sitting) (x : Result Task Refusal) (after : List ℕ) →
    after_one answers s (step_says s.task x after)
    ≡ sat after (answered answers s.serving (left_task (turn_says s.task x)))
    (seated s (left_task (turn_says s.task x)))
after_says answers s (Ok u) after = refl
after_says answers s (Err n) after = refl

-- a done task's answer that has no slot is lost
pub answer_lost :
    (answers : List ℕ) (i : ℕ) (t : Task) → t.phase ≡ 13 → length answers ≤ i → answers ≡ answered answers i t
unfolding answered
answer_lost answers i t e beyond = rw e (sym (set_out answers i t.answer beyond))
