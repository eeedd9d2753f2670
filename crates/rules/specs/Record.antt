-- A task's record (01, Tasks and their steps): the one with a task number, when it fits, and its fields changed one at
-- a time.
-- Assumes nothing.
use Rattle.std.specs.Prelude.{ℕ, suc, Bool, not, ◌&&◌, ◌||◌, List, length, get_or, ltb, leb, eqb}
use Rattle.rules.specs.declared.Shape.{Shape}
use Rattle.rules.specs.declared.Task.{Task}
use Rattle.rules.specs.Shape.{homes, keys, right_guard}
use Rattle.rules.specs.Entry.{split}

-- the record that `task_at` gives where there is none; no answer depends on it
abbrev pub no_task : Task
no_task = record { key = 0; phase = 0; left = 0; right = 0; hand = 0; goal = 0; mark = 0; answer = 0 }

abbrev pub task_at : List Task → ℕ → Task
task_at ts i = get_or ts i no_task

-- 1 to 16 records, and a task number below their count
unfoldable pub good_task : List Task → ℕ → Bool
good_task ts i = leb (length ts) 16 && ltb i (length ts)

-- H, the home place of the record's key
unfoldable pub home_place_of : Shape → Task → ℕ
home_place_of sh t = (split sh t.key).home_place

-- a number from one to another, both included
abbrev pub within : ℕ → ℕ → ℕ → Bool
within low high x = leb low x && leb x high

-- where a condition holds, so does another
abbrev pub implies : Bool → Bool → Bool
implies a b = not a || b

-- phases 1 to 12: the task is busy
unfoldable pub busy : Task → Bool
busy t = within 1 12 t.phase

-- phases 0 and 13: the task is at rest, idle or done
unfoldable pub at_rest : Task → Bool
at_rest t = eqb t.phase 0 || eqb t.phase 13

-- hand and goal from 1 to 2^m and from left to right; mark 0 to 2; goal at least 2 and above left for mark 1
unfoldable pub fits_hand : Shape → Task → Bool
fits_hand sh t =
    within 1 (homes sh) t.hand
    && within 1 (homes sh) t.goal
    && within t.left t.right t.hand
    && within t.left t.right t.goal
    && leb t.mark 2
    && implies (eqb t.mark 1) (leb 2 t.goal && ltb t.left t.goal)

-- what is asked in phases 1 to 12
unfoldable pub fits_busy : Shape → Task → Bool
fits_busy sh t =
    ltb t.key (keys sh)
    && implies (leb 2 t.phase) (ltb t.left (home_place_of sh t))
    && implies (leb 3 t.phase) (within (suc (home_place_of sh t)) (right_guard sh) t.right)
    && implies (within 8 10 t.phase) (fits_hand sh t)
    && implies (eqb t.phase 8) (eqb t.hand t.left || eqb t.hand t.right)
    && implies (eqb t.phase 9) (not (eqb t.hand t.goal))
    && implies (eqb t.phase 10) (eqb t.hand t.goal)

-- phases 0 and 13 always fit, and no phase above 13 does
unfoldable pub fits : Shape → Task → Bool
fits sh t = at_rest t || (busy t && fits_busy sh t)

-- fields not named keep their values
abbrev pub to_phase : ℕ → Task → Task
to_phase n t =
    record {
      key = t.key;
      phase = n;
      left = t.left;
      right = t.right;
      hand = t.hand;
      goal = t.goal;
      mark = t.mark;
      answer = t.answer;
    }

abbrev pub with_left : ℕ → Task → Task
with_left p t =
    record {
      key = t.key;
      phase = t.phase;
      left = p;
      right = t.right;
      hand = t.hand;
      goal = t.goal;
      mark = t.mark;
      answer = t.answer;
    }

abbrev pub with_right : ℕ → Task → Task
with_right p t =
    record {
      key = t.key;
      phase = t.phase;
      left = t.left;
      right = p;
      hand = t.hand;
      goal = t.goal;
      mark = t.mark;
      answer = t.answer;
    }

abbrev pub with_hand : ℕ → Task → Task
with_hand p t =
    record {
      key = t.key;
      phase = t.phase;
      left = t.left;
      right = t.right;
      hand = p;
      goal = t.goal;
      mark = t.mark;
      answer = t.answer;
    }

abbrev pub with_goal : ℕ → Task → Task
with_goal p t =
    record {
      key = t.key;
      phase = t.phase;
      left = t.left;
      right = t.right;
      hand = t.hand;
      goal = p;
      mark = t.mark;
      answer = t.answer;
    }

abbrev pub with_mark : ℕ → Task → Task
with_mark n t =
    record {
      key = t.key;
      phase = t.phase;
      left = t.left;
      right = t.right;
      hand = t.hand;
      goal = t.goal;
      mark = n;
      answer = t.answer;
    }

abbrev pub with_answer : ℕ → Task → Task
with_answer a t =
    record {
      key = t.key;
      phase = t.phase;
      left = t.left;
      right = t.right;
      hand = t.hand;
      goal = t.goal;
      mark = t.mark;
      answer = a;
    }

-- a task begins again: back to its home
abbrev pub again : Task → Task
again t = to_phase 1 t
