-- The terms in which Day speaks: a line's keys with their answers, and the run after some lines, its history and what
-- it has printed.
-- Assumes nothing.
use Rattle.std.specs.Prelude.{ℕ, ◌≡◌, Bool, cond, ◌&&◌, List, [], ◌∷◌, ◌++◌, map, length, take, replicate, eqb, leb}
use Rattle.rules.specs.Lists.{count}
use Rattle.rules.specs.Record.{no_task}
use Rattle.frame_rules.specs.declared.First.{First}
use Rattle.frame_rules.specs.declared.Stage.{Stage}
use Rattle.frame_rules.specs.declared.Stage.TheVariants.{AtFirst, Among, Ended}
use Rattle.frame_rules.specs.Digits.{digits_of}
use Rattle.frame_rules.specs.Lines.{keys_of, good_line}
use Rattle.frame_rules.specs.Rounds.{Floor, all_answered, play}
use Rattle.frame_rules.specs.Frame.{Day, used_part, line_in, printed}
use Rattle.together.specs.Machine.{Action, Said, begin, course}

-- keys, each with its answer
unfoldable pub paired : List ℕ → List ℕ → List Said
paired [] answers = []
paired (k ∷ ks) [] = []
paired (k ∷ ks) (a ∷ answers) = record { key = k; answer = a } ∷ paired ks answers

-- the keys alone
abbrev pub keys_in : List Said → List ℕ
keys_in past = map (λ (s : Said). s.key) past

-- the keys that were answered inserted
unfoldable pub inserted_in : List Said → List ℕ
inserted_in [] = []
inserted_in (s ∷ past) = cond (eqb s.answer 2) (s.key ∷ inserted_in past) (inserted_in past)

-- those that have an answer by now, and pass a test
abbrev pub answered_so : (Said → Bool) → Said → Bool
answered_so p s = leb 1 s.answer && p s

-- a floor is reached by a course of gives and steps from idle tasks: it has the course's table and tasks; the keys
-- accepted are those taken, and the answers said are those of the line, each up to its order (as many pass any test)
pub record Follows (f : First) (bytes ks : List ℕ) (floor : Floor) : Type 0 where
  pub actions : List Action
  pub same_table : (course f.shape (begin bytes (replicate f.tasks no_task)) actions).table ≡ floor.table
  pub same_tasks : (course f.shape (begin bytes (replicate f.tasks no_task)) actions).tasks ≡ floor.tasks
  pub as_many : length floor.answers ≡ length ks
  pub same_keys :
      (p : ℕ → Bool) →
      count p (course f.shape (begin bytes (replicate f.tasks no_task)) actions).given
      ≡ count p (take floor.taken ks)
  pub same_answers :
      (p : Said → Bool) →
      count p (course f.shape (begin bytes (replicate f.tasks no_task)) actions).said
      ≡ count (answered_so p) (paired ks floor.answers)

-- what a line of keys adds to the history: its keys with their answers, if the rounds answered them all
unfoldable pub played_history : List ℕ → Floor → List Said
played_history ks p = cond (all_answered ks p) (paired ks p.answers) []

unfoldable pub frame_history : First → List ℕ → List ℕ → List Said
frame_history f table line =
    cond
    (good_line f.shape line)
    (played_history (keys_of line) (play f (used_part f table) (keys_of line)))
    []

abbrev pub history_at : Stage → List ℕ → List ℕ → List Said
history_at AtFirst table line = []
history_at (Among f) table line = frame_history f table line
history_at Ended table line = []

-- what one line adds to the history of a run
unfoldable pub line_history : Day → List ℕ → List Said
line_history d line = history_at d.stage d.table line

-- the run after some lines, what it has printed by then, and its history: the accepted keys with their answers, in
-- order
unfoldable pub day_after : Day → List (List ℕ) → Day
day_after d [] = d
day_after d (line ∷ lines) = day_after (line_in d line).day lines

unfoldable pub printed_by : Day → List (List ℕ) → List ℕ
printed_by d [] = []
printed_by d (line ∷ lines) = (line_in d line).prints ++ printed_by (line_in d line).day lines

unfoldable pub history : Day → List (List ℕ) → List Said
history d [] = []
history d (line ∷ lines) = line_history d line ++ history (line_in d line).day lines

-- the answers of a history as a line of keys prints them
abbrev pub shown_answers : List Said → List ℕ
shown_answers past = printed (digits_of (map (λ (s : Said). s.answer) past))
