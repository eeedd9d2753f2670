-- One line as a call (a line's bytes in; passed over, ended, or the answers), with every lent byte and slot as it
-- leaves them. It stands apart from the reading of input.
-- Assumes nothing.
use Rattle.std.specs.Prelude.{ℕ, cond, List, ◌++◌, length, drop, leb, Result, Ok, Err}
use Rattle.rules.specs.Shape.{good_table}
use Rattle.rules.specs.declared.Refusal.{Refusal}
use Rattle.rules.specs.Answer.{number_of_refusal}
use Rattle.frame_rules.specs.declared.First.{First}
use Rattle.frame_rules.specs.declared.LineAnswer.{LineAnswer}
use Rattle.frame_rules.specs.declared.LineAnswer.TheVariants as line_answer
use Rattle.frame_rules.specs.Lines.{tasks_in_limits, keys_of, good_line}
use Rattle.frame_rules.specs.Rounds.{Floor, all_answered, play}

-- what the line came to: passed over; ended; its n keys answered; or a refusal's number
pub data Came : Type 0 where
  passed_over : Came
  ended : Came
  answered : ℕ → Came
  refused : ℕ → Came

-- that, with the table and the slots for answers as they are left
pub record Line : Type 0 where
  pub came : Came
  pub table : List ℕ
  pub slots : List ℕ

abbrev pub line_says : Result LineAnswer Refusal → Came
line_says (Ok line_answer.PassedOver) = passed_over
line_says (Ok line_answer.Ended) = ended
line_says (Ok (line_answer.Answered n)) = answered n
line_says (Err n) = refused (number_of_refusal n)

-- nothing lent changes
abbrev pub left_alone : Came → List ℕ → List ℕ → Line
left_alone c bytes slots = record { came = c; table = bytes; slots = slots }

-- the answers stand at the front of the slots
unfoldable pub played : List ℕ → List ℕ → Floor → Line
played ks slots p =
    record {
      came = cond (all_answered ks p) (answered (length ks)) ended;
      table = p.table;
      slots = p.answers ++ drop (length ks) slots;
    }

-- line (shape and number of tasks, the lent table, a line's bytes, the lent slots): 1 by shape and table, 3 where the
-- tasks are none or more than 16, 9 where a good line has more keys than there are slots
unfoldable pub line : First → List ℕ → List ℕ → List ℕ → Line
line f bytes text slots =
    cond (good_table f.shape (length bytes))
    (cond (tasks_in_limits f.tasks)
    (cond (good_line f.shape text)
    (cond (leb (length (keys_of text)) (length slots))
    (played (keys_of text) slots (play f bytes (keys_of text)))
    (left_alone (refused 9) bytes slots))
    (left_alone passed_over bytes slots))
    (left_alone (refused 3) bytes slots))
    (left_alone (refused 1) bytes slots)
