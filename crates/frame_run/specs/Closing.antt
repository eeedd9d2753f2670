-- What a whole line leaves, as the code has it: the run that follows, how much is printed, the table and the output.
-- Assumes nothing.
use Rattle.std.specs.Prelude.{ℕ, Bool, true, cond, List, length, take, leb, eqb}
use Rattle.rules.specs.Lists.{at_front}
use Rattle.frame_rules.specs.declared.First.{First}
use Rattle.frame_rules.specs.declared.Run.{Run}
use Rattle.frame_rules.specs.declared.Stage.TheVariants.{Among, Ended}
use Rattle.frame_rules.specs.Digits.{digits_of}
use Rattle.frame_rules.specs.Frame.{After, after, printed, error, line_in}
use Rattle.frame_rules.specs.Call.{Came, passed_over, answered, ended, refused}
use Rattle.frame_rules.specs.Feed.{Buffers, run_of, day_of, held_line}
use Rattle.frame_run.specs.declared.close.Closed.{Closed}

-- how much is printed, and the buffer at whose front it stands
pub record Shown : Type 0 where
  pub wrote : ℕ
  pub out : List ℕ

abbrev pub shown : ℕ → List ℕ → Shown
shown n out = record { wrote = n; out = out }

abbrev pub printing : List ℕ → List ℕ → Shown
printing text out = shown (length text) (at_front text out)

-- what a whole line leaves
pub record Closing : Type 0 where
  pub run : Run
  pub wrote : ℕ
  pub table : List ℕ
  pub out : List ℕ

abbrev pub closed : Closed → List ℕ → List ℕ → Closing
closed c table out = record { run = c.run; wrote = c.wrote; table = table; out = out }

abbrev pub closing : After → List ℕ → Closing
closing a out =
    record {
      run = run_of a.day.stage;
      wrote = length a.prints;
      table = a.day.table;
      out = at_front a.prints out;
    }

-- ---- what the call for one line came to, as what the line makes of the run; a refusal is never met
abbrev pub line_came : First → Came → List ℕ → List ℕ → After
line_came f passed_over slots table = after (Among f) table error
line_came f (answered n) slots table = after (Among f) table (printed (digits_of (take n slots)))
line_came f ended slots table = after Ended table error
line_came f (refused n) slots table = after Ended table error

-- no more answers than slots
abbrev pub few_answers : Came → Bool
few_answers passed_over = true
few_answers (answered n) = leb n 512
few_answers ended = true
few_answers (refused n) = true

-- ---- a last line that lacks its line feed; where none is begun, the run stays as it is
unfoldable pub last_closing : Run → Buffers → Closing
last_closing run b =
    cond
    (eqb run.held 0)
    (record { run = run; wrote = 0; table = b.table; out = b.out })
    (closing (line_in (day_of run b.table) (held_line run.held b.line)) b.out)
