-- What begins a run of a schedule (docs/SCHEDULE.md): `begun`, of any first line, and `words_read`, of any second line.
-- `begun_good`, `begun_bad`: by what the reader of a first line answers.
-- Assumes nothing.
use Rattle.std.specs.Prelude.{ℕ, ◌≡◌, Bool, true, cond, List, ◌++◌, length, take, drop, eqb, Option, Some, None, replicate}
use Rattle.std.proofs.Common.{ap, ◌∙◌}
use Rattle.std.proofs.Math.Path.{sym}
use Rattle.rules.specs.declared.Task.{Task}
use Rattle.rules.specs.Record.{no_task}
use Rattle.frame_rules.specs.declared.First.{First}
use Rattle.frame_rules.specs.Lines.{read_first}
use Rattle.frame_rules.specs.Frame.{used}
use Rattle.frame_rules.specs.TableLine.{TableRead, read_table}
use Rattle.test_schedule.specs.declared.numbers.Numbers.{Numbers}
use Rattle.test_schedule.specs.declared.run.Run.{Run}

numbers : First → Numbers
numbers f = record { shape = f.shape; records = f.tasks }

-- zero words, of which the shape uses the first ones, and records of no task
run_of : First → Run
run_of f = record { first = numbers f; used = used f; table = replicate 32772 0; tasks = replicate 255 no_task }

begun_if : Option First → Option Run
begun_if (Some f) = Some (run_of f)
begun_if None = None

-- a bad first line begins none
pub begun : List ℕ → Option Run
begun line = begun_if (read_first line)

pub begun_good :
    (line : List ℕ) (x : Option First) (f : First) (u : ℕ) (t : Task) →
    x ≡ read_first line → x ≡ Some f → u ≡ used f → t ≡ no_task →
    Some (record {
      first = record { shape = f.shape; records = f.tasks };
      used = u;
      table = replicate 32772 0;
      tasks = replicate 255 t;
    }) ≡ begun line
unfolding numbers begun_if begun run_of
begun_good line x f u t read is fits none =
    ap (λ (n : ℕ). Some (run_by n t)) fits
    ∙ ap (λ (v : Task). Some (run_by (used f) v)) none
    ∙ ap begun_if (sym is ∙ read)
  where
    run_by : ℕ → Task → Run
    run_by n v = record { first = numbers f; used = n; table = replicate 32772 0; tasks = replicate 255 v }

pub begun_bad : (line : List ℕ) (x : Option First) → x ≡ read_first line → x ≡ None → None ≡ begun line
unfolding begun_if begun
begun_bad line x read is = ap begun_if (sym is ∙ read)

-- whether a second line is good, with the run as it is left
pub record WordsRead : Type 0 where
  pub good : Bool
  pub run : Run

abbrev pub words_told : Bool → Run → WordsRead
words_told good run = record { good = good; run = run }

-- the first bytes of the table are those that the line's reader leaves
unfoldable pub with_words : Run → List ℕ → Run
with_words run part =
    record {
      first = run.first;
      used = run.used;
      table = part ++ drop run.used run.table;
      tasks = run.tasks;
    }

unfoldable pub words_from : Run → TableRead → WordsRead
words_from run x = words_told x.good (with_words run x.table)

-- an empty line leaves the words zero
unfoldable pub words_read : Run → List ℕ → WordsRead
words_read run line =
    cond (eqb (length line) 0) (words_told true run)
    (words_from run (read_table run.first.shape line (take run.used run.table)))
