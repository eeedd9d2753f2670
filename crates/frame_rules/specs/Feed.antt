-- Feeding the input in pieces: `feed` takes the rest of one line from a piece, `finish` ends the input, each with every
-- lent byte as it leaves it. The crate frame_pieces shows that any pieces, fed and finished, write what Frame says.
-- Assumes nothing.
use Rattle.std.specs.Prelude.{ℕ, suc, ◌+◌, Bool, true, cond, ◌&&◌, List, [], ◌∷◌, ◌++◌, length, take, drop, replicate, leb, ltb, eqb, Result, Ok, Err}
use Rattle.rules.specs.Lists.{at_front}
use Rattle.rules.specs.declared.Refusal.{Refusal}
use Rattle.rules.specs.Answer.{number_of_refusal}
use Rattle.frame_rules.specs.declared.Fed.{Fed}
use Rattle.frame_rules.specs.declared.First.{First}
use Rattle.frame_rules.specs.declared.Run.{Run}
use Rattle.frame_rules.specs.declared.Stage.{Stage}
use Rattle.frame_rules.specs.declared.Stage.TheVariants.{AtFirst, Among, Ended}
use Rattle.frame_rules.specs.Lines.{shape_in_limits, tasks_in_limits}
use Rattle.frame_rules.specs.Frame.{Day, After, line_in, at_end}

-- what is lent: the line begun, the table, and room for what is printed
pub record Buffers : Type 0 where
  pub line : List ℕ
  pub table : List ℕ
  pub out : List ℕ

abbrev pub lent_buffers : List ℕ → List ℕ → List ℕ → Buffers
lent_buffers line table out = record { line = line; table = table; out = out }

-- a run and the table as Frame has them
abbrev pub day_of : Run → List ℕ → Day
day_of run table = record { stage = run.stage; table = table }

-- the run of a stage, with no byte of a line held
abbrev pub run_of : Stage → Run
run_of stage = record { stage = stage; held = 0 }

abbrev pub with_held : Run → ℕ → Run
with_held run n = record { stage = run.stage; held = n }

-- among frames, whether what the first line said passes a test
abbrev pub if_among : Stage → (First → Bool) → Bool
if_among AtFirst test = true
if_among (Among f) test = test f
if_among Ended test = true

abbrev pub good_shape_at : Stage → Bool
good_shape_at stage = if_among stage (λ (f : First). shape_in_limits f.shape)

abbrev pub good_tasks_at : Stage → Bool
good_tasks_at stage = if_among stage (λ (f : First). tasks_in_limits f.tasks)

-- 0, or the refusal's number: 1 by shape and table, 3 by the tasks, 9 where a line of 4,096 bytes or what is printed
-- could not be held (at most a line of answers, 1,025 bytes, and the table's, 65,545)
unfoldable pub refusal : Run → Buffers → ℕ
refusal run b =
    cond (good_shape_at run.stage && eqb (length b.table) 32772)
    (cond (good_tasks_at run.stage)
    (cond (leb 4096 (length b.line) && leb 66570 (length b.out)) 0 9)
    3)
    1

-- how many bytes stand before the first line feed
unfoldable pub line_length : List ℕ → ℕ
line_length [] = 0
line_length (b ∷ bytes) = cond (eqb b 10) 0 (suc (line_length bytes))

-- the line begun, and how much of it is held: no more than 4,096 bytes
unfoldable pub held_after : ℕ → ℕ → ℕ
held_after held n = cond (leb (held + n) 4096) (held + n) 4097

unfoldable pub line_after : List ℕ → ℕ → List ℕ → List ℕ
line_after line held more =
    cond
    (leb (held + length more) 4096)
    (take held line ++ more ++ drop (held + length more) line)
    line

-- the line that is held; one that is too long is bad, whatever it holds
unfoldable pub held_line : ℕ → List ℕ → List ℕ
held_line held line = cond (leb held 4096) (take held line) (replicate 4097 0)

-- what feeding leaves: the run that follows, the point reached in the piece, and how much is printed
pub data Feeding : Type 0 where
  feeds : Run → ℕ → ℕ → Buffers → Feeding
  refused : ℕ → Buffers → Feeding

abbrev pub fed_says : Result Fed Refusal → Buffers → Feeding
fed_says (Ok f) b = feeds f.run f.at f.wrote b
fed_says (Err n) b = refused (number_of_refusal n) b

-- a line feed was met
abbrev pub closes : ℕ → Buffers → After → Feeding
closes at b a =
    feeds
    (run_of a.day.stage)
    at
    (length a.prints)
    (lent_buffers b.line a.day.table (at_front a.prints b.out))

-- the line's bytes at the point reached are held; where a line feed follows, that is a line
unfoldable pub held_or_closed : Run → ℕ → ℕ → Bool → Buffers → Feeding
held_or_closed run at held met b =
    cond
    met
    (closes (suc at) b (line_in (day_of run b.table) (held_line held b.line)))
    (feeds (with_held run held) at 0 b)

unfoldable pub feed_good : Run → List ℕ → ℕ → Buffers → Feeding
feed_good run rest at b =
    held_or_closed run (at + line_length rest) (held_after run.held (line_length rest))
    (ltb (line_length rest) (length rest))
    (lent_buffers (line_after b.line run.held (take (line_length rest) rest)) b.table b.out)

-- feed (the run, a piece, the point reached in it, what is lent)
unfoldable pub feed : Run → List ℕ → ℕ → Buffers → Feeding
feed run piece at b =
    cond (eqb (refusal run b) 0) (feed_good run (drop at piece) at b) (refused (refusal run b) b)

-- what the end of the input leaves
pub data Finishing : Type 0 where
  finishes : ℕ → Buffers → Finishing
  refused_too : ℕ → Buffers → Finishing

abbrev pub finish_says : Result ℕ Refusal → Buffers → Finishing
finish_says (Ok n) b = finishes n b
finish_says (Err n) b = refused_too (number_of_refusal n) b

-- a last line that lacks its line feed is a line
unfoldable pub last_line : Run → Buffers → After
last_line run b =
    cond
    (eqb run.held 0)
    (record { day = day_of run b.table; prints = [] })
    (line_in (day_of run b.table) (held_line run.held b.line))

abbrev pub ends_with : Buffers → List ℕ → List ℕ → Finishing
ends_with b table text = finishes (length text) (lent_buffers b.line table (at_front text b.out))

unfoldable pub finish_good : Buffers → After → Finishing
finish_good b a = ends_with b a.day.table (a.prints ++ at_end a.day)

unfoldable pub finish : Run → Buffers → Finishing
finish run b =
    cond (eqb (refusal run b) 0) (finish_good b (last_line run b)) (refused_too (refusal run b) b)
