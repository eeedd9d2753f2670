-- The frame program (01): the WHOLE output, as bytes, from the WHOLE input.
-- `output` of an input; `output_from` of the lines that are still to come; `line_in` of one line.
-- Assumes nothing.
use Rattle.std.specs.Prelude.{ℕ, ◌*◌, cond, List, [], ◌∷◌, ◌++◌, take, drop, replicate}
use Rattle.rules.specs.Shape.{places}
use Rattle.frame_rules.specs.declared.First.{First}
use Rattle.frame_rules.specs.declared.Stage.{Stage}
use Rattle.frame_rules.specs.declared.Stage.TheVariants.{AtFirst, Among, Ended}
use Rattle.frame_rules.specs.Digits.{digits_of, word_digits}
use Rattle.frame_rules.specs.Lines.{lines_of, first_of, good_first, keys_of, good_line}
use Rattle.frame_rules.specs.Rounds.{Floor, all_answered, play}

-- how far a run is, and the table's 32,772 bytes
pub record Day : Type 0 where
  pub stage : Stage
  pub table : List ℕ

-- the table starts as 32,772 zero bytes
unfoldable pub dawn : Day
dawn = record { stage = AtFirst; table = replicate 32772 0 }

-- the part of it that the shape uses, and the table with that part as it now is
unfoldable pub used : First → ℕ
used f = 2 * places f.shape

abbrev pub used_part : First → List ℕ → List ℕ
used_part f table = take (used f) table

abbrev pub with_used : First → List ℕ → List ℕ → List ℕ
with_used f part table = part ++ drop (used f) table

-- what one line makes of a run, and prints
pub record After : Type 0 where
  pub day : Day
  pub prints : List ℕ

abbrev pub after : Stage → List ℕ → List ℕ → After
after stage table prints = record { day = record { stage = stage; table = table }; prints = prints }

-- a line feed ends every printed line
abbrev pub printed : List ℕ → List ℕ
printed text = text ++ 10 ∷ []

-- EE
abbrev pub error : List ℕ
error = printed (69 ∷ 69 ∷ [])

-- a bad first line prints EE and ends the run
unfoldable pub first_line : List ℕ → List ℕ → After
first_line table line = cond (good_first line) (after (Among (first_of line)) table []) (after Ended table error)

-- the rounds are over: the answers in key order, or EE and the end of the run
unfoldable pub played_line : First → List ℕ → List ℕ → Floor → After
played_line f table ks p =
    cond
    (all_answered ks p)
    (after (Among f) (with_used f p.table table) (printed (digits_of p.answers)))
    (after Ended (with_used f p.table table) error)

-- a line that is no line of keys prints EE and is passed over
unfoldable pub frame_line : First → List ℕ → List ℕ → After
frame_line f table line =
    cond
    (good_line f.shape line)
    (played_line f table (keys_of line) (play f (used_part f table) (keys_of line)))
    (after (Among f) table error)

abbrev pub line_at : Stage → List ℕ → List ℕ → After
line_at AtFirst table line = first_line table line
line_at (Among f) table line = frame_line f table line
line_at Ended table line = after Ended table []

unfoldable pub line_in : Day → List ℕ → After
line_in d line = line_at d.stage d.table line

-- after the last line: a missing first line is EE; an ended run prints nothing more; else all words from place 0
abbrev pub end_at : Stage → List ℕ → List ℕ
end_at AtFirst table = error
end_at (Among f) table = printed (word_digits (used_part f table))
end_at Ended table = []

unfoldable pub at_end : Day → List ℕ
at_end d = end_at d.stage d.table

unfoldable pub output_from : Day → List (List ℕ) → List ℕ
output_from d [] = at_end d
output_from d (line ∷ lines) = (line_in d line).prints ++ output_from (line_in d line).day lines

unfoldable pub output : List ℕ → List ℕ
output input = output_from dawn (lines_of input)
