-- A table's line (01, The frame program): all words from place 0, four digits each, either letter case.
-- `read_table`: the line read into a lent table. The crate frame_first shows that what is printed is read back.
-- Assumes nothing.
use Rattle.std.specs.Prelude.{ℕ, zero, suc, ◌*◌, ◌/◌, ◌%◌, Bool, true, false, cond, ◌&&◌, List, [], ◌∷◌, length, take, drop, eqb}
use Rattle.rules.specs.declared.Shape.{Shape}
use Rattle.rules.specs.Lists.{all}
use Rattle.rules.specs.Shape.{places, good_table}
use Rattle.frame_rules.specs.Digits.{is_digit, number}

-- digits alone, four for each place
unfoldable pub good_table_line : Shape → List ℕ → Bool
good_table_line sh line = eqb (length line) (4 * places sh) && all is_digit line

-- the bytes of a line's first n words: a word is four digits, the highest first; in the table its low byte comes first
unfoldable pub first_words : ℕ → List ℕ → List ℕ
first_words zero line = []
first_words (suc n) line = (number (take 4 line) % 256) ∷ (number (take 4 line) / 256) ∷ first_words n (drop 4 line)

unfoldable pub table_of_line : List ℕ → List ℕ
table_of_line line = first_words (length line / 4) line

-- whether a line is good, with the lent table as it is left
pub record TableRead : Type 0 where
  pub good : Bool
  pub table : List ℕ

abbrev pub table_read : Bool → List ℕ → TableRead
table_read good table = record { good = good; table = table }

-- a table of another length, or a bad line, changes nothing
unfoldable pub read_table : Shape → List ℕ → List ℕ → TableRead
read_table sh line table =
    cond
    (good_table sh (length table) && good_table_line sh line)
    (table_read true (table_of_line line))
    (table_read false table)
