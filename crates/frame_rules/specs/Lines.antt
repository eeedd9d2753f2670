-- Lines, and what they must hold (01, The frame program): the lines of an input, the first line, a line of keys.
-- Assumes nothing.
use Rattle.std.specs.Prelude.{ℕ, zero, suc, ◌/◌, ◌%◌, Bool, cond, ◌&&◌, List, [], ◌∷◌, ◌++◌, length, take, drop, leb, ltb, eqb, None, Option, Some}
use Rattle.rules.specs.declared.Shape.{Shape}
use Rattle.rules.specs.Lists.{all}
use Rattle.rules.specs.Shape.{shape_of, keys}
use Rattle.rules.specs.Record.{within}
use Rattle.frame_rules.specs.declared.First.{First}
use Rattle.frame_rules.specs.Digits.{is_digit, number}

-- the lines of an input behind a line already begun: each is ended by a line feed (10), the last may lack it
unfoldable pub lines_after : List ℕ → List ℕ → List (List ℕ)
lines_after [] [] = []
lines_after (c ∷ cs) [] = (c ∷ cs) ∷ []
lines_after begun (b ∷ input) = cond (eqb b 10) (begun ∷ lines_after [] input) (lines_after (begun ++ b ∷ []) input)

unfoldable pub lines_of : List ℕ → List (List ℕ)
lines_of input = lines_after [] input

-- the first line that a call's bare numbers say
abbrev pub first : ℕ → ℕ → ℕ → First
first m r n = record { shape = shape_of m r; tasks = n }

-- the first line: m, r and the number of tasks, two digits each
unfoldable pub first_of : List ℕ → First
first_of line = first (number (take 2 line)) (number (take 2 (drop 2 line))) (number (take 2 (drop 4 line)))

-- m 1 to 14, r 1 to 12
unfoldable pub shape_in_limits : Shape → Bool
shape_in_limits sh = within 1 14 sh.m && within 1 12 sh.r

-- 1 to 16 tasks
unfoldable pub tasks_in_limits : ℕ → Bool
tasks_in_limits n = within 1 16 n

unfoldable pub in_limits : First → Bool
in_limits f = shape_in_limits f.shape && tasks_in_limits f.tasks

unfoldable pub good_first : List ℕ → Bool
good_first line = eqb (length line) 6 && all is_digit line && in_limits (first_of line)

-- a first line as it is read
unfoldable pub read_first : List ℕ → Option First
read_first line = cond (good_first line) (Some (first_of line)) None

-- a line's first n keys, eight digits each
unfoldable pub first_keys : ℕ → List ℕ → List ℕ
first_keys zero line = []
first_keys (suc n) line = number (take 8 line) ∷ first_keys n (drop 8 line)

unfoldable pub keys_of : List ℕ → List ℕ
keys_of line = first_keys (length line / 8) line

-- digits alone, a multiple of eight, at most 512 keys, each in range
unfoldable pub good_line : Shape → List ℕ → Bool
good_line sh line =
    all is_digit line && eqb (length line % 8) 0 && leb (length line) 4096
    && all (λ (key : ℕ). ltb key (keys sh)) (keys_of line)
