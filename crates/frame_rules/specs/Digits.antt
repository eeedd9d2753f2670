-- Hexadecimal digits (01, The frame program): either letter case is read, capitals are printed.
-- `worth`, `number`: what is read. `digits_of`, `word_digits`: what is printed.
-- Assumes nothing.
use Rattle.std.specs.Prelude.{ℕ, ◌+◌, ◌*◌, ◌-◌, ◌/◌, ◌%◌, Bool, cond, ◌||◌, List, [], ◌∷◌, leb}
use Rattle.rules.specs.Record.{within}

-- 0 to 9, A to F, a to f
unfoldable pub is_digit : ℕ → Bool
is_digit c = within 48 57 c || within 65 70 c || within 97 102 c

-- what a digit is worth
unfoldable pub worth : ℕ → ℕ
worth c = cond (leb c 57) (c - 48) (cond (leb c 70) (c - 55) (c - 87))

-- the number that digits write, the highest first, behind a number already read
unfoldable pub number_after : ℕ → List ℕ → ℕ
number_after n [] = n
number_after n (c ∷ cs) = number_after (16 * n + worth c) cs

unfoldable pub number : List ℕ → ℕ
number cs = number_after 0 cs

-- the capital digit of a number below 16
unfoldable pub glyph : ℕ → ℕ
glyph d = cond (leb d 9) (48 + d) (55 + d)

-- numbers of two digits each, no gaps
unfoldable pub digits_of : List ℕ → List ℕ
digits_of [] = []
digits_of (n ∷ ns) = glyph (n / 16) ∷ glyph (n % 16) ∷ digits_of ns

-- words of four digits each, no gaps; in the table a word's low byte comes first
unfoldable pub word_digits : List ℕ → List ℕ
word_digits [] = []
word_digits (low ∷ []) = []
word_digits (low ∷ high ∷ bytes) =
    glyph (high / 16) ∷ glyph (high % 16) ∷ glyph (low / 16) ∷ glyph (low % 16) ∷ word_digits bytes
