-- The small cases: the tables of shape (1, 1) over a choice of words, the plain tables of shape (2, 1), lists of keys.
-- Words are numbers, as document 01 writes them. Assumes nothing.
use Rattle.std.specs.Prelude.{ℕ, zero, suc, ◌/◌, ◌%◌}
use mathlib.Core.List.{List, [], ◌∷◌, ◌++◌, map, flat_map}

-- a lent table's bytes from its words: two bytes a word, low byte first
abbrev pub in_bytes : List ℕ → List ℕ
in_bytes [] = []
in_bytes (n ∷ ns) = (n % 256) ∷ (n / 256) ∷ in_bytes ns

-- a table of shape (1, 1): the guards, and the two places between them
pub record Small : Type 0 where
  pub left_guard : ℕ
  pub first : ℕ
  pub second : ℕ
  pub right_guard : ℕ

abbrev pub words_in : Small → List ℕ
words_in t = t.left_guard ∷ t.first ∷ t.second ∷ t.right_guard ∷ []

-- for the two places: 0; occupied with remainder 0, 1 or 2 (too large) and any virgin and change bits; stray; locked
abbrev many_words : List ℕ
many_words =
    0x0000 ∷ 0x1000 ∷ 0x1001 ∷ 0x1002 ∷ 0x3000 ∷ 0x3001 ∷ 0x3002 ∷ 0x5000 ∷ 0x5001 ∷ 0x5002 ∷ 0x7000 ∷ 0x7001 ∷ 0x7002
    ∷ 0x0001 ∷ 0x2000 ∷ 0x4000 ∷ 0x8000 ∷ 0x9000 ∷ 0xB000 ∷ 0xD001 ∷ 0xF000 ∷ 0xF001 ∷ 0xA000 ∷ []

-- for the two places where a guard is not 0: enough for every sound pair, an unsound, a stray and a locked word
abbrev few_words : List ℕ
few_words = 0x0000 ∷ 0x1000 ∷ 0x3000 ∷ 0x5001 ∷ 0x7000 ∷ 0x7001 ∷ 0x2000 ∷ 0x8000 ∷ 0xF001 ∷ []

-- every table with these guards and, between them, two of these words
unfoldable pub tables_over : List ℕ → ℕ → ℕ → List Small
unfolding flat_map
tables_over ns g h =
    flat_map
    (λ (a : ℕ). map (λ (b : ℕ). record { left_guard = g; first = a; second = b; right_guard = h }) ns)
    ns

-- the tables of shape (1, 1): guards 0, and a locked, an occupied and a stray one on either side
unfoldable pub small_tables : List Small
unfolding tables_over
small_tables =
    tables_over many_words 0x0000 0x0000
    ++ tables_over few_words 0x8000 0x0000
    ++ tables_over few_words 0x0000 0x8000
    ++ tables_over few_words 0x7000 0x0000
    ++ tables_over few_words 0x0000 0x7000
    ++ tables_over few_words 0x2000 0x0000
    ++ tables_over few_words 0x0000 0x2000

-- for the places of a plain table: 0, or occupied with a remainder of one bit
abbrev plain_words : List ℕ
plain_words = 0x0000 ∷ 0x1000 ∷ 0x1001 ∷ 0x3000 ∷ 0x3001 ∷ 0x5000 ∷ 0x5001 ∷ 0x7000 ∷ 0x7001 ∷ []

-- every list of some numbers of a length
unfoldable pub lists_over : List ℕ → ℕ → List (List ℕ)
unfolding flat_map
lists_over ns zero = [] ∷ []
lists_over ns (suc k) = flat_map (λ (n : ℕ). map (λ (l : List ℕ). n ∷ l) (lists_over ns k)) ns

-- every list that leaves out some of a list's numbers
unfoldable pub sublists : List ℕ → List (List ℕ)
sublists [] = [] ∷ []
sublists (n ∷ ns) = sublists ns ++ map (λ (l : List ℕ). n ∷ l) (sublists ns)

-- the plain tables of shape (2, 1): guards 0, and any four plain words between them
unfoldable pub plain_tables : List (List ℕ)
unfolding lists_over
plain_tables = map (λ (l : List ℕ). 0x0000 ∷ (l ++ 0x0000 ∷ [])) (lists_over plain_words 4)
