-- The table's words in its lent bytes, two bytes a word, low byte first (01, Shape and layout).
-- Assumes nothing.
use Rattle.std.specs.Prelude.{ℕ, ◌+◌, ◌*◌, ◌/◌, ◌%◌, List, [], ◌∷◌}
use Rattle.rules.specs.Word.{Word, word_of, number_of}

-- a last byte without its fellow is no word: no call gets so far with an odd length
unfoldable pub words_of : List ℕ → List Word
words_of [] = []
words_of (low ∷ []) = []
words_of (low ∷ high ∷ bytes) = word_of (low + 256 * high) ∷ words_of bytes

unfoldable pub bytes_of : List Word → List ℕ
bytes_of [] = []
bytes_of (w ∷ ws) = (number_of w % 256) ∷ (number_of w / 256) ∷ bytes_of ws
