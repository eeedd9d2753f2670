-- A table's line as it is printed is read back: `read_printed`.
-- Assumes nothing.
use Rattle.std.specs.Prelude.{ℕ, zero, suc, ◌+◌, ◌*◌, ◌/◌, ◌%◌, ◌<◌, ◌≡◌, Bool, cond, List, [], ◌∷◌, length, get_or}
use Rattle.std.proofs.Math.Path.{refl}
use Rattle.std.proofs.Math.Bool.{true, false}
use Rattle.std.proofs.Common.{arith}
use Rattle.std.proofs.Math.Dec.{leb}
use borrow.Author.Tests.{le-leb, lt-leb, eq-eqb, leb-true, leb-false}
use Rattle.rules.specs.declared.Shape.{Shape}
use Rattle.rules.specs.Lists.{all}
use Rattle.rules.specs.Shape.{places, good_table}
use Rattle.table_words.specs.Range.{good_table_lem}
use Rattle.frame_rules.specs.Digits.{is_digit, worth, number_after, number, glyph, word_digits}
use Rattle.frame_rules.specs.TableLine.{good_table_line, first_words, table_of_line, table_read, read_table}
use Rattle.frame_digits.specs.Print.{words_length}

-- ---- a printed digit is a digit, and worth what was printed
module _ (d : ℕ) (low : d < 16) where
  glyph_digit : is_digit (glyph d) ≡ true
  unfolding is_digit glyph
  glyph_digit = go (leb d 9) refl
    where
      go : (b : Bool) → leb d 9 ≡ b → is_digit (cond b (48 + d) (55 + d)) ≡ true
      go true e =
          let small = leb-true d 9 e in
          rw (le-leb 48 (48 + d) (omega arith), le-leb (48 + d) 57 (omega arith))
      go false e =
          let large = leb-false d 9 e in
          rw (
            le-leb 48 (55 + d) (omega arith),
            lt-leb (55 + d) 57 (omega arith),
            le-leb 65 (55 + d) (omega arith),
            le-leb (55 + d) 70 (omega arith),
          )

  pub glyph_worth : worth (glyph d) ≡ d
  unfolding worth glyph
  glyph_worth = go (leb d 9) refl
    where
      go : (b : Bool) → leb d 9 ≡ b → worth (cond b (48 + d) (55 + d)) ≡ d
      go true e =
          let small = leb-true d 9 e in
          rw (le-leb (48 + d) 57 (omega arith)) (omega arith)
      go false e =
          let large = leb-false d 9 e in
          rw (lt-leb (55 + d) 57 (omega arith), le-leb (55 + d) 70 (omega arith)) (omega arith)

-- ---- a word's four digits write the word
abbrev four : ℕ → ℕ → List ℕ
four low high = glyph (high / 16) ∷ glyph (high % 16) ∷ glyph (low / 16) ∷ glyph (low % 16) ∷ []

word_is : (low high : ℕ) → low < 256 → high < 256 → number (four low high) ≡ low + 256 * high
unfolding number number_after
word_is low high small_low small_high =
    rw (
      glyph_worth (high / 16) (omega arith),
      glyph_worth (high % 16) (omega arith),
      glyph_worth (low / 16) (omega arith),
      glyph_worth (low % 16) (omega arith),
    )
    (omega arith)

-- ---- all of a table's
all_digits : (bs : List ℕ) → ((i : ℕ) → get_or bs i 0 < 256) → all is_digit (word_digits bs) ≡ true
unfolding word_digits all
all_digits [] h = refl
all_digits (low ∷ []) h = refl
all_digits (low ∷ high ∷ bs) h =
    let small_low : low < 256 = h 0 in
    let small_high : high < 256 = h 1 in
    rw (
      glyph_digit (high / 16) (omega arith),
      glyph_digit (high % 16) (omega arith),
      glyph_digit (low / 16) (omega arith),
      glyph_digit (low % 16) (omega arith),
    )
    (all_digits bs (λ i. h (suc (suc i))))

words_back :
    (n : ℕ) (bs : List ℕ) → length bs ≡ 2 * n → ((i : ℕ) → get_or bs i 0 < 256) → first_words n (word_digits bs) ≡ bs
unfolding first_words word_digits
words_back zero [] size h = refl
words_back zero (b ∷ bs) size h = absurd (omega arith)
words_back (suc n) [] size h = absurd (omega arith)
words_back (suc n) (b ∷ []) size h = absurd (omega arith)
words_back (suc n) (low ∷ high ∷ bs) size h =
    let small_low : low < 256 = h 0 in
    let small_high : high < 256 = h 1 in
    let word = word_is low high small_low small_high in
    let first : number (four low high) % 256 ≡ low = omega arith in
    let second : number (four low high) / 256 ≡ high = omega arith in
    rw (first, second, words_back n bs (omega arith) (λ i. h (suc (suc i))))

-- a table of bytes, printed and read into a table of the same length
pub read_printed :
    (sh : Shape) (bytes table : List ℕ) → good_table sh (length bytes) ≡ true → ((i : ℕ) → get_or bytes i 0 < 256) →
    length table ≡ length bytes → read_table sh (word_digits bytes) table ≡ table_read true bytes
unfolding read_table good_table_line table_of_line
read_printed sh bytes table good h same =
    let size = (good_table_lem sh (length bytes) good).1 in
    let long : length (word_digits bytes) ≡ 4 * places sh = omega (arith, words_length bytes, size) in
    let many : length (word_digits bytes) / 4 ≡ places sh = omega arith in
    rw (
      same,
      good,
      eq-eqb (length (word_digits bytes)) (4 * places sh) long,
      all_digits bytes h,
      many,
      words_back (places sh) bytes size h,
    )
