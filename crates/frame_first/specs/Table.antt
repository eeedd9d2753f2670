-- A table's line read. `Storing`: the invariant of its words stored one by one, with its laws; `word_bytes`: a word's
-- two bytes.
-- Assumes nothing.
use Rattle.std.specs.Prelude.{ℕ, zero, suc, ◌+◌, ◌*◌, ◌/◌, ◌%◌, ◌≤◌, ◌<◌, ◌≡◌, set, get_or, take, drop}
use Rattle.std.proofs.Math.Path.{refl, ap}
use Rattle.std.proofs.Common.{ap₂, ◌∙◌, add-one, arith, length-set, drop_of_length-le, drop-drop}
use mathlib.Core.List.{List, [], ◌∷◌, ◌++◌, append-nil}
use Rattle.std.proofs.Math.ListN.{length}
use Rattle.std.specs.Int.{w16, to_le_bytes}
use Rattle.frame_rules.specs.Digits.{number}
use Rattle.frame_rules.specs.TableLine.{first_words, table_of_line}
use Rattle.frame_digits.specs.Print.{front, two_more}

-- ---- the words of a line, by number
-- the number that word i is
abbrev pub word_at : List ℕ → ℕ → ℕ
word_at line i = number (take 4 (drop (4 * i) line))

words_length : (n : ℕ) (line : List ℕ) → length (first_words n line) ≡ 2 * n
unfolding first_words
words_length zero line = refl
words_length (suc n) line = omega (arith, words_length n (drop 4 line))

-- one word more stands behind the others
words_snoc :
    (n : ℕ) (line : List ℕ) →
    first_words (suc n) line ≡ first_words n line ++ (word_at line n % 256) ∷ (word_at line n / 256) ∷ []
unfolding first_words
words_snoc zero line = refl
words_snoc (suc n) line =
    let place : 4 + 4 * n ≡ 4 * suc n = omega arith in
    let same : drop (4 * n) (drop 4 line) ≡ drop (4 * suc n) line =
    drop-drop (4 * n) 4 line ∙ ap (λ (k : ℕ). drop k line) place in
    rw (words_snoc n (drop 4 line), same)

-- a word's two bytes, as the library has them
pub word_bytes :
    (w : ℕ) → w < 65536 → (bytes : List ℕ) → bytes ≡ to_le_bytes w16 w →
    (get_or bytes 0 0 ≡ w % 256) × (get_or bytes 1 0 ≡ w / 256)
word_bytes w low bytes are =
    let second : w / 256 % 256 ≡ w / 256 = omega arith in
    (ap (λ (bs : List ℕ). get_or bs 0 0) are, ap (λ (bs : List ℕ). get_or bs 1 0) are ∙ second)

-- ---- the loop: i words are stored
pub record Storing (line table₀ : List ℕ) (n i : ℕ) (table : List ℕ) : Type 0 where
  pub reached : i ≤ n
  pub size : length table ≡ 2 * n
  pub stored : table ≡ front (first_words i line) (2 * i) table₀

module _ (line table₀ : List ℕ) (n : ℕ) (long : length line ≡ 4 * n) (room : length table₀ ≡ 2 * n) where
  pub storing_begins : Storing line table₀ n 0 table₀
  unfolding first_words
  storing_begins = record { reached = omega arith; size = room; stored = refl }

  module _ {i : ℕ} {table : List ℕ} (inv : Storing line table₀ n i table) where
    pub storing_on :
        i < n → (w : ℕ) → w ≡ word_at line i →
        Storing line table₀ n (i + 1) (set (set table (2 * i) (w % 256)) (2 * i + 1) (w / 256))
    storing_on more w is =
        record {
          reached = omega arith;
          size = rw (length-set, length-set) inv.size;
          stored =
              ap (λ (l : List ℕ). set (set l (2 * i) (w % 256)) (2 * i + 1) (w / 256)) inv.stored
              ∙ two_more (first_words i line) table₀ (2 * i) (w % 256) (w / 256) (words_length i line) (omega arith)
              ∙ ap₂ (λ (t : List ℕ) (k : ℕ). front t k table₀) text place;
        }
      where
        text : first_words i line ++ (w % 256) ∷ (w / 256) ∷ [] ≡ first_words (i + 1) line
        text = rw (add-one i, words_snoc i line, is)

        place : 2 * i + 2 ≡ 2 * (i + 1)
        place = omega arith

    pub storing_ends : n ≤ i → table ≡ table_of_line line
    unfolding table_of_line
    storing_ends done =
        let whole : i ≡ length line / 4 = omega (arith, inv.reached) in
        inv.stored
        ∙ ap (λ (l : List ℕ). first_words i line ++ l) (drop_of_length-le table₀ {i = 2 * i} (omega arith))
        ∙ append-nil (first_words i line)
        ∙ ap (λ (k : ℕ). first_words k line) whole
