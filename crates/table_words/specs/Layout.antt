-- A table's bytes and its words determine each other at an even length: `words_of_bytes`, `bytes_of_words`.
-- So what a contract says of the words it says of every lent byte: `bytes_are`, `same_bytes`.
-- `word_at`, `word_set`: one word read and written. `words_length`, `bytes_length`: how many there are;
-- `change_length` to `exchange_length`: as many after a change. `same_words`: words are told by their places.
-- Assumes nothing.
use Rattle.std.specs.Prelude.{ℕ, zero, suc, ◌+◌, ◌*◌, ◌/◌, ◌%◌, ◌<◌, ◌≡◌, refl, Bool, List, [], ◌∷◌, length, get_or, set}
use Rattle.std.proofs.Common.{sym, ◌∙◌, ap, ap₂, arith, length-set, ext_get_or}
use Rattle.rules.specs.Word.{Word, zero_word, word_of, number_of}
use Rattle.rules.specs.Bytes.{words_of, bytes_of}
use Rattle.rules.specs.Table.{at}
use Rattle.rules.specs.Phase.{set_change, set_virgin, exchange}
use Rattle.table_words.specs.Number.{remainder_small, number_of_word, word_of_number}

-- the bytes of the next place are two further on
next_low : (p : ℕ) → 2 * suc p ≡ suc (suc (2 * p))
next_low p = omega arith

next_high : (p : ℕ) → 2 * suc p + 1 ≡ suc (suc (2 * p + 1))
next_high p = omega arith

-- the word at place p is that of its two bytes
pub word_at :
    (bs : List ℕ) (p k : ℕ) → 2 * p + 1 < length bs → k ≡ get_or bs (2 * p) 0 + 256 * get_or bs (2 * p + 1) 0 →
    word_of k ≡ at (words_of bs) p
unfolding words_of
word_at [] p k h e = absurd (omega arith)
word_at (low ∷ []) p k h e = absurd (omega arith)
word_at (low ∷ high ∷ bs) zero k h e = ap word_of e
word_at (low ∷ high ∷ bs) (suc p) k h e = word_at bs p k (omega arith) (rw (next_high p, next_low p) at e)

-- a number in two bytes, low byte first
halves : (n : ℕ) → n % 256 + 256 * (n / 256) ≡ n
halves n = omega arith

-- the two bytes of place p written, low byte first, write the word at place p
pub word_set :
    (bs : List ℕ) (p n low high : ℕ) → 2 * p + 1 < length bs → low + 256 * high ≡ n →
    words_of (set (set bs (2 * p) low) (2 * p + 1) high) ≡ set (words_of bs) p (word_of n)
unfolding words_of
word_set [] p n low high h e = absurd (omega arith)
word_set (_ ∷ []) p n low high h e = absurd (omega arith)
word_set (_ ∷ _ ∷ bs) zero n low high h e = ap (λ k. word_of k ∷ words_of bs) e
word_set (first ∷ second ∷ bs) (suc p) n low high h e =
    rw (next_high p, next_low p)
    (ap (λ ws. word_of (first + 256 * second) ∷ ws) (word_set bs p n low high (omega arith) e))

pub words_length : (bs : List ℕ) (n : ℕ) → length bs ≡ 2 * n → length (words_of bs) ≡ n
unfolding words_of
words_length [] n e = omega arith
words_length (low ∷ []) n e = absurd (omega arith)
words_length (low ∷ high ∷ bs) zero e = absurd (omega arith)
words_length (low ∷ high ∷ bs) (suc n) e = ap suc (words_length bs n (omega arith))

pub bytes_length : (ws : List Word) → length (bytes_of ws) ≡ 2 * length ws
unfolding bytes_of
bytes_length [] = refl
bytes_length (w ∷ ws) = let e = bytes_length ws in omega arith

-- a change in place leaves as many words
pub change_length : (ws : List Word) (p : ℕ) (b : Bool) → length (set_change ws p b) ≡ length ws
unfolding set_change
change_length ws p b = length-set ws p _

pub virgin_length : (ws : List Word) (p : ℕ) → length (set_virgin ws p) ≡ length ws
unfolding set_virgin
virgin_length ws p = length-set ws p _

pub exchange_length : (ws : List Word) (p q : ℕ) → length (exchange ws p q) ≡ length ws
unfolding exchange
exchange_length ws p q = simp length-set

-- words that are the same at each place are the same words
pub same_words : (ws vs : List Word) → length ws ≡ length vs → ((p : ℕ) → at ws p ≡ at vs p) → ws ≡ vs
same_words ws vs size alike = ext_get_or zero_word ws vs size (λ p lt. alike p)

-- each word of a table has its remainder below 2^12
pub remainders_small : (bs : List ℕ) (p : ℕ) → (at (words_of bs) p).remainder < 4096
unfolding words_of
remainders_small [] p = omega arith
remainders_small (low ∷ []) p = omega arith
remainders_small (low ∷ high ∷ bs) zero = remainder_small (low + 256 * high)
remainders_small (low ∷ high ∷ bs) (suc p) = remainders_small bs p

pub words_of_bytes : (ws : List Word) → ((p : ℕ) → (at ws p).remainder < 4096) → words_of (bytes_of ws) ≡ ws
unfolding words_of bytes_of
words_of_bytes [] h = refl
words_of_bytes (w ∷ ws) h =
    ap₂ (λ v vs. v ∷ vs)
    (ap word_of (halves (number_of w)) ∙ word_of_number w (h 0))
    (words_of_bytes ws (λ p. h (suc p)))

pub bytes_of_words :
    (bs : List ℕ) (n : ℕ) → length bs ≡ 2 * n → ((i : ℕ) → get_or bs i 0 < 256) → bytes_of (words_of bs) ≡ bs
unfolding words_of bytes_of
bytes_of_words [] n e h = refl
bytes_of_words (low ∷ []) n e h = absurd (omega arith)
bytes_of_words (low ∷ high ∷ bs) zero e h = absurd (omega arith)
bytes_of_words (low ∷ high ∷ bs) (suc n) e h =
    let small_low : low < 256 = h 0 in
    let small_high : high < 256 = h 1 in
    rw (number_of_word (low + 256 * high) (omega arith))
    (ap₂ (λ b bytes. b ∷ bytes) (omega arith)
    (ap₂ (λ b bytes. b ∷ bytes) (omega arith) (bytes_of_words bs n (omega arith) (λ i. h (suc (suc i))))))

-- what is said of the words is said of the bytes
pub bytes_are :
    (bs : List ℕ) (n : ℕ) (ws : List Word) → length bs ≡ 2 * n → ((i : ℕ) → get_or bs i 0 < 256) → words_of bs ≡ ws →
    bs ≡ bytes_of ws
bytes_are bs n ws even small e = sym (bytes_of_words bs n even small) ∙ ap bytes_of e

-- so bytes of one even length that show the same words are the same bytes
pub same_bytes :
    (bs cs : List ℕ) (n : ℕ) → length bs ≡ 2 * n → length cs ≡ 2 * n →
    ((i : ℕ) → get_or bs i 0 < 256) → ((i : ℕ) → get_or cs i 0 < 256) → words_of bs ≡ words_of cs → bs ≡ cs
same_bytes bs cs n even-b even-c small_b small-c e =
    bytes_are bs n (words_of cs) even-b small_b e ∙ bytes_of_words cs n even-c small-c
