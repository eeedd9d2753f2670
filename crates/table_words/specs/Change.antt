-- A word by its number. `void_test`, `zero_test`, `lock_test`: how the number tells what the word is.
-- `with_lock_lem` to `with_payload_lem`, `alone`: the number of a word with a field changed, as the rules change it.
-- Assumes nothing.
use Rattle.std.specs.Prelude.{ℕ, ◌+◌, ◌*◌, ◌/◌, ◌%◌, ◌<◌, ◌≡◌, Bool, false, not, ◌&&◌, eqb}
use Rattle.std.proofs.Common.{sym, ◌∙◌, ap, arith, ne_eqb}
use Rattle.std.proofs.Math.Bool.{true, and-true, and-false}
use Rattle.rules.specs.Lists.{bit_of}
use Rattle.rules.specs.Word.{Word, word_of, number_of, is_void, is_zero, is_lock, alone_word, with_lock, with_virgin}
use Rattle.rules.specs.Word.{with_change, filled_with, with_payload}
use Rattle.table_words.specs.Tests.{same_test}
use Rattle.table_words.specs.Number.{Small, small, remainder_small, number_of_word, word_of_number, fields}

-- a number that is the number of w makes w
number_is : (k : ℕ) (w : Word) → w.remainder < 4096 → k ≡ number_of w → word_of k ≡ w
number_is k w h e = ap word_of e ∙ word_of_number w h

-- the number of a word's fields, the lock bit aside
abbrev unlocked : ℕ → Bool → Bool → Bool → ℕ
unlocked x o v c = x + 4096 * bit_of o + 8192 * bit_of v + 16384 * bit_of c

-- a word is void where that number is 0
void_fields :
    (x : ℕ) (o v c l : Bool) →
    is_void (record { remainder = x; occupied = o; virgin = v; change = c; lock = l }) ≡ eqb (unlocked x o v c) 0
unfolding is_void
void_fields x true v c l = and-false (eqb x 0) ∙ sym (ne_eqb (unlocked x true v c) 0 (λ q. omega arith))
void_fields x false true c l = and-false (eqb x 0) ∙ sym (ne_eqb (unlocked x false true c) 0 (λ q. omega arith))
void_fields x false false true l =
    and-false (eqb x 0) ∙ sym (ne_eqb (unlocked x false false true) 0 (λ q. omega arith))
void_fields x false false false l =
    and-true (eqb x 0) ∙ same_test x 0 (unlocked x false false false) 0 (λ q. omega arith) (λ q. omega arith)

void_number : (w : Word) → is_void w ≡ eqb (unlocked w.remainder w.occupied w.virgin w.change) 0
void_number w = void_fields w.remainder w.occupied w.virgin w.change w.lock

-- with the lock bit above it: it is 0 and the lock clear, it is 0 and the lock set
zero_and_clear : (z k : ℕ) (l : Bool) → k ≡ z + 32768 * bit_of l → (eqb z 0 && not l) ≡ eqb k 0
zero_and_clear z k true e = and-false (eqb z 0) ∙ sym (ne_eqb k 0 (λ q. omega arith))
zero_and_clear z k false e = and-true (eqb z 0) ∙ same_test z 0 k 0 (λ q. omega arith) (λ q. omega arith)

zero_and_set : (z k : ℕ) (l : Bool) → z < 32768 → k ≡ z + 32768 * bit_of l → (eqb z 0 && l) ≡ eqb k 32768
zero_and_set z k true h e = and-true (eqb z 0) ∙ same_test z 0 k 32768 (λ q. omega arith) (λ q. omega arith)
zero_and_set z k false h e = and-false (eqb z 0) ∙ sym (ne_eqb k 32768 (λ q. omega arith))

module _ (n : ℕ) (h : n < 65536) where
  -- n is the sum of its word's fields, each with its room
  parts : Small (word_of n) × (number_of (word_of n) ≡ n)
  parts = (small (word_of n) (remainder_small n), number_of_word n h)

  -- n, its lock bit aside
  rest : ℕ
  rest = let w = word_of n in unlocked w.remainder w.occupied w.virgin w.change

  rest_is : (rest < 32768) × (n ≡ rest + 32768 * bit_of (word_of n).lock)
  unfolding rest number_of
  rest_is = omega (arith, parts)

  pub void_test : eqb (n % 32768) 0 ≡ is_void (word_of n)
  unfolding rest
  void_test =
      let lower : n % 32768 ≡ rest = omega (arith, rest_is) in
      rw (void_number (word_of n), lower)

  pub zero_test : eqb n 0 ≡ is_zero (word_of n)
  unfolding is_zero rest
  zero_test = rw (void_number (word_of n)) (sym (zero_and_clear rest n (word_of n).lock rest_is.1))

  pub lock_test : eqb n 32768 ≡ is_lock (word_of n)
  unfolding is_lock rest
  lock_test = rw (void_number (word_of n)) (sym (zero_and_set rest n (word_of n).lock rest_is.0 rest_is.1))

  pub with_lock_lem : (b : Bool) (k : ℕ) → k ≡ n % 32768 + 32768 * bit_of b → word_of k ≡ with_lock b (word_of n)
  unfolding number_of
  with_lock_lem b k e = number_is k (with_lock b (word_of n)) (remainder_small n) (omega (arith, parts))

  pub with_change_lem :
      (b : Bool) (k : ℕ) → k ≡ n / 32768 * 32768 + 16384 * bit_of b + n % 16384 → word_of k ≡ with_change b (word_of n)
  unfolding number_of
  with_change_lem b k e = number_is k (with_change b (word_of n)) (remainder_small n) (omega (arith, parts))

  pub with_virgin_lem : (k : ℕ) → k ≡ n / 16384 * 16384 + 8192 + n % 8192 → word_of k ≡ with_virgin true (word_of n)
  unfolding number_of
  with_virgin_lem k e = number_is k (with_virgin true (word_of n)) (remainder_small n) (omega (arith, parts))

  pub filled_with_lem :
      (x k : ℕ) → x < 4096 → k ≡ n / 8192 * 8192 + 4096 + x → word_of k ≡ filled_with x (word_of n)
  unfolding number_of
  filled_with_lem x k l e = number_is k (filled_with x (word_of n)) l (omega (arith, parts))

  -- the bits that stay where they are in an exchange
  staying :
      n / 32768 * 32768 + n / 4096 % 4 * 4096
      ≡ 4096 * bit_of (word_of n).occupied + 8192 * bit_of (word_of n).virgin + 32768 * bit_of (word_of n).lock
  unfolding number_of
  staying = omega (arith, parts)

  pub with_payload_lem :
      (v k : ℕ) →
      k ≡ n / 32768 * 32768 + v / 16384 % 2 * 16384 + n / 4096 % 4 * 4096 + v % 4096 →
      word_of k ≡ with_payload (word_of v) (word_of n)
  unfolding number_of
  with_payload_lem v k e =
      let f = fields v in
      number_is k (with_payload (word_of v) (word_of n)) (remainder_small v) (omega (arith, staying))

pub alone : (x : ℕ) → x < 4096 → word_of (28672 + x) ≡ alone_word x
unfolding number_of
alone x h = number_is (28672 + x) (alone_word x) h (omega arith)
