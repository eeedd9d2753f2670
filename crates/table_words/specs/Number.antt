-- A word and its number determine each other: `number_of_word`, `word_of_number`.
-- `fields`, `word_is`: a number has the fields of its word, and no other word's. `small`: what room each field takes.
-- Assumes nothing.
use Rattle.std.specs.Prelude.{ℕ, ◌+◌, ◌*◌, ◌/◌, ◌%◌, ◌<◌, ◌≡◌, refl, Bool, true, false, eqb}
use Rattle.std.proofs.Common.{sym, arith, add_comm, mul_comm, lit<, eq-eqb, ne_eqb, eqb-true}
use Rattle.std.proofs.Math.Arith.{mod-mul}
use Rattle.std.proofs.lemmas.Bool.{eqb-false}
use Rattle.rules.specs.Lists.{bit_of}
use Rattle.rules.specs.Word.{Word, word_of, number_of}

-- a bit as a number, and its test
tested_bit : (x : ℕ) (b : Bool) → x ≡ bit_of b → eqb x 1 ≡ b
tested_bit x true e = eq-eqb x 1 e
tested_bit x false e = ne_eqb x 1 (λ q. omega arith)

bit_tested : (x : ℕ) → x < 2 → x ≡ bit_of (eqb x 1)
bit_tested x h = go (eqb x 1) refl
  where
    go : (b : Bool) → eqb x 1 ≡ b → x ≡ bit_of b
    go true e = eqb-true x 1 e
    go false e = let ne = eqb-false x 1 e in omega arith

-- the number n has the five fields of the word w
pub record Fields (n : ℕ) (w : Word) : Type 0 where
  pub remainder : n % 4096 ≡ w.remainder
  pub occupied : n / 4096 % 2 ≡ bit_of w.occupied
  pub virgin : n / 8192 % 2 ≡ bit_of w.virgin
  pub change : n / 16384 % 2 ≡ bit_of w.change
  pub lock : n / 32768 % 2 ≡ bit_of w.lock

pub fields : (n : ℕ) → Fields n (word_of n)
unfolding word_of
fields n =
    record {
      remainder = refl;
      occupied = bit_tested (n / 4096 % 2) (omega arith);
      virgin = bit_tested (n / 8192 % 2) (omega arith);
      change = bit_tested (n / 16384 % 2) (omega arith);
      lock = bit_tested (n / 32768 % 2) (omega arith);
    }

pub word_is : (n : ℕ) (w : Word) → Fields n w → word_of n ≡ w
unfolding word_of
word_is n w f =
    λ i. record {
      remainder = f.remainder i;
      occupied = tested_bit (n / 4096 % 2) w.occupied f.occupied i;
      virgin = tested_bit (n / 8192 % 2) w.virgin f.virgin i;
      change = tested_bit (n / 16384 % 2) w.change f.change i;
      lock = tested_bit (n / 32768 % 2) w.lock f.lock i;
    }

pub remainder_small : (n : ℕ) → (word_of n).remainder < 4096
unfolding word_of
remainder_small n = omega arith

pub bit_small : (b : Bool) → bit_of b < 2
bit_small true = omega arith
bit_small false = omega arith

-- each field of a word has room in its number
pub record Small (w : Word) : Type 0 where
  pub remainder : w.remainder < 4096
  pub occupied : bit_of w.occupied < 2
  pub virgin : bit_of w.virgin < 2
  pub change : bit_of w.change < 2
  pub lock : bit_of w.lock < 2

pub small : (w : Word) → w.remainder < 4096 → Small w
small w h =
    record {
      remainder = h;
      occupied = bit_small w.occupied;
      virgin = bit_small w.virgin;
      change = bit_small w.change;
      lock = bit_small w.lock;
    }

-- one bit more of a number
next_bit : (n k : ℕ) → 0 < k → n % k + k * (n / k % 2) ≡ n % (2 * k)
next_bit n k h = rw (add_comm, mul_comm k) (sym (mod-mul n (lit< tt) h))

-- a number below 2^16 is the sum of its fields
sum_of_fields :
    (n : ℕ) → n < 65536 →
    n % 4096 + 4096 * (n / 4096 % 2) + 8192 * (n / 8192 % 2) + 16384 * (n / 16384 % 2) + 32768 * (n / 32768 % 2) ≡ n
sum_of_fields n h =
    rw
    (next_bit n 4096 (lit< tt), next_bit n 8192 (lit< tt), next_bit n 16384 (lit< tt), next_bit n 32768 (lit< tt))
    (omega arith)

pub number_of_word : (n : ℕ) → n < 65536 → number_of (word_of n) ≡ n
unfolding number_of
number_of_word n h =
    let f = fields n in
    rw (← f.remainder, ← f.occupied, ← f.virgin, ← f.change, ← f.lock) (sum_of_fields n h)

pub word_of_number : (w : Word) → w.remainder < 4096 → word_of (number_of w) ≡ w
unfolding number_of
word_of_number w h = let s = small w h in word_is (number_of w) w (omega arith)

pub number_small : (w : Word) → w.remainder < 4096 → number_of w < 65536
unfolding number_of
number_small w h = let s = small w h in omega arith
