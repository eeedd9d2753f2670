-- A word and its five fields (01, Shape and layout: "Bits of a word").
-- Everywhere else a word is the record of its fields; `word_of` and `number_of` go between it and the number in the
-- table.
-- Assumes nothing.
use Rattle.std.specs.Prelude.{ℕ, ◌+◌, ◌*◌, ◌/◌, ◌%◌, Bool, true, false, not, ◌&&◌, eqb}
use Rattle.rules.specs.Lists.{bit_of}

pub record Word : Type 0 where
  pub remainder : ℕ
  pub occupied : Bool
  pub virgin : Bool
  pub change : Bool
  pub lock : Bool

-- bits 0 to 11 remainder, 12 occupied, 13 virgin, 14 change, 15 lock
unfoldable pub word_of : ℕ → Word
word_of n =
    record {
      remainder = n % 4096;
      occupied = eqb (n / 4096 % 2) 1;
      virgin = eqb (n / 8192 % 2) 1;
      change = eqb (n / 16384 % 2) 1;
      lock = eqb (n / 32768 % 2) 1;
    }

unfoldable pub number_of : Word → ℕ
number_of w =
    w.remainder + 4096 * bit_of w.occupied + 8192 * bit_of w.virgin + 16384 * bit_of w.change
    + 32768 * bit_of w.lock

-- the word 0, and the word that is exactly the lock bit
abbrev pub zero_word : Word
zero_word = record { remainder = 0; occupied = false; virgin = false; change = false; lock = false }

abbrev pub lock_word : Word
lock_word = record { remainder = 0; occupied = false; virgin = false; change = false; lock = true }

-- a word with occupied, virgin and change set
abbrev pub alone_word : ℕ → Word
alone_word x = record { remainder = x; occupied = true; virgin = true; change = true; lock = false }

-- 0, lock bit aside
unfoldable pub is_void : Word → Bool
is_void w = eqb w.remainder 0 && (not w.occupied && (not w.virgin && not w.change))

-- exactly 0, and exactly the lock bit
unfoldable pub is_zero : Word → Bool
is_zero w = is_void w && not w.lock

unfoldable pub is_lock : Word → Bool
is_lock w = is_void w && w.lock

-- a word with one field changed
abbrev pub with_lock : Bool → Word → Word
with_lock b w =
    record {
      remainder = w.remainder;
      occupied = w.occupied;
      virgin = w.virgin;
      change = w.change;
      lock = b;
    }

abbrev pub with_virgin : Bool → Word → Word
with_virgin b w =
    record {
      remainder = w.remainder;
      occupied = w.occupied;
      virgin = b;
      change = w.change;
      lock = w.lock;
    }

abbrev pub with_change : Bool → Word → Word
with_change b w =
    record {
      remainder = w.remainder;
      occupied = w.occupied;
      virgin = w.virgin;
      change = b;
      lock = w.lock;
    }

-- occupied, with a remainder; and a word with the remainder and the change bit of another
abbrev pub filled_with : ℕ → Word → Word
filled_with x w =
    record { remainder = x; occupied = true; virgin = w.virgin; change = w.change; lock = w.lock }

abbrev pub with_payload : Word → Word → Word
with_payload v w =
    record {
      remainder = v.remainder;
      occupied = w.occupied;
      virgin = w.virgin;
      change = v.change;
      lock = w.lock;
    }
