-- A record that is shown is read back as it was: `read_back`, for any that its digits have room for, `HasDigits`.
-- Assumes nothing.
use Rattle.std.specs.Prelude.{ℕ, ◌+◌, ◌*◌, ◌/◌, ◌%◌, ◌<◌, ◌≡◌, List, [], ◌∷◌, drop}
use Rattle.std.specs.Int.{bytes_high_first}
use Rattle.std.proofs.Common.{◌∙◌, ap, arith}
use Rattle.rules.specs.declared.Task.{Task}
use Rattle.frame_rules.specs.Digits.{worth, glyph, digits_of, number_after, number}
use Rattle.frame_first.specs.Printed.{glyph_worth}
use Rattle.test_schedule.specs.declared.record.Shown.{Shown}
use Rattle.test_schedule.specs.Record.{record_of}
use Rattle.test_schedule.specs.Shown.{shown}

-- the numbers that a record's digits have room for
pub record HasDigits (t : Task) : Type 0 where
  pub key : t.key < 4294967296
  pub phase : t.phase < 256
  pub left : t.left < 16777216
  pub right : t.right < 16777216
  pub hand : t.hand < 16777216
  pub goal : t.goal < 16777216
  pub mark : t.mark < 256
  pub answer : t.answer < 256

byte_read :
    (n b : ℕ) (bs : List ℕ) → b < 256 →
    number_after n (digits_of (b ∷ bs)) ≡ number_after (256 * n + b) (digits_of bs)
unfolding digits_of number_after
byte_read n b bs low = ap (λ (k : ℕ). number_after k (digits_of bs)) both
  where
    both : 16 * (16 * n + worth (glyph (b / 16))) + worth (glyph (b % 16)) ≡ 256 * n + b
    both = omega (arith, glyph_worth (b / 16) (omega (arith, low)), glyph_worth (b % 16) (omega arith))

-- the three low bytes of a number, highest first, behind a number already read
three_read :
    (n k : ℕ) →
    number_after n (digits_of (bytes_high_first 3 k))
    ≡ 256 * (256 * (256 * n + k / 65536 % 256) + k / 256 % 256) + k % 256
unfolding number_after digits_of
three_read n k =
    byte_read n (k / 65536 % 256) (bytes_high_first 2 k) (omega arith)
    ∙ byte_read _ (k / 256 % 256) (bytes_high_first 1 k) (omega arith)
    ∙ byte_read _ (k % 256) [] (omega arith)

eight_read : (k : ℕ) → k < 4294967296 → number (digits_of (bytes_high_first 4 k)) ≡ k
unfolding number
eight_read k low =
    byte_read 0 (k / 16777216 % 256) (bytes_high_first 3 k) (omega arith) ∙ three_read _ k ∙ omega (arith, low)

six_read : (k : ℕ) → k < 16777216 → number (digits_of (bytes_high_first 3 k)) ≡ k
unfolding number
six_read k low = three_read 0 k ∙ omega (arith, low)

two_read : (b : ℕ) → b < 256 → number (digits_of (b ∷ [])) ≡ b
unfolding number number_after digits_of
two_read b low = byte_read 0 b [] low ∙ omega arith

pub read_back : (s : Shown) → HasDigits s.task → record_of (drop 2 (shown s)) ≡ s.task
unfolding record_of digits_of
read_back s h =
    λ i. record {
      key = eight_read s.task.key h.key i;
      phase = two_read s.task.phase h.phase i;
      left = six_read s.task.left h.left i;
      right = six_read s.task.right h.right i;
      hand = six_read s.task.hand h.hand i;
      goal = six_read s.task.goal h.goal i;
      mark = two_read s.task.mark h.mark i;
      answer = two_read s.task.answer h.answer i;
    }
