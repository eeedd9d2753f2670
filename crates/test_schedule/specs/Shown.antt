-- What an action shows (docs/SCHEDULE.md): `shown`, the number of its refusal and the record as it now stands.
-- Assumes nothing.
use Rattle.std.specs.Prelude.{ℕ, zero, suc, ◌+◌, ◌/◌, ◌%◌, ◌<◌, Bool, true, false, cond}
use Rattle.std.specs.Prelude.{List, [], ◌∷◌, ◌++◌, leb, slice_index, IsAscii, Result}
use Rattle.std.specs.Int.{bytes_high_first}
use Rattle.std.proofs.Common.{arith}
use Rattle.rules.specs.declared.Task.{Task}
use Rattle.rules.specs.declared.Refusal.{Refusal}
use Rattle.rules.specs.Answer.{done_says}
use Rattle.frame_rules.specs.Digits.{glyph, digits_of}
use Rattle.test_schedule.specs.declared.record.Shown.{Shown}

-- a record, two digits a byte: key 8, phase 2, left 6, right 6, hand 6, goal 6, mark 2, answer 2
abbrev pub record_bytes : Task → List ℕ
record_bytes t =
    bytes_high_first 4 t.key ++ t.phase
    ∷ (bytes_high_first 3 t.left
    ++ (bytes_high_first 3 t.right
    ++ (bytes_high_first 3 t.hand ++ (bytes_high_first 3 t.goal ++ t.mark ∷ t.answer ∷ []))))

abbrev pub shown_bytes : Shown → List ℕ
shown_bytes s = (done_says s.done).number ∷ record_bytes s.task

abbrev pub shown : Shown → List ℕ
shown s = digits_of (shown_bytes s)

-- ---- each is a byte, and digits are text
pub record AllBytes (ns : List ℕ) : Type 0 where
  pub low : (i : ℕ) → slice_index ns i < 256

no_bytes : AllBytes []
no_bytes = record { low = λ i. omega arith }

another : {n : ℕ} {ns : List ℕ} → n < 256 → AllBytes ns → AllBytes (n ∷ ns)
another {n} {ns} low rest = record { low = go }
  where
    go : (i : ℕ) → slice_index (n ∷ ns) i < 256
    go zero = low
    go (suc i) = rest.low i

high_bytes : (k n : ℕ) {ns : List ℕ} → AllBytes ns → AllBytes (bytes_high_first k n ++ ns)
high_bytes zero n rest = rest
high_bytes (suc zero) n rest = another (omega arith) rest
high_bytes (suc (suc k)) n rest = another (omega arith) (high_bytes (suc k) n rest)

refusal_byte : (d : Result Unit Refusal) → (done_says d).number < 256
refusal_byte d = grind arith

pub all_bytes :
    (s : Shown) → s.task.phase < 256 → s.task.mark < 256 → s.task.answer < 256 →
    AllBytes (shown_bytes s)
all_bytes s phase mark answer =
    let t = s.task in
    another (refusal_byte s.done)
    (high_bytes 4 t.key
    (another phase
    (high_bytes 3 t.left
    (high_bytes 3 t.right
    (high_bytes 3 t.hand (high_bytes 3 t.goal (another mark (another answer no_bytes))))))))

glyph_ascii : (d : ℕ) → d < 16 → glyph d < 128
unfolding glyph
glyph_ascii d h = go (leb d 9)
  where
    go : (b : Bool) → cond b (48 + d) (55 + d) < 128
    go true = omega (arith, h)
    go false = omega (arith, h)

pub digits_ascii : (ns : List ℕ) → AllBytes ns → IsAscii (digits_of ns)
unfolding digits_of
digits_ascii [] h i = omega arith
digits_ascii (n ∷ ns) h zero = glyph_ascii (n / 16) (omega (arith, h.low 0))
digits_ascii (n ∷ ns) h (suc zero) = glyph_ascii (n % 16) (omega arith)
digits_ascii (n ∷ ns) h (suc (suc i)) = digits_ascii ns (record { low = λ k. h.low (suc k) }) i
