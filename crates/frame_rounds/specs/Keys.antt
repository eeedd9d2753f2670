-- A line's keys by number: `key_is`.
-- Assumes nothing.
use Rattle.std.specs.Prelude.{ℕ, zero, suc, ◌+◌, ◌*◌, ◌/◌, ◌<◌, ◌≡◌, refl, List, length, get_or, take, drop}
use Rattle.std.proofs.Common.{ap, ◌∙◌, arith, drop-drop}
use Rattle.frame_rules.specs.Digits.{number}
use Rattle.frame_rules.specs.Lines.{first_keys, keys_of}
use Rattle.frame_pieces.specs.Limits.{keys_count}

first_is : (n i : ℕ) (line : List ℕ) → i < n → get_or (first_keys n line) i 0 ≡ number (take 8 (drop (8 * i) line))
unfolding first_keys
first_is zero i line h = absurd (omega arith)
first_is (suc n) zero line h = refl
first_is (suc n) (suc i) line h =
    let place : 8 + 8 * i ≡ 8 * suc i = omega arith in
    first_is n i (drop 8 line) (omega arith)
    ∙ ap (λ (xs : List ℕ). number (take 8 xs)) (drop-drop (8 * i) 8 line)
    ∙ ap (λ (k : ℕ). number (take 8 (drop k line))) place

pub key_is :
    (line : List ℕ) (i : ℕ) → i < length (keys_of line) →
    get_or (keys_of line) i 0 ≡ number (take 8 (drop (8 * i) line))
unfolding keys_of
key_is line i here = first_is (length line / 8) i line (omega (arith, keys_count line))
