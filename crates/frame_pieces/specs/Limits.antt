-- What is printed fits the room for it: a line prints at most 1,025 bytes (`line_prints`), the end at most 65,545
-- (`end_prints`). A day that is fit stays fit (`Fit`, `line_fits`): its table's length, and what its first line said.
-- Assumes nothing.
use Rattle.std.specs.Prelude.{ℕ, zero, suc, ◌+◌, ◌/◌, ◌%◌, ◌≤◌, ◌≡◌, refl, Bool, true, false, cond, ◌&&◌, List, [], ◌∷◌, length, drop, leb, ltb, eqb}
use Rattle.std.proofs.Common.{ap, arith, length-append, length-take, length-drop, length-take-le, leb-true}
use Rattle.std.proofs.Math.Bool.{and-eq-true_iff}
use Rattle.std.proofs.lemmas.List.{length-replicate}
use Rattle.rules.specs.Lists.{all}
use Rattle.rules.specs.Shape.{keys}
use Rattle.frame_rules.specs.declared.First.{First}
use Rattle.frame_rules.specs.declared.Stage.{Stage}
use Rattle.frame_rules.specs.declared.Stage.TheVariants.{AtFirst, Among, Ended}
use Rattle.frame_rules.specs.Digits.{is_digit, digits_of, word_digits}
use Rattle.frame_digits.specs.Print.{digits_length, words_length}
use Rattle.frame_rules.specs.Lines.{first_of, in_limits, good_first, first_keys, keys_of, good_line}
use Rattle.frame_rules.specs.Rounds.{Floor, all_answered, play}
use Rattle.frame_rules.specs.Frame.{Day, dawn, used, used_part, with_used, after, printed, error, first_line, played_line}
use Rattle.frame_rules.specs.Frame.{frame_line, line_at, line_in, end_at, at_end}
use Rattle.frame_first.specs.Limits.{used_fits}
use Rattle.frame_pieces.specs.Sizes.{play_table, play_answers}

-- ---- how much is printed
first_keys_count : (n : ℕ) (line : List ℕ) → length (first_keys n line) ≡ n
unfolding first_keys
first_keys_count zero line = refl
first_keys_count (suc n) line = ap suc (first_keys_count n (drop 8 line))

pub keys_count : (line : List ℕ) → length (keys_of line) ≡ length line / 8
unfolding keys_of
keys_count line = first_keys_count (length line / 8) line

printed_length : (text : List ℕ) → length (printed text) ≡ length text + 1
printed_length text = length-append text (10 ∷ [])

played_prints :
    (f : First) (table ks : List ℕ) (p : Floor) → length p.answers ≤ 512 →
    length (played_line f table ks p).prints ≤ 1025
unfolding played_line
played_prints f table ks p few = go (all_answered ks p)
  where
    go :
        (done : Bool) →
        length (cond done
        (after (Among f) (with_used f p.table table) (printed (digits_of p.answers)))
        (after Ended (with_used f p.table table) error)).prints ≤ 1025
    go true =
        let e = printed_length (digits_of p.answers) in
        let h = digits_length p.answers in
        omega arith
    go false = omega arith

-- a good line has at most 512 keys
pub few_keys : (f : First) (line : List ℕ) → good_line f.shape line ≡ true → length line ≤ 4096
unfolding good_line
few_keys f line e =
    let front = ((and-eq-true_iff
    (all is_digit line && eqb (length line % 8) 0 && leb (length line) 4096)
    (all (λ (key : ℕ). ltb key (keys f.shape)) (keys_of line))).0 e).0 in
    leb-true (length line) 4096 ((and-eq-true_iff
    (all is_digit line && eqb (length line % 8) 0)
    (leb (length line) 4096)).0 front).1

frame_prints : (f : First) (table line : List ℕ) → length (frame_line f table line).prints ≤ 1025
unfolding frame_line
frame_prints f table line = go (good_line f.shape line) refl
  where
    go :
        (good : Bool) → good_line f.shape line ≡ good →
        length (cond good
        (played_line f table (keys_of line) (play f (used_part f table) (keys_of line)))
        (after (Among f) table error)).prints ≤ 1025
    go true e =
        let few = few_keys f line e in
        let count = keys_count line in
        let size = play_answers f (used_part f table) (keys_of line) in
        played_prints f table (keys_of line) (play f (used_part f table) (keys_of line))
        (omega arith)
    go false e = omega arith

first_prints : (table line : List ℕ) → length (first_line table line).prints ≤ 1025
unfolding first_line
first_prints table line = go (good_first line)
  where
    go :
        (good : Bool) →
        length (cond good (after (Among (first_of line)) table []) (after Ended table error)).prints ≤ 1025
    go true = omega arith
    go false = omega arith

prints_at : (s : Stage) (table line : List ℕ) → length (line_at s table line).prints ≤ 1025
prints_at AtFirst table line = first_prints table line
prints_at (Among f) table line = frame_prints f table line
prints_at Ended table line = omega arith

pub line_prints : (d : Day) (line : List ℕ) → length (line_in d line).prints ≤ 1025
unfolding line_in
line_prints d line = prints_at d.stage d.table line

-- ---- a fit day
abbrev pub in_stage : Stage → Type 0
in_stage AtFirst = Unit {0}
in_stage (Among f) = in_limits f ≡ true
in_stage Ended = Unit {0}

pub record Fit (d : Day) : Type 0 where
  pub stage : in_stage d.stage
  pub table : length d.table ≡ 32772

pub dawn_fits : Fit dawn
unfolding dawn
dawn_fits = record { stage = tt; table = length-replicate {A = ℕ} 32772 0 }

ends_at : (s : Stage) (table : List ℕ) → in_stage s → length (end_at s table) ≤ 65545
ends_at AtFirst table i = omega arith
ends_at (Among f) table i =
    let e = printed_length (word_digits (used_part f table)) in
    let h = words_length (used_part f table) in
    let l = length-take (used f) table in
    let u = used_fits f i in
    omega arith
ends_at Ended table i = omega arith

pub end_prints : (d : Day) → Fit d → length (at_end d) ≤ 65545
unfolding at_end
end_prints d fit = ends_at d.stage d.table fit.stage

-- the table with its used part as it now is has the length that it had
used_kept :
    (f : First) (part table : List ℕ) → in_limits f ≡ true → length table ≡ 32772 →
    length part ≡ length (used_part f table) → length (with_used f part table) ≡ 32772
used_kept f part table i size same =
    let u = used_fits f i in
    let a = length-append part (drop (used f) table) in
    let b = length-drop (used f) table in
    let c = length-take-le (used f) table (omega arith) in
    omega arith

played_fits :
    (f : First) (table ks : List ℕ) (p : Floor) → in_limits f ≡ true → length (with_used f p.table table) ≡ 32772 →
    Fit (played_line f table ks p).day
unfolding played_line
played_fits f table ks p i size = go (all_answered ks p)
  where
    go :
        (done : Bool) →
        Fit
        (cond done
        (after (Among f) (with_used f p.table table) (printed (digits_of p.answers)))
        (after Ended (with_used f p.table table) error)).day
    go true = record { stage = i; table = size }
    go false = record { stage = tt; table = size }

frame_fits :
    (f : First) (table line : List ℕ) → in_limits f ≡ true → length table ≡ 32772 → Fit (frame_line f table line).day
unfolding frame_line
frame_fits f table line i size = go (good_line f.shape line)
  where
    go :
        (good : Bool) →
        Fit
        (cond good
        (played_line f table (keys_of line) (play f (used_part f table) (keys_of line)))
        (after (Among f) table error)).day
    go true =
        let p = play f (used_part f table) (keys_of line) in
        played_fits f table (keys_of line) p i
        (used_kept f p.table table i size
        (play_table f (used_part f table) (keys_of line)))
    go false = record { stage = i; table = size }

first_fits : (table line : List ℕ) → length table ≡ 32772 → Fit (first_line table line).day
unfolding first_line good_first
first_fits table line size = go (good_first line) refl
  where
    go :
        (good : Bool) → good_first line ≡ good →
        Fit (cond good (after (Among (first_of line)) table []) (after Ended table error)).day
    go true e =
        record {
          stage = ((and-eq-true_iff (eqb (length line) 6 && all is_digit line) (in_limits (first_of line))).0 e).1;
          table = size;
        }
    go false e = record { stage = tt; table = size }

fits_at : (s : Stage) (table line : List ℕ) → in_stage s → length table ≡ 32772 → Fit (line_at s table line).day
fits_at AtFirst table line i size = first_fits table line size
fits_at (Among f) table line i size = frame_fits f table line i size
fits_at Ended table line i size = record { stage = tt; table = size }

pub line_fits : (d : Day) (line : List ℕ) → Fit d → Fit (line_in d line).day
unfolding line_in
line_fits d line fit = fits_at d.stage d.table line fit.stage fit.table
