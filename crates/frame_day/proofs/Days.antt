-- A whole day, line by line: `Fine`, what holds of a run at each stage. It holds at dawn, and every line keeps it
-- (`fine_lines`), so a run that has not Ended has what Kept says (`day_kept`).
-- Assumes nothing.
use Rattle.std.specs.Prelude.{ℕ, ◌%◌, ◌≡◌, refl, Bool, true, false, cond, ◌&&◌, List, [], ◌∷◌, ◌++◌, length, replicate, eqb, leb}
use Rattle.std.proofs.Common.{sym, ◌∙◌, subst, subst₂, append_assoc, append-nil}
use Rattle.rules.specs.declared.Shape.{Shape}
use Rattle.rules.specs.Lists.{all}
use Rattle.theory.specs.Dealt.{and_right}
use Rattle.demands.specs.Terms.{InKeys}
use Rattle.frame_rules.specs.declared.First.{First}
use Rattle.frame_rules.specs.declared.Stage.{Stage}
use Rattle.frame_rules.specs.declared.Stage.TheVariants.{AtFirst, Among, Ended}
use Rattle.frame_rules.specs.Digits.{is_digit, digits_of}
use Rattle.frame_rules.specs.Lines.{first_of, good_first, keys_of, good_line}
use Rattle.frame_rules.specs.Rounds.{Floor, all_answered, play}
use Rattle.frame_rules.specs.Frame.{Day, dawn, used_part, with_used, After, after, printed, error, first_line, played_line}
use Rattle.frame_rules.specs.Frame.{frame_line, line_at, line_in}
use Rattle.together.specs.Machine.{Said}
use Rattle.frame_day.specs.Terms.{paired, Follows, day_after, history, played_history, frame_history, history_at}
use Rattle.frame_day.specs.Terms.{line_history}
use Rattle.frame_day.proofs.Moments.{play_follows}
use Rattle.frame_first.specs.Limits.{in_limits_lem}
use Rattle.frame_day.proofs.Kept.{Kept, zeros_kept, kept_line}

-- at the first line nothing has happened; of an Ended run nothing is said
abbrev Fine : Stage → List ℕ → List Said → Type 0
Fine AtFirst table past = (table ≡ replicate 32772 0) × (past ≡ [])
Fine (Among f) table past = Kept f table past
Fine Ended table past = Unit {0}

abbrev FineAfter : After → List Said → Type 0
FineAfter a past = Fine a.day.stage a.day.table past

-- ---- one line
-- the first
fine_first :
    {table : List ℕ} {past : List Said} (line : List ℕ) →
    table ≡ replicate 32772 0 → past ≡ [] → FineAfter (first_line table line) (past ++ [])
unfolding first_line good_first
fine_first {table} {past} line zeros none = go (good_first line) refl
  where
    go :
        (b : Bool) →
        good_first line ≡ b →
        FineAfter (cond b (after (Among (first_of line)) table []) (after Ended table error)) (past ++ [])
    go true e =
        subst₂
        (Kept (first_of line))
        (sym zeros)
        (sym (append-nil past ∙ none))
        (zeros_kept (first_of line) (and_right (eqb (length line) 6 && all is_digit line) _ e))
    go false e = tt

pub good_keys : (sh : Shape) (line : List ℕ) → good_line sh line ≡ true → InKeys sh (keys_of line)
unfolding good_line
good_keys sh line e = and_right (all is_digit line && eqb (length line % 8) 0 && leb (length line) 4096) _ e

-- the rounds are over
fine_played :
    {f : First} {table : List ℕ} {past : List Said} {ks : List ℕ} (p : Floor) →
    Kept f table past →
    InKeys f.shape ks →
    Follows f (used_part f table) ks p →
    FineAfter (played_line f table ks p) (past ++ played_history ks p)
unfolding played_line played_history
fine_played {f} {table} {past} {ks} p k h run = go (all_answered ks p) refl
  where
    bytes : List ℕ
    bytes = with_used f p.table table

    go :
        (b : Bool) →
        all_answered ks p ≡ b →
        FineAfter
        (cond b (after (Among f) bytes (printed (digits_of p.answers))) (after Ended bytes error))
        (past ++ cond b (paired ks p.answers) [])
    go true e = kept_line k h run e
    go false e = tt

-- the line's course, where the run has come so far
pub course_of :
    {f : First} {table : List ℕ} {past : List Said} (k : Kept f table past) (ks : List ℕ) →
    InKeys f.shape ks →
    Follows f (used_part f table) ks (play f (used_part f table) ks)
course_of {f} k ks h = play_follows f ks k.plain (in_limits_lem f k.limits).tasks_high h

-- a line of keys, or one passed over
fine_frame :
    {f : First} {table : List ℕ} {past : List Said} (line : List ℕ) →
    Kept f table past → FineAfter (frame_line f table line) (past ++ frame_history f table line)
unfolding frame_line frame_history
fine_frame {f} {table} {past} line k = go (good_line f.shape line) refl
  where
    p : Floor
    p = play f (used_part f table) (keys_of line)

    go :
        (b : Bool) →
        good_line f.shape line ≡ b →
        FineAfter
        (cond b (played_line f table (keys_of line) p) (after (Among f) table error))
        (past ++ cond b (played_history (keys_of line) p) [])
    go true e =
        let h = good_keys f.shape line e in
        fine_played p k h (course_of k (keys_of line) h)
    go false e = subst (Kept f table) (sym (append-nil past)) k

-- any line
fine_at :
    (stage : Stage) (table : List ℕ) (past : List Said) (line : List ℕ) →
    Fine stage table past → FineAfter (line_at stage table line) (past ++ history_at stage table line)
fine_at AtFirst table past line fine = fine_first line fine.0 fine.1
fine_at (Among f) table past line fine = fine_frame line fine
fine_at Ended table past line fine = tt

-- ---- any number of lines
fine_lines :
    (d : Day) (past : List Said) (lines : List (List ℕ)) →
    Fine d.stage d.table past →
    Fine (day_after d lines).stage (day_after d lines).table (past ++ history d lines)
unfolding day_after history line_in line_history
fine_lines d past [] fine = subst (Fine d.stage d.table) (sym (append-nil past)) fine
fine_lines d past (line ∷ lines) fine =
    let next = (line_in d line).day in
    subst
    (Fine (day_after next lines).stage (day_after next lines).table)
    (append_assoc past (line_history d line) (history next lines))
    (fine_lines next (past ++ line_history d line) lines (fine_at d.stage d.table past line fine))

-- ---- from dawn, as long as the run has not Ended
pub day_kept :
    (lines : List (List ℕ)) (f : First) →
    (day_after dawn lines).stage ≡ Among f → Kept f (day_after dawn lines).table (history dawn lines)
unfolding dawn
day_kept lines f on =
    subst
    (λ (s : Stage). Fine s (day_after dawn lines).table (history dawn lines))
    on
    (fine_lines dawn [] lines (refl, refl))
