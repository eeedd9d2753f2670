-- What a run prints, over its history: a line of keys prints its answers, and the output is what the lines print and
-- then the end. The statements are in Day.
-- Assumes nothing.
use Rattle.std.specs.Prelude.{ℕ, ◌≡◌, refl, Bool, true, false, cond, List, [], ◌∷◌, ◌++◌, length}
use Rattle.std.proofs.Common.{sym, ap, ◌∙◌, append_assoc}
use Rattle.std.proofs.lemmas.Bool.{false≢true}
use Rattle.frame_rules.specs.declared.First.{First}
use Rattle.frame_rules.specs.declared.Stage.{Stage}
use Rattle.frame_rules.specs.declared.Stage.TheVariants.{AtFirst, Among, Ended}
use Rattle.frame_rules.specs.Digits.{digits_of}
use Rattle.frame_rules.specs.Lines.{keys_of, good_line}
use Rattle.frame_rules.specs.Rounds.{Floor, all_answered, play}
use Rattle.frame_rules.specs.Frame.{Day, dawn, used_part, with_used, After, after, printed, error, played_line, frame_line}
use Rattle.frame_rules.specs.Frame.{line_at, line_in, output_from, at_end}
use Rattle.together.specs.Machine.{Said}
use Rattle.frame_day.specs.Terms.{paired, played_history, frame_history, history_at, line_history, shown_answers}
use Rattle.frame_day.specs.Terms.{day_after, printed_by}
use Rattle.frame_day.specs.Counting.{paired_parts}
use Rattle.frame_day.proofs.Kept.{Kept}
use Rattle.frame_day.proofs.Days.{course_of, good_keys, day_kept}

-- ---- the whole output
pub output_parts :
    (d : Day) (lines : List (List ℕ)) → output_from d lines ≡ printed_by d lines ++ at_end (day_after d lines)
unfolding output_from printed_by day_after
output_parts d [] = refl
output_parts d (line ∷ lines) =
    let next = (line_in d line).day in
    ap (λ (bs : List ℕ). (line_in d line).prints ++ bs) (output_parts next lines)
    ∙ sym (append_assoc (line_in d line).prints (printed_by next lines) (at_end (day_after next lines)))

-- ---- one line
-- the run is Among its lines
abbrev going : Stage → Bool
going AtFirst = false
going (Among f) = true
going Ended = false

played_prints :
    (f : First) (table ks : List ℕ) (p : Floor) →
    length p.answers ≡ length ks →
    going (played_line f table ks p).day.stage ≡ true →
    (played_line f table ks p).prints ≡ shown_answers (played_history ks p)
unfolding played_line played_history
played_prints f table ks p size on = go (all_answered ks p) on
  where
    answered : After
    answered = after (Among f) (with_used f p.table table) (printed (digits_of p.answers))

    cut : After
    cut = after Ended (with_used f p.table table) error

    go :
        (b : Bool) →
        going (cond b answered cut).day.stage ≡ true →
        (cond b answered cut).prints
        ≡ shown_answers (cond b (paired ks p.answers) [])
    go true e = ap (λ (answers : List ℕ). printed (digits_of answers)) (sym (paired_parts ks p.answers size).1)
    go false e = absurd (false≢true e)

frame_prints :
    {f : First} {table : List ℕ} {past : List Said} (line : List ℕ) →
    Kept f table past →
    good_line f.shape line ≡ true →
    going (frame_line f table line).day.stage ≡ true →
    (frame_line f table line).prints ≡ shown_answers (frame_history f table line)
unfolding frame_line frame_history
frame_prints {f} {table} line k good on =
    rw good
    (played_prints
    f
    table
    (keys_of line)
    (play f (used_part f table) (keys_of line))
    (course_of k (keys_of line) (good_keys f.shape line good)).as_many
    (rw good at on))

-- a line of keys that does not end the run prints its answers
pub day_prints :
    (lines : List (List ℕ)) (f : First) (line : List ℕ) →
    (day_after dawn lines).stage ≡ Among f →
    good_line f.shape line ≡ true →
    (line_in (day_after dawn lines) line).day.stage ≡ Among f →
    (line_in (day_after dawn lines) line).prints ≡ shown_answers (line_history (day_after dawn lines) line)
unfolding line_in line_history
day_prints lines f line on good still =
    ap (λ (s : Stage). (line_at s table line).prints) on
    ∙ frame_prints
    line
    (day_kept lines f on)
    good
    (ap (λ (s : Stage). going (line_at s table line).day.stage) (sym on) ∙ ap going still)
    ∙ ap (λ (s : Stage). shown_answers (history_at s table line)) (sym on)
  where
    table : List ℕ
    table = (day_after dawn lines).table
