-- A line's rounds are a run in the sense of demand 3, so the answers and the printed table inherit its theorem; for
-- every shape in range, every line and every day. The terms are in Terms; every proof is elsewhere (Moments, Line,
-- Room, Kept, Days, Printing). `output` of an input is `output_from dawn` of its lines, `lines_of input`.
-- Assumes nothing.
use Rattle.std.specs.Prelude.{ℕ, ◌≤◌, ◌≡◌, ◌≢◌, Bool, ◌||◌, List, ◌++◌, length}
use Rattle.std.proofs.Math.Path.{sym, ap}
use Rattle.std.proofs.Common.{◌∙◌, arith}
use Rattle.std.proofs.Math.Bool.{true, false}
use Rattle.std.proofs.Math.Dec.{leb}
use Rattle.rules.specs.Lists.{bit_of}
use Rattle.rules.specs.Shape.{homes, keys, good_table}
use Rattle.rules.specs.Answer.{says, leaves}
use Rattle.rules.specs.Build.{build}
use Rattle.theory.specs.Every.{All}
use Rattle.theory.specs.Keys.{Ascending, listed}
use Rattle.demands.specs.Terms.{PlainTable, InKeys, list_of, distinct, put_all}
use Rattle.demands.specs.Demand2.{list_ascends_lem}
use Rattle.frame_rules.specs.declared.First.{First}
use Rattle.frame_rules.specs.declared.Stage.{Stage}
use Rattle.frame_rules.specs.declared.Stage.TheVariants.{Among}
use Rattle.frame_rules.specs.Digits.{word_digits}
use Rattle.frame_rules.specs.Lines.{in_limits, good_line}
use Rattle.frame_rules.specs.Rounds.{Floor, start, all_answered, rounds, play}
use Rattle.frame_rules.specs.Frame.{dawn, used_part, printed, line_in, end_at, at_end, output_from}
use Rattle.together.specs.Machine.{Said, times_inserted}
use Rattle.together.specs.Demand3.{was_inserted}
use Rattle.frame_day.specs.Terms.{paired, keys_in, inserted_in, Follows, day_after, history, line_history, printed_by}
use Rattle.frame_day.specs.Terms.{shown_answers}
use Rattle.frame_day.proofs.Moments.{rounds_follow, play_follows}
use Rattle.frame_day.proofs.Line as line
use Rattle.frame_day.proofs.Room as room
use Rattle.frame_day.proofs.Kept as kept
use Rattle.frame_day.proofs.Days.{day_kept}
use Rattle.frame_day.proofs.Printing.{output_parts, day_prints}

-- ---- one line: a sound unlocked table, at most 16 tasks, keys in range
module _ (f : First) {bytes : List ℕ} (t : PlainTable f.shape bytes) (few : f.tasks ≤ 16) (ks : List ℕ)
    (h : InKeys f.shape ks)
  where
    -- after any number of rounds the line's floor is reached by a course of gives and steps
    pub line_is_course : (k : ℕ) → Follows f bytes ks (rounds f ks k (start bytes f.tasks ks))
    line_is_course = rounds_follow f ks t few h

    -- what the line comes to, and its keys with their answers
    abbrev pub end : Floor
    end = play f bytes ks

    abbrev pub answers : List Said
    answers = paired ks end.answers

    course_of_line : Follows f bytes ks end
    course_of_line = play_follows f ks t few h

    -- if all its keys are answered,
    module _ (complete : all_answered ks end ≡ true) where
      -- the table is sound and without locks,
      pub line_table : PlainTable f.shape end.table
      line_table = line.line_plain f t few course_of_line complete

      -- every answer is found, inserted or full: none is 0 (none yet), and 4 is never given,
      pub line_answers : All (λ (s : Said). (1 ≤ s.answer) × (s.answer ≤ 3)) answers
      line_answers = line.line_known f t few course_of_line complete

      -- the table lists the keys from before and those answered inserted,
      pub line_lists :
          (x : ℕ) → listed x (list_of f.shape end.table)
          ≡ (listed x (list_of f.shape bytes) || was_inserted x answers)
      line_lists = line.line_lists f t few course_of_line complete

      -- none so answered twice,
      pub line_once : (x : ℕ) → times_inserted x answers ≤ 1
      line_once = line.line_once f t few course_of_line complete

      -- and none that was there before
      pub line_new : (x : ℕ) → listed x (list_of f.shape bytes) ≡ true → times_inserted x answers ≡ 0
      line_new = line.line_new f t few course_of_line complete

      -- If the keys from before and the line's are no more distinct keys than places without guards,
      module _ (fits : distinct f.shape (list_of f.shape bytes ++ ks) ≤ homes f.shape) where
        -- none is answered full,
        pub line_none_full : All (λ (s : Said). s.answer ≢ 3) answers
        line_none_full = room.line_none_full f t few course_of_line complete h fits

        -- and the bytes are those of putting the keys answered inserted one by one
        pub line_bytes : put_all f.shape bytes (inserted_in answers) ≡ end.table
        line_bytes = room.line_bytes f t few course_of_line complete h fits

-- ---- a whole day from the zero table: as long as the run has a good first line and has not Ended,
module _ (lines : List (List ℕ)) (f : First) (on : (day_after dawn lines).stage ≡ Among f) where
  -- the table, and the accepted keys with their answers, in order
  abbrev pub table : List ℕ
  table = used_part f (day_after dawn lines).table

  abbrev pub past : List Said
  past = history dawn lines

  -- the first line is in its limits,
  pub day_limits : in_limits f ≡ true
  day_limits = (day_kept lines f on).limits

  -- the table is sound and without locks,
  pub day_table : PlainTable f.shape table
  day_table = (day_kept lines f on).plain

  -- its list ascends strictly, so that it has no key twice,
  pub day_ascends : Ascending (keys f.shape) 0 (list_of f.shape table)
  day_ascends = list_ascends_lem day_table.whole

  -- it lists exactly the keys answered inserted,
  pub day_lists : (x : ℕ) → listed x (list_of f.shape table) ≡ was_inserted x past
  unfolding was_inserted
  day_lists x = go (listed x (list_of f.shape table)) ((day_kept lines f on).tally x)
    where
      go : (b : Bool) → times_inserted x past ≡ bit_of b → b ≡ leb 1 (times_inserted x past)
      go true e = sym (ap (leb 1) e)
      go false e = sym (ap (leb 1) e)

  -- each so answered once,
  pub day_once : (x : ℕ) → times_inserted x past ≤ 1
  day_once x = go (listed x (list_of f.shape table)) ((day_kept lines f on).tally x)
    where
      go : (b : Bool) → times_inserted x past ≡ bit_of b → times_inserted x past ≤ 1
      go true e = omega arith
      go false e = omega arith

  -- and every answer is found, inserted or full; 4 is never given
  pub day_answers : All (λ (s : Said). (1 ≤ s.answer) × (s.answer ≤ 3)) past
  day_answers = (day_kept lines f on).known

  -- If the accepted keys are no more distinct keys than places without guards,
  module _ (fits : distinct f.shape (keys_in past) ≤ homes f.shape) where
    -- none is answered full,
    pub day_none_full : All (λ (s : Said). s.answer ≢ 3) past
    day_none_full = (kept.has_room (day_kept lines f on) fits).none_full

    -- each of them is answered inserted exactly once,
    pub day_accepted_once : (x : ℕ) → listed x (keys_in past) ≡ true → times_inserted x past ≡ 1
    day_accepted_once = kept.accepted_once (day_kept lines f on) fits

    -- and the table is what building them gives, whatever the tasks and the rounds were
    pub day_bytes :
        (bytes : List ℕ) →
        good_table f.shape (length bytes) ≡ true →
        build f.shape bytes (keys_in past) ≡ leaves (says 0) table
    day_bytes = kept.kept_built (day_kept lines f on) fits

  -- the next line, if it is one of keys and does not end the run, prints its keys' answers,
  pub day_line_prints :
      (line : List ℕ) →
      good_line f.shape line ≡ true →
      (line_in (day_after dawn lines) line).day.stage ≡ Among f →
      (line_in (day_after dawn lines) line).prints ≡ shown_answers (line_history (day_after dawn lines) line)
  day_line_prints line good still = day_prints lines f line on good still

  -- and if there is no next line, what is printed last is the digits of that table
  pub day_output : output_from dawn lines ≡ printed_by dawn lines ++ printed (word_digits table)
  unfolding at_end
  day_output =
      output_parts dawn lines
      ∙ ap (λ (s : Stage). printed_by dawn lines ++ end_at s (day_after dawn lines).table) on
