-- A line of keys, and any line, as the code closes them. `came_is`: what the call for one line comes to is frame_rules'
-- frame_line, and `text_closed` closes it. `long_is`: a line too long. `first_in` to `ended_in`: by stage.
-- Assumes nothing.
use Rattle.std.specs.Prelude.{ℕ, ◌*◌, ◌<◌, ◌≡◌, Bool, length}
use Rattle.std.proofs.Math.Path.{refl, ap}
use Rattle.std.proofs.Common.{subst, ◌∙◌, arith, take-append-drop, length-take-le}
use Rattle.std.proofs.Math.Bool.{true, false, cond, and-eq-true_iff}
use mathlib.Core.List.{List, [], ◌∷◌, ◌++◌}
use Rattle.std.proofs.Math.ListN.{take, drop}
use Rattle.std.proofs.Math.Seq.{take_at}
use Rattle.std.proofs.Math.Dec.{leb}
use borrow.Author.Tests.{le-leb, eq-eqb}
use Rattle.rules.specs.Shape.{places, fits_length, good_table}
use Rattle.rules.specs.Lists.{at_front, all}
use Rattle.frame_rules.specs.declared.First.{First}
use Rattle.frame_rules.specs.declared.Run.{Run}
use Rattle.frame_rules.specs.declared.Stage.TheVariants.{AtFirst, Among, Ended}
use Rattle.frame_rules.specs.Digits.{is_digit, digits_of}
use Rattle.frame_rules.specs.Lines.{first_of, good_first, shape_in_limits, tasks_in_limits, in_limits, keys_of, good_line}
use Rattle.frame_rules.specs.Rounds.{Floor, all_answered, play}
use Rattle.frame_rules.specs.declared.Stage.{Stage}
use Rattle.frame_rules.specs.Frame.{Day, line_at, After, after, used, printed, error, first_line, played_line, frame_line, line_in}
use Rattle.frame_rules.specs.Call.{Came, passed_over, answered, refused, Line, left_alone, played, line, ended}
use Rattle.frame_rules.specs.Feed.{run_of, day_of, held_line}
use Rattle.table_words.specs.Range.{range_in}
use Rattle.frame_first.specs.Limits.{in_limits_lem, used_fits}
use Rattle.frame_pieces.specs.Sizes.{play_answers}
use Rattle.frame_pieces.specs.Held.{held_long, bad_first, bad_line}
use Rattle.frame_pieces.specs.Limits.{keys_count, few_keys, in_stage, Fit}
use Rattle.frame_run.specs.declared.close.Closed.{Closed}
use Rattle.frame_run.specs.Closing.{Closing, closed, closing, line_came, few_answers}

-- ---- a first line within its limits
module _ (f : First) (within_limits : in_limits f ≡ true) where
  -- ---- the call for one line on the used part
  module _ (table text slots : List ℕ) (sized : length table ≡ 32772) (many : length slots ≡ 512) where
    part_good : good_table f.shape (length (take (used f) table)) ≡ true
    unfolding good_table fits_length used
    part_good =
        rw (range_in f.shape (in_limits_lem f within_limits).range)
        (eq-eqb (length (take (used f) table)) (2 * places f.shape)
        (length-take-le (used f) table (omega (arith, used_fits f within_limits))))

    tasks_good : tasks_in_limits f.tasks ≡ true
    unfolding in_limits
    tasks_good = ((and-eq-true_iff (shape_in_limits f.shape) (tasks_in_limits f.tasks)).0 within_limits).1

    abbrev called : Line
    called = line f (take (used f) table) text slots

    abbrev floor : Floor
    floor = play f (take (used f) table) (keys_of text)

    -- a good line has slots enough
    enough : good_line f.shape text ≡ true → leb (length (keys_of text)) (length slots) ≡ true
    enough good =
        le-leb (length (keys_of text)) (length slots)
        (omega (arith, keys_count text, few_keys f text good))

    called_good :
        good_line f.shape text ≡ true → called ≡ played (keys_of text) slots floor
    unfolding line
    called_good good = rw (part_good, tasks_good) (rw (good) (rw (enough good)))

    called_bad :
        good_line f.shape text ≡ false → called ≡ left_alone passed_over (take (used f) table) slots
    unfolding line
    called_bad bad = rw (part_good, tasks_good) (rw bad)

    abbrev came_to : Line → After
    came_to x = line_came f x.came x.slots (x.table ++ drop (used f) table)

    came_good : came_to (played (keys_of text) slots floor) ≡ played_line f table (keys_of text) floor
    unfolding played played_line
    came_good = go (all_answered (keys_of text) floor)
      where
        front : take (length (keys_of text)) (floor.answers ++ drop (length (keys_of text)) slots) ≡ floor.answers
        front =
            take_at floor.answers (drop (length (keys_of text)) slots) (length (keys_of text))
            (play_answers f (take (used f) table) (keys_of text))

        go : (b : Bool) →
            line_came f (cond b (answered (length (keys_of text))) ended)
            (floor.answers ++ drop (length (keys_of text)) slots) (floor.table ++ drop (used f) table)
            ≡ cond b
            (after (Among f) (floor.table ++ drop (used f) table) (printed (digits_of floor.answers)))
            (after Ended (floor.table ++ drop (used f) table) error)
        go true = rw front
        go false = refl

    came_is : came_to called ≡ frame_line f table text
    unfolding frame_line
    came_is = go (good_line f.shape text) refl
      where
        go : (b : Bool) → good_line f.shape text ≡ b →
            came_to called
            ≡ cond b (played_line f table (keys_of text) floor) (after (Among f) table error)
        go true e = ap came_to (called_good e) ∙ came_good
        go false e =
            ap came_to (called_bad e)
            ∙ ap (λ (t : List ℕ). after (Among f) t error) (take-append-drop (used f) table)

    few_called : few_answers called.came ≡ true
    unfolding played
    few_called = go (good_line f.shape text) refl
      where
        few : good_line f.shape text ≡ true → leb (length (keys_of text)) 512 ≡ true
        few good = le-leb (length (keys_of text)) 512 (omega (arith, keys_count text, few_keys f text good))

        all_or : (b : Bool) → leb (length (keys_of text)) 512 ≡ true →
            few_answers (cond b (answered (length (keys_of text))) ended) ≡ true
        all_or true e = e
        all_or false e = refl

        go : (b : Bool) → good_line f.shape text ≡ b → few_answers called.came ≡ true
        go true e =
            ap (λ (x : Line). few_answers x.came) (called_good e)
            ∙ all_or (all_answered (keys_of text) floor) (few e)
        go false e = ap (λ (x : Line). few_answers x.came) (called_bad e)

    -- as the code has it: the part up to its count of bytes
    module _ (u : ℕ) (is : u ≡ used f) where
      as_called : line f (take u table) text slots ≡ called
      as_called = ap (λ (k : ℕ). line f (take k table) text slots) is

      module _ (a : Came) (part slots' : List ℕ) (e : left_alone a part slots' ≡ line f (take u table) text slots)
        where
          pub few_came : few_answers a ≡ true
          few_came = ap (λ (x : Line). few_answers x.came) (e ∙ as_called) ∙ few_called

          pub text_closed :
              (c : Closed) (out out' : List ℕ) → closed c [] out' ≡ closing (line_came f a slots' []) out →
              closed c (part ++ drop u table) out' ≡ closing (frame_line f table text) out
          text_closed c out out' shown =
              ap (on_table (part ++ drop u table)) shown
              ∙ on_came a
              ∙ ap (λ (x : After). closing x out)
              (ap (λ (k : ℕ). line_came f a slots' (part ++ drop k table)) is
              ∙ ap came_to (e ∙ as_called)
              ∙ came_is)
            where
              on_table : List ℕ → Closing → Closing
              on_table t x = record { run = x.run; wrote = x.wrote; table = t; out = x.out }

              on_came : (b : Came) →
                  on_table (part ++ drop u table) (closing (line_came f b slots' []) out)
                  ≡ closing (line_came f b slots' (part ++ drop u table)) out
              on_came passed_over = refl
              on_came (answered n) = refl
              on_came ended = refl
              on_came (refused n) = refl

-- ---- a line feed is as bad as a line too long
pub long_is :
    (d : Day) (held : ℕ) (line : List ℕ) → 4096 < held → line_in d (10 ∷ []) ≡ line_in d (held_line held line)
unfolding line_in first_line frame_line good_first good_line all is_digit
long_is d held line long = go d.stage
  where
    go : (s : Stage) → line_at s d.table (10 ∷ []) ≡ line_at s d.table (held_line held line)
    go AtFirst = rw (bad_first (held_line held line) (held_long held line long))
    go (Among f) = rw (bad_line f.shape (held_line held line) (held_long held line long))
    go Ended = refl

-- ---- a whole line, by the stage of its run
module _ (run : Run) (table text out : List ℕ) where
  pub first_in :
      run.stage ≡ AtFirst → (c : Closed) (out' : List ℕ) → closed c [] out' ≡ closing (first_line [] text) out →
      closed c table out' ≡ closing (line_in (day_of run table) text) out
  unfolding line_in first_line
  first_in e c out' shown = ap on_table shown ∙ on_first (good_first text) ∙ rw e
    where
      on_table : Closing → Closing
      on_table x = record { run = x.run; wrote = x.wrote; table = table; out = x.out }

      on_first : (b : Bool) →
          on_table (closing (cond b (after (Among (first_of text)) [] []) (after Ended [] error)) out)
          ≡ closing (cond b (after (Among (first_of text)) table []) (after Ended table error)) out
      on_first true = refl
      on_first false = refl

  pub frame_in :
      (f : First) → run.stage ≡ Among f → (x : Closing) → x ≡ closing (frame_line f table text) out →
      x ≡ closing (line_in (day_of run table) text) out
  unfolding line_in
  frame_in f e x is = is ∙ rw e

  pub ended_in :
      run.stage ≡ Ended → (x : Run) → x ≡ run_of Ended →
      closed (record { run = x; wrote = 0 }) table out ≡ closing (line_in (day_of run table) text) out
  unfolding line_in at_front
  ended_in e x is = rw (e, is)

-- among frames, the first line of a day that is fit is within its limits
pub among_limits :
    (run : Run) (table : List ℕ) → Fit (day_of run table) → (f : First) → run.stage ≡ Among f → in_limits f ≡ true
among_limits run table fit f e = subst in_stage e fit.stage
