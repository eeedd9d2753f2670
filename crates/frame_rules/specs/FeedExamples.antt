-- Single calls of feed and finish, worked out from document 01's text, as rows, and the claims that the definitions do
-- what the rows say: the run that follows, the point reached, what is held and printed; and each refusal at its limit.
-- Assumes nothing.
use Rattle.std.specs.Prelude.{ℕ, ◌≡◌, refl, List, [], ◌∷◌, ◌++◌, map, length, take, replicate}
use Prim.Native.String.{String}
use Rattle.rules.specs.Lists.{all, at_front}
use Rattle.rules.specs.Shape.{homes, places}
use Rattle.frame_rules.specs.declared.Run.{Run}
use Rattle.frame_rules.specs.declared.Stage.{Stage}
use Rattle.frame_rules.specs.declared.Stage.TheVariants.{AtFirst, Among, Ended}
use Rattle.frame_rules.specs.Digits.{is_digit, worth, number_after, number, glyph, word_digits}
use Rattle.frame_rules.specs.Lines.{first, first_of, shape_in_limits, tasks_in_limits, in_limits, good_first, good_line}
use Rattle.frame_rules.specs.Frame.{used, first_line, frame_line, line_in, at_end}
use Rattle.frame_rules.specs.Feed.{Buffers, lent_buffers, refusal, line_length, held_after, line_after, held_line}
use Rattle.frame_rules.specs.Feed.{Feeding, feeds, refused, held_or_closed, feed_good, feed, Finishing, finishes}
use Rattle.frame_rules.specs.Feed.{refused_too, last_line, finish_good, finish}
use Rattle.frame_rules.specs.Examples.{bytes}

-- among frames with shape 1, 2 and three tasks
abbrev among : Stage
among = Among (first 1 2 3)

-- a run at a stage that holds n bytes of a line
abbrev run_at : Stage → ℕ → Run
run_at stage n = record { stage = stage; held = n }

-- buffers that are long enough, with a line begun and a table of zeros
abbrev buffers : List ℕ → Buffers
buffers begun = lent_buffers (begun ++ replicate 4096 0) (replicate 32772 0) (replicate 66570 0)

-- what a reader sees of a call: the run that follows, the point reached, what is held, what is printed; or a refusal
pub data Seen : Type 0 where
  left : Run → ℕ → List ℕ → List ℕ → Seen
  refused_by : ℕ → Seen

abbrev seen : Feeding → Seen
seen (feeds run at wrote b) = left run at (take run.held b.line) (take wrote b.out)
seen (refused n b) = refused_by n

-- ---- one feed
pub record FeedRow : Type 0 where
  pub stage : Stage
  pub begun : List ℕ
  pub piece : List ℕ
  pub at : ℕ
  pub next : Stage
  pub point : ℕ
  pub held : List ℕ
  pub prints : List ℕ

-- at a stage, with a line begun, a piece is fed from a point on; the stage that follows, the point reached, what is
-- then held, and what is printed
abbrev fed : Stage → String → String → ℕ → Stage → ℕ → String → String → FeedRow
fed stage begun piece at next point held prints =
    record {
      stage = stage;
      begun = bytes begun;
      piece = bytes piece;
      at = at;
      next = next;
      point = point;
      held = bytes held;
      prints = bytes prints;
    }

abbrev pub feed_rows : List FeedRow
feed_rows =
    -- the first line in two pieces: what is held stands before what comes, and the line feed is passed
    fed AtFirst "" "0102" 0 AtFirst 4 "0102" ""
    ∷ fed AtFirst "0102" "03\n0000" 0 among 3 "" ""
    -- one call takes one line, and the next goes on at the point reached
    ∷ fed AtFirst "" "010203\n000\n0001" 0 among 7 "" ""
    ∷ fed among "" "010203\n000\n0001" 7 among 11 "" "EE\n"
    ∷ fed among "" "010203\n000\n0001" 11 among 15 "0001" ""
    ∷ fed among "0001" "23" 0 among 2 "000123" ""
    -- a line feed alone ends what is held: a bad first line
    ∷ fed AtFirst "01020G" "\n" 0 Ended 1 "" "EE\n"
    -- an ended run prints nothing more
    ∷ fed Ended "" "010203\n" 0 Ended 7 "" ""
    -- a piece whose end is reached already
    ∷ fed among "000" "010203\n" 7 among 7 "000" ""
    ∷ []

pub feeds_hold :
    map (λ (r : FeedRow). seen (feed (run_at r.stage (length r.begun)) r.piece r.at (buffers r.begun)))
    feed_rows
    ≡ map (λ (r : FeedRow). left (run_at r.next (length r.held)) r.point r.held r.prints) feed_rows
unfolding all is_digit worth number_after number first_of shape_in_limits tasks_in_limits in_limits good_first good_line first_line
    frame_line line_in at_front refusal line_length held_after line_after held_line held_or_closed feed_good feed
feeds_hold = refl

-- a line of 4,096 bytes is held whole; a longer one is only counted, as 4,097
pub longest_held : map (held_after 4090) (6 ∷ 7 ∷ 4096 ∷ []) ≡ 4096 ∷ 4097 ∷ 4097 ∷ []
unfolding held_after
longest_held = refl

-- ---- the end of the input
pub record EndRow : Type 0 where
  pub stage : Stage
  pub begun : List ℕ
  pub prints : List ℕ

abbrev ends : Stage → String → String → EndRow
ends stage begun prints = record { stage = stage; begun = bytes begun; prints = bytes prints }

abbrev shown : Finishing → Seen
shown (finishes n b) = left (run_at Ended 0) n [] (take n b.out)
shown (refused_too n b) = refused_by n

abbrev pub end_rows : List EndRow
end_rows =
    -- a missing first line; a first line that lacks its line feed; a bad one
    ends AtFirst "" "EE\n"
    ∷ ends AtFirst "010203" "0000000000000000\n"
    ∷ ends AtFirst "0101" "EE\n"
    -- a last line that lacks its line feed is a line
    ∷ ends among "" "0000000000000000\n"
    ∷ ends among "000" "EE\n0000000000000000\n"
    ∷ ends Ended "000" ""
    ∷ []

pub ends_hold :
    map (λ (r : EndRow). shown (finish (run_at r.stage (length r.begun)) (buffers r.begun))) end_rows
    ≡ map (λ (r : EndRow). left (run_at Ended 0) (length r.prints) [] r.prints) end_rows
unfolding all homes places is_digit worth number_after number glyph word_digits first_of shape_in_limits tasks_in_limits
    in_limits good_first good_line used first_line frame_line line_in at_end at_front refusal held_line last_line finish_good
    finish
ends_hold = refl

-- ---- the refusals, each at its limit
pub record Limit : Type 0 where
  pub m : ℕ
  pub r : ℕ
  pub tasks : ℕ
  pub line : ℕ
  pub table : ℕ
  pub out : ℕ

abbrev limit : ℕ → ℕ → ℕ → ℕ → ℕ → ℕ → Limit
limit m r tasks line table out = record { m = m; r = r; tasks = tasks; line = line; table = table; out = out }

abbrev number_of : Limit → ℕ
number_of l =
    refusal
    (run_at (Among (first l.m l.r l.tasks)) 0)
    (lent_buffers (replicate l.line 0) (replicate l.table 0) (replicate l.out 0))

pub refusals_hold :
    map
    number_of
    (limit 14 12 16 4096 32772 66570
    ∷ limit 15 12 16 4096 32772 66570
    ∷ limit 14 13 16 4096 32772 66570
    ∷ limit 14 12 16 4096 32771 66570
    ∷ limit 14 12 17 4096 32772 66570
    ∷ limit 14 12 16 4095 32772 66570
    ∷ limit 14 12 16 4096 32772 66569
    ∷ limit 0 1 0 4095 32772 66569
    ∷ limit 1 1 0 4095 32772 66569
    ∷ [])
    ≡ 0 ∷ 1 ∷ 1 ∷ 1 ∷ 3 ∷ 9 ∷ 9 ∷ 1 ∷ 3 ∷ []
unfolding shape_in_limits tasks_in_limits refusal
refusals_hold = refl
