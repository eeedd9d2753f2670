-- What digits of a line of a schedule say (docs/SCHEDULE.md): `two`, the number that two write; `record_of`, a record
-- field by field; `record_in`, the record of a line that stores one, behind the two digits of its task.
-- Assumes nothing.
use Rattle.std.specs.Prelude.{ℕ, ◌≡◌, List, take, drop}
use Rattle.std.proofs.Common.{drop-drop}
use Rattle.rules.specs.declared.Task.{Task}
use Rattle.frame_rules.specs.Digits.{number}

abbrev pub two : List ℕ → ℕ → ℕ
two line place = number (take 2 (drop place line))

-- key 8, phase 2, left 6, right 6, hand 6, goal 6, mark 2, answer 2: each field begins where the one before it ends
unfoldable pub record_of : List ℕ → Task
record_of key =
    let phase = drop 8 key in
    let left = drop 2 phase in
    let right = drop 6 left in
    let hand = drop 6 right in
    let goal = drop 6 hand in
    let mark = drop 6 goal in
    let answer = drop 2 mark in
    record {
      key = number (take 8 key);
      phase = number (take 2 phase);
      left = number (take 6 left);
      right = number (take 6 right);
      hand = number (take 6 hand);
      goal = number (take 6 goal);
      mark = number (take 2 mark);
      answer = number (take 2 answer);
    }

abbrev pub record_in : List ℕ → Task
record_in line = record_of (drop 2 line)

-- each field by its place in the line
pub fields_at :
    (line : List ℕ) →
    record {
      key = number (take 8 (drop 2 line));
      phase = two line 10;
      left = number (take 6 (drop 12 line));
      right = number (take 6 (drop 18 line));
      hand = number (take 6 (drop 24 line));
      goal = number (take 6 (drop 30 line));
      mark = two line 36;
      answer = two line 38;
    } ≡ record_in line
unfolding record_of
fields_at line =
    rw (
      drop-drop 8 2 line,
      drop-drop 2 10 line,
      drop-drop 6 12 line,
      drop-drop 6 18 line,
      drop-drop 6 24 line,
      drop-drop 6 30 line,
      drop-drop 2 36 line,
    )
