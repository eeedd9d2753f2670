-- One call at a time. `Stands l run b`: a run and its buffers stand for a day on which the line l is begun. Feeding
-- prints what the bytes that it takes bring about (`feed_prints`), and finishing the rest (`finish_prints`).
-- Assumes nothing.
use Prim.Native.Nat.{ℕ, suc, ◌+◌, ◌≤◌, ◌<◌}
use Rattle.std.specs.Prelude.{◌≡◌, Bool, cond, ◌&&◌, take, drop, leb, eqb}
use Rattle.std.proofs.Math.Path.{refl, ap}
use Rattle.std.proofs.Common.{sym, ◌∙◌, subst, arith, length-append, length-drop, length-take-le, ltb-true, ltb-false, leb-true, le-leb, eqb-true, eq-eqb, ne_eqb}
use Rattle.std.proofs.Math.Bool.{true, false, and-eq-true_iff}
use mathlib.Core.List.{List, [], ◌∷◌, ◌++◌}
use Rattle.std.proofs.Math.ListN.{length}
use Rattle.std.proofs.Math.Seq.{take-append_seam}
use Rattle.std.proofs.Math.Dec.{ltb}
use Rattle.rules.specs.Lists.{at_front}
use Rattle.frame_rules.specs.declared.Run.{Run}
use Rattle.frame_rules.specs.declared.Stage.{Stage}
use Rattle.frame_rules.specs.declared.Stage.TheVariants.{AtFirst, Among, Ended}
use Rattle.frame_rules.specs.Lines.{in_limits, shape_in_limits, tasks_in_limits}
use Rattle.frame_rules.specs.Frame.{Day, After, line_in, at_end}
use Rattle.frame_rules.specs.Feed.{Buffers, lent_buffers, day_of, run_of, with_held, refusal, line_length, held_after}
use Rattle.frame_rules.specs.Feed.{line_after, held_line, Feeding, feeds, held_or_closed, feed_good, feed, finishes}
use Rattle.frame_rules.specs.Feed.{last_line, finish_good, finish, good_shape_at, good_tasks_at}
use Rattle.frame_pieces.specs.Limits.{in_stage, Fit, line_fits, line_prints, end_prints}
use Rattle.frame_pieces.specs.Reading.{from_here, line_length_le, goes_on, line_ends, nothing_left, rest_is_line}
use Rattle.frame_pieces.specs.Held.{Held, whole, too_long, none_held, line_length_lem, held_more, held_line_lem}

-- the day of a run and its buffers
abbrev pub today : Run → Buffers → Day
today run b = day_of run b.table

-- nothing is refused: the day is fit, and there is room
pub record InOrder (run : Run) (b : Buffers) : Type 0 where
  pub day : Fit (today run b)
  pub line : 4096 ≤ length b.line
  pub out : 66570 ≤ length b.out

pub record Stands (l : List ℕ) (run : Run) (b : Buffers) : Type 0 where
  pub ready : InOrder run b
  pub held : Held l run.held b.line

-- ---- no refusal
record Tests (s : Stage) : Type 0 where
  shape : good_shape_at s ≡ true
  tasks : good_tasks_at s ≡ true

tests : (s : Stage) → in_stage s → Tests s
unfolding in_limits
tests AtFirst i = record { shape = refl; tasks = refl }
tests (Among f) i =
    let both = (and-eq-true_iff (shape_in_limits f.shape) (tasks_in_limits f.tasks)).0 i in
    record { shape = both.0; tasks = both.1 }
tests Ended i = record { shape = refl; tasks = refl }

-- nothing is refused where all is ready, and only there
pub not_refused : (run : Run) (b : Buffers) → InOrder run b → refusal run b ≡ 0
unfolding refusal
not_refused run b ok =
    let t = tests run.stage ok.day.stage in
    rw (t.shape, eq-eqb (length b.table) 32772 ok.day.table, t.tasks)
    (rw (le-leb 4096 (length b.line) ok.line, le-leb 66570 (length b.out) ok.out))

in_stage_lem : (s : Stage) → Tests s → in_stage s
unfolding in_limits
in_stage_lem AtFirst t = tt
in_stage_lem (Among f) t =
    (and-eq-true_iff (shape_in_limits f.shape) (tasks_in_limits f.tasks)).1 (t.shape, t.tasks)
in_stage_lem Ended t = tt

record Passed (one three nine : Bool) : Type 0 where
  one_passed : one ≡ true
  three_passed : three ≡ true
  nine_passed : nine ≡ true

passed :
    (one three nine : Bool) → ◌≡◌ {A = ℕ} (cond one (cond three (cond nine 0 9) 3) 1) 0 → Passed one three nine
passed true true true e = record { one_passed = refl; three_passed = refl; nine_passed = refl }
passed true true false e = absurd (omega arith)
passed true false nine e = absurd (omega arith)
passed false three nine e = absurd (omega arith)

pub accepted : (run : Run) (b : Buffers) → refusal run b ≡ 0 → InOrder run b
unfolding refusal
accepted run b e =
    let p = passed
    (good_shape_at run.stage && eqb (length b.table) 32772)
    (good_tasks_at run.stage)
    (leb 4096 (length b.line) && leb 66570 (length b.out))
    e in
    let (fits, table) = (and-eq-true_iff (good_shape_at run.stage) (eqb (length b.table) 32772)).0 p.one_passed in
    let (line, out) =
    (and-eq-true_iff (leb 4096 (length b.line)) (leb 66570 (length b.out))).0 p.nine_passed in
    record {
      day = record {
        stage = in_stage_lem run.stage (record { shape = fits; tasks = p.three_passed });
        table = eqb-true (length b.table) 32772 table;
      };
      line = leb-true 4096 (length b.line) line;
      out = leb-true 66570 (length b.out) out;
    }

-- ---- one feed
-- what it leaves, of the bytes `rest` from the point `at` on: the run and the buffers that follow, the point reached,
-- how many bytes were taken on the way there, and the line that is then begun
pub record Fed (l : List ℕ) (run : Run) (rest : List ℕ) (at : ℕ) (b : Buffers) (x : Feeding) : Type 0 where
  pub run' : Run
  pub point : ℕ
  pub wrote : ℕ
  pub b' : Buffers
  pub eaten : ℕ
  pub l' : List ℕ
  pub is : x ≡ feeds run' point wrote b'
  pub reached : point ≡ at + eaten
  pub moves : 0 < length rest → 0 < eaten
  pub stands : Stands l' run' b'
  pub prints :
      (more : List ℕ) →
      from_here (today run b) l (take eaten rest ++ more) ≡ take wrote b'.out ++ from_here (today run' b') l' more

room_kept : (text out : List ℕ) → length out ≤ length (at_front text out)
unfolding at_front
room_kept text out =
    let a = length-append text (drop (length text) out) in
    let b = length-drop (length text) out in
    omega arith

module _ (l : List ℕ) (run : Run) (rest : List ℕ) (at : ℕ) (b : Buffers) (s : Stands l run b) where
  -- the line's bytes in the rest, and the buffer with them
  abbrev seg : List ℕ
  seg = take (line_length rest) rest

  abbrev held : ℕ
  held = held_after run.held (line_length rest)

  abbrev line : List ℕ
  line = line_after b.line run.held seg

  seg_held : Held (l ++ seg) held line
  seg_held =
      let size : length seg ≡ line_length rest = length-take-le (line_length rest) rest (line_length_le rest) in
      subst
      (λ (n : ℕ). Held (l ++ seg) (held_after run.held n) line)
      size
      (held_more b.line run.held seg l s.ready.line s.held)

  room : 4096 ≤ length line
  room = let e = line_length_lem b.line run.held seg s.ready.line in let h = s.ready.line in omega arith

  -- a line feed is met: what the held line makes of the day is what the line begun makes of it
  abbrev made : After
  made = line_in (today run b) (held_line held line)

  abbrev closed : Buffers
  closed = lent_buffers line made.day.table (at_front made.prints b.out)

  closed_stands : Stands [] (run_of made.day.stage) closed
  closed_stands =
      let fit = line_fits (today run b) (held_line held line) s.ready.day in
      let kept = room_kept made.prints b.out in
      let out = s.ready.out in
      record {
        ready = record { day = fit; line = room; out = omega arith };
        held = none_held line;
      }

  closed_prints :
      line_length rest < length rest → (more : List ℕ) →
      from_here (today run b) l (take (suc (line_length rest)) rest ++ more)
      ≡ take (length made.prints) closed.out ++ from_here (today (run_of made.day.stage) closed) [] more
  unfolding at_front
  closed_prints h more =
      line_ends (today run b) l rest more h
      ∙ ap
      (λ (a : After). a.prints ++ from_here a.day [] more)
      (sym (held_line_lem (today run b) (l ++ seg) held line seg_held))
      ∙ ap
      (λ (text : List ℕ). text ++ from_here made.day [] more)
      (sym (take-append_seam made.prints (drop (length made.prints) b.out)))

  met :
      line_length rest < length rest →
      Fed l run rest at b (held_or_closed run (at + line_length rest) held true (lent_buffers line b.table b.out))
  unfolding held_or_closed
  met h =
      record {
        run' = run_of made.day.stage;
        point = suc (at + line_length rest);
        wrote = length made.prints;
        b' = closed;
        eaten = suc (line_length rest);
        l' = [];
        is = refl;
        reached = omega arith;
        moves = λ some. omega arith;
        stands = closed_stands;
        prints = closed_prints h;
      }

  -- none is met: the line goes on
  unmet :
      length rest ≤ line_length rest →
      Fed l run rest at b (held_or_closed run (at + line_length rest) held false (lent_buffers line b.table b.out))
  unfolding held_or_closed
  unmet h =
      record {
        run' = with_held run held;
        point = at + line_length rest;
        wrote = 0;
        b' = lent_buffers line b.table b.out;
        eaten = line_length rest;
        l' = l ++ seg;
        is = refl;
        reached = refl;
        moves = λ some. omega arith;
        stands = record {
          ready = record { day = s.ready.day; line = room; out = s.ready.out };
          held = seg_held;
        };
        prints = λ more. goes_on (today run b) l rest more;
      }

  fed_good : Fed l run rest at b (feed_good run rest at b)
  unfolding feed_good
  fed_good = go (ltb (line_length rest) (length rest)) refl
    where
      go :
          (feed : Bool) → ltb (line_length rest) (length rest) ≡ feed →
          Fed l run rest at b (held_or_closed run (at + line_length rest) held feed (lent_buffers line b.table b.out))
      go true e = met (ltb-true (line_length rest) (length rest) e)
      go false e = unmet (ltb-false (line_length rest) (length rest) e)

pub feed_prints :
    (l : List ℕ) (run : Run) (piece : List ℕ) (at : ℕ) (b : Buffers) → Stands l run b →
    Fed l run (drop at piece) at b (feed run piece at b)
unfolding feed
feed_prints l run piece at b s = rw (not_refused run b s.ready) (fed_good l run (drop at piece) at b s)

-- ---- the end
-- what a last line that lacks its line feed makes of the day, and what is printed then: it fits the room for it
pub last_fits : (run : Run) (b : Buffers) → InOrder run b → Fit (last_line run b).day
unfolding last_line
last_fits run b ok = go (eqb run.held 0)
  where
    go :
        (none : Bool) →
        Fit
        (cond none
        (record { day = day_of run b.table; prints = [] })
        (line_in (day_of run b.table) (held_line run.held b.line))).day
    go true = ok.day
    go false = line_fits (today run b) (held_line run.held b.line) ok.day

pub last_line_prints : (run : Run) (b : Buffers) → length (last_line run b).prints ≤ 1025
unfolding last_line
last_line_prints run b = go (eqb run.held 0)
  where
    go :
        (none : Bool) →
        length (cond none
        (record { day = day_of run b.table; prints = [] })
        (line_in (day_of run b.table) (held_line run.held b.line))).prints ≤ 1025
    go true = omega arith
    go false = line_prints (today run b) (held_line run.held b.line)

pub finish_room :
    (run : Run) (b : Buffers) → InOrder run b → length ((last_line run b).prints ++ at_end (last_line run b).day) ≤ 66570
finish_room run b ok =
    let sum = length-append (last_line run b).prints (at_end (last_line run b).day) in
    let line = last_line_prints run b in
    let table = end_prints (last_line run b).day (last_fits run b ok) in
    omega arith

-- what finishing leaves
pub record Done (l : List ℕ) (run : Run) (b : Buffers) : Type 0 where
  pub wrote : ℕ
  pub b' : Buffers
  pub is : finish run b ≡ finishes wrote b'
  pub prints : from_here (today run b) l [] ≡ take wrote b'.out

some_held : (c : ℕ) (cs : List ℕ) (held : ℕ) (line : List ℕ) → Held (c ∷ cs) held line → held ≡ 0 → ⊥
some_held c cs held line (whole few size same) e = omega arith
some_held c cs held line (too_long long over) e = omega arith

last_prints :
    (l : List ℕ) (run : Run) (b : Buffers) → Held l run.held b.line →
    from_here (today run b) l [] ≡ (last_line run b).prints ++ at_end (last_line run b).day
unfolding last_line
last_prints [] run b (whole few size same) =
    rw (eq-eqb run.held 0 size) (nothing_left (today run b))
last_prints [] run b (too_long long over) = absurd (omega arith)
last_prints (c ∷ cs) run b h =
    rw (
      ne_eqb run.held 0 (some_held c cs run.held b.line h),
      held_line_lem (today run b) (c ∷ cs) run.held b.line h,
    )
    (rest_is_line (today run b) c cs)

pub finish_prints : (l : List ℕ) (run : Run) (b : Buffers) → Stands l run b → Done l run b
unfolding finish finish_good at_front
finish_prints l run b s =
    let a = last_line run b in
    let text = a.prints ++ at_end a.day in
    record {
      wrote = length text;
      b' = lent_buffers b.line a.day.table (at_front text b.out);
      is = rw (not_refused run b s.ready);
      prints = last_prints l run b s.held ∙ sym (take-append_seam text (drop (length text) b.out));
    }
