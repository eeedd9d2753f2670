-- What the read step makes of a read, `after_read`, and that it is the rules' `read_entries`.
-- `left_beside`, `left_read`: what can be read is the cluster of the home, so that a read from its left end is the
-- rules' read between left and right. `goal_small`: the smaller keys have room there, so that goal is a place.
-- Assumes nothing.
use Rattle.std.specs.Prelude.{ℕ, suc, ◌+◌, ◌-◌, ◌*◌, ◌≤◌, ◌<◌, ◌≡◌, refl, Bool, true, false, cond, ◌&&◌, List, length, get_or}
use Rattle.std.proofs.Common.{sym, ◌∙◌, add-one, arith}
use Rattle.std.proofs.Math.Path.{ap}
use Rattle.std.proofs.Math.Seq.{length-slice}
use Rattle.rules.specs.declared.Shape.{Shape}
use Rattle.rules.specs.declared.Task.{Task}
use Rattle.rules.specs.Lists.{all}
use Rattle.rules.specs.Word.{Word, zero_word, is_void, is_lock}
use Rattle.rules.specs.Bytes.{words_of}
use Rattle.rules.specs.Shape.{places, right_guard}
use Rattle.rules.specs.Entry.{Entry, split}
use Rattle.rules.specs.Table.{at, occupied_places, left_gap, between, sound_run, entries_between}
use Rattle.rules.specs.Record.{home_place_of, to_phase, with_answer}
use Rattle.rules.specs.Phase.{read_entries, readable, fill_from}
use Rattle.rules.specs.Lay.{smaller}
use Rattle.rules.specs.Room.{which_end}
use Rattle.table_words.specs.Range.{homes_high}
use Rattle.table_words.specs.Layout.{words_length}
use Rattle.table_words.specs.All.{all_at}
use Rattle.theory.specs.Dealt.{is_occupied, and_left, and_right}
use Rattle.theory.specs.Gaps.{TakenFrom, left_gap_is, gap_only}
use Rattle.theory.specs.Gaps as gaps
use Rattle.theory.specs.Places.{void_free, occupied_at}
use Rattle.theory.proofs.Moving.{smaller_inside}
use Rattle.theory.specs.Cut.{between_at}
use Rattle.table_read.specs.Mark.{number, mark_number}
use Rattle.table_read.specs.declared.read.Read.{Read}
use Rattle.table_cluster.specs.declared.gaps.End.{End}
use Rattle.table_cluster.specs.Scan.{words_count}
use Rattle.table_read.specs.Read.{read_of}
use Rattle.table_cluster.specs.Homes.{Housed, sound_housed}
use Rattle.table_cluster.specs.Ends.{left_end}
use Rattle.table_read.specs.FromLeft.{LeftCounted, read_from, read_from_lem, housed_beside}
use Rattle.task_fits.specs.declared.phase.Phase.{Phase}
use Rattle.task_fits.specs.declared.phase.Phase.TheVariants as phase
use Rattle.task_fits.specs.Phase.{number_of}
use Rattle.task_fits.specs.Ready.{Ready, right_within, right_small, ends_apart, guard_free}

unfoldable pub after_read : Shape → Task → Read → Task
after_read sh t read =
    cond read.held
    (to_phase 11 (with_answer 1 t))
    (fill_from (which_end sh t.left t.right) read.smaller (number read.mark) t)

pub after_entries :
    (sh : Shape) (t : Task) (e : Entry) (es : List Entry) → after_read sh t (read_of e es) ≡ read_entries sh t e es
unfolding after_read read_entries read_of
after_entries sh t e es = rw mark_number refl

-- a place between two is occupied if all that lies between them is
between_taken :
    (ws : List Word) (l r : ℕ) → r ≤ length ws → all is_occupied (between ws l r) ≡ true →
    TakenFrom (occupied_places ws) (suc l) r
between_taken ws l r inside full q low high =
    let here : suc l + (q - suc l) ≡ q = omega arith in
    ap (λ (p : ℕ). get_or (occupied_places ws) p false) (sym here)
    ∙ occupied_at ws (suc l + (q - suc l))
    ∙ ap is_occupied (sym (between_at ws l r (q - suc l) (omega arith)))
    ∙ all_at is_occupied (between ws l r) (q - suc l) zero_word full (omega (arith, length-slice (suc l) r ws inside))

-- ---- what can be read is the cluster of the home, so that left is its left end
module _ {sh : Shape} {bs : List ℕ} {t : Task} (now : Ready phase.Read sh bs t) (can : readable sh (words_of bs) t ≡ true) where
  abbrev ws : List Word
  ws = words_of bs

  abbrev run : List Word
  run = between ws t.left t.right

  abbrev own : Entry
  own = split sh t.key

  -- both ends exactly the lock bit, all occupied between them
  abbrev tested : Bool
  tested = is_lock (at ws t.left) && is_lock (at ws t.right) && all is_occupied run

  held : tested ≡ true
  unfolding readable
  held = and_left tested (sound_run sh run) can

  housed : Housed run
  unfolding readable
  housed = sound_housed sh run (and_right tested (sound_run sh run) can)

  after : t.left < own.home_place
  unfolding home_place_of
  after = now.fits.left (omega (arith, now.phase))

  before : own.home_place < t.right
  unfolding home_place_of
  before = now.fits.right_low (omega (arith, now.phase))

  within : 2 * t.right ≤ length bs
  within = right_within now (omega arith)

  small : t.right ≤ 4294967295
  small = omega (arith, right_small now (omega arith))

  taken : TakenFrom (occupied_places ws) (suc t.left) t.right
  taken =
      between_taken ws t.left t.right (omega (arith, within, words_count bs))
      (and_right (is_lock (at ws t.left) && is_lock (at ws t.right)) (all is_occupied run) held)

  pub home_taken : (at ws own.home_place).occupied ≡ true
  home_taken = sym (occupied_at ws own.home_place) ∙ taken own.home_place after before

  left_is : left_gap (occupied_places ws) own.home_place ≡ t.left
  unfolding is_lock
  left_is =
      let locked =
      and_left (is_lock (at ws t.left)) _
      (and_left (is_lock (at ws t.left) && is_lock (at ws t.right)) (all is_occupied run) held) in
      gap_only
      gaps.left
      (left_gap_is (occupied_places ws) own.home_place (occupied_at ws 0 ∙ guard_free now))
      (record {
        side = omega (arith, after);
        free = occupied_at ws t.left ∙ void_free _ (and_left (is_void (at ws t.left)) _ locked);
        run = λ q x y n. taken q (omega (arith, n)) (omega (arith, before));
      })

  pub left_beside : (l : End) → l ≡ left_end ws own.home_place → LeftCounted bs l own.home_place
  unfolding left_end
  left_beside l is =
      housed_beside own bs t.left t.right after before within small housed l
      (ap (λ (e : End). e.gap.0) is ∙ left_is)
      (ap (λ (e : End). e.virgins) is ∙ rw (left_is, add-one))
      (ap (λ (e : End). e.changes) is ∙ rw (left_is, add-one))

  pub left_read :
      (l : End) → l ≡ left_end ws own.home_place →
      read_from bs l.gap.0 own ≡ read_of own (entries_between ws t.left t.right)
  unfolding left_end
  left_read l is =
      ap (λ (p : ℕ). read_from bs p own) (ap (λ (e : End). e.gap.0) is ∙ left_is)
      ∙ read_from_lem own bs t.left t.right after before within small housed

pub goal_small :
    {p : Phase} {sh : Shape} {bytes : List ℕ} {t : Task} → Ready p sh bytes t → 3 ≤ number_of p → (e : Entry) →
    t.left + smaller e (entries_between (words_of bytes) t.left t.right) < 4294967295
unfolding places right_guard
goal_small {p} {sh} {bytes} {t} ready h e =
    let high = ready.fits.right_high (omega arith) in
    let size = words_length bytes (places sh) ready.size in
    let room = smaller_inside (words_of bytes) t.left t.right e (omega arith) in
    omega (arith, ends_apart ready h, homes_high sh ready.range)
