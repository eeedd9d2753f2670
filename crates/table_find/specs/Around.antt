-- The surroundings of a home as find and put take them: `around_check`, what a check of its cluster tells, and
-- `alone_sound`, `alone_locked`, the same of an empty home. `Open`: they are sound and unlocked; `cluster_inside`,
-- `beside_cluster`, `read_cluster`: then the cluster stands in the table, and a read from its left end reads its keys.
-- `Crowded`: an occupied home, as find and put come to it: `left_owed` to `told_open`, what the calls ask and tell.
-- Assumes nothing.
use Rattle.std.specs.Prelude.{ℕ, suc, ◌+◌, ◌*◌, ◌≤◌, ◌<◌, ◌≡◌, refl, Bool, true, false, ◌&&◌, List, length, Ok}
use Rattle.std.proofs.Common.{sym, ◌∙◌, ap, ap₂, add-one, arith, rules}
use Rattle.std.proofs.Math.Bool.{or-false}
use Rattle.std.proofs.Math.Seq.{slice-cons, slice_empty}
use Rattle.rules.specs.declared.Shape.{Shape}
use Rattle.rules.specs.Lists.{count, all, any}
use Rattle.rules.specs.Word.{Word, zero_word, is_void}
use Rattle.rules.specs.Bytes.{words_of}
use Rattle.rules.specs.Shape.{places}
use Rattle.rules.specs.Entry.{Entry}
use Rattle.rules.specs.Table.{at, occupied_places, left_gap, right_gap, between, cluster, sound_run, guards_void, locked}
use Rattle.rules.specs.Table.{ends_in_change, rising, cluster_entries}
use Rattle.rules.specs.Find.{around, sound_around, locked_around}
use Rattle.table_words.specs.Range.{InRange, homes_high}
use Rattle.table_words.specs.Layout.{words_length}
use Rattle.table_words.specs.declared.key.Parts.{Parts}
use Rattle.theory.specs.Gaps.{HomePlace}
use Rattle.theory.specs.Keys.{home_place}
use Rattle.theory.specs.Dealt.{is_virgin, is_change, is_occupied, and_left, and_right}
use Rattle.theory.specs.Cut.{CutHome, cut_home}
use Rattle.theory.specs.Places.{left_free, gap_left, gap_right, gap_cluster}
use Rattle.table_cluster.specs.Homes.{Housed, sound_housed}
use Rattle.table_read.specs.Read.{entry, read_of}
use Rattle.table_cluster.specs.Ends.{left_end, right_end}
use Rattle.table_read.specs.FromLeft.{LeftCounted, read_from, read_from_lem, housed_beside}
use Rattle.table_cluster.specs.Check.{check_of, sound_between, passed}
use Rattle.table_cluster.specs.declared.gaps.End.{End}
use Rattle.table_read.specs.declared.read.Read.{Read}
use Rattle.table_cluster.specs.declared.run.Check.{Check}

-- the surroundings are sound and unlocked
pub record Open (sh : Shape) (ws : List Word) (home_at : ℕ) : Type 0 where
  pub sound : sound_around sh ws home_at ≡ true
  pub free : locked_around ws home_at ≡ false

pub open_guards : {sh : Shape} {ws : List Word} {home_at : ℕ} → Open sh ws home_at → guards_void sh ws ≡ true
unfolding sound_around
open_guards {sh} {ws} o = and_left (guards_void sh ws) _ (and_left (guards_void sh ws && _) _ o.sound)

-- the home's bit, as it is tested of the word that is read there
pub home_bit : {v w : Word} {r b : Bool} → v ≡ w → r ≡ v.occupied → r ≡ b → w.occupied ≡ b
home_bit read tested is = sym (ap is_occupied read) ∙ sym tested ∙ is

-- what a check of the surroundings tells
abbrev pub check_around : Shape → List Word → ℕ → Check
check_around sh ws home_at = record { sound = sound_around sh ws home_at; locked = locked_around ws home_at }

pub around_open :
    {sh : Shape} {ws : List Word} {home_at : ℕ} → Ok tt ≡ passed (check_around sh ws home_at) → Open sh ws home_at
around_open {sh} {ws} {home_at} e = go (sound_around sh ws home_at) (locked_around ws home_at) refl refl e
  where
    go :
        (s l : Bool) → sound_around sh ws home_at ≡ s → locked_around ws home_at ≡ l →
        Ok tt ≡ passed (record { sound = s; locked = l }) → Open sh ws home_at
    go true false p q e = record { sound = p; free = q }
    go true true p q e = absurd (search rules)
    go false l p q e = absurd (search rules)

module _ (sh : Shape) (ws : List Word) (home_at : ℕ) where
  pub around_barred : guards_void sh ws ≡ false → sound_around sh ws home_at ≡ false
  unfolding sound_around
  around_barred barred = rw barred

  module _ (void : guards_void sh ws ≡ true) where
    -- the cluster and its ends, by a check of them
    pub around_check :
        check_of sh ws (left_gap (occupied_places ws) home_at) (right_gap (occupied_places ws) home_at)
        ≡ check_around sh ws home_at
    unfolding check_of sound_between sound_around locked_around around cluster
    around_check = rw void

    -- an unoccupied home is its own gap on both sides, with nothing between
    module _ (size : length ws ≡ places sh) (h : HomePlace sh home_at) (empty : (at ws home_at).occupied ≡ false) where
      alone_sound : sound_around sh ws home_at ≡ is_void (at ws home_at)
      unfolding sound_around sound_run count all rising ends_in_change
      alone_sound =
          rw (void, gap_cluster ws home_at empty, gap_left ws home_at empty, gap_right ws home_at empty)
          (twice (is_void (at ws home_at)))
        where
          twice : (v : Bool) → (v && v && true) ≡ v
          twice true = refl
          twice false = refl

      alone_locked : locked_around ws home_at ≡ (at ws home_at).lock
      unfolding locked_around around locked any places
      alone_locked =
          rw (
            gap_left ws home_at empty,
            gap_right ws home_at empty,
            slice-cons home_at (suc home_at) ws zero_word (omega arith) (omega (arith, size, h.last)),
            slice_empty (suc home_at) ws,
          )
          (or-false (at ws home_at).lock)

      pub around_alone :
          check_around sh ws home_at ≡ record { sound = is_void (at ws home_at); locked = (at ws home_at).lock }
      around_alone = λ i. record { sound = alone_sound i; locked = alone_locked i }

-- ---- a cluster, and a read of it from its left end
pub record Inside (sh : Shape) (ws : List Word) (home_at : ℕ) : Type 0 where
  pub after : left_gap (occupied_places ws) home_at < home_at
  pub before : home_at < right_gap (occupied_places ws) home_at
  pub low : right_gap (occupied_places ws) home_at < places sh
  pub housed : Housed (between ws (left_gap (occupied_places ws) home_at) (right_gap (occupied_places ws) home_at))

module _ {sh : Shape} {ws : List Word} {home_at : ℕ} (size : length ws ≡ places sh) (h : HomePlace sh home_at)
    (full : (at ws home_at).occupied ≡ true)
  where
    -- void guards bound it
    pub cluster_cut : guards_void sh ws ≡ true → CutHome ws home_at
    cluster_cut void = cut_home sh ws home_at size void h full

    pub cluster_inside : Open sh ws home_at → Inside sh ws home_at
    unfolding sound_around cluster
    cluster_inside o =
        let cut = cluster_cut (open_guards o) in
        record {
          after = cut.after;
          before = cut.before;
          low = omega (arith, cut.inside);
          housed = sound_housed sh (cluster ws home_at) (and_right (guards_void sh ws && _) _ o.sound);
        }

module _ {sh : Shape} (bs : List ℕ) (e : Entry) (range : InRange sh) (even : length bs ≡ 2 * places sh)
    (i : Inside sh (words_of bs) e.home_place)
  where
    abbrev l : ℕ
    l = left_gap (occupied_places (words_of bs)) e.home_place

    abbrev r : ℕ
    r = right_gap (occupied_places (words_of bs)) e.home_place

    within : 2 * r < length bs
    within = omega (arith, i.low)

    small : r < 4294967295
    unfolding places
    small = omega (arith, i.low, homes_high sh range)

    read_cluster : read_from bs l e ≡ read_of e (cluster_entries (words_of bs) e.home_place)
    unfolding cluster_entries
    read_cluster =
        read_from_lem e bs l r i.after i.before (omega (arith, within)) (omega (arith, small)) i.housed

    -- the same of a read from the left end that was found
    pub read_beside :
        (end : End) (read : Read) → end ≡ left_end (words_of bs) e.home_place → read ≡ read_from bs end.gap.0 e →
        read ≡ read_of e (cluster_entries (words_of bs) e.home_place)
    unfolding left_end
    read_beside end read is reads =
        reads ∙ ap (λ (a : End). read_from bs a.gap.0 e) is ∙ read_cluster

    pub beside_cluster : (end : End) → end ≡ left_end (words_of bs) e.home_place → LeftCounted bs end e.home_place
    unfolding left_end
    beside_cluster end is =
        housed_beside
        e
        bs
        l
        r
        i.after
        i.before
        (omega (arith, within))
        (omega (arith, small))
        i.housed
        end
        (ap (λ (a : End). a.gap.0) is)
        (ap (λ (a : End). a.virgins) is ∙ rw add-one)
        (ap (λ (a : End). a.changes) is ∙ rw add-one)

-- ---- a home between void guards, as find and put come to it: what their calls ask for, and what they tell
module _ (k : Parts) (bs : List ℕ) (even : length bs ≡ 2 * places k.sh.shape) where
  size : length (words_of bs) ≡ places k.sh.shape
  size = words_length bs (places k.sh.shape) even

  pub home_inside : 2 * k.home.0 + 1 < length bs
  unfolding places
  home_inside = omega (arith, even, k.in_shape.home_high)

  pub table_small : length bs ≤ 2097156
  unfolding places
  table_small = omega (arith, even, homes_high k.sh.shape k.sh.in_range)

  module _ (void : guards_void k.sh.shape (words_of bs) ≡ true) where
    pub left_open : (at (words_of bs) 0).occupied ≡ false
    left_open = left_free k.sh.shape (words_of bs) void

    pub empty_checked :
        (w : Word) → w ≡ at (words_of bs) k.home.0 → w.occupied ≡ false →
        record { sound = is_void w; locked = w.lock } ≡ check_around k.sh.shape (words_of bs) k.home.0
    empty_checked w is empty =
        rw is (sym (around_alone k.sh.shape (words_of bs) k.home.0 void size (home_place k.in_shape) (rw is at empty)))

    module _ (full : (at (words_of bs) k.home.0).occupied ≡ true) where
      cut : CutHome (words_of bs) k.home.0
      cut = cluster_cut size (home_place k.in_shape) full void

      pub gap_inside : 2 * right_gap (occupied_places (words_of bs)) k.home.0 + 1 < length bs
      gap_inside = omega (arith, cut.inside, size, even)

      module _ (l r : End)
          (left : l ≡ left_end (words_of bs) k.home.0) (right : r ≡ right_end (words_of bs) k.home.0)
        where
          left_gap_lem : l.gap.0 ≡ left_gap (occupied_places (words_of bs)) k.home.0
          unfolding left_end
          left_gap_lem = ap (λ (a : End). a.gap.0) left

          right_gap_lem : r.gap.0 ≡ right_gap (occupied_places (words_of bs)) k.home.0
          unfolding right_end
          right_gap_lem = ap (λ (a : End). a.gap.0) right

          pub ends_apart : l.gap.0 < r.gap.0
          ends_apart = omega (arith, left_gap_lem, right_gap_lem, cut.after, cut.before)

          pub end_inside : 2 * r.gap.0 + 1 < length bs
          end_inside = omega (arith, right_gap_lem, gap_inside)

          pub virgins_counted : r.virgins ≡ count is_virgin (between (words_of bs) l.gap.0 r.gap.0)
          unfolding right_end
          virgins_counted = rw (left_gap_lem, right_gap_lem) (ap (λ (a : End). a.virgins) right)

          pub changes_counted : r.changes ≡ count is_change (between (words_of bs) l.gap.0 r.gap.0)
          unfolding right_end
          changes_counted = rw (left_gap_lem, right_gap_lem) (ap (λ (a : End). a.changes) right)

          pub cluster_checked :
              check_of k.sh.shape (words_of bs) l.gap.0 r.gap.0 ≡ check_around k.sh.shape (words_of bs) k.home.0
          cluster_checked =
              ap₂ (check_of k.sh.shape (words_of bs)) left_gap_lem right_gap_lem
              ∙ around_check k.sh.shape (words_of bs) k.home.0 void

  -- what passes the check may be read from its left end
  module _ (o : Open k.sh.shape (words_of bs) k.home.0) (full : (at (words_of bs) k.home.0).occupied ≡ true)
      (l : End) (left : l ≡ left_end (words_of bs) k.home.0)
    where
      i : Inside k.sh.shape (words_of bs) k.home.0
      i = cluster_inside size (home_place k.in_shape) full o

      pub cluster_counted : LeftCounted bs l k.home.0
      cluster_counted = beside_cluster bs (entry k.home.0 k.remainder) k.sh.in_range even i l left

      pub cluster_read :
          read_from bs l.gap.0 (entry k.home.0 k.remainder)
          ≡ read_of (entry k.home.0 k.remainder) (cluster_entries (words_of bs) k.home.0)
      cluster_read = read_beside bs (entry k.home.0 k.remainder) k.sh.in_range even i l _ left refl

-- what the look at a cluster goes by
pub ruleset cluster_laws = (home_inside, table_small, left_open, gap_inside, ends_apart, end_inside, virgins_counted, changes_counted)
