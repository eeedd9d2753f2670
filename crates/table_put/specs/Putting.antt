-- Put by what is around the home: `put_barred` to `put_absent`. Where the key goes on to be added beside its cluster:
-- `added_left`, `added_right`, `added_none`, and its way's bounds, `reach`.
-- `bytes_left`: what is said of the words that put leaves is said of every lent byte.
-- Assumes nothing.
use Rattle.std.specs.Prelude.{ℕ, suc, ◌+◌, ◌*◌, ◌≤◌, ◌<◌, ◌≡◌, true, false, List, length, get_or, set, Err}
use Rattle.std.proofs.Common.{sym, ◌∙◌, ap, arith}
use Rattle.rules.specs.declared.Shape.{Shape}
use Rattle.rules.specs.declared.Refusal.{Refusal}
use Rattle.rules.specs.Lists.{any}
use Rattle.rules.specs.Word.{Word, alone_word}
use Rattle.rules.specs.Bytes.{words_of}
use Rattle.rules.specs.Shape.{places, right_guard}
use Rattle.rules.specs.Entry.{Entry}
use Rattle.rules.specs.Table.{at, occupied_places, left_gap, right_gap, guards_void, cluster_entries}
use Rattle.rules.specs.Room.{room_beside, room_for}
use Rattle.rules.specs.Lay.{holds, smaller}
use Rattle.rules.specs.Answer.{Answer, says, refuses, Leaves, leaves, number_of_refusal}
use Rattle.rules.specs.Put.{enlarged_from, add_at, Outcome, keeps, writes, add_to, put_in, bytes_after}
use Rattle.table_words.specs.Range.{remainders_high}
use Rattle.table_words.specs.Layout.{same_bytes, bytes_are}
use Rattle.table_words.specs.declared.key.Parts.{Parts}
use Rattle.table_words.specs.declared.place.Place.{Place}
use Rattle.theory.specs.Gaps as gaps
use Rattle.theory.specs.Gaps.{picks_left, picks_right, picks_neither, picked_only}
use Rattle.theory.specs.Places.{occupied_at, gap_entries}
use Rattle.theory.specs.Motion.{fill_at, finish}
use Rattle.theory.proofs.Moving.{Addable, smaller_inside, add_moves, room_alone, add_alone}
use Rattle.theory.specs.Keys.{home_place}
use Rattle.table_read.specs.declared.read.Read.{Read}
use Rattle.table_read.specs.Mark.{number, mark_kind, mark_number}
use Rattle.table_read.specs.Read.{entry, read_of}
use Rattle.table_cluster.specs.Check.{passed}
use Rattle.table_cluster.specs.Ends.{left_end}
use Rattle.table_cluster.specs.declared.gaps.End.{End}
use Rattle.table_find.specs.Around.{Open, check_around, around_barred, Inside, cluster_inside}

-- the answer of an outcome with the words that it leaves
abbrev pub words_left : List Word → Outcome → Leaves (List Word)
words_left ws (keeps a) = leaves a ws
words_left ws (writes a vs) = leaves a vs

pub bytes_left :
    (bs cs : List ℕ) (n : ℕ) (a : Answer) (o : Outcome) →
    length bs ≡ 2 * n → length cs ≡ 2 * n → ((i : ℕ) → get_or bs i 0 < 256) → ((i : ℕ) → get_or cs i 0 < 256) →
    leaves a (words_of cs) ≡ words_left (words_of bs) o → leaves a cs ≡ bytes_after bs o
bytes_left bs cs n a (keeps b) even-b even-c small_b small-c e =
    let same : a ≡ b = cc in
    let words : words_of cs ≡ words_of bs = cc in
    rw (same, same_bytes cs bs n even-c even-b small-c small_b words)
bytes_left bs cs n a (writes b ws) even-b even-c small_b small-c e =
    let same : a ≡ b = cc in
    let words : words_of cs ≡ ws = cc in
    rw same (ap (leaves b) (bytes_are cs n ws even-c small-c words))

-- ---- by what is around the home

-- the key is absent from its cluster, and added beside it if there is room
abbrev pub add_beside : Shape → List Word → Entry → Outcome
add_beside sh ws e = add_to ws e (room_beside sh (occupied_places ws) e.home_place)

pub remainder_small : (k : Parts) → k.remainder < 4096
remainder_small k = omega (arith, k.in_shape.remainder_low, remainders_high k.sh.shape k.sh.in_range)

module _ (sh : Shape) (ws : List Word) (e : Entry) where
  pub put_barred : guards_void sh ws ≡ false → put_in sh ws e ≡ keeps (refuses 6)
  unfolding put_in
  put_barred barred = rw (around_barred sh ws e.home_place barred)

  pub put_refused :
      (n : Refusal) → Err n ≡ passed (check_around sh ws e.home_place) →
      put_in sh ws e ≡ keeps (refuses (number_of_refusal n))
  unfolding put_in
  put_refused n p = grind arith

-- ---- beside the cluster

-- the key is absent from the cluster after the gap l, and the read says where it would stand
pub record Insertable (sh : Shape) (ws : List Word) (e : Entry) (l : Place) (read : Read) : Type 0 where
  pub addable : Addable sh ws e
  pub full : (at ws e.home_place).occupied ≡ true
  pub left : l.0 ≡ left_gap (occupied_places ws) e.home_place
  pub inside : Inside sh ws e.home_place
  pub read_is : read ≡ read_of e (cluster_entries ws e.home_place)

-- what is left where the key was brought from the hand to its goal
abbrev pub brought_to : List Word → Entry → Read → ℕ → ℕ → List Word
brought_to ws e read hand goal = finish (fill_at e.remainder ws hand) hand goal (number read.mark) e.home_place

module _ {sh : Shape} {ws : List Word} {e : Entry} {l : Place} {read : Read} (g : Insertable sh ws e l read) where
  -- no more keys are smaller than there are
  pub reach :
      (suc l.0 + read.smaller ≤ right_gap (occupied_places ws) e.home_place)
      × (right_gap (occupied_places ws) e.home_place < places sh)
  unfolding read_of cluster_entries
  reach =
      let left = left_gap (occupied_places ws) e.home_place in
      let right = right_gap (occupied_places ws) e.home_place in
      omega (
        arith,
        g.left,
        g.inside.after,
        g.inside.before,
        g.inside.low,
        ap (λ (a : Read). a.smaller) g.read_is,
        smaller_inside ws left right e (omega (arith, g.addable.size, g.inside.low)),
      )

  -- the theory's law, with the hand at a gap and the enlarged cluster's first place
  moved :
      (side : gaps.Side) (p a : ℕ) → p ≡ gaps.gap side (occupied_places ws) e.home_place →
      enlarged_from ws e.home_place p ≡ a →
      add_at ws e p
      ≡ finish
      (fill_at e.remainder ws p)
      p
      (a + smaller e (cluster_entries ws e.home_place))
      (number (mark_kind e (cluster_entries ws e.home_place)))
      e.home_place
  moved side p a here from =
      rw (← from, here, mark_number e (cluster_entries ws e.home_place)) (add_moves g.addable g.full side)

  pub added_left :
      (l.0 ≡ 0 → ⊥) → add_beside sh ws e ≡ writes (says 2) (brought_to ws e read l.0 (l.0 + read.smaller))
  unfolding room_beside enlarged_from read_of
  added_left far =
      rw (← g.left, picked_only sh l.0 _ (picks_left far), g.read_is)
      (ap (writes (says 2)) (moved gaps.left l.0 l.0 g.left (omega (arith, g.left))))

  module _ (r : Place) (right : r.0 ≡ right_gap (occupied_places ws) e.home_place) where
    pub added_right :
        l.0 ≡ 0 → (r.0 ≡ right_guard sh → ⊥) →
        add_beside sh ws e ≡ writes (says 2) (brought_to ws e read r.0 (1 + read.smaller))
    unfolding room_beside enlarged_from read_of
    added_right near far =
        rw (← g.left, ← right, picked_only sh l.0 r.0 (picks_right near far), g.read_is)
        (ap
        (writes (says 2))
        (moved gaps.right r.0 1 right (omega (arith, right, g.left, g.inside.after, g.inside.before))))

    pub added_none : l.0 ≡ 0 → r.0 ≡ right_guard sh → add_beside sh ws e ≡ keeps (refuses 8)
    unfolding room_beside
    added_none near far = rw (← g.left, ← right, picked_only sh l.0 r.0 (picks_neither near far))

-- ---- a key of the shape, in a table of its size
module _ (k : Parts) (ws : List Word) (size : length ws ≡ places k.sh.shape) where
  abbrev e : Entry
  e = entry k.home.0 k.remainder

  -- an absent key may be added
  addable : Open k.sh.shape ws k.home.0 → holds e (cluster_entries ws k.home.0) ≡ false → Addable k.sh.shape ws e
  addable o new =
      record {
        low = remainders_high k.sh.shape k.sh.in_range;
        remainder = k.in_shape.remainder_low;
        home_place = home_place k.in_shape;
        size = size;
        sound = o.sound;
        free = o.free;
        new = new;
      }

  module _ (o : Open k.sh.shape ws k.home.0) where
    pub put_alone :
        (at ws k.home.0).occupied ≡ false →
        put_in k.sh.shape ws e ≡ writes (says 2) (set ws k.home.0 (alone_word k.remainder))
    unfolding put_in room_for holds any
    put_alone empty =
        let none = gap_entries ws k.home.0 empty in
        let a = addable o (ap (holds e) none) in
        rw (o.sound, o.free, none, room_alone a empty, add_alone a empty)

    module _ (read : Read) (reads : read ≡ read_of e (cluster_entries ws k.home.0)) where
      pub put_held : read.held ≡ true → put_in k.sh.shape ws e ≡ keeps (says 1)
      unfolding put_in read_of
      put_held held = rw (o.sound, o.free, sym (ap (λ (a : Read). a.held) reads) ∙ held)

      module _ (full : (at ws k.home.0).occupied ≡ true) (absent : read.held ≡ false) where
        new : holds e (cluster_entries ws k.home.0) ≡ false
        unfolding read_of
        new = sym (ap (λ (a : Read). a.held) reads) ∙ absent

        pub put_ready : (l : End) → l ≡ left_end ws k.home.0 → Insertable k.sh.shape ws e l.gap read
        unfolding left_end
        put_ready l left =
            record {
              addable = addable o new;
              full = full;
              left = ap (λ (a : End). a.gap.0) left;
              inside = cluster_inside size (home_place k.in_shape) full o;
              read_is = reads;
            }

        pub put_absent : put_in k.sh.shape ws e ≡ add_beside k.sh.shape ws e
        unfolding put_in room_for
        put_absent = rw (o.sound, o.free, new, occupied_at ws k.home.0, full)
