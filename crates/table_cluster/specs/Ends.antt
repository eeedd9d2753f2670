-- The ends of a home's cluster, with its virgin and change bits counted on the way to them: `left_end`, `right_end`.
-- `walked`: both are reached by a walk to a side (`left_walk`, `right_walk`). `Walk`: what is known on the way, with
-- its laws for the start, for each place and for the gap.
-- Assumes nothing.
use Rattle.std.specs.Prelude.{ℕ, zero, suc, ◌+◌, ◌-◌, ◌*◌, ◌≤◌, ◌<◌, ◌≡◌, refl, Bool, true, false, List, [], ◌∷◌, ◌++◌, length, get_or, take}
use Rattle.std.proofs.Common.{zero-add, sym, ◌∙◌, ap, true≢false, arith, length-take, length-drop}
use Rattle.std.proofs.Math.Numerals.{add-one}
use Rattle.std.proofs.Math.Seq.{slice}
use Rattle.rules.specs.Lists.{bit_of, count}
use Rattle.rules.specs.Word.{Word, word_of}
use Rattle.rules.specs.Bytes.{words_of}
use Rattle.rules.specs.Table.{at, between, occupied_places, left_gap, right_gap}
use Rattle.table_words.specs.Counts.{count_le, count_append}
use Rattle.table_words.specs.Sides.{Side, left, right, Toward, beside, HasBeside}
use Rattle.theory.specs.Dealt.{is_change, is_virgin, is_occupied}
use Rattle.theory.specs.Gaps as gaps
use Rattle.theory.specs.Gaps.{left_gap_is, right_gap_is, own_gap}
use Rattle.theory.specs.Places.{occupied_at, occupied_length}
use Rattle.table_cluster.specs.Scan.{words_count, left_step, right_step}
use Rattle.table_cluster.specs.Run.{run_step, run_end, run_last}
use Rattle.table_cluster.specs.declared.gaps.End.{End}

-- a gap, with the bits of some words
abbrev end_of : ℕ → List Word → End
end_of gap ws = record { gap = record { 0 = gap }; virgins = count is_virgin ws; changes = count is_change ws }

-- the left gap, with the bits of the words before the home
unfoldable pub left_end : List Word → ℕ → End
left_end ws home_at =
    let l = left_gap (occupied_places ws) home_at in
    end_of l (slice (suc l) home_at ws)

-- the right gap, with the bits of the whole cluster
unfoldable pub right_end : List Word → ℕ → End
right_end ws home_at =
    let l = left_gap (occupied_places ws) home_at in
    let r = right_gap (occupied_places ws) home_at in
    end_of r (between ws l r)

-- ---- a walk from a place to a side, to the gap there

-- the places that are passed on the way from place p to place i
abbrev pub passed : Side → List Word → ℕ → ℕ → List Word
passed left ws p i = slice (i + 1) (p + 1) ws
passed right ws p i = slice p i ws

abbrev pub gap_at : Side → List Bool → ℕ → ℕ
gap_at left os p = left_gap os p
gap_at right os p = right_gap os p

-- the gap, and the bits of the places that are passed added to n and m
unfoldable pub walked : Side → List Word → ℕ → ℕ → ℕ → End
walked s ws p n m =
    let g = gap_at s (occupied_places ws) p in
    record {
      gap = record { 0 = g };
      virgins = n + count is_virgin (passed s ws p g);
      changes = m + count is_change (passed s ws p g);
    }

-- the walk stays in the table: to the left it meets the left guard, to the right the gap is there
abbrev pub Closed : Side → List ℕ → ℕ → Type 0
Closed left bs p = (2 * p + 1 < length bs) × ((at (words_of bs) 0).occupied ≡ false)
Closed right bs p = 2 * right_gap (occupied_places (words_of bs)) p + 1 < length bs

-- a number fits 32 bits with all that can be counted on the way
abbrev pub Room : Side → List ℕ → ℕ → ℕ → Type 0
Room left bs p n = n + p < 4294967295
Room right bs p n = n + length bs < 4294967296

-- what falls on the way
abbrev pub left_over : Side → List ℕ → ℕ → ℕ
left_over left bs i = i
left_over right bs i = length bs - i

-- place i is reached from place p, and the bits of the places passed are added to n and m
pub record Walk (s : Side) (bs : List ℕ) (p n m i k l : ℕ) : Type 0 where
  pub inside : 2 * i + 1 < length bs
  pub begun : Toward s p i
  pub gap : gap_at s (occupied_places (words_of bs)) i ≡ gap_at s (occupied_places (words_of bs)) p
  pub virgins : k ≡ n + count is_virgin (passed s (words_of bs) p i)
  pub changes : l ≡ m + count is_change (passed s (words_of bs) p i)

-- the left guard is unoccupied, so an occupied place has one before it
pub some_before : (ws : List Word) (i : ℕ) → (at ws 0).occupied ≡ false → (at ws i).occupied ≡ true → 0 < i
some_before ws zero free full = absurd (true≢false (sym full ∙ free))
some_before ws (suc i) free full = omega arith

gap_own : (s : Side) (os : List Bool) (i : ℕ) → get_or os i false ≡ false → gap_at s os i ≡ i
gap_own left os i free = own_gap gaps.left os i free
gap_own right os i free = own_gap gaps.right os i free

right_from : (os : List Bool) (i : ℕ) → i ≤ right_gap os i
right_from os i = (right_gap_is os i).side

pub closed_inside : (s : Side) (bs : List ℕ) (p : ℕ) → Closed s bs p → 2 * p + 1 < length bs
closed_inside left bs p c = c.0
closed_inside right bs p c = omega (arith, c, right_from (occupied_places (words_of bs)) p)

-- nothing is passed yet
none_passed : (s : Side) (bs : List ℕ) (p : ℕ) → passed s (words_of bs) p p ≡ []
none_passed left bs p = run_end bs (p + 1) (p + 1) (omega arith)
none_passed right bs p = run_end bs p p (omega arith)

toward_self : (s : Side) (p : ℕ) → Toward s p p
toward_self left p = omega arith
toward_self right p = omega arith

pub walk_begins : (s : Side) (bs : List ℕ) (p n m : ℕ) → Closed s bs p → Walk s bs p n m p n m
unfolding count
walk_begins s bs p n m c =
    record {
      inside = closed_inside s bs p c;
      begun = toward_self s p;
      gap = refl;
      virgins = rw (none_passed s bs p) (omega arith);
      changes = rw (none_passed s bs p) (omega arith);
    }

count_last : (f : Word → Bool) (ws : List Word) (w : Word) → count f (ws ++ (w ∷ [])) ≡ count f ws + bit_of (f w)
unfolding count
count_last f ws w = omega (arith, count_append f ws (w ∷ []))

-- no more are counted than there are places
sliced_few : (f : Word → Bool) (a b : ℕ) (ws : List Word) → count f (slice a b ws) ≤ b - a
sliced_few f a b ws = omega (arith, count_le f (slice a b ws), length-drop a (take b ws), length-take b ws)

pub passed_few : (s : Side) (bs : List ℕ) (p i n : ℕ) (f : Word → Bool) → Room s bs p n → 2 * i + 1 < length bs →
    n + count f (passed s (words_of bs) p i) + 1 < 4294967296
passed_few left bs p i n f room inside = omega (arith, sliced_few f (i + 1) (p + 1) (words_of bs))
passed_few right bs p i n f room inside = omega (arith, sliced_few f p i (words_of bs))

-- one place more
passed_on :
    (s : Side) (bs : List ℕ) (p i : ℕ) (f : Word → Bool) → Closed s bs p → Toward s p i → 2 * i + 1 < length bs →
    (at (words_of bs) i).occupied ≡ true →
    count f (passed s (words_of bs) p (beside s i))
    ≡ count f (passed s (words_of bs) p i) + bit_of (f (at (words_of bs) i))
unfolding count
passed_on left bs p i f c toward inside full =
    let some = some_before (words_of bs) i c.1 full in
    let back : i - 1 + 1 ≡ i = omega arith in
    rw (back, run_step bs i (p + 1) (omega arith) (omega (arith, c.0))) (omega arith)
passed_on right bs p i f c toward inside full =
    rw (run_last bs p i toward inside) (count_last f (slice p i (words_of bs)) (at (words_of bs) i))

gap_on :
    (s : Side) (bs : List ℕ) (p i : ℕ) → Closed s bs p → 2 * i + 1 < length bs → (at (words_of bs) i).occupied ≡ true →
    gap_at s (occupied_places (words_of bs)) (beside s i) ≡ gap_at s (occupied_places (words_of bs)) i
gap_on left bs p i c inside full =
    let ws = words_of bs in
    left_step (occupied_places ws) i (some_before ws i c.1 full) (occupied_at ws i ∙ full)
gap_on right bs p i c inside full =
    let ws = words_of bs in
    right_step (occupied_places ws) i (omega (arith, occupied_length ws, words_count bs)) (occupied_at ws i ∙ full)

toward_on : (s : Side) (bs : List ℕ) (p i : ℕ) → Closed s bs p → Toward s p i → Toward s p (beside s i)
toward_on left bs p i c toward = omega arith
toward_on right bs p i c toward = omega arith

inside_on :
    (s : Side) (bs : List ℕ) (p i : ℕ) → Closed s bs p → 2 * i + 1 < length bs →
    gap_at s (occupied_places (words_of bs)) (beside s i) ≡ gap_at s (occupied_places (words_of bs)) p →
    2 * beside s i + 1 < length bs
inside_on left bs p i c inside same = omega arith
inside_on right bs p i c inside same = omega (arith, c, same, right_from (occupied_places (words_of bs)) (i + 1))

-- there is a place beside, and less is left
beside_on :
    (s : Side) (bs : List ℕ) (p i n : ℕ) → Closed s bs p → Room s bs p n → 2 * i + 1 < length bs →
    (at (words_of bs) i).occupied ≡ true →
    HasBeside s i × (left_over s bs (beside s i) < left_over s bs i)
beside_on left bs p i n c room inside full =
    let some = some_before (words_of bs) i c.1 full in (some, omega arith)
beside_on right bs p i n c room inside full = (omega arith, omega arith)

module _ {s : Side} {bs : List ℕ} {p n m i k l : ℕ} (here : Walk s bs p n m i k l) where
  pub virgins_fit : Room s bs p n → k + 1 < 4294967296
  virgins_fit room = rw here.virgins (passed_few s bs p i n is_virgin room here.inside)

  pub changes_fit : Room s bs p m → l + 1 < 4294967296
  changes_fit room = rw here.changes (passed_few s bs p i m is_change room here.inside)

  module _ (w : ℕ) (word : word_of w ≡ at (words_of bs) i) where
    module _ (c : Closed s bs p) (full : (word_of w).occupied ≡ true) where
      pub has_beside : Room s bs p n → HasBeside s i
      has_beside room = (beside_on s bs p i n c room here.inside (ap is_occupied (sym word) ∙ full)).0

      pub less_left : Room s bs p n → left_over s bs (beside s i) < left_over s bs i
      less_left room = (beside_on s bs p i n c room here.inside (ap is_occupied (sym word) ∙ full)).1

      pub walk_on :
          (x y : ℕ) → x ≡ bit_of (word_of w).virgin → y ≡ bit_of (word_of w).change →
          Walk s bs p n m (beside s i) (k + x) (l + y)
      walk_on x y virgin change =
          let there = ap is_occupied (sym word) ∙ full in
          let same = gap_on s bs p i c here.inside there ∙ here.gap in
          record {
            inside = inside_on s bs p i c here.inside same;
            begun = toward_on s bs p i c here.begun;
            gap = same;
            virgins =
                rw (passed_on s bs p i is_virgin c here.begun here.inside there, ← word, ← virgin)
                (omega (arith, here.virgins));
            changes =
                rw (passed_on s bs p i is_change c here.begun here.inside there, ← word, ← change)
                (omega (arith, here.changes));
          }

    -- an unoccupied place is the gap
    pub walk_ends :
        (word_of w).occupied ≡ false →
        record { gap = record { 0 = i }; virgins = k; changes = l } ≡ walked s (words_of bs) p n m
    unfolding walked
    walk_ends free =
        let os = occupied_places (words_of bs) in
        let own = gap_own s os i (occupied_at (words_of bs) i ∙ ap is_occupied (sym word) ∙ free) in
        rw (← here.gap, own, here.virgins, here.changes)

-- ---- the walks of the two ends

-- the left end is reached from the place before the home
pub left_walk :
    (bs : List ℕ) (h : ℕ) → (at (words_of bs) 0).occupied ≡ false → (at (words_of bs) h).occupied ≡ true →
    walked left (words_of bs) (h - 1) 0 0 ≡ left_end (words_of bs) h
unfolding walked left_end
left_walk bs h free full =
    let ws = words_of bs in
    let os = occupied_places ws in
    let some = some_before ws h free full in
    let back : h - 1 + 1 ≡ h = omega arith in
    let run = slice (suc (left_gap os h)) h ws in
    rw (
      left_step os h some (occupied_at ws h ∙ full),
      back,
      add-one (left_gap os h),
      zero-add (count is_virgin run),
      zero-add (count is_change run),
    )

left_below :
    (bs : List ℕ) (h : ℕ) → (at (words_of bs) 0).occupied ≡ false → (at (words_of bs) h).occupied ≡ true →
    left_gap (occupied_places (words_of bs)) h < h
left_below bs h free full =
    let ws = words_of bs in
    let os = occupied_places ws in
    let some = some_before ws h free full in
    let low : left_gap os (h - 1) ≤ h - 1 = (left_gap_is os (h - 1) (occupied_at ws 0 ∙ free)).side in
    omega (arith, some, low, left_step os h some (occupied_at ws h ∙ full))

none_sliced : (a b : ℕ) → slice {A = Word} a b [] ≡ []
none_sliced zero zero = refl
none_sliced zero (suc b) = refl
none_sliced (suc a) zero = refl
none_sliced (suc a) (suc b) = refl

-- a run in two parts
slice_join : (a b c : ℕ) (ws : List Word) → a ≤ b → b ≤ c → slice a b ws ++ slice b c ws ≡ slice a c ws
slice_join a b c [] low high = rw (none_sliced a b, none_sliced b c, none_sliced a c)
slice_join zero zero c (w ∷ ws) low high = refl
slice_join zero (suc b) zero (w ∷ ws) low high = absurd (omega arith)
slice_join zero (suc b) (suc c) (w ∷ ws) low high =
    ap (λ (vs : List Word). w ∷ vs) (slice_join zero b c ws (omega arith) (omega arith))
slice_join (suc a) zero c (w ∷ ws) low high = absurd (omega arith)
slice_join (suc a) (suc b) zero (w ∷ ws) low high = absurd (omega arith)
slice_join (suc a) (suc b) (suc c) (w ∷ ws) low high = slice_join a b c ws (omega arith) (omega arith)

-- what is counted in both is counted in the whole
count_join :
    (f : Word → Bool) (a b c : ℕ) (ws : List Word) → a ≤ b → b ≤ c →
    count f (slice a b ws) + count f (slice b c ws) ≡ count f (slice a c ws)
count_join f a b c ws low high =
    sym (count_append f (slice a b ws) (slice b c ws)) ∙ ap (count f) (slice_join a b c ws low high)

-- the right end is reached from the home, with what was counted on the left
pub right_walk :
    (bs : List ℕ) (h : ℕ) → (at (words_of bs) 0).occupied ≡ false → (at (words_of bs) h).occupied ≡ true → (l : End) →
    l ≡ left_end (words_of bs) h → walked right (words_of bs) h l.virgins l.changes ≡ right_end (words_of bs) h
unfolding walked left_end right_end
right_walk bs h free full l is =
    let ws = words_of bs in
    let os = occupied_places ws in
    let low : suc (left_gap os h) ≤ h = omega (arith, left_below bs h free full) in
    let high = right_from os h in
    rw (
      is,
      count_join is_virgin (suc (left_gap os h)) h (right_gap os h) ws low high,
      count_join is_change (suc (left_gap os h)) h (right_gap os h) ws low high,
    )

-- what is counted on the left is few, so that it fits with what the walk to the right counts
pub right_room :
    (bs : List ℕ) (h : ℕ) (l : End) → length bs ≤ 2097156 → Closed right bs h → l ≡ left_end (words_of bs) h →
    Room right bs h l.virgins × Room right bs h l.changes
unfolding left_end
right_room bs h l few closed is =
    let ws = words_of bs in
    let first = suc (left_gap (occupied_places ws) h) in
    let inside = closed_inside right bs h closed in
    rw is (omega (arith, sliced_few is_virgin first h ws), omega (arith, sliced_few is_change first h ws))
