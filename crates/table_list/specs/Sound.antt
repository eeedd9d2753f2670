-- A whole table is sound if its guards are void and, from gap to gap, each cluster is sound and the gap after it void:
-- `sound_guards`, `cluster_step`. So the guards and the two passes of Check tell it: `sound_checked`. Nothing is known
-- of the words beforehand.
-- Assumes nothing.
use Prim.Native.Nat.{ℕ, zero, suc, ◌+◌, ◌≤◌, ◌<◌}
use Rattle.std.specs.Prelude.{◌≡◌, Bool, true, false, not, cond, ◌&&◌, length, take, ltb}
use Rattle.std.proofs.Math.Path.{refl, sym, ap}
use Rattle.std.proofs.Common.{◌∙◌, arith, drop-cons, length-take-le, ltb-true, ltb-false}
use mathlib.Core.List.{List, [], ◌∷◌, ◌++◌}
use Rattle.std.proofs.Math.ListN.{drop, drop_of_length-le}
use Rattle.std.proofs.Math.Seq.{split_at}
use Rattle.std.proofs.lemmas.List.{drop-append-le}
use Rattle.rules.specs.declared.Shape.{Shape}
use Rattle.rules.specs.Lists.{count, all}
use Rattle.rules.specs.Word.{Word, zero_word, is_void}
use Rattle.rules.specs.Shape.{remainders, places, right_guard}
use Rattle.rules.specs.Table.{at, occupied_places, right_gap, between, cluster, sound_run, sound_at, sound_from, guards_void, sound}
use Rattle.theory.specs.Dealt.{is_virgin, is_occupied, is_low, and_left, and_right, and_both}
use Rattle.theory.specs.Gaps.{Gap, Guarded, right_gap_is, gap_first, gap_above}
use Rattle.theory.specs.Gaps as gaps
use Rattle.theory.specs.Places.{void_free, left_free, occupied_at}
use Rattle.theory.specs.Cut.{Cut, cut, between_occupied, void_guarded}
use Rattle.theory.specs.SoundTable.{sound_past, look, sound_seen, sound_rest, origin_seen, sound_is_table, table_guards}
use Rattle.theory.specs.SoundTable.{nothing_sound}
use Rattle.table_list.specs.Check.{tidy, even_gaps, fine, fine_cluster}

-- two tests that pass together have one value
same_truth : (a b : Bool) → (a ≡ true → b ≡ true) → (b ≡ true → a ≡ true) → a ≡ b
same_truth true b to back = sym (to refl)
same_truth false true to back = back refl
same_truth false false to back = refl

-- the soundness of the words after a place
abbrev pub sound_after : Shape → List Word → ℕ → Bool
sound_after sh ws l = sound_from sh ws (suc l) (drop (suc l) ws)

-- the left guard, and what lies after it
guard_step :
    (sh : Shape) (ws : List Word) →
    0 < length ws → (at ws 0).occupied ≡ false → sound_from sh ws 0 ws ≡ (is_void (at ws 0) && sound_after sh ws 0)
unfolding sound_from sound_at
guard_step sh [] some free = absurd (omega arith)
guard_step sh (w ∷ ws) some free =
    ap (λ (b : Bool). cond b (sound_run sh (cluster (w ∷ ws) 0)) (is_void w) && sound_from sh (w ∷ ws) 1 ws) free

pub sound_guards :
    (sh : Shape) (ws : List Word) →
    remainders sh ≤ 4096 → length ws ≡ places sh → sound sh ws ≡ (guards_void sh ws && sound_after sh ws 0)
unfolding sound guards_void places
sound_guards sh ws s size = same_truth _ _ to back
  where
    guards : Bool
    guards = not (at ws 0).occupied && not (at ws (right_guard sh)).occupied

    first : guards_void sh ws ≡ true → (at ws 0).occupied ≡ false
    first void = void_free _ (and_left (is_void (at ws 0)) _ void)

    last : guards_void sh ws ≡ true → (at ws (right_guard sh)).occupied ≡ false
    last void = void_free _ (and_right (is_void (at ws 0)) _ void)

    open_up : guards_void sh ws ≡ true → sound_from sh ws 0 ws ≡ (is_void (at ws 0) && sound_after sh ws 0)
    open_up void = guard_step sh ws (omega arith) (first void)

    to : sound sh ws ≡ true → (guards_void sh ws && sound_after sh ws 0) ≡ true
    to t =
        let void = table_guards sh size (sound_is_table sh ws s size t) in
        and_both _ _ void (and_right (is_void (at ws 0)) _ (sym (open_up void) ∙ and_right guards _ t))

    back : (guards_void sh ws && sound_after sh ws 0) ≡ true → sound sh ws ≡ true
    back t =
        let void : guards_void sh ws ≡ true = and_left (guards_void sh ws) _ t in
        and_both _ _
        (and_both _ _ (ap not (first void)) (ap not (last void)))
        (open_up void ∙ and_both _ _ (and_left (is_void (at ws 0)) _ void) (and_right (guards_void sh ws) _ t))

-- one cluster further: l is a gap, and r the next one
module _ (sh : Shape) (ws : List Word) (l r : ℕ)
    (origin : (at ws 0).occupied ≡ false)
    (free : (at ws l).occupied ≡ false)
    (gap : Gap gaps.right (occupied_places ws) (suc l) r)
    (inside : r < length ws)
  where
    abbrev u : List Word
    u = take l ws

    abbrev g : Word
    g = at ws l

    abbrev run : List Word
    run = between ws l r

    abbrev h : Word
    h = at ws r

    abbrev v : List Word
    v = drop (suc l) ws

    abbrev w : List Word
    w = drop (suc r) ws

    pieces : Cut ws l r
    pieces = cut ws l r gap.side inside

    taken : all is_occupied run ≡ true
    taken = between_occupied ws l r (omega arith) (gap_above gaps.right gap)

    empty : h.occupied ≡ false
    empty = sym (occupied_at ws r) ∙ gap.free

    after : v ≡ run ++ (h ∷ w)
    after =
        ap (drop (suc l)) (split_at ws r zero_word inside)
        ∙ drop-append-le (suc l) (take r ws) (h ∷ w)
        (omega (arith, length-take-le r ws (omega arith), gap.side))

    cluster_step : sound_after sh ws l ≡ ((sound_run sh run && is_void h) && sound_after sh ws r)
    cluster_step = same_truth _ _ to back
      where
        parts : ws ≡ u ++ (g ∷ v)
        parts = split_at ws l zero_word (omega (arith, gap.side))

        place : suc l ≡ suc (length u)
        place = ap suc (sym pieces.before)

        onward : suc (suc l + length run) ≡ suc r
        onward = omega (arith, pieces.inside, gap.side)

        rest : sound_after sh ws r ≡ sound_from sh (u ++ (g ∷ (run ++ (h ∷ w)))) (suc (suc (length u) + length run)) w
        rest =
            ap (λ (n : ℕ). sound_from sh ws n w) (sym onward)
            ∙ sound_rest sh ws u g run h v w (suc l) free taken empty origin parts after place

        to : sound_after sh ws l ≡ true → ((sound_run sh run && is_void h) && sound_after sh ws r) ≡ true
        to t =
            let facts = look sh ws u g run h v w (suc l) free taken empty origin parts after place t in
            and_both _ _ (and_both _ _ facts.snd facts.hollow) (rest ∙ facts.rest)

        back : ((sound_run sh run && is_void h) && sound_after sh ws r) ≡ true → sound_after sh ws l ≡ true
        back t =
            let here = and_left (sound_run sh run && is_void h) _ t in
            sound_seen sh ws u g run h v w (suc l) free taken empty origin parts after place
            ∙ sound_past u g run h w free taken empty
            (origin_seen sh ws u g run h v w (suc l) free taken empty origin parts after place)
            sh
            (and_left (sound_run sh run) _ here)
            (and_right (sound_run sh run) _ here)
            (sym rest ∙ and_right (sound_run sh run && is_void h) _ t)

    -- and both passes go on so too
    cluster_fine :
        (k : ℕ) →
        fine sh k k v
        ≡ ((sound_run sh run && is_void h) && fine sh (k + count is_virgin run) (k + count is_virgin run) w)
    cluster_fine k = ap (fine sh k k) after ∙ fine_cluster sh run h w k taken empty

-- ---- from gap to gap
module _ (sh : Shape) (ws : List Word) (size : length ws ≡ places sh) (void : guards_void sh ws ≡ true) where
  guarded : Guarded sh (occupied_places ws)
  guarded = void_guarded sh ws size void

  origin_free : (at ws 0).occupied ≡ false
  origin_free = left_free sh ws void

  -- both passes over the words after a gap tell whether they are sound
  fine_ended : (l k : ℕ) → right_guard sh ≤ l → fine sh k k (drop (suc l) ws) ≡ sound_after sh ws l
  unfolding places right_guard sound_from fine tidy all even_gaps
  fine_ended l k end =
      let none : drop (suc l) ws ≡ [] = drop_of_length-le ws {i = suc l} (omega arith) in
      ap (fine sh k k) none ∙ sym (ap (sound_from sh ws (suc l)) none)

  fine_after :
      (f l k : ℕ) → right_guard sh ≤ l + f → (at ws l).occupied ≡ false →
      fine sh k k (drop (suc l) ws) ≡ sound_after sh ws l
  unfolding places right_guard
  fine_after zero l k near free = fine_ended l k (omega arith)
  fine_after (suc f) l k near free =
      go (ltb l (right_guard sh)) refl (λ r j ahead empty. fine_after f r j (omega arith) empty)
    where
      r : ℕ
      r = right_gap (occupied_places ws) (suc l)

      next : Gap gaps.right (occupied_places ws) (suc l) r
      next = right_gap_is (occupied_places ws) (suc l)

      go :
          (b : Bool) → ltb l (right_guard sh) ≡ b →
          ((q j : ℕ) → l < q → (at ws q).occupied ≡ false → fine sh j j (drop (suc q) ws) ≡ sound_after sh ws q) →
          fine sh k k (drop (suc l) ws) ≡ sound_after sh ws l
      go false e rest = fine_ended l k (ltb-false l (right_guard sh) e)
      go true e rest =
          let before : r ≤ right_guard sh =
          gap_first gaps.right (right_guard sh) next (ltb-true l (right_guard sh) e) guarded.right in
          let here : r < length ws = omega arith in
          cluster_fine sh ws l r origin_free free next here k
          ∙ ap
          (λ (b : Bool). (sound_run sh (between ws l r) && is_void (at ws r)) && b)
          (rest r (k + count is_virgin (between ws l r)) next.side (sym (occupied_at ws r) ∙ next.free))
          ∙ sym (cluster_step sh ws l r origin_free free next here)

  -- the left guard is the gap after a cluster of nothing
  fine_whole : fine sh 0 0 ws ≡ sound_after sh ws 0
  unfolding places guards_void count all
  fine_whole =
      ap (fine sh 0 0) (drop-cons ws 0 zero_word (omega arith))
      ∙ fine_cluster sh [] (at ws 0) (drop 1 ws) 0 refl origin_free
      ∙ rw
      (nothing_sound sh, and_left (is_void (at ws 0)) _ void)
      (fine_after (right_guard sh) 0 0 (omega arith) origin_free)

-- so the guards and the two passes tell whether a table is sound
pub sound_checked :
    (sh : Shape) (ws : List Word) → remainders sh ≤ 4096 → length ws ≡ places sh →
    (guards_void sh ws && (tidy ws && all (is_low (remainders sh)) ws) && even_gaps 0 0 ws) ≡ sound sh ws
unfolding fine
sound_checked sh ws s size = go (guards_void sh ws) refl
  where
    go :
        (b : Bool) → guards_void sh ws ≡ b →
        (guards_void sh ws && (tidy ws && all (is_low (remainders sh)) ws) && even_gaps 0 0 ws) ≡ sound sh ws
    go true e = rw (sound_guards sh ws s size, e) (fine_whole sh ws size e)
    go false e = rw (sound_guards sh ws s size, e)
