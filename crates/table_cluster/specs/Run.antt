-- A run taken place by place: `run_step`, `run_end`, `run_last`; the steps of the scan for an empty place; and
-- soundness in one pass, `passes`, which `passes_sound` says is the rule's.
-- Assumes nothing.
use Rattle.std.specs.Prelude.{ℕ, ◌+◌, ◌*◌, ◌≤◌, ◌<◌, ◌≡◌, refl, Bool, true, false, ◌&&◌, ◌||◌, List, [], ◌∷◌, ◌++◌, length, take, eqb}
use Rattle.std.proofs.Common.{◌∙◌, add-one, zero-add, arith, drop_of_length-le, length-take, length-take-le, take-suc}
use Rattle.std.proofs.Math.Bool.{and-true, and_comm}
use Rattle.std.proofs.Math.Nat.{add-zero, add_assoc}
use Rattle.std.proofs.Math.Seq.{slice, slice-cons}
use Rattle.std.proofs.lemmas.List.{drop-append-le}
use Rattle.std.proofs.Math.Dec.{ltb}
use Rattle.rules.specs.declared.Shape.{Shape}
use Rattle.rules.specs.Lists.{bit_of, count, all}
use Rattle.rules.specs.Word.{Word, zero_word, word_of}
use Rattle.rules.specs.Bytes.{words_of}
use Rattle.rules.specs.Shape.{remainders}
use Rattle.rules.specs.Table.{at, between, ends_in_change, rising, sound_run}
use Rattle.theory.specs.Dealt.{is_change, is_virgin, is_occupied, is_low}
use Rattle.table_cluster.specs.Scan.{words_count}

-- ---- the words of a table from place i up to r
module _ (bs : List ℕ) (i r : ℕ) where
  pub run_step :
      i < r → 2 * r ≤ length bs → slice i r (words_of bs) ≡ at (words_of bs) i ∷ slice (i + 1) r (words_of bs)
  run_step h within = rw add-one (slice-cons i r (words_of bs) zero_word h (omega (arith, words_count bs)))

  pub run_end : r ≤ i → slice i r (words_of bs) ≡ []
  run_end h = drop_of_length-le (take r (words_of bs)) {i = i} (omega (arith, length-take r (words_of bs)))

  -- from the other side: the last word
  pub run_last :
      i ≤ r → 2 * r + 1 < length bs →
      slice i (r + 1) (words_of bs) ≡ slice i r (words_of bs) ++ (at (words_of bs) r ∷ [])
  run_last h within =
      let inside : r < length (words_of bs) = omega (arith, words_count bs) in
      let size : i ≤ length (take r (words_of bs)) = omega (arith, length-take-le r (words_of bs) (omega arith)) in
      rw (add-one r, take-suc (words_of bs) r zero_word inside)
      (drop-append-le i (take r (words_of bs)) (at (words_of bs) r ∷ []) size)

-- the places after l
pub run_after : (bs : List ℕ) (l r : ℕ) → slice (l + 1) r (words_of bs) ≡ between (words_of bs) l r
run_after bs l r = rw add-one

-- ---- an empty place
module _ (bs : List ℕ) (i r : ℕ) (h : i < r) (within : 2 * r ≤ length bs) where
  pub occupied_passed :
      (at (words_of bs) i).occupied ≡ true →
      all is_occupied (slice (i + 1) r (words_of bs)) ≡ all is_occupied (slice i r (words_of bs))
  unfolding all
  occupied_passed e = rw (run_step bs i r h within, e)

  pub gap_met : (at (words_of bs) i).occupied ≡ false → all is_occupied (slice i r (words_of bs)) ≡ false
  unfolding all
  gap_met e = rw (run_step bs i r h within, e)

pub occupied_end : (bs : List ℕ) (i r : ℕ) → r ≤ i → all is_occupied (slice i r (words_of bs)) ≡ true
unfolding all
occupied_end bs i r h = rw (run_end bs i r h)

-- ---- soundness in one pass
-- a word w may stand after a word v
unfoldable pub follows : ℕ → Word → Word → Bool
follows d v w = ltb w.remainder d && (v.change || ltb v.remainder w.remainder)

-- the words ws are sound after the word v, with so many virgin and so many change bits before them
unfoldable pub passes : ℕ → Word → ℕ → ℕ → List Word → Bool
passes d v virgins changes [] = v.change && eqb virgins changes
passes d v virgins changes (w ∷ ws) =
    follows d v w && passes d w (virgins + bit_of w.virgin) (changes + bit_of w.change) ws

-- one word's tests, put among those of the rest
swap_tests : (low up even ends all_low rise : Bool) →
    (low && up && ((even && ends) && (all_low && rise))) ≡ ((even && ends) && ((low && all_low) && (up && rise)))
swap_tests true true even ends all_low rise = refl
swap_tests true false true true true rise = refl
swap_tests true false true true false rise = refl
swap_tests true false true false all_low rise = refl
swap_tests true false false ends all_low rise = refl
swap_tests false up true true all_low rise = refl
swap_tests false up true false all_low rise = refl
swap_tests false up false ends all_low rise = refl

module _ (d : ℕ) where
  -- words pass if, with the bits before them, they are counted, end in change, are low and rise as the rule says
  passes_is : (v : Word) (n m : ℕ) (ws : List Word) →
      passes d v n m ws
      ≡ ((eqb (n + count is_virgin ws) (m + count is_change ws) && ends_in_change (v ∷ ws))
      && (all (is_low d) ws && rising (v ∷ ws)))
  unfolding passes follows count ends_in_change all rising
  passes_is v n m [] = rw (add-zero n, add-zero m, and-true (eqb n m && v.change)) (and_comm v.change (eqb n m))
  passes_is v n m (w ∷ ws) =
      rw (
        passes_is w (n + bit_of w.virgin) (m + bit_of w.change) ws,
        add_assoc n (bit_of w.virgin) (count is_virgin ws),
        add_assoc m (bit_of w.change) (count is_change ws),
      )
      (swap_tests
      (is_low d w)
      (v.change || ltb v.remainder w.remainder)
      (eqb (n + count is_virgin (w ∷ ws)) (m + count is_change (w ∷ ws)))
      (ends_in_change (w ∷ ws))
      (all (is_low d) ws)
      (rising (w ∷ ws)))

-- a word that ends a group, before a run, changes nothing
ends_before : (v : Word) (ws : List Word) → v.change ≡ true →
    (ends_in_change (v ∷ ws) ≡ ends_in_change ws) × (rising (v ∷ ws) ≡ rising ws)
unfolding ends_in_change rising
ends_before v [] e = (e, refl)
ends_before v (w ∷ ws) e = (refl, rw e)

pub passes_sound : (sh : Shape) (v : Word) (ws : List Word) → v.change ≡ true →
    passes (remainders sh) v 0 0 ws ≡ sound_run sh ws
unfolding sound_run
passes_sound sh v ws e =
    passes_is (remainders sh) v 0 0 ws
    ∙ rw
    (zero-add (count is_virgin ws), zero-add (count is_change ws), (ends_before v ws e).0, (ends_before v ws e).1)

pub sound_start :
    (sh : Shape) (bs : List ℕ) (l r d v : ℕ) → d ≡ remainders sh → (word_of v).change ≡ true →
    passes d (word_of v) 0 0 (slice (l + 1) r (words_of bs)) ≡ sound_run sh (between (words_of bs) l r)
sound_start sh bs l r d v e ends =
    rw (e, run_after bs l r) (passes_sound sh (word_of v) (between (words_of bs) l r) ends)

-- a word that may stand after the last is passed, another makes the run unsound
module _ (bs : List ℕ) (i r : ℕ) (h : i < r) (within : 2 * r ≤ length bs)
    (d v w n m : ℕ) (word : word_of w ≡ at (words_of bs) i)
  where
    pub word_passed :
        (x y : ℕ) → x ≡ bit_of (word_of w).virgin → y ≡ bit_of (word_of w).change →
        follows d (word_of v) (word_of w) ≡ true →
        passes d (word_of w) (n + x) (m + y) (slice (i + 1) r (words_of bs))
        ≡ passes d (word_of v) n m (slice i r (words_of bs))
    unfolding passes
    word_passed x y p q e = rw (run_step bs i r h within, ← word, e, p, q)

    pub word_refused :
        follows d (word_of v) (word_of w) ≡ false → passes d (word_of v) n m (slice i r (words_of bs)) ≡ false
    unfolding passes
    word_refused e = rw (run_step bs i r h within, ← word, e)

pub passes_end :
    (bs : List ℕ) (i r d v n m : ℕ) → r ≤ i →
    passes d (word_of v) n m (slice i r (words_of bs)) ≡ ((word_of v).change && eqb n m)
unfolding passes
passes_end bs i r d v n m h = rw (run_end bs i r h)

-- what a pass over a run goes by
pub ruleset occupied_laws = (run_after, occupied_passed, gap_met, occupied_end)

pub ruleset sound_laws = (sound_start, word_passed, word_refused, passes_end)
