-- A place in a run between two unoccupied words: its gaps, its cluster and its surroundings are those that one sees.
-- And an unoccupied place: it is its own gap on both sides, with no cluster.
-- Assumes nothing.
use Prim.Native.Nat.{ℕ, suc, ◌+◌, ◌-◌, ◌<◌}
use Rattle.std.specs.Prelude.{◌≡◌, true, false, length, get_or, take, drop}
use Rattle.std.proofs.Common.{sym, ◌∙◌, arith, length-append, get_or-append-add}
use Rattle.std.proofs.Math.Path.{ap, ap₂}
use mathlib.Core.List.{List, [], ◌∷◌, ◌++◌, append_assoc}
use Rattle.std.proofs.Math.ListN.{length-take, drop_of_length-le, get_or-append, get_or-map}
use Rattle.std.proofs.lemmas.List.{length-map}
use Rattle.std.proofs.Math.Seq.{slice, get_or-append_seam, take-append-add, take-append_seam, drop-append_seam}
use Rattle.rules.specs.declared.Shape.{Shape}
use Rattle.rules.specs.Lists.{all}
use Rattle.rules.specs.Word.{Word, zero_word, is_void}
use Rattle.rules.specs.Table.{at, occupied_places, left_gap, right_gap, between, cluster, virgin_places, deal}
use Rattle.rules.specs.Table.{entries_between, cluster_entries, guards_void}
use Rattle.table_words.specs.All.{all_at}
use Rattle.theory.specs.Dealt.{is_occupied, and_left}
use Rattle.theory.specs.Locks.{void_unlock}
use Rattle.theory.specs.Gaps.{Taken, own_gap, gap_only, left_gap_is, right_gap_is}
use Rattle.theory.specs.Gaps as gaps

pub void_free : (w : Word) → is_void w ≡ true → w.occupied ≡ false
void_free w void = ap is_occupied (void_unlock w void)

pub left_free : (sh : Shape) (ws : List Word) → guards_void sh ws ≡ true → (at ws 0).occupied ≡ false
unfolding guards_void
left_free sh ws void = void_free (at ws 0) (and_left (is_void (at ws 0)) _ void)

pub occupied_at : (ws : List Word) (p : ℕ) → get_or (occupied_places ws) p false ≡ (at ws p).occupied
unfolding occupied_places
occupied_at ws p = get_or-map is_occupied ws p zero_word

pub occupied_length : (ws : List Word) → length (occupied_places ws) ≡ length ws
unfolding occupied_places
occupied_length ws = length-map ws is_occupied

-- ---- words at a place of an append
pub at_seam : (u : List Word) (g : Word) (v : List Word) → at (u ++ (g ∷ v)) (length u) ≡ g
at_seam u g v = get_or-append_seam u g v zero_word

pub at_after : (u : List Word) (g : Word) (v : List Word) (i : ℕ) → at (u ++ (g ∷ v)) (suc (length u) + i) ≡ at v i
at_after u g v i = ap (at (u ++ (g ∷ v))) (plus (length u) i) ∙ get_or-append-add u (g ∷ v) (suc i) zero_word
  where
    plus : (n i : ℕ) → suc n + i ≡ n + suc i
    plus n i = omega arith

pub at_left : (u v : List Word) (i : ℕ) → i < length u → at (u ++ v) i ≡ at u i
at_left u v i lt = get_or-append u v zero_word i lt

-- the part in the middle of three
slice_part :
    (xs ys zs : List Word) (l r : ℕ) → l ≡ length xs → r ≡ length xs + length ys → slice l r (xs ++ (ys ++ zs)) ≡ ys
slice_part xs ys zs l r p q =
    ap₂ (λ (a b : ℕ). slice a b (xs ++ (ys ++ zs))) p q
    ∙ ap
    (drop (length xs))
    (take-append-add xs (ys ++ zs) (length ys) ∙ ap (λ (t : List Word). xs ++ t) (take-append_seam ys zs))
    ∙ drop-append_seam xs ys

-- ---- an unoccupied place
module _ (ws : List Word) (p : ℕ) (empty : (at ws p).occupied ≡ false) where
  pub gap_left : left_gap (occupied_places ws) p ≡ p
  gap_left = own_gap gaps.left (occupied_places ws) p (occupied_at ws p ∙ empty)

  pub gap_right : right_gap (occupied_places ws) p ≡ p
  gap_right = own_gap gaps.right (occupied_places ws) p (occupied_at ws p ∙ empty)

  pub gap_cluster : cluster ws p ≡ []
  unfolding cluster
  gap_cluster =
      ap₂ (between ws) gap_left gap_right
      ∙ drop_of_length-le (take p ws) {i = suc p} (omega (arith, length-take p ws))

  pub gap_entries : cluster_entries ws p ≡ []
  unfolding cluster_entries entries_between cluster deal virgin_places
  gap_entries =
      ap (λ (vs : List Word). deal (virgin_places (suc (left_gap (occupied_places ws) p)) vs) vs) gap_cluster

pub seam_free :
    (u : List Word) (g : Word) (v : List Word) → is_void g ≡ true → (at (u ++ (g ∷ v)) (length u)).occupied ≡ false
seam_free u g v void = ap is_occupied (at_seam u g v) ∙ void_free g void

-- ---- a place of a run
module _ (u : List Word) (g : Word) (run : List Word) (h : Word) (v : List Word)
    (empty_left : g.occupied ≡ false)
    (taken : all is_occupied run ≡ true)
    (empty_right : h.occupied ≡ false)
    (origin : (at (u ++ (g ∷ (run ++ (h ∷ v)))) 0).occupied ≡ false)
  where
    abbrev ws : List Word
    ws = u ++ (g ∷ (run ++ (h ∷ v)))

    pub run_taken : (q : ℕ) → length u < q → q < suc (length u) + length run → Taken (occupied_places ws) q
    run_taken q low high =
        occupied_at ws q
        ∙ ap (λ (p : ℕ). (at ws p).occupied) (sym place)
        ∙ ap
        is_occupied
        (at_after u g (run ++ (h ∷ v)) (q - suc (length u)) ∙ at_left run (h ∷ v) (q - suc (length u)) (omega arith))
        ∙ all_at is_occupied run (q - suc (length u)) zero_word taken (omega arith)
      where
        place : suc (length u) + (q - suc (length u)) ≡ q
        place = omega arith

    pub run_left : (p : ℕ) → length u < p → p < suc (length u) + length run → left_gap (occupied_places ws) p ≡ length u
    run_left p low high =
        gap_only
        gaps.left
        (left_gap_is (occupied_places ws) p (occupied_at ws 0 ∙ origin))
        (record {
          side = omega arith;
          free = occupied_at ws (length u) ∙ ap is_occupied (at_seam u g (run ++ (h ∷ v))) ∙ empty_left;
          run = λ q x y n. run_taken q (omega (arith, n)) (omega arith);
        })

    pub run_right :
        (p : ℕ) → length u < p → p < suc (length u) + length run →
        right_gap (occupied_places ws) p ≡ suc (length u) + length run
    run_right p low high =
        gap_only
        gaps.right
        (right_gap_is (occupied_places ws) p)
        (record {
          side = omega arith;
          free =
              occupied_at ws (suc (length u) + length run)
              ∙ ap is_occupied (at_after u g (run ++ (h ∷ v)) (length run) ∙ at_seam run h v)
              ∙ empty_right;
          run = λ q x y n. run_taken q (omega arith) (omega (arith, n));
        })

    pub run_between : between ws (length u) (suc (length u) + length run) ≡ run
    run_between =
        ap (slice (suc (length u)) (suc (length u) + length run)) (sym (append_assoc u (g ∷ []) (run ++ (h ∷ v))))
        ∙ slice_part
        (u ++ (g ∷ []))
        run
        (h ∷ v)
        (suc (length u))
        (suc (length u) + length run)
        (omega (arith, length-append u (g ∷ [])))
        (omega (arith, length-append u (g ∷ [])))

    module _ (p : ℕ) (after : length u < p) (before : p < suc (length u) + length run) where
      pub run_cluster : cluster ws p ≡ run
      unfolding cluster
      run_cluster = ap₂ (between ws) (run_left p after before) (run_right p after before) ∙ run_between

      pub run_cluster_entries : cluster_entries ws p ≡ deal (virgin_places (suc (length u)) run) run
      unfolding cluster_entries entries_between
      run_cluster_entries =
          ap₂ (entries_between ws) (run_left p after before) (run_right p after before)
          ∙ ap (λ (t : List Word). deal (virgin_places (suc (length u)) t) t) run_between
