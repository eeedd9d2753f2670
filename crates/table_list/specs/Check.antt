-- A whole table in two passes, for any words: `tidy`, each word held against the next one, and `even_gaps`, as many
-- homes as groups at each gap; the laws of the two loops; both passes over a cluster and its gap, `fine_cluster`.
-- Assumes nothing.
use Rattle.std.specs.Prelude.{ℕ, zero, suc, ◌+◌, ◌-◌, ◌*◌, ◌≤◌, ◌<◌, ◌≡◌, Bool, ◌&&◌, ◌||◌, List, [], ◌∷◌, ◌++◌, ltb, eqb, length, Result, Ok, Err}
use Rattle.std.proofs.Math.Path.{refl}
use Rattle.std.proofs.Common.{sym, ap, ◌∙◌, zero-add, add-zero, add_assoc, arith, lt-ltb, eqb-true, eq-eqb, ne_eqb}
use Rattle.std.proofs.Math.Bool.{true, false, and-true, and-false, or-false, and_assoc, or_assoc}
use Rattle.std.specs.Int.Bits.{bit_or}
use Rattle.std.proofs.Math.Seq.{slice}
use Rattle.std.proofs.lemmas.Bool.{eqb-false}
use Rattle.rules.specs.declared.Shape.{Shape}
use Rattle.rules.specs.declared.Refusal.{Refusal}
use Rattle.rules.specs.Lists.{bit_of, count, all, any}
use Rattle.rules.specs.Word.{Word, word_of, is_void}
use Rattle.rules.specs.Bytes.{words_of}
use Rattle.rules.specs.Shape.{remainders}
use Rattle.rules.specs.Table.{at, ends_in_change, rising, sound_run, sound, locked}
use Rattle.rules.specs.Answer.{leaves, refuses, number_of_refusal}
use Rattle.rules.specs.Listing.{list_in}
use Rattle.table_words.specs.Range.{some_remainders}
use Rattle.table_words.specs.All.{all_append}
use Rattle.theory.specs.Dealt.{is_change, is_virgin, is_occupied, is_low, and_left, and_right}
use Rattle.theory.specs.Locks.{void_unlock}
use Rattle.table_cluster.specs.Run.{run_step, run_end}
use Rattle.table_cluster.specs.Check.{passed, rises, rises_to, rises_ends, over_low, over_lock, void_remainder}
use Rattle.table_list.specs.declared.check.Order.{Order}
use Rattle.table_list.specs.declared.check.Gaps.{Gaps}
use Rattle.table_list.specs.declared.check.Check.{Check}

-- a word before another: it ends its group or its remainder is below the other's, or it is void
unfoldable pub stands : Word → Word → Bool
stands w v = (w.occupied && rises w v) || is_void w

-- each word stands before the next, and the last is void
unfoldable pub tidy : List Word → Bool
tidy [] = true
tidy (w ∷ []) = is_void w
tidy (w ∷ v ∷ ws) = stands w v && tidy (v ∷ ws)

-- after n virgin and m change bits, as many of the one as of the other at each unoccupied word
unfoldable pub even_gaps : ℕ → ℕ → List Word → Bool
even_gaps n m [] = true
even_gaps n m (w ∷ ws) =
    (w.occupied || eqb (n + bit_of w.virgin) (m + bit_of w.change))
    && even_gaps (n + bit_of w.virgin) (m + bit_of w.change) ws

-- what the passes tell of a table
unfoldable pub order_of : Shape → List Word → Order
order_of sh ws = record { tidy = tidy ws && all (is_low (remainders sh)) ws; locked = locked ws }

unfoldable pub gaps_of : List Word → Gaps
gaps_of ws = record { even = even_gaps 0 0 ws; keys = count is_occupied ws }

unfoldable pub check_of : Shape → List Word → Check
check_of sh ws = record { sound = sound sh ws; locked = locked ws; keys = count is_occupied ws }

-- what a call that reads the whole table is refused by
abbrev pub barred : Check → Result Unit Refusal
barred c = passed (record { sound = c.sound; locked = c.locked })

-- a table that passes is sound and not locked, and the number told is that of its occupied words
pub check_good :
    (sh : Shape) (ws : List Word) (u : Unit) → Ok u ≡ barred (check_of sh ws) →
    (sound sh ws ≡ true) × (locked ws ≡ false) × ((check_of sh ws).keys ≡ count is_occupied ws)
unfolding check_of
check_good sh ws u e = grind arith

-- a table that does not pass is not listed
pub check_refused :
    (sh : Shape) (ws : List Word) (slots : List ℕ) (n : Refusal) → Err n ≡ barred (check_of sh ws) →
    leaves (refuses (number_of_refusal n)) slots ≡ list_in sh ws slots
unfolding check_of list_in
check_refused sh ws slots n e = grind arith

-- ---- the first pass: what is known of the words behind, and the words ws to come
unfoldable pub ordered : Shape → Bool → ℕ → List Word → Order
ordered sh up over ws =
    record {
      tidy = (up && tidy ws) && (ltb (word_of over).remainder (remainders sh) && all (is_low (remainders sh)) ws);
      locked = (word_of over).lock || locked ws;
    }

pub order_begins : (sh : Shape) (ws : List Word) → ordered sh true 0 ws ≡ order_of sh ws
unfolding ordered order_of word_of
order_begins sh ws = rw (lt-ltb 0 (remainders sh) (some_remainders sh))

order_word :
    (sh : Shape) (up : Bool) (over w : ℕ) (v : Word) (ws : List Word) → over < 65536 → w < 65536 →
    ordered sh up over (word_of w ∷ v ∷ ws) ≡ ordered sh (up && stands (word_of w) v) (bit_or over w) (v ∷ ws)
unfolding ordered tidy all locked any
order_word sh up over w v ws small low =
    rw (
      over_low sh over w,
      over_lock over w small low,
      and_assoc up (stands (word_of w) v) (tidy (v ∷ ws)),
      and_assoc
          (ltb (word_of over).remainder (remainders sh))
          (ltb (word_of w).remainder (remainders sh))
          (all (is_low (remainders sh)) (v ∷ ws)),
      or_assoc (word_of over).lock (word_of w).lock (locked (v ∷ ws)),
    )

order_last :
    (sh : Shape) (up : Bool) (over w : ℕ) → over < 65536 → w < 65536 →
    ordered sh up over (word_of w ∷ [])
    ≡ record {
      tidy = up && is_void (word_of w) && ltb (word_of (bit_or over w)).remainder (remainders sh);
      locked = (word_of (bit_or over w)).lock;
    }
unfolding ordered tidy all locked any
order_last sh up over w small low =
    rw (
      over_low sh over w,
      over_lock over w small low,
      and-true (ltb (word_of w).remainder (remainders sh)),
      or-false (word_of w).lock,
    )

-- ---- the second pass
unfoldable pub gapped : Bool → ℕ → ℕ → ℕ → List Word → Gaps
gapped even n m k ws = record { even = even && even_gaps n m ws; keys = k + count is_occupied ws }

pub gaps_begin : (ws : List Word) → gapped true 0 0 0 ws ≡ gaps_of ws
unfolding gapped gaps_of
gaps_begin ws = rw (zero-add (count is_occupied ws))

gaps_word :
    (even : Bool) (n m k : ℕ) (w : Word) (ws : List Word) →
    gapped even n m k (w ∷ ws)
    ≡ gapped
    (even && (w.occupied || eqb (n + bit_of w.virgin) (m + bit_of w.change)))
    (n + bit_of w.virgin)
    (m + bit_of w.change)
    (k + bit_of w.occupied)
    ws
unfolding gapped even_gaps count
gaps_word even n m k w ws =
    rw (
      and_assoc
          even
          (w.occupied || eqb (n + bit_of w.virgin) (m + bit_of w.change))
          (even_gaps (n + bit_of w.virgin) (m + bit_of w.change) ws),
      add_assoc k (bit_of w.occupied) (count is_occupied ws),
    )

gaps_none : (even : Bool) (n m k : ℕ) → gapped even n m k [] ≡ record { even = even; keys = k }
unfolding gapped even_gaps count
gaps_none even n m k = rw (and-true even, add-zero k)

-- ---- the same on a table
-- the words v and w stand at places i - 1 and i
pub order_on :
    (sh : Shape) (bs : List ℕ) (i r : ℕ) (up : Bool) (over v w : ℕ) (t : Bool) →
    0 < i → i < r → 2 * r ≤ length bs →
    word_of v ≡ at (words_of bs) (i - 1) → word_of w ≡ at (words_of bs) i → over < 65536 → v < 65536 →
    t ≡ stands (word_of v) (word_of w) →
    ordered sh (up && t) (bit_or over v) (slice (i + 1 - 1) r (words_of bs))
    ≡ ordered sh up over (slice (i - 1) r (words_of bs))
order_on sh bs zero r up over v w t some lt within word next small low rise = absurd (omega arith)
order_on sh bs (suc i) r up over v w t some lt within word next small low rise =
    let here : suc i - 1 ≡ i = omega arith in
    let on : suc i + 1 - 1 ≡ i + 1 = omega arith in
    let after : suc i ≡ i + 1 = omega arith in
    rw (
      here,
      on,
      run_step bs i r (omega arith) within,
      run_step bs (i + 1) r (omega arith) within,
      ← (word ∙ ap (at (words_of bs)) here),
      ← (next ∙ ap (at (words_of bs)) after),
      rise,
    )
    (sym (order_word sh up over v (word_of w) (slice (i + 1 + 1) r (words_of bs)) small low))

pub order_ends :
    (sh : Shape) (bs : List ℕ) (i r : ℕ) (up : Bool) (over w : ℕ) →
    0 < i → i ≡ r → 2 * r ≤ length bs → word_of w ≡ at (words_of bs) (i - 1) → over < 65536 → w < 65536 →
    ordered sh up over (slice (i - 1) r (words_of bs))
    ≡ record {
      tidy = up && is_void (word_of w) && ltb (word_of (bit_or over w)).remainder (remainders sh);
      locked = (word_of (bit_or over w)).lock;
    }
order_ends sh bs i r up over w some last within word small low =
    rw (run_step bs (i - 1) r (omega arith) within, run_end bs (i - 1 + 1) r (omega arith), ← word)
    (order_last sh up over w small low)

module _ (bs : List ℕ) (i r : ℕ) where
  pub gaps_on :
      (even : Bool) (n m k w : ℕ) (o : Bool) (x y z : ℕ) → i < r → 2 * r ≤ length bs →
      word_of w ≡ at (words_of bs) i →
      x ≡ bit_of (word_of w).virgin → y ≡ bit_of (word_of w).change → z ≡ bit_of (word_of w).occupied →
      o ≡ (word_of w).occupied →
      gapped (even && (o || eqb (n + x) (m + y))) (n + x) (m + y) (k + z) (slice (i + 1) r (words_of bs))
      ≡ gapped even n m k (slice i r (words_of bs))
  gaps_on even n m k w o x y z lt within word p q s t =
      rw (p, q, s, t, run_step bs i r lt within, ← word)
      (sym (gaps_word even n m k (word_of w) (slice (i + 1) r (words_of bs))))

  pub gaps_end :
      (even : Bool) (n m k : ℕ) → r ≤ i →
      gapped even n m k (slice i r (words_of bs)) ≡ record { even = even; keys = k }
  gaps_end even n m k end = rw (run_end bs i r end) (gaps_none even n m k)

-- ---- both passes over a cluster and the gap after it
unfoldable pub fine : Shape → ℕ → ℕ → List Word → Bool
fine sh n m ws = (tidy ws && all (is_low (remainders sh)) ws) && even_gaps n m ws

stands_occupied : (w v : Word) → w.occupied ≡ true → stands w v ≡ rises w v
unfolding stands is_void rises
stands_occupied w v e = rw (e, and-false (eqb w.remainder 0), or-false (rises w v))

tidy_free : (h : Word) (t : List Word) → h.occupied ≡ false → tidy (h ∷ t) ≡ (is_void h && tidy t)
unfolding tidy stands
tidy_free h [] free = sym (and-true (is_void h))
tidy_free h (v ∷ t) free = rw free

tidy_run :
    (run : List Word) (h : Word) (t : List Word) →
    all is_occupied run ≡ true → tidy (run ++ (h ∷ t)) ≡ (rises_to h run && tidy (h ∷ t))
unfolding tidy rises_to all
tidy_run [] h t occ = refl
tidy_run (w ∷ []) h t occ =
    rw (stands_occupied w h (and_left w.occupied _ occ), and-true (rises w h))
tidy_run (w ∷ v ∷ run) h t occ =
    rw (
      stands_occupied w v (and_left w.occupied _ occ),
      tidy_run (v ∷ run) h t (and_right w.occupied _ occ),
    )
    (sym (and_assoc (rises w v) (rises_to h (v ∷ run)) (tidy (h ∷ t))))

low_void :
    (sh : Shape) (h : Word) (t : List Word) →
    is_void h ≡ true → all (is_low (remainders sh)) (h ∷ t) ≡ all (is_low (remainders sh)) t
unfolding all
low_void sh h t void = rw (void_remainder h void, lt-ltb 0 (remainders sh) (some_remainders sh))

even_run :
    (n m : ℕ) (run vs : List Word) →
    all is_occupied run ≡ true →
    even_gaps n m (run ++ vs) ≡ even_gaps (n + count is_virgin run) (m + count is_change run) vs
unfolding even_gaps count all
even_run n m [] vs occ = rw (add-zero n, add-zero m)
even_run n m (w ∷ run) vs occ =
    rw (
      and_left w.occupied _ occ,
      ← add_assoc n (bit_of w.virgin) (count is_virgin run),
      ← add_assoc m (bit_of w.change) (count is_change run),
    )
    (even_run
    (n + bit_of w.virgin)
    (m + bit_of w.change)
    run
    vs
    (and_right w.occupied _ occ))

even_void :
    (n m : ℕ) (h : Word) (t : List Word) →
    is_void h ≡ true → even_gaps n m (h ∷ t) ≡ (eqb n m && even_gaps n m t)
unfolding even_gaps
even_void n m h t void =
    rw (
      ap is_occupied (void_unlock h void),
      ap is_virgin (void_unlock h void),
      ap is_change (void_unlock h void),
      add-zero n,
      add-zero m,
    )

-- a count on both sides of a comparison
eqb_shift : (k n m : ℕ) → eqb (k + n) (k + m) ≡ eqb n m
eqb_shift k n m = go (eqb n m) refl
  where
    go : (b : Bool) → eqb n m ≡ b → eqb (k + n) (k + m) ≡ b
    go true e = eq-eqb (k + n) (k + m) (ap (λ (x : ℕ). k + x) (eqb-true n m e))
    go false e = ne_eqb (k + n) (k + m) (λ same. eqb-false n m e (omega arith))

module _ (sh : Shape) (run : List Word) (h : Word) (t : List Word) (k : ℕ)
    (occ : all is_occupied run ≡ true)
    (free : h.occupied ≡ false)
  where
    abbrev n : ℕ
    n = count is_virgin run

    abbrev m : ℕ
    m = count is_change run

    pub fine_cluster :
        fine sh k k (run ++ (h ∷ t)) ≡ ((sound_run sh run && is_void h) && fine sh (k + n) (k + n) t)
    unfolding fine sound_run
    fine_cluster = go (is_void h) refl
      where
        sorted :
            (ends rise low tid all_low ev even : Bool) →
            (((ends && rise) && tid) && (low && all_low)) && (ev && even)
            ≡ ((ev && ends && (low && rise)) && true) && ((tid && all_low) && even)
        sorted true true true true true true even = refl
        sorted true true true true true false even = refl
        sorted true true true true false true even = refl
        sorted true true true true false false even = refl
        sorted true true true false all_low true even = refl
        sorted true true true false all_low false even = refl
        sorted true true false true all_low true even = refl
        sorted true true false true all_low false even = refl
        sorted true true false false all_low true even = refl
        sorted true true false false all_low false even = refl
        sorted true false true tid all_low true even = refl
        sorted true false true tid all_low false even = refl
        sorted true false false tid all_low true even = refl
        sorted true false false tid all_low false even = refl
        sorted false rise low tid all_low true even = refl
        sorted false rise low tid all_low false even = refl

        -- past the gap there are as many virgin as change bits, or the cluster is unsound
        past :
            (b : Bool) → eqb n m ≡ b →
            (b && even_gaps (k + n) (k + m) t) ≡ (b && even_gaps (k + n) (k + n) t)
        past true e = ap (λ (x : ℕ). even_gaps (k + n) (k + x) t) (sym (eqb-true n m e))
        past false e = refl

        go :
            (b : Bool) → is_void h ≡ b →
            fine sh k k (run ++ (h ∷ t)) ≡ ((sound_run sh run && is_void h) && fine sh (k + n) (k + n) t)
        go true e =
            rw (
              tidy_run run h t occ,
              tidy_free h t free,
              all_append (is_low (remainders sh)) run (h ∷ t),
              even_run k k run (h ∷ t) occ,
              even_void (k + n) (k + m) h t e,
              rises_ends h run (void_remainder h e),
              e,
              low_void sh h t e,
              eqb_shift k n m,
              past (eqb n m) refl,
            )
            (sorted
            (ends_in_change run)
            (rising run)
            (all (is_low (remainders sh)) run)
            (tidy t)
            (all (is_low (remainders sh)) t)
            (eqb n m)
            (even_gaps (k + n) (k + n) t))
        go false e =
            rw (
              tidy_run run h t occ,
              tidy_free h t free,
              e,
              and-false (rises_to h run),
              and-false (sound_run sh run),
            )
