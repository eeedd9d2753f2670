-- Soundness and locks of a run and of the ends about it, `check_of`, in one pass without a branch, `checked`: the words
-- laid over one another tell whether all remainders are low and whether one is locked; each word rises to the next,
-- and the last to the gap after it. `check_told` adds the ends, and the bits that were counted before.
-- Assumes nothing.
use Rattle.std.specs.Prelude.{ℕ, suc, ◌+◌, ◌*◌, ◌/◌, ◌%◌, ◌^◌, ◌≤◌, ◌<◌, ◌≡◌, refl, Bool, true, false, cond, not, ◌&&◌, ◌||◌, List, [], ◌∷◌, ltb, eqb, length, Result, Ok, Err}
use Rattle.std.proofs.Common.{sym, ◌∙◌, ap, ap₂, add-one, arith, ltb-true, ltb-false, lt-ltb, le-ltb, eqb-true}
use Rattle.std.proofs.Math.Bool.{and-true, or-false, and_assoc, or_assoc}
use Rattle.std.specs.Int.Bits.{bit_or}
use Rattle.std.proofs.lemmas.Nat.{or_lt, or_mod}
use Rattle.std.proofs.Math.Seq.{slice}
use Rattle.rules.specs.declared.Shape.{Shape}
use Rattle.rules.specs.declared.Refusal.{Refusal}
use Rattle.rules.specs.declared.Refusal.TheVariants.{Unsound, Locked}
use Rattle.rules.specs.Lists.{count, all, any}
use Rattle.rules.specs.Word.{Word, word_of, is_void}
use Rattle.rules.specs.Bytes.{words_of}
use Rattle.rules.specs.Shape.{remainders}
use Rattle.rules.specs.Table.{at, between, ends_in_change, rising, sound_run, locked}
use Rattle.table_words.specs.Range.{some_remainders}
use Rattle.table_words.specs.Over.{over_below}
use Rattle.theory.specs.Dealt.{is_change, is_virgin, is_low, and_left}
use Rattle.theory.specs.Locks.{locked_append}
use Rattle.table_cluster.specs.Run.{run_step, run_end, run_last, run_after}
use Rattle.table_cluster.specs.declared.run.Check.{Check}

-- a cluster between two places
unfoldable pub sound_between : Shape → List Word → ℕ → ℕ → Bool
sound_between sh ws l r = is_void (at ws l) && is_void (at ws r) && sound_run sh (between ws l r)

unfoldable pub check_of : Shape → List Word → ℕ → ℕ → Check
check_of sh ws l r = record { sound = sound_between sh ws l r; locked = locked (slice l (suc r) ws) }

-- what a call that asks for a sound and unlocked cluster is refused by: soundness comes before the locks
abbrev pub passed : Check → Result Unit Refusal
passed c = cond c.sound (cond c.locked (Err Locked) (Ok tt)) (Err Unsound)

check_path : {c d : Check} → c.sound ≡ d.sound → c.locked ≡ d.locked → c ≡ d
check_path p q = λ i. record { sound = p i; locked = q i }

-- ---- numbers laid over one another
pub over_low :
    (sh : Shape) (a b : ℕ) →
    ltb (word_of (bit_or a b)).remainder (remainders sh)
    ≡ (ltb (word_of a).remainder (remainders sh) && ltb (word_of b).remainder (remainders sh))
unfolding word_of remainders
over_low sh a b =
    ap (λ (n : ℕ). ltb n (2 ^ sh.r)) (or_mod a b 12) ∙ over_below sh.r (a % 4096) (b % 4096)

locked_high : (n : ℕ) → n < 65536 → (word_of n).lock ≡ not (ltb n 32768)
unfolding word_of
locked_high n small = go (ltb n 32768) refl
  where
    go : (b : Bool) → ltb n 32768 ≡ b → eqb (n / 32768 % 2) 1 ≡ not b
    go true p = let low : n / 32768 % 2 ≡ 0 = omega (arith, ltb-true n _ p) in rw low
    go false p = let high : n / 32768 % 2 ≡ 1 = omega (arith, ltb-false n _ p) in rw high

pub over_small : (a b : ℕ) → a < 65536 → b < 65536 → bit_or a b < 65536
over_small a b p q = or_lt 16 a b p q

pub over_lock :
    (a b : ℕ) → a < 65536 → b < 65536 → (word_of (bit_or a b)).lock ≡ ((word_of a).lock || (word_of b).lock)
over_lock a b p q =
    locked_high (bit_or a b) (over_small a b p q)
    ∙ ap not (over_below 15 a b)
    ∙ either (ltb a 32768) (ltb b 32768)
    ∙ ap₂ ◌||◌ (sym (locked_high a p)) (sym (locked_high b q))
  where
    either : (s t : Bool) → not (s && t) ≡ (not s || not t)
    either true t = refl
    either false t = refl

-- ---- a word and the next
unfoldable pub rises : Word → Word → Bool
rises v w = v.change || ltb v.remainder w.remainder

abbrev first : Word → List Word → Word
first g [] = g
first g (w ∷ ws) = w

-- each word of a run rises to the next, the last to the gap g
unfoldable pub rises_to : Word → List Word → Bool
rises_to g [] = true
rises_to g (w ∷ ws) = rises w (first g ws) && rises_to g ws

rises_void : (g : Word) (w : Word) → g.remainder ≡ 0 → rises w g ≡ w.change
unfolding rises
rises_void g w none = rw none (go w.change)
  where
    go : (b : Bool) → (b || ltb w.remainder 0) ≡ b
    go true = refl
    go false = le-ltb w.remainder 0 (omega arith)

-- where the gap is void, that says that the run rises and ends in change
pub rises_ends : (g : Word) (ws : List Word) → g.remainder ≡ 0 → rises_to g ws ≡ (ends_in_change ws && rising ws)
unfolding rises_to ends_in_change rising rises
rises_ends g [] none = refl
rises_ends g (w ∷ []) none = ap (λ (b : Bool). b && true) (rises_void g w none)
rises_ends g (w ∷ v ∷ ws) none =
    ap (λ (b : Bool). rises w v && b) (rises_ends g (v ∷ ws) none)
    ∙ swap (rises w v) (ends_in_change (v ∷ ws)) (rising (v ∷ ws))
  where
    swap : (a b c : Bool) → (a && (b && c)) ≡ (b && (a && c))
    swap true b c = refl
    swap false true c = refl
    swap false false c = refl

-- ---- the pass: what is known of the words behind, and the words ws to come; the bits are not asked for
unfoldable pub checked : Shape → Word → Bool → ℕ → List Word → Check
checked sh g up over ws =
    record {
      sound =
          (up && rises_to g ws)
          && (ltb (word_of over).remainder (remainders sh) && all (is_low (remainders sh)) ws);
      locked = (word_of over).lock || locked ws;
    }

check_word :
    (sh : Shape) (g : Word) (up : Bool) (over w : ℕ) (ws : List Word) → over < 65536 → w < 65536 →
    checked sh g up over (word_of w ∷ ws) ≡ checked sh g (up && rises (word_of w) (first g ws)) (bit_or over w) ws
unfolding checked rises_to all locked any
check_word sh g up over w ws small low =
    rw (
      over_low sh over w,
      over_lock over w small low,
      and_assoc up (rises (word_of w) (first g ws)) (rises_to g ws),
      and_assoc
          (ltb (word_of over).remainder (remainders sh))
          (ltb (word_of w).remainder (remainders sh))
          (all (is_low (remainders sh)) ws),
      or_assoc (word_of over).lock (word_of w).lock (locked ws),
    )

check_end :
    (sh : Shape) (g : Word) (up : Bool) (over : ℕ) →
    checked sh g up over []
    ≡ record { sound = up && ltb (word_of over).remainder (remainders sh); locked = (word_of over).lock }
unfolding checked rises_to all locked any
check_end sh g up over =
    rw (
      and-true up,
      and-true (ltb (word_of over).remainder (remainders sh)),
      or-false (word_of over).lock,
    )

-- where the gap after a run is void, the pass and the bits say whether the run is sound
check_sound :
    (sh : Shape) (g : Word) (ws : List Word) → g.remainder ≡ 0 →
    ((checked sh g true 0 ws).sound && eqb (count is_virgin ws) (count is_change ws)) ≡ sound_run sh ws
unfolding checked sound_run word_of
check_sound sh g ws none =
    rw (rises_ends g ws none, lt-ltb 0 (remainders sh) (some_remainders sh))
    (order
    (ends_in_change ws)
    (rising ws)
    (all (is_low (remainders sh)) ws)
    (eqb (count is_virgin ws) (count is_change ws)))
  where
    order : (ends rise low even : Bool) → ((ends && rise) && low && even) ≡ (even && ends && (low && rise))
    order true true true true = refl
    order true true true false = refl
    order true true false true = refl
    order true true false false = refl
    order true false true true = refl
    order true false true false = refl
    order true false false true = refl
    order true false false false = refl
    order false rise low true = refl
    order false rise low false = refl

check_locked : (sh : Shape) (g : Word) (ws : List Word) → (checked sh g true 0 ws).locked ≡ locked ws
unfolding checked word_of
check_locked sh g ws = refl

-- ---- the same on a table
module _ (sh : Shape) (bs : List ℕ) (i r : ℕ) where
  next_word :
      i < r → 2 * r + 1 < length bs → first (at (words_of bs) r) (slice (i + 1) r (words_of bs)) ≡ at (words_of bs) (i + 1)
  next_word lt within = go (ltb (i + 1) r) refl
    where
      go :
          (b : Bool) → ltb (i + 1) r ≡ b →
          first (at (words_of bs) r) (slice (i + 1) r (words_of bs)) ≡ at (words_of bs) (i + 1)
      go true h =
          ap (first (at (words_of bs) r)) (run_step bs (i + 1) r (ltb-true (i + 1) r h) (omega arith))
      go false h =
          let end : i + 1 ≡ r = omega (arith, ltb-false (i + 1) r h) in
          ap (first (at (words_of bs) r)) (run_end bs (i + 1) r (omega arith))
          ∙ ap (at (words_of bs)) (sym end)

  pub check_passed :
      (up : Bool) (over w v : ℕ) → i < r → 2 * r + 1 < length bs →
      word_of w ≡ at (words_of bs) i → word_of v ≡ at (words_of bs) (i + 1) → over < 65536 → w < 65536 →
      (t : Bool) → t ≡ rises (word_of w) (word_of v) →
      checked sh (at (words_of bs) r) (up && t) (bit_or over w) (slice (i + 1) r (words_of bs))
      ≡ checked sh (at (words_of bs) r) up over (slice i r (words_of bs))
  check_passed up over w v lt within word next small low t rise =
      rw (rise, next)
      (rw (run_step bs i r lt (omega arith), ← word, ← next_word lt within)
      (sym
      (check_word sh (at (words_of bs) r) up over w (slice (i + 1) r (words_of bs)) small low)))

  pub check_ended :
      (up : Bool) (over : ℕ) → r ≤ i →
      checked sh (at (words_of bs) r) up over (slice i r (words_of bs))
      ≡ record { sound = up && ltb (word_of over).remainder (remainders sh); locked = (word_of over).lock }
  check_ended up over h = rw (run_end bs i r h) (check_end sh (at (words_of bs) r) up over)

-- ---- the run and its two ends
pub void_remainder : (w : Word) → is_void w ≡ true → w.remainder ≡ 0
unfolding is_void
void_remainder w e = eqb-true w.remainder 0 (and_left (eqb w.remainder 0) _ e)

-- the words from l to r: the run between them, and the two
locked_ends :
    (bs : List ℕ) (l r : ℕ) → l < r → 2 * r + 1 < length bs →
    locked (slice l (suc r) (words_of bs))
    ≡ (locked (between (words_of bs) l r) || (at (words_of bs) l).lock || (at (words_of bs) r).lock)
unfolding locked any
locked_ends bs l r lt within =
    rw (
      ← add-one r,
      run_step bs l (r + 1) (omega arith) (omega arith),
      run_last bs (l + 1) r (omega arith) within,
      run_after bs l r,
      locked_append (between (words_of bs) l r) (at (words_of bs) r ∷ []),
    )
    (order (at (words_of bs) l).lock (locked (between (words_of bs) l r)) (at (words_of bs) r).lock)
  where
    order : (a b c : Bool) → (a || (b || (c || false))) ≡ (b || a || c)
    order true true c = refl
    order true false c = refl
    order false true c = refl
    order false false true = refl
    order false false false = refl

-- what the pass told of the run, with the ends and the bits. Whether the last word rises to the right end says that it
-- ends its group only where that end is void; where it is not, the whole is unsound whatever the run is.
pub check_told :
    (sh : Shape) (bs : List ℕ) (l r : ℕ) → l < r → 2 * r + 1 < length bs →
    (n m : ℕ) → n ≡ count is_virgin (between (words_of bs) l r) → m ≡ count is_change (between (words_of bs) l r) →
    (up low lock : Bool) →
    record { sound = up && low; locked = lock } ≡ checked sh (at (words_of bs) r) true 0 (slice (l + 1) r (words_of bs)) →
    record {
      sound = is_void (at (words_of bs) l) && is_void (at (words_of bs) r) && up && low && eqb n m;
      locked = lock || (at (words_of bs) l).lock || (at (words_of bs) r).lock;
    }
    ≡ check_of sh (words_of bs) l r
unfolding check_of sound_between
check_told sh bs l r lt within n m virgins changes up low lock pass =
    let g = at (words_of bs) r in
    let run = between (words_of bs) l r in
    let told = pass ∙ ap (checked sh g true 0) (run_after bs l r) in
    check_path
    (ends
    (is_void (at (words_of bs) l))
    (is_void g)
    (eqb n m)
    (sound_run sh run)
    (λ (void : is_void g ≡ true).
    rw (virgins, changes)
    (ap (λ (c : Check). c.sound && eqb (count is_virgin run) (count is_change run)) told
    ∙ check_sound sh g run (void_remainder g void))))
    (rw (locked_ends bs l r lt within, ← check_locked sh g run, ← ap (λ (c : Check). c.locked) told))
  where
    ends :
        (a b even s : Bool) → (b ≡ true → (up && low && even) ≡ s) →
        (a && b && up && low && even) ≡ (a && b && s)
    ends true true even s same = same refl
    ends true false even s same = refl
    ends false b even s same = refl

-- what the pass goes by
pub ruleset check_laws = (over_small, check_passed, check_ended, check_told)
