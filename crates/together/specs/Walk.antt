-- One step of a busy task under the invariant: what `Walked` says. Here phases 1 to 6: looking, locking, backing off;
-- and what a step by number is. The fill of an empty home is elsewhere (Commit).
-- Assumes nothing.
use Prim.Native.Nat.{ℕ, ◌+◌, ◌-◌, ◌≤◌, ◌<◌}
use Rattle.std.specs.Prelude.{◌≡◌, ◌⊎◌, ◌≢◌, Bool, not, ◌&&◌, ◌||◌, List, eqb, leb}
use Rattle.std.proofs.Math.Path.{refl, ap}
use Rattle.std.proofs.Common.{sym, ap₂, ◌∙◌, subst, ⊎_elim, inr, true≢false, arith, le-leb}
use Rattle.std.proofs.Math.Logic.{inl}
use Rattle.std.proofs.Math.Bool.{true, false, and-false}
use Rattle.std.proofs.lemmas.Bool.{false≢true, lt-leb, not-true}
use Rattle.std.proofs.Math.ListN.{length}
use Rattle.rules.specs.declared.Shape.{Shape}
use Rattle.rules.specs.declared.Task.{Task}
use Rattle.rules.specs.Lists.{bit_of}
use Rattle.rules.specs.Word.{Word, zero_word, lock_word, with_lock, is_void, is_zero}
use Rattle.rules.specs.Shape.{homes, remainders, keys, places, right_guard}
use Rattle.rules.specs.Entry.{Entry, split}
use Rattle.rules.specs.Table.{at, occupied_places}
use Rattle.rules.specs.Lay.{holds, insert}
use Rattle.rules.specs.Record.{home_place_of, within, at_rest, to_phase, with_left, with_right, task_at, again}
use Rattle.rules.specs.Phase as phase
use Rattle.rules.specs.Phase.{to}
use Rattle.rules.specs.Step.{by_number, of_phase, steps, or_unsound, step_of}
use Rattle.table_words.specs.Split.{split_in_shape}
use Rattle.theory.specs.Record.{not_resting}
use Rattle.theory.specs.Dealt.{and_left, and_right}
use Rattle.theory.specs.Locks.{void_unlock}
use Rattle.theory.specs.Gaps as gaps
use Rattle.theory.specs.Gaps.{Side, other, AllTaken}
use Rattle.theory.specs.Cut.{end}
use Rattle.theory.specs.Places.{occupied_at}
use Rattle.theory.specs.Building.{after_put}
use Rattle.together.specs.Stable.{word_of}
use Rattle.together.specs.Frames.{Within}
use Rattle.together.specs.Invariant.{Occupied, LookedLeft, Looked, Owns, by_left, by_right, Reserves, Apart}
use Rattle.together.specs.Invariant.{Unfinished, Inv, Moving, InPhase, rests, at_home, looks_left, looks_right}
use Rattle.together.specs.Invariant.{owns_left, owns_both, has_read, moving, marking, frees_left, frees_right}
use Rattle.together.specs.Update.{Steps, same_or_not}
use Rattle.together.specs.Facts.{in_order, between_taken, words_size, guards_free_lem, guards_void_lem}
use Rattle.together.specs.Fitting.{stage_fits}
use Rattle.together.specs.Stretch.{own_end}
use Rattle.together.specs.Quiet.{owned_locked, still, relocked, relocked_here, relocked_other, relock}
use Rattle.together.specs.Quiet.{relock_looked}

-- 1 for a task that has put its key, from the fill until the next give: phases 9 and 10, and from 11 on with answer 2
abbrev pub weight : Task → ℕ
weight t = bit_of (within 9 10 t.phase || (within 11 13 t.phase && eqb t.answer 2))

-- what a step does to the table laid: nothing, or its key is put
pub data Effect (sh : Shape) (t t' : Task) (laid : List Word) (shown : List Entry)
    : List Word → List Entry → Type 0 where
  keeps : weight t' ≡ weight t → Effect sh t t' laid shown laid shown
  commits :
      holds (split sh t.key) shown ≡ false →
      weight t ≡ 0 →
      weight t' ≡ 1 →
      Effect sh t t' laid shown (after_put sh laid (split sh t.key)) (insert (split sh t.key) shown)

-- what a done task's answer means: full, or found or inserted with its key shown
pub data Answered (sh : Shape) (shown : List Entry) (t : Task) : Type 0 where
  says_full : t.answer ≡ 3 → Answered sh shown t
  says_shown : (t.answer ≡ 1) ⊎ (t.answer ≡ 2) → holds (split sh t.key) shown ≡ true → Answered sh shown t

pub record Walked (sh : Shape) (ws : List Word) (ts : List Task) (laid : List Word) (shown : List Entry) (i : ℕ)
    : Type 0 where
  pub next : Task
  pub words : List Word
  pub laid_after : List Word
  pub shown_after : List Entry
  pub step : step_of sh ws (task_at ts i) ≡ steps next words
  pub shows : Steps sh ws ts laid shown i next words laid_after shown_after
  pub same_key : next.key ≡ (task_at ts i).key
  pub ends : next.phase ≡ 13 → Answered sh shown_after next
  pub begun : 1 ≤ next.phase
  -- an answer full is given only at a full table, for a key that it does not show
  pub full :
      next.answer ≡ 3 →
      ((task_at ts i).answer ≡ 3)
      ⊎ (AllTaken sh (occupied_places laid) × (holds (split sh (task_at ts i).key) shown ≡ false))
  pub effect : Effect sh (task_at ts i) next laid shown laid_after shown_after

-- ---- a step, by its phase's number
busy_not_rest : (t : Task) → 1 ≤ t.phase → t.phase ≤ 12 → at_rest t ≡ false
busy_not_rest t a b = not_resting t (⊎_elim (λ e. omega arith) (λ e. omega arith))

-- an occupied word is not 0
occupied_not_void : (w : Word) → w.occupied ≡ true → is_void w ≡ false
unfolding is_void
occupied_not_void w taken =
    ap (λ (b : Bool). eqb w.remainder 0 && (not b && (not w.virgin && not w.change))) taken
    ∙ and-false (eqb w.remainder 0)

-- a word that is 0
zero_is : (w : Word) → is_zero w ≡ true → w ≡ zero_word
unfolding is_zero
zero_is w z = word_of (void_unlock w (and_left (is_void w) _ z)) (not-true w.lock (and_right (is_void w) _ z))

-- an unfilled end of a task that reserves its stretch
pub record FreeEnd (ws : List Word) (t : Task) : Type 0 where
  pub place : ℕ
  pub which : (place ≡ t.left) ⊎ (place ≡ t.right)
  pub free : (at ws place).occupied ≡ false

moving_end :
    {sh : Shape} {ws laid : List Word} {shown : List Entry} {t : Task} → Moving sh ws laid shown t → FreeEnd ws t
moving_end {ws = ws} {t = t} m = go m.side m.waiting
  where
    go : (side : Side) → at ws (end (other side) t.left t.right) ≡ lock_word → FreeEnd ws t
    go gaps.left e = record { place = t.right; which = inr refl; free = ap (λ (w : Word). w.occupied) e }
    go gaps.right e = record { place = t.left; which = inl refl; free = ap (λ (w : Word). w.occupied) e }

pub free_end :
    {sh : Shape} {ws laid : List Word} {shown : List Entry} {t : Task} →
    7 ≤ t.phase → t.phase ≤ 10 → InPhase sh ws laid shown t → FreeEnd ws t × Looked sh ws t
free_end a b (rests (inl e)) = absurd (omega arith)
free_end a b (rests (inr e)) = absurd (omega arith)
free_end a b (at_home e k) = absurd (omega arith)
free_end a b (looks_left e k x) = absurd (omega arith)
free_end a b (looks_right e f k x) = absurd (omega arith)
free_end a b (owns_left e f k x y) = absurd (omega arith)
free_end {t = t} a b (owns_both e k x y z) =
    (record { place = t.left; which = inl refl; free = ap (λ (w : Word). w.occupied) y }, x)
free_end {t = t} a b (has_read e k x y z w) =
    (record { place = t.left; which = inl refl; free = ap (λ (w : Word). w.occupied) y }, x)
free_end a b (moving e k x n y) = (moving_end y, x)
free_end a b (marking e k x n y) = (moving_end y, x)
free_end a b (frees_left e k x y) = absurd (omega arith)
free_end a b (frees_right e k x y) = absurd (omega arith)

pub weight_moving : (u : Task) → 9 ≤ u.phase → u.phase ≤ 10 → weight u ≡ 1
weight_moving u a b =
    ap₂
    (λ (c d : Bool). bit_of ((c && d) || (within 11 13 u.phase && eqb u.answer 2)))
    (le-leb 9 u.phase a)
    (le-leb u.phase 10 b)

pub weight_low : (u : Task) → u.phase ≤ 8 → weight u ≡ 0
weight_low u le =
    ap₂
    (λ (a b : Bool). bit_of ((a && leb u.phase 10) || (b && leb u.phase 13 && eqb u.answer 2)))
    (lt-leb 9 u.phase (omega arith))
    (lt-leb 11 u.phase (omega arith))

-- a record with the same key and the same ends has looked as far
pub looked_as :
    {sh : Shape} {vs : List Word} (u u' : Task) →
    u'.key ≡ u.key → u'.left ≡ u.left → u'.right ≡ u.right → Looked sh vs u → Looked sh vs u'
unfolding home_place_of
looked_as {sh} {vs} u u' k l r x =
    record {
      leftward =
          record {
            below = omega (arith, home_at, x.leftward.below);
            taken = λ q a b. x.leftward.taken q (omega arith) (omega (arith, home_at));
          };
      above = omega (arith, home_at, x.above);
      inside = omega (arith, x.inside);
      taken = λ q a b. x.taken q (omega (arith, home_at)) (omega arith);
    }
  where
    home_at : (split sh u'.key).home_place ≡ (split sh u.key).home_place
    home_at = ap (λ (key : ℕ). (split sh key).home_place) k

module _ {sh : Shape} {ws : List Word} {ts : List Task} {laid : List Word} {shown : List Entry}
    (low : remainders sh ≤ 4096) (inv : Inv sh ws ts laid shown) (i : ℕ) (lt : i < length ts)
  where
    -- the step that is due
    pub step_by :
        (n : ℕ) →
        1 ≤ n →
        n ≤ 12 →
        (task_at ts i).phase ≡ n →
        {t' : Task} {ws' : List Word} → by_number n sh ws (task_at ts i) ≡ to t' ws' →
        step_of sh ws (task_at ts i) ≡ steps t' ws'
    unfolding step_of of_phase
    step_by n a b e due =
        rw (
          stage_fits inv.plain.size (task_at ts i) (inv.stage i lt),
          busy_not_rest (task_at ts i) (omega arith) (omega arith),
          guards_void_lem low inv,
        )
        (ap or_unsound (ap (λ (k : ℕ). by_number k sh ws (task_at ts i)) e ∙ due))

    abbrev t : Task
    t = task_at ts i

    -- the home's place lies between the guards
    pub home_inside : t.key < keys sh → (1 ≤ home_place_of sh t) × (home_place_of sh t ≤ homes sh)
    unfolding home_place_of
    home_inside k =
        let s = split_in_shape sh t.key k in
        (s.home_low, s.home_high)

    -- a task in a phase that owns nothing
    owns_none : {u : Task} (p : ℕ) → u.phase ≤ 4 → Owns u p → ⊥
    owns_none p le (by_left a b e) = omega arith
    owns_none p le (by_right a b e) = omega arith

    -- a step between phases that own nothing, with no word written
    free_step :
        (t' : Task) → t.phase ≤ 4 → t'.phase ≤ 4 → InPhase sh ws laid shown t' →
        Steps sh ws ts laid shown i t' ws laid shown
    free_step t' a b stage =
        still
        i
        t'
        low
        inv
        stage
        (λ p o. absurd (owns_none p a o))
        (λ p o. absurd (owns_none p b o))
        (λ (r : Reserves t'). absurd (omega (arith, r.from_7)))
        (λ p (u : Unfinished t p). absurd (omega (arith, u.from_9)))

    pub quiet_low : (t' : Task) → t.phase ≤ 8 → t'.phase ≤ 8 → Effect sh t t' laid shown laid shown
    quiet_low t' a b = keeps (weight_low t' b ∙ sym (weight_low t a))

    -- phase 1: a locked home is waited for
    pub walk_stay : t.phase ≡ 1 → t.key < keys sh → (at ws (home_place_of sh t)).lock ≡ true →
        Walked sh ws ts laid shown i
    unfolding phase.home
    walk_stay p k locked =
        record {
          next = again t;
          words = ws;
          laid_after = laid;
          shown_after = shown;
          step = step_by 1 (omega arith) (omega arith) p (rw locked);
          shows = free_step (again t) (omega arith) (omega arith) (at_home refl k);
          same_key = refl;
          ends = λ e. absurd (omega arith);
          begun = omega arith;
          full = λ h. inl h;
          effect = quiet_low (again t) (omega arith) (omega arith);
        }

    -- an occupied, unlocked home: the look to the left begins
    pub walk_home :
        t.phase ≡ 1 →
        t.key < keys sh →
        (at ws (home_place_of sh t)).lock ≡ false →
        (at ws (home_place_of sh t)).occupied ≡ true → Walked sh ws ts laid shown i
    unfolding phase.home home_place_of is_zero is_void
    walk_home p k open-word taken =
        record {
          next = next;
          words = ws;
          laid_after = laid;
          shown_after = shown;
          step =
              step_by
              1
              (omega arith)
              (omega arith)
              p
              (rw (open-word, occupied_not_void (at ws (home_place_of sh t)) taken, taken));
          shows = free_step next (omega arith) (omega arith) (looks_left refl k near);
          same_key = refl;
          ends = λ e. absurd (omega arith);
          begun = omega arith;
          full = λ h. inl h;
          effect = quiet_low next (omega arith) (omega arith);
        }
      where
        h : ℕ
        h = home_place_of sh t

        next : Task
        next = to_phase 2 (with_left (h - 1) t)

        near : LookedLeft sh ws next
        near =
            record {
              below = omega (arith, home_inside k);
              taken = λ q a b. subst (Occupied ws) (omega (arith, home_inside k)) taken;
            }

    -- ---- phase 2
    pub walk_left_on :
        t.phase ≡ 2 → t.key < keys sh → LookedLeft sh ws t → (at ws t.left).occupied ≡ true →
        Walked sh ws ts laid shown i
    unfolding phase.look_left home_place_of
    walk_left_on p k x taken =
        record {
          next = next;
          words = ws;
          laid_after = laid;
          shown_after = shown;
          step = step_by 2 (omega arith) (omega arith) p (rw taken);
          shows = free_step next (omega arith) (omega arith) (looks_left p k near);
          same_key = refl;
          ends = λ e. absurd (omega arith);
          begun = omega arith;
          full = λ h. inl h;
          effect = quiet_low next (omega arith) (omega arith);
        }
      where
        next : Task
        next = with_left (t.left - 1) t

        near : LookedLeft sh ws next
        near =
            record {
              below = omega (arith, x.below);
              taken = λ q a b. go q b (same_or_not t.left q) a;
            }
          where
            go : (q : ℕ) → q ≤ (split sh t.key).home_place → (q ≡ t.left) ⊎ (q ≢ t.left) → t.left - 1 < q →
                Occupied ws q
            go q b (inl e) a = subst (Occupied ws) (sym e) taken
            go q b (inr n) a = x.taken q (omega arith) b

    pub walk_left_stop :
        t.phase ≡ 2 → t.key < keys sh → LookedLeft sh ws t → (at ws t.left).occupied ≡ false →
        Walked sh ws ts laid shown i
    unfolding phase.look_left home_place_of right_guard
    walk_left_stop p k x free =
        record {
          next = next;
          words = ws;
          laid_after = laid;
          shown_after = shown;
          step = step_by 2 (omega arith) (omega arith) p (rw free);
          shows = free_step next (omega arith) (omega arith) (looks_right (omega arith) (omega arith) k near);
          same_key = refl;
          ends = λ e. absurd (omega arith);
          begun = omega arith;
          full = λ h. inl h;
          effect = quiet_low next (omega arith) (omega arith);
        }
      where
        h : ℕ
        h = home_place_of sh t

        next : Task
        next = to_phase 3 (with_right (h + 1) t)

        near : Looked sh ws next
        near =
            record {
              leftward = record { below = x.below; taken = x.taken };
              above = omega arith;
              inside = omega (arith, home_inside k);
              taken = λ q a b. x.taken q (omega (arith, x.below)) (omega arith);
            }

    -- ---- phase 3
    pub walk_right_on :
        t.phase ≡ 3 → t.key < keys sh → Looked sh ws t → (at ws t.right).occupied ≡ true →
        Walked sh ws ts laid shown i
    unfolding phase.look_right home_place_of right_guard
    walk_right_on p k x taken =
        record {
          next = next;
          words = ws;
          laid_after = laid;
          shown_after = shown;
          step = step_by 3 (omega arith) (omega arith) p (rw taken);
          shows = free_step next (omega arith) (omega arith) (looks_right (omega arith) (omega arith) k near);
          same_key = refl;
          ends = λ e. absurd (omega arith);
          begun = omega arith;
          full = λ h. inl h;
          effect = quiet_low next (omega arith) (omega arith);
        }
      where
        next : Task
        next = with_right (t.right + 1) t

        no_guard : t.right ≢ right_guard sh
        no_guard e =
            true≢false
            (sym taken
            ∙ ap (λ (q : ℕ). (at ws q).occupied) e
            ∙ sym (occupied_at ws (right_guard sh))
            ∙ (guards_free_lem low inv).right)

        near : Looked sh ws next
        near =
            record {
              leftward = record { below = x.leftward.below; taken = x.leftward.taken };
              above = omega (arith, x.above);
              inside = omega (arith, x.inside, no_guard);
              taken = λ q a b. go q a (same_or_not t.right q) b;
            }
          where
            go :
                (q : ℕ) → (split sh t.key).home_place ≤ q → (q ≡ t.right) ⊎ (q ≢ t.right) → q < t.right + 1 →
                Occupied ws q
            go q a (inl e) b = subst (Occupied ws) (sym e) taken
            go q a (inr n) b = x.taken q a (omega arith)

    pub walk_right_stop :
        t.phase ≡ 3 → t.key < keys sh → Looked sh ws t → (at ws t.right).occupied ≡ false →
        Walked sh ws ts laid shown i
    unfolding phase.look_right
    walk_right_stop p k x free =
        record {
          next = to_phase 4 t;
          words = ws;
          laid_after = laid;
          shown_after = shown;
          step = step_by 3 (omega arith) (omega arith) p (rw free);
          shows =
              free_step
              (to_phase 4 t)
              (omega arith)
              (omega arith)
              (looks_right (omega arith) (omega arith) k (looked_as t (to_phase 4 t) refl refl refl x));
          same_key = refl;
          ends = λ e. absurd (omega arith);
          begun = omega arith;
          full = λ h. inl h;
          effect = quiet_low (to_phase 4 t) (omega arith) (omega arith);
        }

    -- ---- phase 4
    pub walk_again : t.phase ≡ 4 → t.key < keys sh → is_zero (at ws t.left) ≡ false → Walked sh ws ts laid shown i
    unfolding phase.lock_left
    walk_again p k other =
        record {
          next = again t;
          words = ws;
          laid_after = laid;
          shown_after = shown;
          step = step_by 4 (omega arith) (omega arith) p (rw other);
          shows = free_step (again t) (omega arith) (omega arith) (at_home refl k);
          same_key = refl;
          ends = λ e. absurd (omega arith);
          begun = omega arith;
          full = λ h. inl h;
          effect = quiet_low (again t) (omega arith) (omega arith);
        }

    -- a place at or before the right guard is in the table
    pub in_table : {p : ℕ} → p ≤ right_guard sh → p < length ws
    unfolding places right_guard
    in_table le = omega (arith, words_size low inv)

    -- a word that is 0 has no owner
    zero_alone : (p : ℕ) → at ws p ≡ zero_word → (u : Task) → Apart t u → InPhase sh ws laid shown u → Owns u p → ⊥
    zero_alone p z u a s o = true≢false (sym (owned_locked p s o) ∙ ap (λ (w : Word). w.lock) z)

    pub walk_lock_left :
        t.phase ≡ 4 → t.key < keys sh → Looked sh ws t → is_zero (at ws t.left) ≡ true →
        Walked sh ws ts laid shown i
    unfolding phase.lock_left relocked
    walk_lock_left p k x is_zero =
        record {
          next = next;
          words = relocked ws t.left true inside;
          laid_after = laid;
          shown_after = shown;
          step = step_by 4 (omega arith) (omega arith) p (rw is_zero);
          shows =
              relock
              i
              next
              low
              inv
              t.left
              true
              inside
              (zero_alone t.left was_zero)
              (owns_left
              (omega arith)
              (omega arith)
              k
              (looked_as t (to_phase 5 t) refl refl refl (relock_looked t t.left true inside x))
              (relocked_here ws t.left true inside ∙ ap (with_lock true) was_zero))
              (λ u a s.
              record {
                owners = λ q o v. taken u a s q o v;
                stretches = λ (r : Reserves next) v q m n. absurd (omega (arith, r.from_7));
              })
              (λ q n o. absurd (owns_none q (omega arith) o))
              (λ e. by_left (omega arith) (omega arith) refl)
              (λ q (u : Unfinished t q). absurd (omega (arith, u.from_9)));
          same_key = refl;
          ends = λ e. absurd (omega arith);
          begun = omega arith;
          full = λ h. inl h;
          effect = quiet_low next (omega arith) (omega arith);
        }
      where
        next : Task
        next = to_phase 5 t

        inside : t.left < length ws
        inside = in_table (omega (arith, x.leftward.below, x.above, x.inside))

        was_zero : at ws t.left ≡ zero_word
        was_zero = zero_is (at ws t.left) is_zero

        taken : (u : Task) → Apart t u → InPhase sh ws laid shown u → (q : ℕ) → Owns next q → Owns u q → ⊥
        taken u a s q (by_left c d e) v = zero_alone t.left was_zero u a s (subst (Owns u) e v)
        taken u a s q (by_right c d e) v = omega arith

    -- ---- phase 5
    pub walk_right_taken :
        t.phase ≡ 5 →
        t.key < keys sh →
        Looked sh ws t →
        at ws t.left ≡ lock_word → is_zero (at ws t.right) ≡ false → Walked sh ws ts laid shown i
    unfolding phase.lock_right
    walk_right_taken p k x held other =
        record {
          next = to_phase 6 t;
          words = ws;
          laid_after = laid;
          shown_after = shown;
          step = step_by 5 (omega arith) (omega arith) p (rw other);
          shows =
              still
              i
              (to_phase 6 t)
              low
              inv
              (owns_left (omega arith) (omega arith) k (looked_as t (to_phase 6 t) refl refl refl x) held)
              (λ q o. same q o)
              (λ q o. back q o)
              (λ (r : Reserves (to_phase 6 t)). absurd (omega (arith, r.from_7)))
              (λ q (u : Unfinished t q). absurd (omega (arith, u.from_9)));
          same_key = refl;
          ends = λ e. absurd (omega arith);
          begun = omega arith;
          full = λ h. inl h;
          effect = quiet_low (to_phase 6 t) (omega arith) (omega arith);
        }
      where
        same : (q : ℕ) → Owns t q → Owns (to_phase 6 t) q
        same q (by_left a b e) = by_left (omega arith) (omega arith) e
        same q (by_right a b e) = absurd (omega arith)

        back : (q : ℕ) → Owns (to_phase 6 t) q → Owns t q
        back q (by_left a b e) = by_left (omega arith) (omega arith) e
        back q (by_right a b e) = absurd (omega arith)

    -- the heart of "no two tasks reserve the same words": neither of my ends lies in another's stretch, nor its free
    -- end in mine
    stretches_apart :
        (u : Task) →
        Apart t u →
        InPhase sh ws laid shown u →
        t.phase ≡ 5 →
        Looked sh ws t →
        at ws t.left ≡ lock_word →
        at ws t.right ≡ zero_word →
        Reserves u → (p : ℕ) → Within t.left t.right p → Within u.left u.right p → ⊥
    stretches_apart u a s phase_5 x held was_zero r p mine yours = go f.0.which
      where
        f : FreeEnd ws u × Looked sh ws u
        f = free_end r.from_7 r.to_10 s

        left_out : Within u.left u.right t.left → ⊥
        left_out near =
            a.owners t.left (by_left (omega arith) (omega arith) refl)
            (own_end u t.left r.from_7 r.to_10 f.1 near (ap (λ (w : Word). w.occupied) held))

        right_out : Within u.left u.right t.right → ⊥
        right_out near =
            zero_alone t.right was_zero u a s
            (own_end u t.right r.from_7 r.to_10 f.1 near (ap (λ (w : Word). w.occupied) was_zero))

        lower : t.left < u.left
        lower = below (in_order u.left t.left)
          where
            below : (u.left ≤ t.left) ⊎ (t.left < u.left) → t.left < u.left
            below (inl le) = absurd (left_out (le, omega (arith, mine.0, yours.1)))
            below (inr lt) = lt

        upper : u.right < t.right
        upper = above (in_order t.right u.right)
          where
            above : (t.right ≤ u.right) ⊎ (u.right < t.right) → u.right < t.right
            above (inl le) = absurd (right_out (omega (arith, mine.1, yours.0), le))
            above (inr lt) = lt

        crossed : (q : ℕ) → q ≡ f.0.place → t.left < q → q < t.right → ⊥
        crossed q e m n =
            true≢false (sym (between_taken x q m n) ∙ ap (λ (y : ℕ). (at ws y).occupied) e ∙ f.0.free)

        ordered : u.left < u.right
        ordered = omega (arith, f.1.leftward.below, f.1.above)

        go : (f.0.place ≡ u.left) ⊎ (f.0.place ≡ u.right) → ⊥
        go (inl e) = crossed u.left (sym e) lower (omega (arith, upper, ordered))
        go (inr e) = crossed u.right (sym e) (omega (arith, lower, ordered)) upper

    pub walk_lock_right :
        t.phase ≡ 5 →
        t.key < keys sh →
        Looked sh ws t →
        at ws t.left ≡ lock_word → is_zero (at ws t.right) ≡ true → Walked sh ws ts laid shown i
    unfolding phase.lock_right relocked
    walk_lock_right p k x held is_zero =
        record {
          next = next;
          words = relocked ws t.right true inside;
          laid_after = laid;
          shown_after = shown;
          step = step_by 5 (omega arith) (omega arith) p (rw is_zero);
          shows =
              relock
              i
              next
              low
              inv
              t.right
              true
              inside
              (zero_alone t.right was_zero)
              (owns_both
              refl
              k
              (looked_as t (to_phase 7 t) refl refl refl (relock_looked t t.right true inside x))
              (relocked_other
              ws
              t.right
              true
              inside
              t.left
              (λ (e : t.left ≡ t.right). omega (arith, x.leftward.below, x.above))
              ∙ held)
              (relocked_here ws t.right true inside ∙ ap (with_lock true) was_zero))
              (λ u a s.
              record {
                owners = λ q o v. taken u a s q o v;
                stretches = λ c d q m n. stretches_apart u a s p x held was_zero d q m n;
              })
              (λ q n o. kept q n o)
              (λ e. by_right (omega arith) (omega arith) refl)
              (λ q (u : Unfinished t q). absurd (omega (arith, u.from_9)));
          same_key = refl;
          ends = λ e. absurd (omega arith);
          begun = omega arith;
          full = λ h. inl h;
          effect = quiet_low next (omega arith) (omega arith);
        }
      where
        next : Task
        next = to_phase 7 t

        inside : t.right < length ws
        inside = in_table x.inside

        was_zero : at ws t.right ≡ zero_word
        was_zero = zero_is (at ws t.right) is_zero

        taken : (u : Task) → Apart t u → InPhase sh ws laid shown u → (q : ℕ) → Owns next q → Owns u q → ⊥
        taken u a s q (by_left c d e) v = a.owners q (by_left (omega arith) (omega arith) e) v
        taken u a s q (by_right c d e) v = zero_alone t.right was_zero u a s (subst (Owns u) e v)

        kept : (q : ℕ) → q ≢ t.right → Owns t q → Owns next q
        kept q n (by_left c d e) = by_left (omega arith) (omega arith) e
        kept q n (by_right c d e) = absurd (omega arith)

    -- ---- phase 6
    pub walk_back :
        t.phase ≡ 6 → t.key < keys sh → Looked sh ws t → Walked sh ws ts laid shown i
    unfolding phase.back_off relocked
    walk_back p k x =
        record {
          next = again t;
          words = relocked ws t.left false inside;
          laid_after = laid;
          shown_after = shown;
          step = step_by 6 (omega arith) (omega arith) p refl;
          shows =
              relock
              i
              (again t)
              low
              inv
              t.left
              false
              inside
              (λ u a s o. a.owners t.left (by_left (omega arith) (omega arith) refl) o)
              (at_home refl k)
              (λ u a s.
              record {
                owners = λ q o v. owns_none q (omega arith) o;
                stretches = λ (r : Reserves (again t)) v q m n. absurd (omega (arith, r.from_7));
              })
              (λ q n o. absurd (gone q n o))
              (λ e. absurd (false≢true e))
              (λ q (u : Unfinished t q). absurd (omega (arith, u.from_9)));
          same_key = refl;
          ends = λ e. absurd (omega arith);
          begun = omega arith;
          full = λ h. inl h;
          effect = quiet_low (again t) (omega arith) (omega arith);
        }
      where
        inside : t.left < length ws
        inside = in_table (omega (arith, x.leftward.below, x.above, x.inside))

        gone : (q : ℕ) → q ≢ t.left → Owns t q → ⊥
        gone q n (by_left a b e) = n e
        gone q n (by_right a b e) = omega arith
