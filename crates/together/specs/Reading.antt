-- Phase 7 under the invariant: the read never answers 4, and says found exactly for a key that is shown.
-- Assumes nothing.
use Rattle.std.specs.Prelude.{ℕ, ◌+◌, ◌≤◌, ◌<◌, ◌≢◌, ◌⊎◌, Bool, true, false, List, length}
use Rattle.std.proofs.Math.Path.{◌≡◌, refl, sym, ap}
use Rattle.std.proofs.Common.{◌∙◌, arith}
use Rattle.std.proofs.Math.Logic.{inl, inr}
use Rattle.rules.specs.declared.Shape.{Shape}
use Rattle.rules.specs.declared.Task.{Task}
use Rattle.rules.specs.Word.{Word, lock_word, is_void, is_lock}
use Rattle.rules.specs.Shape.{homes, remainders, keys, right_guard}
use Rattle.rules.specs.Entry.{Entry, split}
use Rattle.rules.specs.Table.{at, occupied_places, entries_between}
use Rattle.rules.specs.Lay.{holds, smaller, mark_of}
use Rattle.rules.specs.Record.{home_place_of, to_phase, with_answer, task_at}
use Rattle.rules.specs.Phase as phase
use Rattle.rules.specs.Phase.{to, readable, read_entries, aimed, fill_from}
use Rattle.theory.specs.Dealt.{and_both}
use Rattle.rules.specs.Room.{ToFill, on_left, on_right, on_neither, which_end}
use Rattle.theory.specs.Gaps as gaps
use Rattle.theory.specs.Gaps.{AllTaken, Picks, picks_left, picks_right, picks_neither, picked}
use Rattle.theory.specs.Places.{occupied_at}
use Rattle.together.specs.Frames.{occupied_same}
use Rattle.together.specs.Facts.{between_taken}
use Rattle.together.specs.Invariant.{Looked, MayFill, Owns, by_left, by_right, Unfinished, Inv, InPhase, has_read}
use Rattle.together.specs.Invariant.{frees_left, ends_found, ends_full}
use Rattle.together.specs.Update.{Steps}
use Rattle.together.specs.Quiet.{still}
use Rattle.together.specs.Around.{Around, around}
use Rattle.together.specs.Walk.{Walked, keeps, step_by, home_inside, looked_as, weight_low, quiet_low}

module _ {sh : Shape} {ws : List Word} {ts : List Task} {laid : List Word} {shown : List Entry}
    (low : remainders sh ≤ 4096) (inv : Inv sh ws ts laid shown) (i : ℕ) (lt : i < length ts)
    (p : (task_at ts i).phase ≡ 7) (k : (task_at ts i).key < keys sh) (x : Looked sh ws (task_at ts i))
    (left_held : at ws (task_at ts i).left ≡ lock_word) (right_held : at ws (task_at ts i).right ≡ lock_word)
  where
    abbrev t : Task
    t = task_at ts i

    abbrev e : Entry
    e = split sh t.key

    abbrev es : List Entry
    es = entries_between laid t.left t.right

    see : Around sh ws laid shown t
    see = around low inv i lt (omega arith) (omega arith) k x left_held right_held

    lock_is : {w : Word} → w ≡ lock_word → is_lock w ≡ true
    unfolding is_lock is_void
    lock_is h = ap is_lock h

    can_read : readable sh ws t ≡ true
    unfolding readable
    can_read =
        and_both
        _
        _
        (and_both _ _ (and_both _ _ (lock_is left_held) (lock_is right_held)) see.taken)
        see.sound

    -- the read step, on the entries as they are laid
    due : phase.read sh ws t ≡ to (read_entries sh t e es) ws
    unfolding phase.read
    due = rw (can_read, see.entries)

    -- a step from phase 7 that keeps both ends
    kept :
        (t' : Task) → 7 ≤ t'.phase → t'.phase ≤ 11 → t'.left ≡ t.left → t'.right ≡ t.right →
        (t'.phase ≤ 8) ⊎ (11 ≤ t'.phase) → InPhase sh ws laid shown t' → Steps sh ws ts laid shown i t' ws laid shown
    kept t' a b l r c stage =
        still
        i
        t'
        low
        inv
        stage
        (λ q o. there q o)
        (λ q o. back q o)
        (λ s. (record { from_7 = omega arith; to_10 = omega arith }, l, r))
        (λ q (u : Unfinished t q). absurd (omega (arith, u.from_9)))
      where
        there : (q : ℕ) → Owns t q → Owns t' q
        there q (by_left c d f) = by_left (omega arith) (omega arith) (f ∙ sym l)
        there q (by_right c d f) = by_right (omega arith) (omega arith) (f ∙ sym r)

        back : (q : ℕ) → Owns t' q → Owns t q
        back q (by_left c d f) = by_left (omega arith) (omega arith) (f ∙ l)
        back q (by_right c d f) = by_right (omega arith) (omega arith) (f ∙ r)

    -- the key is there
    walk_found : holds e es ≡ true → Walked sh ws ts laid shown i
    unfolding read_entries home_place_of
    walk_found h =
        record {
          next = next;
          words = ws;
          laid_after = laid;
          shown_after = shown;
          step = step_by low inv i lt 7 (omega arith) (omega arith) p (due ∙ rw h);
          shows =
              kept next (omega arith) (omega arith) refl refl (inr (omega arith))
              (frees_left
              refl
              k
              (looked_as t next refl refl refl x)
              (ends_found refl (sym see.same ∙ h) left_held right_held));
          same_key = refl;
          ends = λ c. absurd (omega arith);
          begun = omega arith;
          full = λ (h : ◌≡◌ {A = ℕ} 1 3). absurd (omega arith);
          effect = keeps (sym (weight_low t (omega arith)));
        }
      where
        next : Task
        next = to_phase 11 (with_answer 1 t)

    -- between two guards all is occupied
    all_taken : t.left ≡ 0 → t.right ≡ right_guard sh → AllTaken sh (occupied_places laid)
    unfolding right_guard
    all_taken l g q home_at =
        occupied_at laid q
        ∙ occupied_same laid ws q (sym inv.places)
        ∙ between_taken x q (omega (arith, home_at.first)) (omega (arith, home_at.last))

    -- both ends are guards: full
    walk_full :
        holds e es ≡ false →
        which_end sh t.left t.right ≡ on_neither →
        AllTaken sh (occupied_places laid) → Walked sh ws ts laid shown i
    unfolding read_entries
    walk_full h neither taken =
        record {
          next = next;
          words = ws;
          laid_after = laid;
          shown_after = shown;
          step = step_by low inv i lt 7 (omega arith) (omega arith) p (due ∙ rw (h, neither));
          shows =
              kept next (omega arith) (omega arith) refl refl (inr (omega arith))
              (frees_left refl k (looked_as t next refl refl refl x) (ends_full refl left_held right_held));
          same_key = refl;
          ends = λ c. absurd (omega arith);
          begun = omega arith;
          full = λ a. inr (taken, sym see.same ∙ h);
          effect = keeps (sym (weight_low t (omega arith)));
        }
      where
        next : Task
        next = to_phase 11 (with_answer 3 t)

    -- the record that goes from an end to the key's place among the others
    abbrev reading : ℕ → ℕ → Task
    reading hand goal = aimed hand goal (mark_of e es) t

    inner : (1 ≤ home_place_of sh t) × (home_place_of sh t ≤ homes sh)
    inner = home_inside low inv i lt k

    ready_left :
        holds e es ≡ false → t.left ≢ 0 → MayFill sh laid shown (reading t.left (t.left + smaller e es))
    unfolding home_place_of
    ready_left h away =
        record {
          side = gaps.left;
          fills = away;
          room = record { first = omega arith; last = omega (arith, x.leftward.below, inner) };
          hand = refl;
          goal = refl;
          mark = refl;
          new = sym see.same ∙ h;
        }

    ready_right :
        holds e es ≡ false → t.left ≡ 0 → t.right ≢ right_guard sh →
        MayFill sh laid shown (reading t.right (smaller e es + 1))
    unfolding right_guard home_place_of
    ready_right h zero_left apart =
        record {
          side = gaps.right;
          fills = zero_left;
          room = record { first = omega (arith, x.above); last = omega (arith, x.inside, apart) };
          hand = refl;
          goal = omega arith;
          mark = refl;
          new = sym see.same ∙ h;
        }

    -- the key is new, and there is room: the fill may begin
    walk_ready :
        (hand goal : ℕ) → holds e es ≡ false →
        fill_from (which_end sh t.left t.right) (smaller e es) (mark_of e es) t ≡ reading hand goal →
        MayFill sh laid shown (reading hand goal) → Walked sh ws ts laid shown i
    unfolding read_entries
    walk_ready hand goal h fills may =
        record {
          next = next;
          words = ws;
          laid_after = laid;
          shown_after = shown;
          step = step_by low inv i lt 7 (omega arith) (omega arith) p (due ∙ rw (h, fills));
          shows =
              kept next (omega arith) (omega arith) refl refl (inl (omega arith))
              (has_read refl k (looked_as t next refl refl refl x) left_held right_held may);
          same_key = refl;
          ends = λ c. absurd (omega arith);
          begun = omega arith;
          full = λ h. inl h;
          effect = quiet_low low inv i lt next (omega arith) (omega arith);
        }
      where
        next : Task
        next = reading hand goal

    pub walk_read : Walked sh ws ts laid shown i
    walk_read =
        go (holds e es) (which_end sh t.left t.right) refl refl (picked sh t.left t.right)
      where
        filled : (w : ToFill) → which_end sh t.left t.right ≡ w →
            fill_from (which_end sh t.left t.right) (smaller e es) (mark_of e es) t
            ≡ fill_from w (smaller e es) (mark_of e es) t
        filled w = ap (λ (v : ToFill). fill_from v (smaller e es) (mark_of e es) t)

        go :
            (b : Bool) (w : ToFill) →
            holds e es ≡ b → which_end sh t.left t.right ≡ w → Picks sh t.left t.right w →
            Walked sh ws ts laid shown i
        go true w h g v = walk_found h
        go false on_left h g (picks_left away) = walk_ready _ _ h (filled on_left g) (ready_left h away)
        go false on_right h g (picks_right l r) = walk_ready _ _ h (filled on_right g) (ready_right h l r)
        go false on_neither h g (picks_neither l r) = walk_full h g (all_taken l r)
