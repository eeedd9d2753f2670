-- The two steps that put a key: the fill of an empty home (phase 1) and the fill at the hand (phase 8). Each is put
-- into the table laid.
-- Assumes nothing.
use Rattle.std.specs.Prelude.{ℕ, zero, suc, ◌+◌, ◌-◌, ◌≤◌, ◌<◌, ◌⊎◌, ◌≢◌, Bool, ◌||◌, length}
use Rattle.std.proofs.Math.Path.{◌≡◌, refl, sym, ap, ap₂, subst}
use Rattle.std.proofs.Common.{◌∙◌, eqb-true}
use Rattle.std.proofs.Math.Logic.{inl, inr}
use Rattle.std.proofs.Math.Bool.{true, false, cond, true≢false}
use mathlib.Core.List.{List, [], ◌∷◌}
use native.Mathlib.Omega.{arith}
use Rattle.std.proofs.Math.ListN.{set, length-set}
use Rattle.std.proofs.Math.Dec.{eqb}
use Rattle.std.proofs.lemmas.Bool.{eqb-false}
use Rattle.rules.specs.declared.Shape.{Shape}
use Rattle.rules.specs.declared.Task.{Task}
use Rattle.rules.specs.Lists.{any}
use Rattle.rules.specs.Word.{Word, zero_word, lock_word, filled_with, is_void, is_lock, is_zero, alone_word}
use Rattle.rules.specs.Shape.{homes, remainders, keys, places, right_guard}
use Rattle.rules.specs.Entry.{Entry, split, same_entry}
use Rattle.rules.specs.Table.{at, occupied_places, left_gap, right_gap, entries_between, cluster_entries}
use Rattle.rules.specs.Room.{place, room_for}
use Rattle.rules.specs.Lay.{holds, insert, smaller, mark_of}
use Rattle.rules.specs.Put.{add_at, enlarged_from, Outcome, put_in, words_after}
use Rattle.rules.specs.Record.{home_place_of, to_phase, with_left, with_answer, task_at, again}
use Rattle.rules.specs.Phase as phase
use Rattle.rules.specs.Phase.{to, unsound, moves_on}
use Rattle.table_words.specs.Split.{split_in_shape}
use Rattle.table_words.specs.Tests.{refuted}
use Rattle.theory.specs.Run.{unlock}
use Rattle.theory.specs.Dealt.{or_left, or_right}
use Rattle.theory.specs.Locks.{at_unlock}
use Rattle.theory.specs.Insert.{same_eq, same_refl, holds_insert}
use Rattle.theory.specs.Gaps as gaps
use Rattle.theory.specs.Gaps.{Side, HomePlace, other, room_left, chosen_only}
use Rattle.theory.specs.Cut.{end, from}
use Rattle.theory.specs.Places.{occupied_at, gap_entries}
use Rattle.theory.specs.Motion.{fill_at, finish}
use Rattle.theory.proofs.Region.{fill_at_occupied, fill_at_locks}
use Rattle.theory.specs.Pairs.{unlocked_same}
use Rattle.theory.specs.Finding.{Surroundings, surroundings, around_free}
use Rattle.theory.specs.Putting.{Puts, found, inserted, overflow, put_table}
use Rattle.theory.proofs.Moving.{Addable, add_end, begins_from, room_alone, add_alone}
use Rattle.theory.specs.Building.{State, after_put, added_state, place≢full}
use Rattle.together.specs.Frames.{Within, at_set, at_other, finish_before, finish_after, locks_at, occupied_same}
use Rattle.together.specs.Invariant.{Occupied, Looked, Fills, MayFill, Moving, Owns, by_left, by_right, Reserves}
use Rattle.together.specs.Invariant.{Apart, Unfinished, Inv, InPhase, rests, moving, marking}
use Rattle.together.specs.Stable.{Frame, LetsAlone, stage_stable, finish_same, from_ge, up_to_le, fills_as}
use Rattle.together.specs.Update.{Steps, same_or_not}
use Rattle.together.specs.Facts.{in_order, words_size, reserved_laid}
use Rattle.together.specs.Fitting.{Named, ready_named}
use Rattle.together.specs.Quiet.{owned_locked, apart_less}
use Rattle.together.specs.Stretch.{own_end, stretch_alone}
use Rattle.together.specs.Around.{Around, around}
use Rattle.together.specs.Walk as walk
use Rattle.together.specs.Walk.{Walked, commits, weight_low, step_by, in_table, looked_as, says_shown}

-- ---- the put into the table laid
pub record Puts-at (sh : Shape) (laid : List Word) (shown : List Entry) (e : Entry) (p : ℕ) : Type 0 where
  pub is : after_put sh laid e ≡ add_at laid e p
  pub state : State sh (add_at laid e p) (insert e shown)
  pub places_after : occupied_places (add_at laid e p) ≡ set (occupied_places laid) p true

place_same : {p q : ℕ} → place p ≡ place q → p ≡ q
place_same e = cc

pub puts_at :
    {sh : Shape} {laid : List Word} {shown : List Entry} (e : Entry) (p : ℕ) →
    remainders sh ≤ 4096 →
    HomePlace sh e.home_place →
    e.remainder < remainders sh →
    State sh laid shown →
    holds e shown ≡ false → room_for sh (occupied_places laid) e.home_place ≡ place p → Puts-at sh laid shown e p
puts_at {sh} {laid} {shown} e p low home_at small s new room =
    go (put_in sh laid e) refl (put_table sh e low s.size home_at small s.table s.free)
  where
    go : (o : Outcome) → put_in sh laid e ≡ o → Puts sh laid shown e o → Puts-at sh laid shown e p
    go o is (found h) = absurd (true≢false (sym h ∙ new))
    go o is (overflow h full_room) = absurd (place≢full (sym room ∙ full_room))
    go o is (inserted q h room' added) =
        let here : q ≡ p = place_same (sym room' ∙ room) in
        subst
        (Puts-at sh laid shown e)
        here
        (record {
          is = ap (words_after laid) is;
          state = added_state s added;
          places_after = added.places;
        })

-- a plain table has no lock
pub plain_unlocked :
    {sh : Shape} {laid : List Word} {shown : List Entry} (q : ℕ) → State sh laid shown →
    unlock (at laid q) ≡ at laid q
plain_unlocked {laid = laid} q s =
    sym (at_unlock laid q) ∙ ap (λ (vs : List Word). at vs q) (unlocked_same laid s.free)

-- another key's entry is as much held as before
pub held_other : (e f : Entry) (es : List Entry) → (e.home_place ≢ f.home_place) → holds f (insert e es) ≡ holds f es
held_other e f es apart = holds_insert f e es ∙ ap (λ (b : Bool). b || holds f es) other
  where
    other : same_entry f e ≡ false
    other = refuted (same_entry f e) (λ h. apart (ap (λ (x : Entry). x.home_place) (sym (same_eq f e h))))

pub held_now : (e : Entry) (es : List Entry) → holds e (insert e es) ≡ true
held_now e es = holds_insert e e es ∙ or_left _ _ (same_refl e)

pub held_still : (e x : Entry) (es : List Entry) → holds x es ≡ true → holds x (insert e es) ≡ true
held_still e x es h = holds_insert x e es ∙ or_right (same_entry x e) (holds x es) h

guard_beyond : (sh : Shape) (p : ℕ) → p ≤ homes sh → p ≡ right_guard sh → ⊥
unfolding right_guard
guard_beyond sh p le e = omega arith

-- the two ends are apart
other_end : (side : Side) (l r : ℕ) → l < r → end (other side) l r ≡ end side l r → ⊥
other_end gaps.left l r lt e = omega arith
other_end gaps.right l r lt e = omega arith

-- a task in phase 8 has looked both ways
reserved_looked :
    {sh : Shape} {ws laid : List Word} {shown : List Entry} (u : Task) →
    u.phase ≡ 8 → InPhase sh ws laid shown u → Looked sh ws u
reserved_looked u at_8 s = (walk.free_end (omega arith) (omega arith) s).1

-- ---- phase 8
module _ {sh : Shape} {ws : List Word} {ts : List Task} {laid : List Word} {shown : List Entry}
    (low : remainders sh ≤ 4096) (inv : Inv sh ws ts laid shown) (i : ℕ) (lt : i < length ts)
    (p : (task_at ts i).phase ≡ 8) (k : (task_at ts i).key < keys sh) (x : Looked sh ws (task_at ts i))
    (left_held : at ws (task_at ts i).left ≡ lock_word) (right_held : at ws (task_at ts i).right ≡ lock_word)
    (y : MayFill sh laid shown (task_at ts i))
  where
    abbrev t : Task
    t = task_at ts i

    abbrev e : Entry
    e = split sh t.key

    abbrev es : List Entry
    es = entries_between laid t.left t.right

    see : Around sh ws laid shown t
    see = around low inv i lt (omega arith) (omega arith) k x left_held right_held

    small_key : e.remainder < remainders sh
    small_key = (split_in_shape sh t.key k).remainder_low

    home_taken : (at laid e.home_place).occupied ≡ true
    unfolding home_place_of
    home_taken =
        occupied_same laid ws e.home_place (sym inv.places)
        ∙ x.taken e.home_place (omega arith) (omega (arith, x.above))

    -- the place that the rule names is the hand
    room_is : room_for sh (occupied_places laid) e.home_place ≡ place t.hand
    room_is = go y.side y.fills y.room ∙ ap place (sym y.hand)
      where
        go :
            (side : Side) →
            Fills side t →
            HomePlace sh (end side t.left t.right) →
            room_for sh (occupied_places laid) e.home_place ≡ place (end side t.left t.right)
        go gaps.left away room =
            room_left sh (occupied_places laid) e.home_place
            ∙ chosen_only (gaps.first (occupied_at laid e.home_place ∙ home_taken) (λ z. away (sym see.left ∙ z)))
            ∙ ap place see.left
        go gaps.right at_guard room =
            room_left sh (occupied_places laid) e.home_place
            ∙ chosen_only
            (gaps.second
            (occupied_at laid e.home_place ∙ home_taken)
            (see.left ∙ at_guard)
            (λ z. not_guard (sym see.right ∙ z)))
            ∙ ap place see.right
          where
            not_guard : t.right ≡ right_guard sh → ⊥
            not_guard z = guard_beyond sh t.right room.last z

    put_in_lem : Puts-at sh laid shown e t.hand
    put_in_lem = puts_at e t.hand low see.home_place small_key inv.plain y.new room_is

    abbrev laid' : List Word
    laid' = add_at laid e t.hand

    look : Surroundings sh laid shown e
    look = surroundings sh e low inv.plain.size see.home_place small_key inv.plain.table

    addable : Addable sh laid e
    addable =
        record {
          low = low;
          remainder = small_key;
          home_place = see.home_place;
          size = inv.plain.size;
          sound = look.sound;
          free = around_free laid e.home_place inv.plain.free;
          new = look.same ∙ y.new;
        }

    -- the table laid after the put is the fill and the moves on the table laid before
    laid_moves : laid' ≡ finish (fill_at e.remainder laid t.hand) t.hand t.goal t.mark e.home_place
    unfolding cluster_entries
    laid_moves =
        ap (add_at laid e) (y.hand ∙ sym gap_is)
        ∙ add_end addable home_taken y.side
        ∙ (λ j. finish (fill_at e.remainder laid (hand_is j)) (hand_is j) (goal_is j) (mark_is j) e.home_place)
      where
        gap_is :
            end y.side (left_gap (occupied_places laid) e.home_place) (right_gap (occupied_places laid) e.home_place)
            ≡ end y.side t.left t.right
        gap_is = ap₂ (end y.side) see.left see.right

        hand_is : end y.side (left_gap (occupied_places laid) e.home_place)
            (right_gap (occupied_places laid) e.home_place) ≡ t.hand
        hand_is = gap_is ∙ sym y.hand

        goal_is :
            enlarged_from
            laid
            e.home_place
            (end y.side (left_gap (occupied_places laid) e.home_place)
            (right_gap (occupied_places laid) e.home_place))
            + smaller e (entries_between laid (left_gap (occupied_places laid) e.home_place)
            (right_gap (occupied_places laid) e.home_place))
            ≡ t.goal
        goal_is =
            ap
            (λ (n : ℕ).
            n
            + smaller e (entries_between laid (left_gap (occupied_places laid) e.home_place)
            (right_gap (occupied_places laid) e.home_place)))
            (begins_from addable home_taken y.side)
            ∙ ap₂ (λ (l r : ℕ). from y.side l + smaller e (entries_between laid l r)) see.left see.right
            ∙ sym y.goal

        mark_is :
            mark_of e (entries_between laid (left_gap (occupied_places laid) e.home_place)
            (right_gap (occupied_places laid) e.home_place))
            ≡ t.mark
        mark_is = ap₂ (λ (l r : ℕ). mark_of e (entries_between laid l r)) see.left see.right ∙ sym y.mark

    abbrev filled : List Word
    filled = fill_at e.remainder ws t.hand

    named : Named y.side t
    named = ready_named inv.plain.size x y

    hand_in : Within t.left t.right t.hand
    hand_in = (
      omega (arith, named.hand_low, from_ge y.side t.left),
      omega (arith, named.hand_high, up_to_le y.side t.right),
    )

    goal_in : Within t.left t.right t.goal
    goal_in = (
      omega (arith, named.goal_low, from_ge y.side t.left),
      omega (arith, named.goal_high, up_to_le y.side t.right),
    )

    home_in : Within t.left t.right e.home_place
    unfolding home_place_of
    home_in = (omega (arith, x.leftward.below), omega (arith, x.above))

    closes : t.mark ≡ 1 → t.left < t.goal
    closes one = omega (arith, named.closes one, from_ge y.side t.left)

    ordered : t.left ≤ t.right
    ordered = omega (arith, x.leftward.below, x.above)

    right_inside : t.right < length ws
    right_inside = in_table low inv i lt x.inside

    hand_inside : t.hand < length ws
    hand_inside = omega (arith, hand_in.1, right_inside)

    laid_long : length laid ≡ length ws
    laid_long = inv.plain.size ∙ sym (words_size low inv)

    -- the hand stands on an end, which was exactly the lock bit
    hand_held : at ws t.hand ≡ lock_word
    hand_held = ap (at ws) y.hand ∙ go y.side
      where
        go : (side : Side) → at ws (end side t.left t.right) ≡ lock_word
        go gaps.left = left_held
        go gaps.right = right_held

    other_held : at ws (end (other y.side) t.left t.right) ≡ lock_word
    other_held = go y.side
      where
        go : (side : Side) → at ws (end (other side) t.left t.right) ≡ lock_word
        go gaps.left = right_held
        go gaps.right = left_held

    filled_here : at filled t.hand ≡ filled_with e.remainder (at ws t.hand)
    unfolding fill_at
    filled_here = at_set ws t.hand (filled_with e.remainder (at ws t.hand)) hand_inside

    filled_other : (q : ℕ) → q ≢ t.hand → at filled q ≡ at ws q
    unfolding fill_at
    filled_other q n = at_other ws t.hand q (filled_with e.remainder (at ws t.hand)) n

    filled_locks : (q : ℕ) → (at filled q).lock ≡ (at ws q).lock
    filled_locks q = locks_at filled ws q (fill_at_locks e.remainder ws t.hand)

    filled_size : length filled ≡ places sh
    unfolding fill_at
    filled_size = length-set ws t.hand (filled_with e.remainder (at ws t.hand)) ∙ words_size low inv

    filled_grows : (q : ℕ) → Occupied ws q → Occupied filled q
    filled_grows q taken = go (same_or_not t.hand q)
      where
        go : (q ≡ t.hand) ⊎ (q ≢ t.hand) → Occupied filled q
        go (inl same) = ap (λ (r : ℕ). (at filled r).occupied) same ∙ ap (λ (w : Word). w.occupied) filled_here
        go (inr n) = ap (λ (w : Word). w.occupied) (filled_other q n) ∙ taken

    filled_small : (q : ℕ) → (at filled q).remainder < 4096
    filled_small q = go (same_or_not t.hand q)
      where
        go : (q ≡ t.hand) ⊎ (q ≢ t.hand) → (at filled q).remainder < 4096
        go (inl same) =
            subst
            (λ (n : ℕ). n < 4096)
            (sym (ap (λ (r : ℕ). (at filled r).remainder) same ∙ ap (λ (w : Word). w.remainder) filled_here))
            (omega (arith, small_key))
        go (inr n) =
            subst (λ (m : ℕ). m < 4096) (sym (ap (λ (w : Word). w.remainder) (filled_other q n))) (inv.small q)

    -- the same fill on the table laid
    abbrev laid_filled : List Word
    laid_filled = fill_at e.remainder laid t.hand

    fills_alike : (q : ℕ) → Within t.left t.right q → unlock (at filled q) ≡ unlock (at laid_filled q)
    unfolding fill_at
    fills_alike q near = go (same_or_not t.hand q)
      where
        alike : (r : ℕ) → Within t.left t.right r → unlock (at ws r) ≡ unlock (at laid r)
        alike r w = reserved_laid low inv i lt (omega arith) (omega arith) r w ∙ sym (plain_unlocked r inv.plain)

        go : (q ≡ t.hand) ⊎ (q ≢ t.hand) → unlock (at filled q) ≡ unlock (at laid_filled q)
        go (inl same) =
            ap (λ (r : ℕ). unlock (at filled r)) same
            ∙ ap unlock filled_here
            ∙ ap (filled_with e.remainder) (alike t.hand hand_in)
            ∙ ap
            unlock
            (sym
            (at_set
            laid
            t.hand
            (filled_with e.remainder (at laid t.hand))
            (omega (arith, laid_long, hand_inside))))
            ∙ ap (λ (r : ℕ). unlock (at laid_filled r)) (sym same)
        go (inr n) =
            ap unlock (filled_other q n)
            ∙ alike q near
            ∙ ap unlock (sym (at_other laid t.hand q (filled_with e.remainder (at laid t.hand)) n))

    laid_filled_size : length laid_filled ≡ places sh
    unfolding fill_at
    laid_filled_size = length-set laid t.hand (filled_with e.remainder (at laid t.hand)) ∙ inv.plain.size

    looked_filled : Looked sh filled t
    looked_filled =
        record {
          leftward =
              record { below = x.leftward.below; taken = λ q a b. filled_grows q (x.leftward.taken q a b) };
          above = x.above;
          inside = x.inside;
          taken = λ q a b. filled_grows q (x.taken q a b);
        }

    -- finishing what is left gives the table laid
    will_finish :
        (q : ℕ) →
        Within t.left t.right q →
        unlock (at (finish filled t.hand t.goal t.mark (home_place_of sh t)) q) ≡ at laid' q
    unfolding home_place_of
    will_finish q near =
        finish_same
        sh
        filled
        laid_filled
        t
        y.side
        filled_size
        laid_filled_size
        looked_filled
        named.hand_low
        named.hand_high
        named.goal_low
        named.goal_high
        named.closes
        fills_alike
        q
        near
        ∙ ap (λ (vs : List Word). unlock (at vs q)) (sym laid_moves)
        ∙ plain_unlocked q put_in_lem.state

    -- outside the stretch the table laid is as it was
    laid_outside : (q : ℕ) → (Within t.left t.right q → ⊥) → at laid' q ≡ at laid q
    unfolding fill_at
    laid_outside q far =
        ap (λ (vs : List Word). at vs q) laid_moves ∙ go (in_order t.left q) (in_order q t.right) ∙ same_there
      where
        same_there : at laid_filled q ≡ at laid q
        same_there =
            at_other
            laid
            t.hand
            q
            (filled_with e.remainder (at laid t.hand))
            (λ (same : q ≡ t.hand). far (subst (Within t.left t.right) (sym same) hand_in))

        long : t.right < length laid_filled
        long = omega (arith, laid_filled_size, words_size low inv, right_inside)

        go :
            (t.left ≤ q) ⊎ (q < t.left) →
            (q ≤ t.right) ⊎ (t.right < q) →
            at (finish laid_filled t.hand t.goal t.mark e.home_place) q ≡ at laid_filled q
        go (inl a) (inl b) = absurd (far (a, b))
        go (inr a) b =
            finish_before
            laid_filled
            t.left
            t.right
            ordered
            long
            t.hand
            t.goal
            t.mark
            e.home_place
            hand_in
            goal_in
            home_in
            closes
            q
            a
        go (inl a) (inr b) =
            finish_after
            laid_filled
            t.left
            t.right
            ordered
            long
            t.hand
            t.goal
            t.mark
            e.home_place
            hand_in
            goal_in
            home_in
            closes
            q
            b

    filling : (n : ℕ) → Moving sh filled laid' (insert e shown) (to_phase n t)
    unfolding home_place_of
    filling n =
        record {
          side = y.side;
          fills = fills_as y.side t (to_phase n t) refl y.fills;
          room = y.room;
          filled =
              record {
                taken =
                    ap (λ (r : ℕ). (at filled r).occupied) (sym y.hand) ∙ ap (λ (w : Word). w.occupied) filled_here;
                kept =
                    filled_locks (end y.side t.left t.right)
                    ∙ ap (λ (r : ℕ). (at ws r).lock) (sym y.hand)
                    ∙ ap (λ (w : Word). w.lock) hand_held;
              };
          waiting =
              filled_other
              (end (other y.side) t.left t.right)
              (λ same.
              other_end
              y.side
              t.left
              t.right
              (omega (arith, x.leftward.below, x.above))
              (same ∙ y.hand))
              ∙ other_held;
          hand_low = named.hand_low;
          hand_high = named.hand_high;
          goal_low = named.goal_low;
          goal_high = named.goal_high;
          mark = named.marks;
          closes = named.closes;
          finished = will_finish;
          put = held_now e shown;
        }

    fill_frame : Frame sh ws laid shown filled laid' (insert e shown) (Within t.left t.right)
    fill_frame =
        record {
          size = words_size low inv;
          size' = filled_size;
          laid_size = inv.plain.size;
          laid_size' = put_in_lem.state.size;
          words = λ q far.
              ap
              unlock
              (filled_other
              q
              (λ (same : q ≡ t.hand). far (subst (Within t.left t.right) (sym same) hand_in)));
          grows = filled_grows;
          laid_words = laid_outside;
          keeps = λ f h. held_still e f shown h;
        }

    -- another task that has read has another key: its home lies in its own stretch
    still_new :
        (u : Task) → Apart t u → InPhase sh ws laid shown u → u.phase ≡ 8 →
        holds (split sh u.key) (insert e shown) ≡ holds (split sh u.key) shown
    unfolding home_place_of
    still_new u a s at_8 =
        held_other e (split sh u.key) shown
        (λ (same : e.home_place ≡ (split sh u.key).home_place).
        let z = reserved_looked u at_8 s in
        a.stretches
        (record { from_7 = omega arith; to_10 = omega arith })
        (record { from_7 = omega arith; to_10 = omega arith })
        e.home_place
        home_in
        (omega (arith, z.leftward.below), omega (arith, z.above)))

    fill_to :
        (n : ℕ) →
        9 ≤ n →
        n ≤ 10 →
        moves_on t ≡ to_phase n t → InPhase sh filled laid' (insert e shown) (to_phase n t) → Walked sh ws ts laid shown i
    unfolding phase.fill_hand fill_at is_lock is_void
    fill_to n a b phase-is stage =
        record {
          next = to_phase n t;
          words = filled;
          laid_after = after_put sh laid e;
          shown_after = insert e shown;
          step =
              step_by low inv i lt 8 (omega arith) (omega arith) p
              (rw (ap is_lock hand_held) (ap (λ (u : Task). to u filled) phase-is));
          shows =
              subst
              (λ (vs : List Word). Steps sh ws ts laid shown i (to_phase n t) filled vs (insert e shown))
              (sym put_in_lem.is)
              (record {
                plain = put_in_lem.state;
                places =
                    fill_at_occupied e.remainder ws t.hand
                    ∙ ap (λ (os : List Bool). set os t.hand true) inv.places
                    ∙ sym put_in_lem.places_after;
                small = filled_small;
                stage = stage;
                others = λ u c s.
                    stage_stable
                    fill_frame
                    u
                    (stretch_alone filled t u (omega arith) (omega arith) x filled_locks c)
                    (still_new u c s)
                    s;
                apart = λ u c s.
                    apart_less back (λ r. (record { from_7 = omega arith; to_10 = omega arith }, refl, refl)) c;
                owner = λ q is_locked. inr (sym (filled_locks q) ∙ is_locked, there q);
                settled = λ q own others. settle q own others;
              });
          same_key = refl;
          ends = λ c. absurd (omega arith);
          begun = omega arith;
          full = λ h. inl h;
          effect = commits y.new (weight_low t (omega arith)) (walk.weight_moving (to_phase n t) a b);
        }
      where
        there : (q : ℕ) → Owns t q → Owns (to_phase n t) q
        there q (by_left c d f) = by_left (omega arith) (omega arith) f
        there q (by_right c d f) = by_right (omega arith) (omega arith) f

        back : (q : ℕ) → Owns (to_phase n t) q → Owns t q
        back q (by_left c d f) = by_left (omega arith) (omega arith) f
        back q (by_right c d f) = by_right (omega arith) (omega arith) f

        settle :
            (q : ℕ) →
            (Unfinished (to_phase n t) q → ⊥) →
            ((j : ℕ) → j < length ts → j ≢ i → Unfinished (task_at ts j) q → ⊥) → unlock (at filled q) ≡ at laid' q
        settle q own others =
            fill_frame.words q far
            ∙ inv.settled q (λ j l u. none j l u (same_or_not i j))
            ∙ sym (laid_outside q far)
          where
            far : Within t.left t.right q → ⊥
            far w = own (record { from_9 = a; to_10 = b; inside = w })

            none : (j : ℕ) → j < length ts → Unfinished (task_at ts j) q → (j ≡ i) ⊎ (j ≢ i) → ⊥
            none j l u (inl same) =
                let v = subst (λ (m : ℕ). Unfinished (task_at ts m) q) same u in
                omega (arith, v.from_9)
            none j l u (inr m) = others j l m u

    pub walk_fill : Walked sh ws ts laid shown i
    unfolding moves_on
    walk_fill = go (eqb t.hand t.goal) refl
      where
        go : (b : Bool) → eqb t.hand t.goal ≡ b → Walked sh ws ts laid shown i
        go true same =
            fill_to 10 (omega arith) (omega arith)
            (ap (λ (b : Bool). to_phase (cond b 10 9) t) same)
            (marking
            refl
            k
            (looked_as t (to_phase 10 t) refl refl refl looked_filled)
            (eqb-true t.hand t.goal same)
            (filling 10))
        go false apart =
            fill_to 9 (omega arith) (omega arith)
            (ap (λ (b : Bool). to_phase (cond b 10 9) t) apart)
            (moving
            refl
            k
            (looked_as t (to_phase 9 t) refl refl refl looked_filled)
            (eqb-false t.hand t.goal apart)
            (filling 9))

home_below : (sh : Shape) (h : ℕ) → h ≤ homes sh → h ≤ right_guard sh
unfolding right_guard
home_below sh h le = omega arith

occupied_set : (ws : List Word) (p : ℕ) (w : Word) →
    occupied_places (set ws p w) ≡ set (occupied_places ws) p w.occupied
unfolding occupied_places
occupied_set [] p w = refl
occupied_set (v ∷ ws) zero w = refl
occupied_set (v ∷ ws) (suc p) w = ap (λ (os : List Bool). v.occupied ∷ os) (occupied_set ws p w)

-- an unoccupied home has no cluster, and so no keys
no_keys_there :
    (laid : List Word) (e : Entry) →
    (at laid e.home_place).occupied ≡ false → holds e (cluster_entries laid e.home_place) ≡ false
unfolding holds any
no_keys_there laid e free = ap (holds e) (gap_entries laid e.home_place free)

-- ---- phase 1, on an empty home
module _ {sh : Shape} {ws : List Word} {ts : List Task} {laid : List Word} {shown : List Entry}
    (low : remainders sh ≤ 4096) (inv : Inv sh ws ts laid shown) (i : ℕ) (lt : i < length ts)
    (p : (task_at ts i).phase ≡ 1) (k : (task_at ts i).key < keys sh)
    (empty : at ws (split sh (task_at ts i).key).home_place ≡ zero_word)
  where
    abbrev t₁ : Task
    t₁ = task_at ts i

    abbrev e₁ : Entry
    e₁ = split sh t₁.key

    home₁ : HomePlace sh e₁.home_place
    home₁ = let s = split_in_shape sh t₁.key k in record { first = s.home_low; last = s.home_high }

    small₁ : e₁.remainder < remainders sh
    small₁ = (split_in_shape sh t₁.key k).remainder_low

    laid_empty : (at laid e₁.home_place).occupied ≡ false
    laid_empty = occupied_same laid ws e₁.home_place (sym inv.places) ∙ ap (λ (w : Word). w.occupied) empty

    look₁ : Surroundings sh laid shown e₁
    look₁ = surroundings sh e₁ low inv.plain.size home₁ small₁ inv.plain.table

    -- nobody's key has an unoccupied home
    new₁ : holds e₁ shown ≡ false
    new₁ = sym look₁.same ∙ no_keys_there laid e₁ laid_empty

    addable₁ : Addable sh laid e₁
    addable₁ =
        record {
          low = low;
          remainder = small₁;
          home_place = home₁;
          size = inv.plain.size;
          sound = look₁.sound;
          free = around_free laid e₁.home_place inv.plain.free;
          new = look₁.same ∙ new₁;
        }

    put₁ : Puts-at sh laid shown e₁ e₁.home_place
    put₁ = puts_at e₁ e₁.home_place low home₁ small₁ inv.plain new₁ (room_alone addable₁ laid_empty)

    abbrev alone : Word
    alone = alone_word e₁.remainder

    laid_is : add_at laid e₁ e₁.home_place ≡ set laid e₁.home_place alone
    laid_is = add_alone addable₁ laid_empty

    inside₁ : e₁.home_place < length ws
    inside₁ = in_table low inv i lt (home_below sh e₁.home_place home₁.last)

    laid_inside₁ : e₁.home_place < length laid
    laid_inside₁ = omega (arith, inside₁, words_size low inv, inv.plain.size)

    abbrev grown : List Word
    grown = set ws e₁.home_place alone

    grown_here : at grown e₁.home_place ≡ alone
    grown_here = at_set ws e₁.home_place alone inside₁

    grown_other : (q : ℕ) → q ≢ e₁.home_place → at grown q ≡ at ws q
    grown_other q n = at_other ws e₁.home_place q alone n

    grown_locks : (q : ℕ) → (at grown q).lock ≡ (at ws q).lock
    grown_locks q = go (same_or_not e₁.home_place q)
      where
        go : (q ≡ e₁.home_place) ⊎ (q ≢ e₁.home_place) → (at grown q).lock ≡ (at ws q).lock
        go (inl same) =
            ap (λ (r : ℕ). (at grown r).lock) same
            ∙ ap (λ (w : Word). w.lock) (grown_here)
            ∙ sym (ap (λ (w : Word). w.lock) empty)
            ∙ ap (λ (r : ℕ). (at ws r).lock) (sym same)
        go (inr n) = ap (λ (w : Word). w.lock) (grown_other q n)

    home_unowned : (u : Task) → InPhase sh ws laid shown u → Owns u e₁.home_place → ⊥
    home_unowned u s o = true≢false (sym (owned_locked e₁.home_place s o) ∙ ap (λ (w : Word). w.lock) empty)

    grown_frame : Frame sh ws laid shown grown (add_at laid e₁ e₁.home_place) (insert e₁ shown)
        (λ q. q ≡ e₁.home_place)
    grown_frame =
        record {
          size = words_size low inv;
          size' = length-set ws e₁.home_place alone ∙ words_size low inv;
          laid_size = inv.plain.size;
          laid_size' = put₁.state.size;
          words = λ q n. ap unlock (grown_other q n);
          grows = λ q taken. grows q taken (same_or_not e₁.home_place q);
          laid_words = λ q n. ap (λ (vs : List Word). at vs q) laid_is ∙ at_other laid e₁.home_place q alone n;
          keeps = λ f h. held_still e₁ f shown h;
        }
      where
        grows : (q : ℕ) → Occupied ws q → (q ≡ e₁.home_place) ⊎ (q ≢ e₁.home_place) → Occupied grown q
        grows q taken (inl same) = ap (λ (r : ℕ). (at grown r).occupied) same ∙ ap (λ (w : Word). w.occupied) grown_here
        grows q taken (inr n) = ap (λ (w : Word). w.occupied) (grown_other q n) ∙ taken

    grown_alone : (u : Task) → Apart t₁ u → InPhase sh ws laid shown u → LetsAlone ws grown (λ q. q ≡ e₁.home_place) u
    grown_alone u a s =
        record {
          locks = λ q o. grown_locks q;
          ends = λ q o free same. home_unowned u s (subst (Owns u) same o);
          stretch = λ r q near same.
              home_unowned u s
              (own_end u e₁.home_place r.from_7 r.to_10 (walk.free_end r.from_7 r.to_10 s).1
              (subst (Within u.left u.right) same near)
              (ap (λ (w : Word). w.occupied) empty));
        }

    fresh₁ :
        (u : Task) → InPhase sh ws laid shown u → u.phase ≡ 8 →
        holds (split sh u.key) (insert e₁ shown) ≡ holds (split sh u.key) shown
    unfolding home_place_of
    fresh₁ u s at_8 =
        held_other e₁ (split sh u.key) shown
        (λ (same : e₁.home_place ≡ (split sh u.key).home_place).
        let z = reserved_looked u at_8 s in
        true≢false
        (sym (z.taken (split sh u.key).home_place (omega arith) (omega (arith, z.above)))
        ∙ ap (λ (r : ℕ). (at ws r).occupied) (sym same)
        ∙ ap (λ (w : Word). w.occupied) empty))

    pub walk_alone : Walked sh ws ts laid shown i
    unfolding phase.home home_place_of is_zero is_void
    walk_alone =
        record {
          next = next;
          words = grown;
          laid_after = after_put sh laid e₁;
          shown_after = insert e₁ shown;
          step =
              step_by low inv i lt 1 (omega arith) (omega arith) p
              (ap
              (λ (w : Word).
              cond
              w.lock
              (to (again t₁) ws)
              (cond
              (is_zero w)
              (to next grown)
              (cond w.occupied (to (to_phase 2 (with_left (home_place_of sh t₁ - 1) t₁)) ws) unsound)))
              empty);
          shows =
              subst
              (λ (vs : List Word). Steps sh ws ts laid shown i next grown vs (insert e₁ shown))
              (sym put₁.is)
              (record {
                plain = put₁.state;
                places = grown_places ∙ sym put₁.places_after;
                small = λ q. small q (same_or_not e₁.home_place q);
                stage = rests (inr refl);
                others = λ u c s. stage_stable grown_frame u (grown_alone u c s) (fresh₁ u s) s;
                apart = λ u c s. apart_less back (λ (r : Reserves next). absurd (omega (arith, r.to_10))) c;
                owner = λ q is_locked. inr (sym (grown_locks q) ∙ is_locked, λ o. absurd (free_hands q o));
                settled = λ q own others. settle q others (same_or_not e₁.home_place q);
              });
          same_key = refl;
          ends = λ c. says_shown (inr refl) (held_now e₁ shown);
          begun = omega arith;
          full = λ (h : ◌≡◌ {A = ℕ} 2 3). absurd (omega arith);
          effect = commits new₁ (weight_low t₁ (omega arith)) refl;
        }
      where
        next : Task
        next = to_phase 13 (with_answer 2 t₁)

        back : (q : ℕ) → Owns next q → Owns t₁ q
        back q (by_left c d f) = absurd (omega arith)
        back q (by_right c d f) = absurd (omega arith)

        free_hands : (q : ℕ) → Owns t₁ q → ⊥
        free_hands q (by_left c d f) = omega arith
        free_hands q (by_right c d f) = omega arith

        grown_places : occupied_places grown ≡ set (occupied_places laid) e₁.home_place true
        grown_places = occupied_set ws e₁.home_place alone
            ∙ ap (λ (os : List Bool). set os e₁.home_place true) inv.places

        small : (q : ℕ) → (q ≡ e₁.home_place) ⊎ (q ≢ e₁.home_place) → (at grown q).remainder < 4096
        small q (inl same) =
            subst
            (λ (n : ℕ). n < 4096)
            (sym (ap (λ (r : ℕ). (at grown r).remainder) same ∙ ap (λ (w : Word). w.remainder) grown_here))
            (omega (arith, small₁))
        small q (inr n) =
            subst (λ (m : ℕ). m < 4096) (sym (ap (λ (w : Word). w.remainder) (grown_other q n))) (inv.small q)

        settle :
            (q : ℕ) →
            ((j : ℕ) → j < length ts → j ≢ i → Unfinished (task_at ts j) q → ⊥) →
            (q ≡ e₁.home_place) ⊎ (q ≢ e₁.home_place) → unlock (at grown q) ≡ at (add_at laid e₁ e₁.home_place) q
        settle q others (inl same) =
            ap (λ (r : ℕ). unlock (at grown r)) same
            ∙ ap unlock grown_here
            ∙ sym (ap₂ at laid_is same ∙ at_set laid e₁.home_place alone laid_inside₁)
        settle q others (inr n) =
            ap unlock (grown_other q n)
            ∙ inv.settled q (λ j l u. none j l u (same_or_not i j))
            ∙ sym (grown_frame.laid_words q n)
          where
            none : (j : ℕ) → j < length ts → Unfinished (task_at ts j) q → (j ≡ i) ⊎ (j ≢ i) → ⊥
            none j l u (inl same) =
                let v = subst (λ (m : ℕ). Unfinished (task_at ts m) q) same u in
                omega (arith, v.from_9)
            none j l u (inr m) = others j l m u
