-- Phases 9 to 12 under the invariant: the moves, the mark, and the release of both ends. The table laid stays as it is.
-- Assumes nothing.
use Rattle.std.specs.Prelude.{ℕ, suc, ◌≤◌, ◌<◌, ◌⊎◌, ◌≢◌, Bool, cond, ◌&&◌, ◌||◌, set, leb}
use Rattle.std.proofs.Math.Path.{◌≡◌, refl, sym, ap}
use Rattle.std.proofs.Common.{ap₂, ◌∙◌, subst, inr, length-set, eqb-true, le-leb}
use Rattle.std.proofs.Math.Logic.{inl}
use Rattle.std.proofs.Math.Bool.{true, false}
use Rattle.std.proofs.lemmas.Bool.{false≢true, eqb-false, lt-leb}
use mathlib.Core.List.{List}
use native.Mathlib.Omega.{arith}
use Rattle.std.proofs.Math.ListN.{length}
use Rattle.std.proofs.Math.Dec.{eqb}
use Rattle.rules.specs.declared.Shape.{Shape}
use Rattle.rules.specs.declared.Task.{Task}
use Rattle.rules.specs.Lists.{bit_of}
use Rattle.rules.specs.Word.{Word, lock_word, with_payload}
use Rattle.rules.specs.Shape.{remainders, keys}
use Rattle.rules.specs.Entry.{Entry}
use Rattle.rules.specs.Table.{at, occupied_places}
use Rattle.rules.specs.Record.{home_place_of, to_phase, with_hand, with_answer, task_at}
use Rattle.rules.specs.Phase as phase
use Rattle.rules.specs.Phase.{to, neighbour, exchange, moves_on, marked}
use Rattle.table_words.specs.Layout.{exchange_length}
use Rattle.theory.specs.Run.{unlock}
use Rattle.theory.specs.Gaps as gaps
use Rattle.theory.specs.Gaps.{Side, other}
use Rattle.theory.specs.Cut.{end, from, up_to}
use Rattle.theory.specs.Motion.{toward, finish, Heads, rightward, leftward, heads, finish_move, finish_mark}
use Rattle.theory.proofs.Region.{finish_locks, finish_occupied, length_locks}
use Rattle.demands.specs.Tables.{table_small}
use Rattle.together.specs.Frames.{Within, at_set, at_other, finish_before, finish_after, locks_at, occupied_same}
use Rattle.together.specs.Frames.{occupied_by}
use Rattle.together.specs.Invariant.{Occupied, Looked, Moving, Owns, by_left, by_right, Reserves, Unfinished, Inv}
use Rattle.together.specs.Invariant.{Ends, ends_found, ends_full, ends_inserted, RightEnd, right_found}
use Rattle.together.specs.Invariant.{right_full, right_waiting, right_filled, InPhase, rests, moving, marking}
use Rattle.together.specs.Invariant.{frees_left, frees_right}
use Rattle.together.specs.Stable.{word_of, from_ge, up_to_le, fills_as}
use Rattle.together.specs.Update.{same_or_not}
use Rattle.together.specs.Facts.{in_order, between_taken, plain_void}
use Rattle.together.specs.Quiet.{apart_less, relocked, relocked_other, relock, relock_looked}
use Rattle.together.specs.Stretch.{inside_stretch, within?}
use Rattle.together.specs.Walk.{Walked, keeps, weight, weight_moving, step_by, in_table, looked_as, Answered}
use Rattle.together.specs.Walk.{says_full, says_shown}

-- ---- an exchange, place by place: payloads change hands, a place's own bits stay
record Exchanged (ws : List Word) (p q x : ℕ) : Type 0 where
  source : ℕ
  word : at (exchange ws p q) x ≡ with_payload (at ws source) (at ws x)
  elsewhere : x ≢ p → x ≢ q → source ≡ x

exchanged : (ws : List Word) (p q x : ℕ) → p < length ws → q < length ws → Exchanged ws p q x
unfolding exchange
exchanged ws p q x lp lq = go (same_or_not q x) (same_or_not p x)
  where
    first : List Word
    first = set ws p (with_payload (at ws q) (at ws p))

    go : (x ≡ q) ⊎ (x ≢ q) → (x ≡ p) ⊎ (x ≢ p) → Exchanged ws p q x
    go (inl e) f =
        record {
          source = p;
          word =
              ap (at (set first q (with_payload (at ws p) (at ws q)))) e
              ∙ at_set
              first
              q
              (with_payload (at ws p) (at ws q))
              (omega (arith, length-set ws p (with_payload (at ws q) (at ws p))))
              ∙ ap (λ (y : ℕ). with_payload (at ws p) (at ws y)) (sym e);
          elsewhere = λ a b. absurd (b e);
        }
    go (inr n) (inl e) =
        record {
          source = q;
          word =
              at_other first q x (with_payload (at ws p) (at ws q)) n
              ∙ ap (at first) e
              ∙ at_set ws p (with_payload (at ws q) (at ws p)) lp
              ∙ ap (λ (y : ℕ). with_payload (at ws q) (at ws y)) (sym e);
          elsewhere = λ a b. absurd (a e);
        }
    go (inr n) (inr m) =
        record {
          source = x;
          word =
              at_other first q x (with_payload (at ws p) (at ws q)) n
              ∙ at_other ws p x (with_payload (at ws q) (at ws p)) m;
          elsewhere = λ a b. refl;
        }

module _ (ws : List Word) (p q : ℕ) (lp : p < length ws) (lq : q < length ws) where
  exchange_locks : (x : ℕ) → (at (exchange ws p q) x).lock ≡ (at ws x).lock
  exchange_locks x = ap (λ (w : Word). w.lock) (exchanged ws p q x lp lq).word

  exchange_taken : (x : ℕ) → (at (exchange ws p q) x).occupied ≡ (at ws x).occupied
  exchange_taken x = ap (λ (w : Word). w.occupied) (exchanged ws p q x lp lq).word

  exchange_small : ((x : ℕ) → (at ws x).remainder < 4096) → (x : ℕ) → (at (exchange ws p q) x).remainder < 4096
  exchange_small small x =
      let e = exchanged ws p q x lp lq in
      subst (λ (n : ℕ). n < 4096) (sym (ap (λ (w : Word). w.remainder) e.word)) (small e.source)

  exchange_elsewhere : (x : ℕ) → x ≢ p → x ≢ q → at (exchange ws p q) x ≡ at ws x
  exchange_elsewhere x a b =
      let e = exchanged ws p q x lp lq in
      e.word ∙ ap (λ (y : ℕ). with_payload (at ws y) (at ws x)) (e.elsewhere a b)

  exchange_places : occupied_places (exchange ws p q) ≡ occupied_places ws
  exchange_places = occupied_by (exchange ws p q) ws (exchange_length ws p q) exchange_taken

-- ---- a task in phase 9 or 10
-- the places of its stretch but the unfilled end are occupied
region_taken :
    {sh : Shape} {ws laid : List Word} {shown : List Entry} (t : Task) →
    Looked sh ws t →
    (m : Moving sh ws laid shown t) →
    (q : ℕ) → from m.side t.left ≤ q → q < up_to m.side t.right → Occupied ws q
region_taken {ws = ws} t x m q = go m.side m.filled.taken
  where
    go :
        (side : Side) →
        Occupied ws (end side t.left t.right) →
        from side t.left ≤ q → q < up_to side t.right → Occupied ws q
    go gaps.left taken a b = or_end (same_or_not t.left q)
      where
        or_end : (q ≡ t.left) ⊎ (q ≢ t.left) → Occupied ws q
        or_end (inl e) = subst (Occupied ws) (sym e) taken
        or_end (inr n) = between_taken x q (omega arith) b
    go gaps.right taken a b = or_end (same_or_not t.right q)
      where
        or_end : (q ≡ t.right) ⊎ (q ≢ t.right) → Occupied ws q
        or_end (inl e) = subst (Occupied ws) (sym e) taken
        or_end (inr n) = between_taken x q a (omega arith)

-- the neighbour of the hand is between hand and goal
toward_within :
    (a b hand goal : ℕ) →
    hand ≢ goal → a ≤ hand → hand < b → a ≤ goal → goal < b → (a ≤ toward hand goal) × (toward hand goal < b)
toward_within a b hand goal apart hl hh gl gh = go (heads hand goal apart)
  where
    go : {q : ℕ} → Heads hand goal q → (a ≤ q) × (q < b)
    go (rightward lt) = (omega arith, omega arith)
    go (leftward lt) = (omega arith, omega arith)

-- an end is one of the stretch's places
end_in : (side : Side) (l r : ℕ) → l < r → Within l r (end side l r)
end_in gaps.left l r lt = (omega arith, omega arith)
end_in gaps.right l r lt = (omega arith, omega arith)

-- the unfilled end is not among those that are moved
end_outside : (side : Side) (l r q : ℕ) → l < r → from side l ≤ q → q < up_to side r → end (other side) l r ≢ q
end_outside gaps.left l r q lt a b e = omega arith
end_outside gaps.right l r q lt a b e = omega arith

module _ {sh : Shape} {ws : List Word} {ts : List Task} {laid : List Word} {shown : List Entry}
    (low : remainders sh ≤ 4096) (inv : Inv sh ws ts laid shown) (i : ℕ) (lt : i < length ts)
  where
    abbrev t : Task
    t = task_at ts i

    -- ---- phase 9
    module _ (p : t.phase ≡ 9) (k : t.key < keys sh) (x : Looked sh ws t) (apart : t.hand ≢ t.goal)
        (m : Moving sh ws laid shown t)
      where
        near :
            (from m.side t.left ≤ toward t.hand t.goal)
            × (toward t.hand t.goal < up_to m.side t.right)
        near =
            toward_within
            (from m.side t.left)
            (up_to m.side t.right)
            t.hand
            t.goal
            apart
            m.hand_low
            m.hand_high
            m.goal_low
            m.goal_high

        abbrev to_place : ℕ
        to_place = toward t.hand t.goal

        hand_inside : t.hand < length ws
        hand_inside = in_table low inv i lt (omega (arith, m.hand_high, up_to_le m.side t.right, x.inside))

        next_inside : to_place < length ws
        next_inside = in_table low inv i lt (omega (arith, near.1, up_to_le m.side t.right, x.inside))

        abbrev moved : List Word
        moved = exchange ws t.hand to_place

        looked_moved : Looked sh moved t
        looked_moved =
            record {
              leftward =
                  record {
                    below = x.leftward.below;
                    taken = λ q a b.
                        exchange_taken ws t.hand to_place hand_inside next_inside q ∙ x.leftward.taken q a b;
                  };
              above = x.above;
              inside = x.inside;
              taken = λ q a b. exchange_taken ws t.hand to_place hand_inside next_inside q ∙ x.taken q a b;
            }

        ordered : t.left < t.right
        ordered = omega (arith, x.leftward.below, x.above)

        -- the record with the hand at the neighbour, in either phase
        moving_on : (n : ℕ) → Moving sh moved laid shown (to_phase n (with_hand to_place t))
        unfolding home_place_of
        moving_on n =
            record {
              side = m.side;
              fills = fills_as m.side t (to_phase n (with_hand to_place t)) refl m.fills;
              room = m.room;
              filled =
                  record {
                    taken =
                        exchange_taken
                        ws
                        t.hand
                        to_place
                        hand_inside
                        next_inside
                        (end m.side t.left t.right)
                        ∙ m.filled.taken;
                    kept =
                        exchange_locks
                        ws
                        t.hand
                        to_place
                        hand_inside
                        next_inside
                        (end m.side t.left t.right)
                        ∙ m.filled.kept;
                  };
              waiting =
                  exchange_elsewhere
                  ws
                  t.hand
                  to_place
                  hand_inside
                  next_inside
                  (end (other m.side) t.left t.right)
                  (end_outside m.side t.left t.right t.hand ordered m.hand_low m.hand_high)
                  (end_outside m.side t.left t.right to_place ordered near.0 near.1)
                  ∙ m.waiting;
              hand_low = near.0;
              hand_high = near.1;
              goal_low = m.goal_low;
              goal_high = m.goal_high;
              mark = m.mark;
              closes = m.closes;
              finished = λ q w.
                  ap
                  (λ (vs : List Word). unlock (at vs q))
                  (finish_move ws t.hand t.goal t.mark (home_place_of sh t) apart)
                  ∙ m.finished q w;
              put = m.put;
            }

        on_outside : (q : ℕ) → (Within t.left t.right q → ⊥) → at moved q ≡ at ws q
        on_outside q far =
            exchange_elsewhere
            ws
            t.hand
            to_place
            hand_inside
            next_inside
            q
            (λ (e : q ≡ t.hand). far (omega (arith, m.hand_low, low_end), omega (arith, m.hand_high, high_end)))
            (λ (e : q ≡ to_place). far (omega (arith, near.0, low_end), omega (arith, near.1, high_end)))
          where
            low_end : t.left ≤ from m.side t.left
            low_end = from_ge m.side t.left

            high_end : up_to m.side t.right ≤ suc t.right
            high_end = up_to_le m.side t.right

        move_to :
            (n : ℕ) →
            9 ≤ n →
            n ≤ 10 →
            moves_on (with_hand to_place t) ≡ to_phase n (with_hand to_place t) →
            InPhase sh moved laid shown (to_phase n (with_hand to_place t)) → Walked sh ws ts laid shown i
        unfolding phase.move neighbour toward
        move_to n a b phase-is stage =
            record {
              next = to_phase n (with_hand to_place t);
              words = moved;
              laid_after = laid;
              shown_after = shown;
              step =
                  step_by low inv i lt 9 (omega arith) (omega arith) p
                  (rw (region_taken t x m to_place near.0 near.1) (ap (λ (u : Task). to u moved) phase-is));
              shows =
                  inside_stretch
                  i
                  (to_phase n (with_hand to_place t))
                  moved
                  low
                  inv
                  (omega arith)
                  (omega arith)
                  x
                  (exchange_length ws t.hand to_place)
                  (exchange_locks ws t.hand to_place hand_inside next_inside)
                  (exchange_places ws t.hand to_place hand_inside next_inside)
                  on_outside
                  (exchange_small ws t.hand to_place hand_inside next_inside inv.small)
                  stage
                  (λ q o. there q o)
                  (λ u c. apart_less back (λ s. (record { from_7 = omega arith; to_10 = omega arith }, refl, refl)) c)
                  (λ q w open_now. absurd (open_now (record { from_9 = a; to_10 = b; inside = w })));
              same_key = refl;
              ends = λ e. absurd (omega arith);
              begun = omega arith;
              full = λ h. inl h;
              effect =
                  keeps
                  (weight_moving (to_phase n (with_hand to_place t)) a b
                  ∙ sym (weight_moving t (omega arith) (omega arith)));
            }
          where
            there : (q : ℕ) → Owns t q → Owns (to_phase n (with_hand to_place t)) q
            there q (by_left c d e) = by_left (omega arith) (omega arith) e
            there q (by_right c d e) = by_right (omega arith) (omega arith) e

            back : (q : ℕ) → Owns (to_phase n (with_hand to_place t)) q → Owns t q
            back q (by_left c d e) = by_left (omega arith) (omega arith) e
            back q (by_right c d e) = by_right (omega arith) (omega arith) e

        pub walk_move : Walked sh ws ts laid shown i
        unfolding moves_on
        walk_move = go (eqb to_place t.goal) refl
          where
            go : (b : Bool) → eqb to_place t.goal ≡ b → Walked sh ws ts laid shown i
            go true e =
                move_to 10 (omega arith) (omega arith)
                (ap (λ (b : Bool). to_phase (cond b 10 9) (with_hand to_place t)) e)
                (marking
                refl
                k
                (looked_as t (to_phase 10 (with_hand to_place t)) refl refl refl looked_moved)
                (eqb-true to_place t.goal e)
                (moving_on 10))
            go false e =
                move_to 9 (omega arith) (omega arith)
                (ap (λ (b : Bool). to_phase (cond b 10 9) (with_hand to_place t)) e)
                (moving
                refl
                k
                (looked_as t (to_phase 9 (with_hand to_place t)) refl refl refl looked_moved)
                (eqb-false to_place t.goal e)
                (moving_on 9))

    -- ---- phase 10
    module _ (p : t.phase ≡ 10) (k : t.key < keys sh) (x : Looked sh ws t) (there : t.hand ≡ t.goal)
        (m : Moving sh ws laid shown t)
      where
        abbrev done : List Word
        done = finish ws t.hand t.goal t.mark (home_place_of sh t)

        -- at the goal, finishing is the mark
        mark_is : marked ws t.mark t.goal (home_place_of sh t) ≡ done
        mark_is =
            sym (finish_mark ws t.goal t.mark (home_place_of sh t))
            ∙ ap (λ (h : ℕ). finish ws h t.goal t.mark (home_place_of sh t)) (sym there)

        done_size : length done ≡ length ws
        done_size = length_locks done ws (finish_locks ws t.hand t.goal t.mark (home_place_of sh t))

        done_locks : (q : ℕ) → (at done q).lock ≡ (at ws q).lock
        done_locks q = locks_at done ws q (finish_locks ws t.hand t.goal t.mark (home_place_of sh t))

        done_places : occupied_places done ≡ occupied_places ws
        done_places = finish_occupied ws t.hand t.goal t.mark (home_place_of sh t)

        done_outside : (q : ℕ) → (Within t.left t.right q → ⊥) → at done q ≡ at ws q
        done_outside q far = go (in_order t.left q) (in_order q t.right)
          where
            hand_in : Within t.left t.right t.hand
            hand_in = (
              omega
                  (arith, m.hand_low, from_ge m.side t.left),
              omega
                  (arith, m.hand_high, up_to_le m.side t.right),
            )

            goal_in : Within t.left t.right t.goal
            goal_in = (
              omega
                  (arith, m.goal_low, from_ge m.side t.left),
              omega
                  (arith, m.goal_high, up_to_le m.side t.right),
            )

            home_in : Within t.left t.right (home_place_of sh t)
            home_in = (omega (arith, x.leftward.below), omega (arith, x.above))

            closes : t.mark ≡ 1 → t.left < t.goal
            closes one = omega (arith, m.closes one, from_ge m.side t.left)

            le : t.left ≤ t.right
            le = omega (arith, x.leftward.below, x.above)

            go : (t.left ≤ q) ⊎ (q < t.left) → (q ≤ t.right) ⊎ (t.right < q) → at done q ≡ at ws q
            go (inl a) (inl b) = absurd (far (a, b))
            go (inr a) b =
                finish_before
                ws
                t.left
                t.right
                le
                (in_table low inv i lt x.inside)
                t.hand
                t.goal
                t.mark
                (home_place_of sh t)
                hand_in
                goal_in
                home_in
                closes
                q
                a
            go (inl a) (inr b) =
                finish_after
                ws
                t.left
                t.right
                le
                (in_table low inv i lt x.inside)
                t.hand
                t.goal
                t.mark
                (home_place_of sh t)
                hand_in
                goal_in
                home_in
                closes
                q
                b

        done_small : (q : ℕ) → (at done q).remainder < 4096
        done_small q = go (within? t.left t.right q)
          where
            go : Within t.left t.right q ⊎ (Within t.left t.right q → ⊥) → (at done q).remainder < 4096
            go (inl w) =
                subst
                (λ (n : ℕ). n < 4096)
                (sym (ap (λ (v : Word). v.remainder) (m.finished q w)))
                (table_small low inv.plain.table q)
            go (inr far) =
                subst (λ (n : ℕ). n < 4096) (sym (ap (λ (v : Word). v.remainder) (done_outside q far))) (inv.small q)

        done_looked : Looked sh done t
        done_looked =
            record {
              leftward =
                  record {
                    below = x.leftward.below;
                    taken = λ q a b. occupied_same done ws q done_places ∙ x.leftward.taken q a b;
                  };
              above = x.above;
              inside = x.inside;
              taken = λ q a b. occupied_same done ws q done_places ∙ x.taken q a b;
            }

        -- the unfilled end is still exactly the lock bit
        done_waiting : at done (end (other m.side) t.left t.right) ≡ lock_word
        done_waiting =
            word_of
            (m.finished
            place
            (end_in (other m.side) t.left t.right (omega (arith, x.leftward.below, x.above)))
            ∙ plain_void
            place
            inv.plain
            low
            (occupied_same laid ws place (sym inv.places) ∙ ap (λ (w : Word). w.occupied) m.waiting))
            (done_locks place ∙ ap (λ (w : Word). w.lock) m.waiting)
          where
            place : ℕ
            place = end (other m.side) t.left t.right

        pub walk_mark : Walked sh ws ts laid shown i
        unfolding phase.mark
        walk_mark =
            record {
              next = next;
              words = done;
              laid_after = laid;
              shown_after = shown;
              step = step_by low inv i lt 10 (omega arith) (omega arith) p (ap (to next) mark_is);
              shows =
                  inside_stretch
                  i
                  next
                  done
                  low
                  inv
                  (omega arith)
                  (omega arith)
                  x
                  done_size
                  done_locks
                  done_places
                  done_outside
                  done_small
                  (frees_left
                  refl
                  k
                  (looked_as t next refl refl refl done_looked)
                  (ends_inserted
                  refl
                  m.put
                  m.side
                  (fills_as m.side t next refl m.fills)
                  (record {
                    taken = occupied_same done ws (end m.side t.left t.right) done_places ∙ m.filled.taken;
                    kept = done_locks (end m.side t.left t.right) ∙ m.filled.kept;
                  })
                  done_waiting))
                  (λ q o. still_owns q o)
                  (λ u c. apart_less back (λ (s : Reserves next). absurd (omega (arith, s.to_10))) c)
                  (λ q w open_now. m.finished q w);
              same_key = refl;
              ends = λ e. absurd (omega arith);
              begun = omega arith;
              full = λ (h : ◌≡◌ {A = ℕ} 2 3). absurd (omega arith);
              effect = keeps (sym (weight_moving t (omega arith) (omega arith)));
            }
          where
            next : Task
            next = to_phase 11 (with_answer 2 t)

            still_owns : (q : ℕ) → Owns t q → Owns next q
            still_owns q (by_left c d e) = by_left (omega arith) (omega arith) e
            still_owns q (by_right c d e) = by_right (omega arith) (omega arith) e

            back : (q : ℕ) → Owns next q → Owns t q
            back q (by_left c d e) = by_left (omega arith) (omega arith) e
            back q (by_right c d e) = by_right (omega arith) (omega arith) e

    -- ---- phases 11 and 12
    -- what is owned on the right once the left is free
    right_of_ends :
        {vs : List Word} (n : ℕ) → at vs t.right ≡ at ws t.right → Ends sh ws shown t →
        RightEnd sh vs shown (to_phase n t)
    right_of_ends n same (ends_found a h l r) = right_found a h (same ∙ r)
    right_of_ends n same (ends_full a l r) = right_full a (same ∙ r)
    right_of_ends n same (ends_inserted a h gaps.left f x y) = right_waiting a h (same ∙ y)
    right_of_ends n same (ends_inserted a h gaps.right f x y) =
        right_filled
        a
        h
        (record {
          taken = ap (λ (w : Word). w.occupied) same ∙ x.taken;
          kept = ap (λ (w : Word). w.lock) same ∙ x.kept;
        })

    weight_late : (u : Task) → 11 ≤ u.phase → u.phase ≤ 13 → weight u ≡ bit_of (eqb u.answer 2)
    weight_late u a b =
        ap₂ (λ (c d : Bool). bit_of ((leb 9 u.phase && c) || (d && leb u.phase 13 && eqb u.answer 2)))
        (lt-leb u.phase 10 (omega arith))
        (le-leb 11 u.phase a)
        ∙ ap₂
        (λ (c d : Bool). bit_of ((c && false) || (d && eqb u.answer 2)))
        (le-leb 9 u.phase (omega arith))
        (le-leb u.phase 13 b)

    pub walk_free_left :
        t.phase ≡ 11 → t.key < keys sh → Looked sh ws t → Ends sh ws shown t → Walked sh ws ts laid shown i
    unfolding phase.free_left relocked
    walk_free_left p k x ends =
        record {
          next = to_phase 12 t;
          words = relocked ws t.left false inside;
          laid_after = laid;
          shown_after = shown;
          step = step_by low inv i lt 11 (omega arith) (omega arith) p refl;
          shows =
              relock
              i
              (to_phase 12 t)
              low
              inv
              t.left
              false
              inside
              (λ u a s o. a.owners t.left (by_left (omega arith) (omega arith) refl) o)
              (frees_right
              refl
              k
              (looked_as t (to_phase 12 t) refl refl refl (relock_looked t t.left false inside x))
              (right_of_ends
              12
              (relocked_other
              ws
              t.left
              false
              inside
              t.right
              (λ (e : t.right ≡ t.left). omega (arith, x.leftward.below, x.above)))
              ends))
              (λ u a s. apart_less back (λ (r : Reserves (to_phase 12 t)). absurd (omega (arith, r.to_10))) a)
              (λ q n o. kept q n o)
              (λ e. absurd (false≢true e))
              (λ q (u : Unfinished t q). absurd (omega (arith, u.to_10)));
          same_key = refl;
          ends = λ e. absurd (omega arith);
          begun = omega arith;
          full = λ h. inl h;
          effect =
              keeps
              (weight_late (to_phase 12 t) (omega arith) (omega arith)
              ∙ sym (weight_late t (omega arith) (omega arith)));
        }
      where
        inside : t.left < length ws
        inside = in_table low inv i lt (omega (arith, x.leftward.below, x.above, x.inside))

        back : (q : ℕ) → Owns (to_phase 12 t) q → Owns t q
        back q (by_left a b e) = absurd (omega arith)
        back q (by_right a b e) = by_right (omega arith) (omega arith) e

        kept : (q : ℕ) → q ≢ t.left → Owns t q → Owns (to_phase 12 t) q
        kept q n (by_left a b e) = absurd (n e)
        kept q n (by_right a b e) = by_right (omega arith) (omega arith) e

    answer_of : (n : ℕ) → RightEnd sh ws shown t → Answered sh shown (to_phase n t)
    answer_of n (right_found a h x) = says_shown (inl a) h
    answer_of n (right_full a x) = says_full a
    answer_of n (right_waiting a h x) = says_shown (inr a) h
    answer_of n (right_filled a h x) = says_shown (inr a) h

    pub walk_free_right :
        t.phase ≡ 12 → t.key < keys sh → Looked sh ws t → RightEnd sh ws shown t → Walked sh ws ts laid shown i
    unfolding phase.free_right relocked
    walk_free_right p k x end-right =
        record {
          next = to_phase 13 t;
          words = relocked ws t.right false inside;
          laid_after = laid;
          shown_after = shown;
          step = step_by low inv i lt 12 (omega arith) (omega arith) p refl;
          shows =
              relock
              i
              (to_phase 13 t)
              low
              inv
              t.right
              false
              inside
              (λ u a s o. a.owners t.right (by_right (omega arith) (omega arith) refl) o)
              (rests (inr refl))
              (λ u a s. apart_less back (λ (r : Reserves (to_phase 13 t)). absurd (omega (arith, r.to_10))) a)
              (λ q n o. absurd (gone q n o))
              (λ e. absurd (false≢true e))
              (λ q (u : Unfinished t q). absurd (omega (arith, u.to_10)));
          same_key = refl;
          ends = λ e. answer_of 13 end-right;
          begun = omega arith;
          full = λ h. inl h;
          effect =
              keeps
              (weight_late (to_phase 13 t) (omega arith) (omega arith)
              ∙ sym (weight_late t (omega arith) (omega arith)));
        }
      where
        inside : t.right < length ws
        inside = in_table low inv i lt x.inside

        back : (q : ℕ) → Owns (to_phase 13 t) q → Owns t q
        back q (by_left a b e) = absurd (omega arith)
        back q (by_right a b e) = absurd (omega arith)

        gone : (q : ℕ) → q ≢ t.right → Owns t q → ⊥
        gone q n (by_left a b e) = omega arith
        gone q n (by_right a b e) = n e
