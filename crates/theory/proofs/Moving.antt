-- Put by moving words is put by the rule. `brought`: a fill at either end of a sound run, the moves and the mark leave
-- the run enlarged, whatever the rest of the table is; phases 8 to 10 do so at the record's left and right.
-- `smaller_inside`, `last_follows`: the goal is a place of that stretch, and with mark 1 not its first.
-- `add_moves`: so they add what put's definition adds, at either gap of an occupied home. `add_alone`: an unoccupied
-- home gets one word.
-- Assumes nothing.
use Prim.Native.Nat.{ℕ, suc, ◌+◌, ◌-◌, ◌≤◌, ◌<◌}
use Rattle.std.specs.Prelude.{◌≡◌, Bool, true, false, not, cond, ◌&&◌, ◌||◌, length, set, take, drop}
use Rattle.std.proofs.Math.Path.{refl, sym, ap}
use Rattle.std.proofs.Common.{◌∙◌, subst, true≢false, eq-eqb}
use mathlib.Core.List.{List, [], ◌∷◌, ◌++◌}
use native.Mathlib.Omega.{arith}
use Rattle.std.proofs.Math.Seq.{sets, length-slice}
use Rattle.rules.specs.declared.Shape.{Shape}
use Rattle.rules.specs.Lists.{bit_of, count, all, any}
use Rattle.rules.specs.Word.{Word, is_void, alone_word}
use Rattle.rules.specs.Shape.{places, remainders}
use Rattle.rules.specs.Entry.{Entry, same_home, precedes}
use Rattle.rules.specs.Table.{at, occupied_places, left_gap, right_gap, between, cluster, sound_run, virgin_places}
use Rattle.rules.specs.Table.{entries_between, cluster_entries, guards_void, locked}
use Rattle.rules.specs.Room.{place, room_for}
use Rattle.rules.specs.Lay.{holds, insert, has_home, ends_group, lay, smaller, mark_of}
use Rattle.rules.specs.Find.{around, sound_around, locked_around}
use Rattle.rules.specs.Put.{lay_run, enlarged_from, add_at}
use Rattle.table_words.specs.Counts.{count_le}
use Rattle.theory.specs.Run.{Run}
use Rattle.theory.specs.Dealt.{is_occupied, and_left, and_right, deal_length}
use Rattle.theory.specs.RunLaws.{sound_is_run}
use Rattle.theory.specs.Gaps.{Side, HomePlace, gap}
use Rattle.theory.specs.Gaps as gaps
use Rattle.theory.specs.Side.{beside, begins, stands}
use Rattle.theory.specs.Places.{occupied_at, gap_left, gap_entries}
use Rattle.theory.specs.Pairs.{unlocked_same}
use Rattle.theory.specs.Locks.{locked_append}
use Rattle.theory.specs.Adding.{or_parts}
use Rattle.theory.specs.Putting.{spliced, add_from}
use Rattle.theory.specs.Motion.{fill_at, finish}
use Rattle.theory.proofs.Region.{locks, length_locks}
use Rattle.theory.proofs.Insertion as insertion
use Rattle.theory.proofs.Insertion.{insertion}
use Rattle.theory.specs.Cut.{CutBeside, cut_beside, CutHome, cut, cut_closed, cut_home, end, from, up_to}

-- ---- between two given places

-- what the read step has found: a sound run between places l and r, e's home inside it, e not among its keys, and the
-- place to fill void, lock bit aside
pub record Readable (side : Side) (sh : Shape) (ws : List Word) (l r : ℕ) (e : Entry) : Type 0 where
  pub low : remainders sh ≤ 4096
  pub remainder : e.remainder < remainders sh
  pub after : l < e.home_place
  pub before : e.home_place < r
  pub inside : r < length ws
  pub taken : all is_occupied (between ws l r) ≡ true
  pub sound : sound_run sh (between ws l r) ≡ true
  pub void : is_void (at ws (end side l r)) ≡ true
  pub new : holds e (entries_between ws l r) ≡ false

-- the table with e filled in at that place and brought to its goal: one stretch is new, and is the run enlarged by e,
-- with the lock bits that stood there
pub record Brought (side : Side) (sh : Shape) (ws : List Word) (l r : ℕ) (e : Entry) : Type 0 where
  pub region : List Word
  pub words :
      finish
      (fill_at e.remainder ws (end side l r))
      (end side l r)
      (from side l + smaller e (entries_between ws l r))
      (mark_of e (entries_between ws l r))
      e.home_place
      ≡ take (from side l) ws ++ (region ++ drop (up_to side r) ws)
  pub enlarged : Run (remainders sh) (from side l) region (insert e (entries_between ws l r))
  pub locked : locks region ≡ locks (beside side (at ws (end side l r)) (between ws l r))

-- the insertion theorem, through the cut
pub brought :
    (side : Side) {sh : Shape} {ws : List Word} {l r : ℕ} {e : Entry} →
    Readable side sh ws l r e → Brought side sh ws l r e
unfolding entries_between
brought side {sh} {ws} {l} {r} {e} h =
    record {
      region = added.region;
      words =
          (λ j.
          finish
          (fill_at e.remainder (c.words j) (sym here j))
          (sym here j)
          (sym c.size j + smaller e es)
          (mark_of e es)
          e.home_place)
          ∙ added.words;
      enlarged = subst (λ (a : ℕ). Run (remainders sh) a added.region (insert e es)) c.size added.enlarged;
      locked = added.locked;
    }
  where
    c : CutBeside side ws l r
    c = cut_beside side ws l r (omega arith) h.inside

    run : List Word
    run = between ws l r

    es : List Entry
    es = entries_between ws l r

    begun : begins side (length (take (from side l) ws)) ≡ suc l
    begun = ap (begins side) c.size ∙ c.run

    here : stands side (length (take (from side l) ws)) (length run) ≡ end side l r
    here = ap (λ (a : ℕ). stands side a (length run)) c.size ∙ c.stands

    added :
        insertion.Added
        side
        (remainders sh)
        (take (from side l) ws)
        run
        (drop (up_to side r) ws)
        (at ws (end side l r))
        e
        es
    added =
        insertion
        side
        (take (from side l) ws)
        run
        (drop (up_to side r) ws)
        (at ws (end side l r))
        e
        es
        (record {
          void = h.void;
          low = h.low;
          laid =
              subst
              (λ (a : ℕ). Run (remainders sh) a run es)
              (sym begun)
              (sound_is_run sh (suc l) run h.low h.taken h.sound);
          remainder = h.remainder;
          after = omega (arith, begun, h.after);
          before = omega (arith, begun, h.before, (cut ws l r (omega arith) h.inside).inside);
          new = h.new;
        })

-- no more keys are smaller than there are
pub smaller_inside :
    (ws : List Word) (l r : ℕ) (e : Entry) → r ≤ length ws → smaller e (entries_between ws l r) ≤ r - suc l
unfolding smaller entries_between
smaller_inside ws l r e le =
    omega (
      arith,
      count_le (λ (f : Entry). precedes f e) (entries_between ws l r),
      deal_length (virgin_places (suc l) (between ws l r)) (between ws l r),
      length-slice (suc l) r ws le,
    )

-- a key that is larger than all of its group follows one of them
group_precedes :
    (e : Entry) (es : List Entry) →
    any (same_home e) es ≡ true →
    all (λ (f : Entry). not (same_home e f) || precedes f e) es ≡ true → 0 < smaller e es
unfolding any all smaller count
group_precedes e [] some larger = absurd (true≢false (sym some))
group_precedes e (f ∷ es) some larger = go (same_home e f) (precedes f e) some larger (group_precedes e es)
  where
    go :
        (b c : Bool) →
        (b || any (same_home e) es) ≡ true →
        ((not b || c) && all (λ (f : Entry). not (same_home e f) || precedes f e) es) ≡ true →
        (any (same_home e) es ≡ true →
        all (λ (f : Entry). not (same_home e f) || precedes f e) es ≡ true → 0 < smaller e es) →
        0 < bit_of c + smaller e es
    go true true some larger rest = omega arith
    go true false some larger rest = absurd (true≢false (sym larger))
    go false c some larger rest = omega (arith, rest some larger)

pub last_follows : (e : Entry) (es : List Entry) → mark_of e es ≡ 1 → 0 < smaller e es
unfolding mark_of
last_follows e es =
    go (any (same_home e) es) (all (λ (f : Entry). not (same_home e f) || precedes f e) es) (group_precedes e es)
  where
    go :
        (b c : Bool) →
        (b ≡ true → c ≡ true → 0 < smaller e es) → ◌≡◌ {A = ℕ} (cond b (cond c 1 0) 2) 1 → 0 < smaller e es
    go true true follows one = follows refl refl
    go true false follows one = absurd (omega arith)
    go false c follows one = absurd (omega arith)

-- ---- put

-- what put has found where it goes on to add e: sound and unlocked surroundings, and e not among their keys
pub record Addable (sh : Shape) (ws : List Word) (e : Entry) : Type 0 where
  pub low : remainders sh ≤ 4096
  pub remainder : e.remainder < remainders sh
  pub home_place : HomePlace sh e.home_place
  pub size : length ws ≡ places sh
  pub sound : sound_around sh ws e.home_place ≡ true
  pub free : locked_around ws e.home_place ≡ false
  pub new : holds e (cluster_entries ws e.home_place) ≡ false

-- the parts of sound surroundings
pub record SoundAround (sh : Shape) (ws : List Word) (h : ℕ) : Type 0 where
  pub guards : guards_void sh ws ≡ true
  pub left : is_void (at ws (left_gap (occupied_places ws) h)) ≡ true
  pub right : is_void (at ws (right_gap (occupied_places ws) h)) ≡ true
  pub run : sound_run sh (cluster ws h) ≡ true

pub sound_around_lem : (sh : Shape) (ws : List Word) (h : ℕ) → sound_around sh ws h ≡ true → SoundAround sh ws h
unfolding sound_around
sound_around_lem sh ws h sound =
    let words = and_left (guards_void sh ws && _) (sound_run sh (cluster ws h)) sound in
    let ends = and_right (guards_void sh ws) _ words in
    record {
      guards = and_left (guards_void sh ws) _ words;
      left = and_left (is_void (at ws (left_gap (occupied_places ws) h))) _ ends;
      right = and_right (is_void (at ws (left_gap (occupied_places ws) h))) _ ends;
      run = and_right (guards_void sh ws && _) (sound_run sh (cluster ws h)) sound;
    }

locked_locks : (ws : List Word) → locked ws ≡ any (λ (b : Bool). b) (locks ws)
unfolding locked any
locked_locks [] = refl
locked_locks (w ∷ ws) = ap (λ (b : Bool). w.lock || b) (locked_locks ws)

-- of an unlocked run with a word at each end, the run with one of the two is unlocked
unlocked_beside :
    (side : Side) (ws run : List Word) (l r : ℕ) →
    locked (at ws l ∷ (run ++ (at ws r ∷ []))) ≡ false → locked (beside side (at ws (end side l r)) run) ≡ false
unlocked_beside gaps.left ws run l r free =
    (or_parts (locked (at ws l ∷ run)) _ (sym (locked_append (at ws l ∷ run) (at ws r ∷ [])) ∙ free)).0
unlocked_beside gaps.right ws run l r free =
    (or_parts (locked (at ws l ∷ [])) _ (sym (locked_append (at ws l ∷ []) (run ++ (at ws r ∷ []))) ∙ free)).1

-- an entry laid alone at its home
lay_alone : (e : Entry) → lay_run e.home_place (insert e []) ≡ alone_word e.remainder ∷ []
unfolding lay_run insert lay has_home any ends_group
lay_alone e =
    ap
    (λ (b : Bool).
    record { remainder = e.remainder; occupied = true; virgin = b || false; change = true; lock = false } ∷ [])
    (eq-eqb e.home_place e.home_place refl)

module _ {sh : Shape} {ws : List Word} {e : Entry} (a : Addable sh ws e) where
  look : SoundAround sh ws e.home_place
  look = sound_around_lem sh ws e.home_place a.sound

  module _ (full : (at ws e.home_place).occupied ≡ true) where
    abbrev l : ℕ
    l = left_gap (occupied_places ws) e.home_place

    abbrev r : ℕ
    r = right_gap (occupied_places ws) e.home_place

    apart : CutHome ws e.home_place
    apart = cut_home sh ws e.home_place a.size look.guards a.home_place full

    ordered : l < r
    ordered = omega (arith, apart.after, apart.before)

    end_void : (side : Side) → is_void (at ws (end side l r)) ≡ true
    end_void gaps.left = look.left
    end_void gaps.right = look.right

    -- the gaps are places as the read step finds them
    pub readable :
        (side : Side) →
        Readable side sh ws (left_gap (occupied_places ws) e.home_place) (right_gap (occupied_places ws) e.home_place) e
    unfolding cluster cluster_entries
    readable side =
        record {
          low = a.low;
          remainder = a.remainder;
          after = apart.after;
          before = apart.before;
          inside = apart.inside;
          taken = apart.taken;
          sound = look.run;
          void = end_void side;
          new = a.new;
        }

    unlocked : (side : Side) → locked (beside side (at ws (end side l r)) (between ws l r)) ≡ false
    unfolding around locked_around
    unlocked side =
        unlocked_beside
        side
        ws
        (between ws l r)
        l
        r
        (ap locked (sym (cut_closed ws l r ordered apart.inside)) ∙ a.free)

    pub begins_from : (side : Side) → enlarged_from ws e.home_place (end side l r) ≡ from side l
    unfolding enlarged_from
    begins_from gaps.left = omega arith
    begins_from gaps.right = omega (arith, ordered)

    pub add_end :
        (side : Side) →
        add_at ws e (end side l r)
        ≡ finish
        (fill_at e.remainder ws (end side l r))
        (end side l r)
        (enlarged_from ws e.home_place (end side l r) + smaller e (cluster_entries ws e.home_place))
        (mark_of e (cluster_entries ws e.home_place))
        e.home_place
    unfolding cluster_entries
    add_end side =
        add_from ws e p (from side l) es (begins_from side) refl
        ∙ ap (sets ws (from side l)) laid
        ∙ ap (λ (vs : List Word). sets vs (from side l) b.region) c.words
        ∙ spliced
        (take (from side l) ws)
        mid
        (drop (up_to side r) ws)
        b.region
        (from side l)
        (sym c.size)
        (length_locks b.region mid b.locked)
        ∙ sym b.words
        ∙ ap
        (λ (n : ℕ). finish (fill_at e.remainder ws p) p (n + smaller e es) (mark_of e es) e.home_place)
        (sym (begins_from side))
      where
        p : ℕ
        p = end side l r

        es : List Entry
        es = cluster_entries ws e.home_place

        mid : List Word
        mid = beside side (at ws p) (between ws l r)

        c : CutBeside side ws l r
        c = cut_beside side ws l r ordered apart.inside

        b : Brought side sh ws l r e
        b = brought side (readable side)

        laid : lay_run (from side l) (insert e es) ≡ b.region
        laid =
            b.enlarged.laid
            ∙ unlocked_same
            b.region
            (locked_locks b.region
            ∙ ap (any (λ (x : Bool). x)) b.locked
            ∙ sym (locked_locks mid)
            ∙ unlocked side)

    end_gap : (side : Side) → end side l r ≡ gap side (occupied_places ws) e.home_place
    end_gap gaps.left = refl
    end_gap gaps.right = refl

    -- at an occupied home: the fill at either gap, and finishing
    pub add_moves :
        (side : Side) →
        add_at ws e (gap side (occupied_places ws) e.home_place)
        ≡ finish
        (fill_at e.remainder ws (gap side (occupied_places ws) e.home_place))
        (gap side (occupied_places ws) e.home_place)
        (enlarged_from ws e.home_place (gap side (occupied_places ws) e.home_place)
        + smaller e (cluster_entries ws e.home_place))
        (mark_of e (cluster_entries ws e.home_place))
        e.home_place
    add_moves side = rw (end_gap side) at (add_end side)

  -- an unoccupied home is the place that the rule names, and gets one word
  module _ (empty : (at ws e.home_place).occupied ≡ false) where
    pub room_alone : room_for sh (occupied_places ws) e.home_place ≡ place e.home_place
    unfolding room_for
    room_alone = rw (occupied_at ws e.home_place, empty)

    pub add_alone : add_at ws e e.home_place ≡ set ws e.home_place (alone_word e.remainder)
    unfolding enlarged_from
    add_alone =
        add_from
        ws
        e
        e.home_place
        e.home_place
        []
        (omega (arith, gap_left ws e.home_place empty))
        (gap_entries ws e.home_place empty)
        ∙ ap (sets ws e.home_place) (lay_alone e)
