-- What holds of every world that a course reaches: `Fair`. It begins so (`fair_begin`), and each action keeps it
-- (`fair_act`).
-- Assumes nothing.
use Rattle.std.specs.Prelude.{ℕ, zero, suc, ◌+◌, ◌*◌, ◌≤◌, ◌<◌, ◌≡◌, refl, ◌⊎◌, ◌≢◌, Bool, true, false, cond, ◌&&◌, ◌||◌, List, [], ◌∷◌, ◌++◌, length, get_or, set, eqb, leb, ltb}
use Rattle.std.proofs.Common.{sym, ap₂, ◌∙◌, subst, inl, inr, true≢false, arith, zero-add, length-set, eqb-true, eq-eqb, ne_eqb, le-leb, lt-ltb, ltb-true, ltb-false}
use Rattle.std.proofs.Math.Path.{ap}
use Rattle.std.proofs.Math.Bool.{or-false}
use Rattle.std.proofs.lemmas.Bool.{false≢true, eqb-false}
use Rattle.std.proofs.lemmas.List.{set-get_or}
use Rattle.rules.specs.declared.Shape.{Shape}
use Rattle.rules.specs.declared.Task.{Task}
use Rattle.rules.specs.Lists.{bit_of, count, all, any}
use Rattle.rules.specs.Word.{Word}
use Rattle.rules.specs.Bytes.{words_of, bytes_of}
use Rattle.rules.specs.Shape.{in_range, remainders, keys, places, good_table, fits_length}
use Rattle.rules.specs.Entry.{Entry, split, same_entry}
use Rattle.rules.specs.Table.{at, occupied_places, entries, locked}
use Rattle.rules.specs.Lay.{holds, insert}
use Rattle.rules.specs.Build.{puts}
use Rattle.rules.specs.Answer.{Answer, says, refuses, Leaves, leaves}
use Rattle.rules.specs.Record.{busy, at_rest, fits_busy, fits, no_task, task_at, good_task}
use Rattle.rules.specs.Give.{given, give_to, give}
use Rattle.rules.specs.Step.{Lent, refused, step_of, lent_after, step}
use Rattle.table_words.specs.Range.{good_table_lem, remainders_high}
use Rattle.table_words.specs.Layout.{bytes_length, words_of_bytes, remainders_small}
use Rattle.table_words.specs.Tests.{eqb_sym}
use Rattle.theory.specs.Record.{rest_phase, works_phase}
use Rattle.theory.specs.Every as every
use Rattle.theory.specs.Every.{All}
use Rattle.theory.specs.Insert.{same_eq, holds_insert, or_swap}
use Rattle.theory.specs.Adding.{or_parts}
use Rattle.theory.specs.Dealt.{and_left, and_right, and_both, or_left, or_right}
use Rattle.theory.specs.Keys.{listed}
use Rattle.theory.specs.Gaps.{AllTaken, full_room}
use Rattle.theory.specs.Putting.{table_guarded}
use Rattle.theory.specs.Building.{State, after_put, Roomy, Inside, put_not_full, in_home}
use Rattle.demands.specs.Terms.{PlainTable, InKeys, entries_of}
use Rattle.demands.specs.Tables.{state_of, bytes_small}
use Rattle.demands.specs.Proof2.{same_split}
use Rattle.demands.specs.Proof3.{listed_split}
use Rattle.together.specs.Invariant.{Owns, by_left, by_right, Reserves, Unfinished, Inv, InPhase, rests}
use Rattle.together.specs.Invariant.{at_home, looks_left, looks_right, owns_left, owns_both, has_read, moving}
use Rattle.together.specs.Invariant.{marking, frees_left, frees_right}
use Rattle.together.specs.Update.{inv_update, task_same, task_other, same_or_not}
use Rattle.together.specs.Facts.{words_size}
use Rattle.together.specs.Fitting.{stage_fits}
use Rattle.together.specs.Quiet.{still}
use Rattle.together.specs.Walk.{Walked, Effect, keeps, commits, weight, Answered, says_full, says_shown}
use Rattle.together.specs.Course.{walk}
use Rattle.together.specs.Commit.{held_still, plain_unlocked}
use Rattle.together.specs.Machine.{Action, gives, steps, Said, World, begin, after_give, after_step, act, course}
use Rattle.together.specs.Machine.{times_given, times_said, times_inserted}
use Rattle.together.specs.History.{times_loaded, times_busy, heard, tally_step, answers_step, give_tally}
use Rattle.together.specs.History.{quiet_counts}

-- an answer: full, or found or inserted with its key shown
pub data Means (sh : Shape) (shown : List Entry) (s : Said) : Type 0 where
  means_full : s.answer ≡ 3 → Means sh shown s
  means_shown : (s.answer ≡ 1) ⊎ (s.answer ≡ 2) → holds (split sh s.key) shown ≡ true → Means sh shown s

-- room, for the starting keys and those given, in a table of the shape
pub record Spacious (sh : Shape) (start given : List ℕ) (us : List Entry) : Type 0 where
  pub room : Roomy sh us
  pub starts : Inside (entries (words_of start)) us
  pub gives : Inside (entries_of sh given) us

-- no answer full, said or about to be
pub record NoneFull (ts : List Task) (said : List Said) : Type 0 where
  pub of_busy : (i : ℕ) → i < length ts → 1 ≤ (task_at ts i).phase → (task_at ts i).phase ≤ 12 → (task_at ts i).answer ≢ 3
  pub of_said : All (λ (s : Said). s.answer ≢ 3) said

pub record Fair (sh : Shape) (start : List ℕ) (w : World) : Type 0 where
  pub good : good_table sh (length w.table) ≡ true
  pub small : (i : ℕ) → get_or w.table i 0 < 256
  pub few : length w.tasks ≤ 16
  pub laid : List Word
  pub shown : List Entry
  pub inv : Inv sh (words_of w.table) w.tasks laid shown
  -- the keys put so far, in order: the table laid is the starting one with these put, and shows no others beside the
  -- starting ones
  pub put : List Entry
  pub chain : laid ≡ puts sh (words_of start) put
  pub shown_is : (x : Entry) → holds x shown ≡ (holds x (entries (words_of start)) || holds x put)
  pub put_new : (x : Entry) → holds x put ≡ true → holds x (entries (words_of start)) ≡ false
  pub put_given : (x : Entry) → holds x put ≡ true → holds x (entries_of sh w.given) ≡ true
  -- a key is shown once: as a starting key, as an inserted one, or as one that a task has put and not yet said
  pub tally :
      (key : ℕ) →
      bit_of (holds (split sh key) (entries (words_of start))) + times_inserted key w.said
      + times_loaded key w.tasks
      ≡ bit_of (holds (split sh key) shown)
  -- each accepted give is answered, or its task is busy
  pub answers : (key : ℕ) → times_given key w.given ≡ times_said key w.said + times_busy key w.tasks
  pub task_given :
      (i : ℕ) →
      i < length w.tasks →
      1 ≤ (task_at w.tasks i).phase → (task_at w.tasks i).phase ≤ 12 →
      listed (task_at w.tasks i).key w.given ≡ true
  pub in_keys : InKeys sh w.given
  pub meaning : All (Means sh shown) w.said
  pub none_full : (us : List Entry) → Spacious sh start w.given us → NoneFull w.tasks w.said

-- ---- the beginning
unlocked_at : (ws : List Word) (p : ℕ) → locked ws ≡ false → (at ws p).lock ≡ false
unfolding locked any
unlocked_at [] p free = refl
unlocked_at (w ∷ ws) zero free = go w.lock free
  where
    go : (b : Bool) → (b || locked ws) ≡ false → b ≡ false
    go true h = h
    go false h = refl
unlocked_at (w ∷ ws) (suc p) free = unlocked_at ws p (go w.lock free)
  where
    go : (b : Bool) → (b || locked ws) ≡ false → locked ws ≡ false
    go true h = absurd (true≢false h)
    go false h = h

pub rest_at :
    (ts : List Task) (i : ℕ) → i < length ts → all at_rest ts ≡ true →
    ((task_at ts i).phase ≡ 0) ⊎ ((task_at ts i).phase ≡ 13)
unfolding all
rest_at [] i lt h = absurd (omega arith)
rest_at (t ∷ ts) zero lt h = rest_phase t (and_left (at_rest t) _ h)
rest_at (t ∷ ts) (suc i) lt h = rest_at ts i (omega arith) (and_right (at_rest t) _ h)

pub rest_owns : (t : Task) (p : ℕ) → (t.phase ≡ 0) ⊎ (t.phase ≡ 13) → Owns t p → ⊥
rest_owns t p (inl e) (by_left a b c) = omega arith
rest_owns t p (inr e) (by_left a b c) = omega arith
rest_owns t p (inl e) (by_right a b c) = omega arith
rest_owns t p (inr e) (by_right a b c) = omega arith

rest_reserves : (t : Task) → (t.phase ≡ 0) ⊎ (t.phase ≡ 13) → Reserves t → ⊥
rest_reserves t (inl e) r = omega (arith, r.from_7)
rest_reserves t (inr e) r = omega (arith, r.to_10)

inv_begin :
    {sh : Shape} {ws : List Word} {shown : List Entry} (ts : List Task) →
    State sh ws shown → ((p : ℕ) → (at ws p).remainder < 4096) → all at_rest ts ≡ true → Inv sh ws ts ws shown
inv_begin {sh} {ws} ts s small rest =
    record {
      plain = s;
      places = refl;
      small = small;
      stage = λ i lt. rests (rest_at ts i lt rest);
      apart = λ i j l k n.
          record {
            owners = λ p x y. rest_owns (task_at ts i) p (rest_at ts i l rest) x;
            stretches = λ x y p a b. rest_reserves (task_at ts i) (rest_at ts i l rest) x;
          };
      owner = λ p is_locked. absurd (true≢false (sym is_locked ∙ unlocked_at ws p s.free));
      settled = λ p none. plain_unlocked p s;
    }

pub fair_begin :
    {sh : Shape} {bytes : List ℕ} (ts : List Task) →
    PlainTable sh bytes → length ts ≤ 16 → all at_rest ts ≡ true → Fair sh bytes (begin bytes ts)
unfolding puts times_inserted times_said times_given count all holds any
fair_begin {sh} {bytes} ts t few rest =
    record {
      good = t.whole.good;
      small = t.whole.small;
      few = few;
      laid = words_of bytes;
      shown = entries (words_of bytes);
      inv = inv_begin ts (state_of t) (remainders_small bytes) rest;
      put = [];
      chain = refl;
      shown_is = λ x. sym (or-false (holds x (entries (words_of bytes))));
      put_new = λ x h. absurd (false≢true h);
      put_given = λ x h. absurd (false≢true h);
      tally = λ key. omega (arith, (quiet_counts key ts rest).0);
      answers = λ key. omega (arith, (quiet_counts key ts rest).1);
      task_given = λ i lt a b. absurd (never i (rest_at ts i lt rest) a b);
      in_keys = refl;
      meaning = every.none;
      none_full = λ us space.
          record {
            of_busy = λ i lt a b full. never i (rest_at ts i lt rest) a b;
            of_said = every.none;
          };
    }
  where
    never :
        (i : ℕ) → ((task_at ts i).phase ≡ 0) ⊎ ((task_at ts i).phase ≡ 13) → 1 ≤ (task_at ts i).phase →
        (task_at ts i).phase ≤ 12 → ⊥
    never i (inl e) a b = omega arith
    never i (inr e) a b = omega arith

-- ---- a give
-- who is not busy, under the invariant, is at rest
stage_rest :
    {sh : Shape} {ws laid : List Word} {shown : List Entry} (t : Task) →
    length laid ≡ places sh → InPhase sh ws laid shown t → busy t ≡ false → (t.phase ≡ 0) ⊎ (t.phase ≡ 13)
unfolding fits
stage_rest {sh} {ws} {laid} {shown} t size s idle = go (at_rest t) refl (stage_fits {ws = ws} {shown = shown} size t s)
  where
    go : (b : Bool) → at_rest t ≡ b → fits sh t ≡ true → (t.phase ≡ 0) ⊎ (t.phase ≡ 13)
    go true e h = rest_phase t e
    go false e h = absurd (false≢true (sym (ap₂ (λ (a b : Bool). a || (b && fits_busy sh t)) e idle) ∙ h))

-- the record of an accepted give
inv_give :
    {sh : Shape} {ws : List Word} {ts : List Task} {laid : List Word} {shown : List Entry} (i key : ℕ) →
    remainders sh ≤ 4096 →
    i < length ts →
    key < keys sh →
    ((task_at ts i).phase ≡ 0) ⊎ ((task_at ts i).phase ≡ 13) →
    Inv sh ws ts laid shown → Inv sh ws (set ts i (given key)) laid shown
unfolding given
inv_give {sh} {ws} {ts} {laid} {shown} i key low lt small rest inv =
    inv_update
    i
    lt
    inv
    (still
    i
    (given key)
    low
    inv
    (at_home refl small)
    (λ p o. absurd (rest_owns (task_at ts i) p rest o))
    (λ p o. absurd (no_hands p o))
    (λ (r : Reserves (given key)). absurd (omega (arith, r.from_7)))
    (λ p u. absurd (unmoved p rest u)))
  where
    no_hands : (p : ℕ) → Owns (given key) p → ⊥
    no_hands p (by_left a b c) = omega arith
    no_hands p (by_right a b c) = omega arith

    unmoved : (p : ℕ) → ((task_at ts i).phase ≡ 0) ⊎ ((task_at ts i).phase ≡ 13) → Unfinished (task_at ts i) p → ⊥
    unmoved p (inl e) u = omega (arith, u.from_9)
    unmoved p (inr e) u = omega (arith, u.to_10)

-- what changes when a key is given: the record, and the history by one key
given_world : World → ℕ → ℕ → World
given_world w i key =
    record {
      table = w.table;
      tasks = set w.tasks i (given key);
      given = key ∷ w.given;
      said = w.said;
    }

fair_given :
    {sh : Shape} {start : List ℕ} {w : World} (i key : ℕ) →
    Fair sh start w →
    i < length w.tasks →
    key < keys sh → busy (task_at w.tasks i) ≡ false → Fair sh start (given_world w i key)
unfolding given_world given times_given count all holds any listed
fair_given {sh} {start} {w} i key f lt small idle =
    record {
      good = f.good;
      small = f.small;
      few = omega (arith, length-set w.tasks i (given key), f.few);
      laid = f.laid;
      shown = f.shown;
      inv = inv_give i key low lt small rest f.inv;
      put = f.put;
      chain = f.chain;
      shown_is = f.shown_is;
      put_new = f.put_new;
      put_given = λ x h. or_right (same_entry x (split sh key)) _ (f.put_given x h);
      tally = λ k. omega (arith, f.tally k, (give_tally k w.tasks i (given key) lt rest refl).0);
      answers = λ k.
          omega (arith, f.answers k, (give_tally k w.tasks i (given key) lt rest refl).1, ap bit_of (eqb_sym k key));
      task_given = λ j l a b. or_else j l a b (same_or_not i j);
      in_keys = and_both _ _ (lt-ltb key (keys sh) small) f.in_keys;
      meaning = f.meaning;
      none_full = λ us space.
          let before = f.none_full us (sooner us space) in
          record {
            of_busy = λ j l a b. unfilled before j l a b (same_or_not i j);
            of_said = before.of_said;
          };
    }
  where
    low : remainders sh ≤ 4096
    low = remainders_high sh (good_table_lem sh (length w.table) f.good).0

    rest : ((task_at w.tasks i).phase ≡ 0) ⊎ ((task_at w.tasks i).phase ≡ 13)
    rest = stage_rest (task_at w.tasks i) f.inv.plain.size (f.inv.stage i lt) idle

    sooner : (us : List Entry) → Spacious sh start (key ∷ w.given) us → Spacious sh start w.given us
    sooner us space =
        record {
          room = space.room;
          starts = space.starts;
          gives = λ x h. space.gives x (or_right (same_entry x (split sh key)) _ h);
        }

    unfilled :
        NoneFull w.tasks w.said →
        (j : ℕ) →
        j < length (set w.tasks i (given key)) →
        1 ≤ (task_at (set w.tasks i (given key)) j).phase →
        (task_at (set w.tasks i (given key)) j).phase ≤ 12 →
        (j ≡ i) ⊎ (j ≢ i) → (task_at (set w.tasks i (given key)) j).answer ≢ 3
    unfilled before j l a b (inl e) full =
        let no_answer : ◌≡◌ {A = ℕ} 0 3 =
        sym
        (ap (λ (k : ℕ). (task_at (set w.tasks i (given key)) k).answer) e
        ∙ ap (λ (t : Task). t.answer) (task_same w.tasks i (given key) lt))
        ∙ full in
        omega (arith, no_answer)
    unfilled before j l a b (inr n) full =
        let same = task_other w.tasks i j (given key) n in
        before.of_busy
        j
        (omega (arith, length-set w.tasks i (given key)))
        (subst (λ (t : Task). 1 ≤ t.phase) same a)
        (subst (λ (t : Task). t.phase ≤ 12) same b)
        (sym (ap (λ (t : Task). t.answer) same) ∙ full)

    or_else :
        (j : ℕ) →
        j < length (set w.tasks i (given key)) →
        1 ≤ (task_at (set w.tasks i (given key)) j).phase →
        (task_at (set w.tasks i (given key)) j).phase ≤ 12 →
        (j ≡ i) ⊎ (j ≢ i) →
        (eqb (task_at (set w.tasks i (given key)) j).key key
        || listed (task_at (set w.tasks i (given key)) j).key w.given)
        ≡ true
    or_else j l a b (inl e) =
        or_left
        _
        _
        (eq-eqb
        (task_at (set w.tasks i (given key)) j).key
        key
        (ap (λ (k : ℕ). (task_at (set w.tasks i (given key)) k).key) e
        ∙ ap (λ (t : Task). t.key) (task_same w.tasks i (given key) lt)))
    or_else j l a b (inr n) =
        let same = task_other w.tasks i j (given key) n in
        or_right
        (eqb (task_at (set w.tasks i (given key)) j).key key)
        _
        (ap (λ (t : Task). listed t.key w.given) same
        ∙ f.task_given
        j
        (omega (arith, length-set w.tasks i (given key)))
        (subst (λ (t : Task). 1 ≤ t.phase) same a)
        (subst (λ (t : Task). t.phase ≤ 12) same b))

good_range : (sh : Shape) (n : ℕ) → good_table sh n ≡ true → in_range sh ≡ true
unfolding good_table
good_range sh n h = and_left (in_range sh) _ h

-- give, accepted or refused
pub fair_give :
    {sh : Shape} {start : List ℕ} {w : World} (i key : ℕ) → Fair sh start w → Fair sh start (act sh w (gives i key))
unfolding act give good_task give_to given_world
fair_give {sh} {start} {w} i key f =
    go (ltb key (keys sh)) (ltb i (length w.tasks)) (busy (task_at w.tasks i)) refl refl refl
  where
    range : in_range sh ≡ true
    range = good_range sh (length w.table) f.good

    sixteen : leb (length w.tasks) 16 ≡ true
    sixteen = le-leb (length w.tasks) 16 f.few

    by_answer :
        {x : Leaves (List Task)} → give sh key w.tasks i ≡ x → Fair sh start (after_give w key x) →
        Fair sh start (act sh w (gives i key))
    by_answer e g = subst (λ (x : Leaves (List Task)). Fair sh start (after_give w key x)) (sym e) g

    go :
        (a b c : Bool) →
        ltb key (keys sh) ≡ a →
        ltb i (length w.tasks) ≡ b → busy (task_at w.tasks i) ≡ c → Fair sh start (act sh w (gives i key))
    go false b c x y z = by_answer {x = leaves (refuses 2) w.tasks} (rw (range, x)) f
    go true false c x y z = by_answer {x = leaves (refuses 3) w.tasks} (rw (range, x, sixteen, y)) f
    go true true true x y z =
        by_answer
        {x = leaves (refuses 4) w.tasks}
        (rw (range, x, sixteen, y, z) (ap (leaves (refuses 4)) (set-get_or w.tasks i no_task)))
        f
    go true true false x y z =
        by_answer
        {x = leaves (says 0) (set w.tasks i (given key))}
        (rw (range, x, sixteen, y, z))
        (fair_given i key f (ltb-true i (length w.tasks) y) (ltb-true key (keys sh) x) z)

-- ---- a step
puts_snoc :
    (sh : Shape) (ws : List Word) (es : List Entry) (e : Entry) →
    puts sh ws (es ++ (e ∷ [])) ≡ after_put sh (puts sh ws es) e
unfolding puts
puts_snoc sh ws [] e = refl
puts_snoc sh ws (f ∷ es) e = puts_snoc sh (after_put sh ws f) es e

holds_last : (x e : Entry) (es : List Entry) → holds x (es ++ (e ∷ [])) ≡ (same_entry x e || holds x es)
unfolding holds any
holds_last x e [] = refl
holds_last x e (f ∷ es) =
    ap (λ (b : Bool). same_entry x f || b) (holds_last x e es) ∙ or_swap (same_entry x f) (same_entry x e) (holds x es)

-- what a step leaves of the keys put and of the tally
record After (sh : Shape) (start : List ℕ) (w : World) (i : ℕ) (t' : Task) (shown : List Entry) (laid' : List Word)
    (shown' : List Entry) : Type 0 where
  put : List Entry
  chain : laid' ≡ puts sh (words_of start) put
  shown_is : (x : Entry) → holds x shown' ≡ (holds x (entries (words_of start)) || holds x put)
  put_new : (x : Entry) → holds x put ≡ true → holds x (entries (words_of start)) ≡ false
  put_given : (x : Entry) → holds x put ≡ true → holds x (entries_of sh w.given) ≡ true
  tally :
      (key : ℕ) →
      bit_of (holds (split sh key) (entries (words_of start))) + times_inserted key (heard t' w.said)
      + times_loaded key (set w.tasks i t')
      ≡ bit_of (holds (split sh key) shown')
  grows : (x : Entry) → holds x shown ≡ true → holds x shown' ≡ true

module _ {sh : Shape} {start : List ℕ} {w : World} (f : Fair sh start w) (i : ℕ) (lt : i < length w.tasks)
    (first : 1 ≤ (task_at w.tasks i).phase) (last : (task_at w.tasks i).phase ≤ 12) (t' : Task)
    (after : t'.phase ≤ 13) (same : t'.key ≡ (task_at w.tasks i).key)
  where
    abbrev t : Task
    t = task_at w.tasks i

    abbrev e : Entry
    e = split sh t.key

    quiet_after : weight t' ≡ weight t → After sh start w i t' f.shown f.laid f.shown
    quiet_after even =
        record {
          put = f.put;
          chain = f.chain;
          shown_is = f.shown_is;
          put_new = f.put_new;
          put_given = f.put_given;
          tally = λ key.
              omega (
                arith,
                f.tally key,
                tally_step key w.tasks i t' w.said lt last after same,
                ap (λ (n : ℕ). cond (eqb t.key key) n 0) even,
              );
          grows = λ x h. h;
        }

    commit_after :
        holds e f.shown ≡ false →
        weight t ≡ 0 →
        weight t' ≡ 1 →
        After sh start w i t' f.shown (after_put sh f.laid e) (insert e f.shown)
    commit_after new light heavy =
        record {
          put = f.put ++ (e ∷ []);
          chain =
              ap (λ (vs : List Word). after_put sh vs e) f.chain
              ∙ sym (puts_snoc sh (words_of start) f.put e);
          shown_is = λ x.
              holds_insert x e f.shown
              ∙ ap (λ (b : Bool). same_entry x e || b) (f.shown_is x)
              ∙ or_swap (same_entry x e) (holds x (entries (words_of start))) (holds x f.put)
              ∙ ap (λ (b : Bool). holds x (entries (words_of start)) || b) (sym (holds_last x e f.put));
          put_new = λ x h. fresh x (same_entry x e) refl (sym (holds_last x e f.put) ∙ h);
          put_given = λ x h. known x (same_entry x e) refl (sym (holds_last x e f.put) ∙ h);
          tally = λ key.
              omega (
                arith,
                f.tally key,
                tally_step key w.tasks i t' w.said lt last after same,
                weighed key,
                one_more key,
              );
          grows = λ x h. held_still e x f.shown h;
        }
      where
        start_new : holds e (entries (words_of start)) ≡ false
        start_new = (or_parts (holds e (entries (words_of start))) (holds e f.put) (sym (f.shown_is e) ∙ new)).0

        fresh :
            (x : Entry) (b : Bool) → same_entry x e ≡ b → (b || holds x f.put) ≡ true →
            holds x (entries (words_of start)) ≡ false
        fresh x true k h = ap (λ (y : Entry). holds y (entries (words_of start))) (same_eq x e k) ∙ start_new
        fresh x false k h = f.put_new x h

        known :
            (x : Entry) (b : Bool) → same_entry x e ≡ b → (b || holds x f.put) ≡ true →
            holds x (entries_of sh w.given) ≡ true
        known x true k h =
            ap (λ (y : Entry). holds y (entries_of sh w.given)) (same_eq x e k)
            ∙ sym (listed_split sh t.key w.given)
            ∙ f.task_given i lt first last
        known x false k h = f.put_given x h

        weighed :
            (key : ℕ) →
            cond (eqb t.key key) (weight t) 0 + bit_of (eqb t.key key) ≡ cond (eqb t.key key) (weight t') 0
        weighed key = go (eqb t.key key)
          where
            go : (b : Bool) → cond b (weight t) 0 + bit_of b ≡ cond b (weight t') 0
            go true = omega arith
            go false = omega arith

        one_more :
            (key : ℕ) →
            bit_of (holds (split sh key) (insert e f.shown))
            ≡ bit_of (eqb t.key key) + bit_of (holds (split sh key) f.shown)
        one_more key =
            ap bit_of (holds_insert (split sh key) e f.shown)
            ∙ go (same_entry (split sh key) e) refl
          where
            go :
                (b : Bool) →
                same_entry (split sh key) e ≡ b →
                bit_of (same_entry (split sh key) e || holds (split sh key) f.shown)
                ≡ bit_of (eqb t.key key) + bit_of (holds (split sh key) f.shown)
            go true k =
                let here = eqb-true key t.key (sym (same_split sh key t.key) ∙ k) in
                ap (λ (b : Bool). bit_of (b || holds (split sh key) f.shown)) k
                ∙ sym
                (ap₂
                (λ (a b : Bool). bit_of a + bit_of b)
                (eq-eqb t.key key (sym here))
                (ap (λ (y : Entry). holds y f.shown) (same_eq (split sh key) e k) ∙ new))
            go false k =
                let apart = eqb-false key t.key (sym (same_split sh key t.key) ∙ k) in
                ap (λ (b : Bool). bit_of (b || holds (split sh key) f.shown)) k
                ∙ sym
                (ap
                (λ (a : Bool). bit_of a + bit_of (holds (split sh key) f.shown))
                (ne_eqb t.key key (λ z. apart (sym z)))
                ∙ zero-add (bit_of (holds (split sh key) f.shown)))

-- ---- the world after a step
abbrev stepped_world : World → ℕ → Task → List Word → World
stepped_world w i t ws =
    record { table = bytes_of ws; tasks = set w.tasks i t; given = w.given; said = heard t w.said }

stage_last :
    {sh : Shape} {ws laid : List Word} {shown : List Entry} (t : Task) → InPhase sh ws laid shown t → t.phase ≤ 13
stage_last t (rests (inl e)) = omega arith
stage_last t (rests (inr e)) = omega arith
stage_last t (at_home p k) = omega arith
stage_last t (looks_left p k x) = omega arith
stage_last t (looks_right p q k x) = omega arith
stage_last t (owns_left p q k x e) = omega arith
stage_last t (owns_both p k x e f) = omega arith
stage_last t (has_read p k x e f y) = omega arith
stage_last t (moving p k x n y) = omega arith
stage_last t (marking p k x n y) = omega arith
stage_last t (frees_left p k x y) = omega arith
stage_last t (frees_right p k x y) = omega arith

module _ {sh : Shape} {start : List ℕ} {w : World} (f : Fair sh start w) (i : ℕ) (lt : i < length w.tasks)
    (first : 1 ≤ (task_at w.tasks i).phase) (last : (task_at w.tasks i).phase ≤ 12)
    (k : Walked sh (words_of w.table) w.tasks f.laid f.shown i)
  where
    at_last : k.next.phase ≤ 13
    at_last = stage_last k.next k.shows.stage

    left_of : After sh start w i k.next f.shown k.laid_after k.shown_after
    left_of = go k.effect
      where
        go :
            {laid' : List Word} {shown' : List Entry} →
            Effect sh (task_at w.tasks i) k.next f.laid f.shown laid' shown' →
            After sh start w i k.next f.shown laid' shown'
        go (keeps even) = quiet_after f i lt first last k.next at_last k.same_key even
        go (commits new light heavy) = commit_after f i lt first last k.next at_last k.same_key new light heavy

    back : words_of (bytes_of k.words) ≡ k.words
    back = words_of_bytes k.words k.shows.small

    inv_after :
        Inv sh (words_of (bytes_of k.words)) (set w.tasks i k.next) k.laid_after k.shown_after
    inv_after =
        subst
        (λ (ws : List Word). Inv sh ws (set w.tasks i k.next) k.laid_after k.shown_after)
        (sym back)
        (inv_update i lt f.inv k.shows)

    good_after : good_table sh (length (bytes_of k.words)) ≡ true
    unfolding good_table fits_length
    good_after =
        and_both
        _
        _
        (good_range sh (length w.table) f.good)
        (eq-eqb
        _
        _
        (bytes_length k.words
        ∙ ap
        (λ (n : ℕ). 2 * n)
        (words_size
        (remainders_high sh (good_table_lem sh (length w.table) f.good).0)
        (inv_update i lt f.inv k.shows))))

    -- the stepped record's key, and every other's, was given
    still_given :
        (j : ℕ) →
        j < length (set w.tasks i k.next) →
        1 ≤ (task_at (set w.tasks i k.next) j).phase →
        (task_at (set w.tasks i k.next) j).phase ≤ 12 →
        (j ≡ i) ⊎ (j ≢ i) → listed (task_at (set w.tasks i k.next) j).key w.given ≡ true
    still_given j l a b (inl e) =
        ap
        (λ (key : ℕ). listed key w.given)
        (ap (λ (n : ℕ). (task_at (set w.tasks i k.next) n).key) e
        ∙ ap (λ (t : Task). t.key) (task_same w.tasks i k.next lt)
        ∙ k.same_key)
        ∙ f.task_given i lt first last
    still_given j l a b (inr n) =
        let same = task_other w.tasks i j k.next n in
        ap (λ (t : Task). listed t.key w.given) same
        ∙ f.task_given
        j
        (omega (arith, length-set w.tasks i k.next))
        (subst (λ (t : Task). 1 ≤ t.phase) same a)
        (subst (λ (t : Task). t.phase ≤ 12) same b)

    -- answers said before mean what they meant; a new one what it should
    meaning_after : All (Means sh k.shown_after) (heard k.next w.said)
    meaning_after = go (eqb k.next.phase 13) refl
      where
        older : All (Means sh k.shown_after) w.said
        older = every.all_map later f.meaning
          where
            later : (s : Said) → Means sh f.shown s → Means sh k.shown_after s
            later s (means_full e) = means_full e
            later s (means_shown e h) = means_shown e (left_of.grows (split sh s.key) h)

        meant :
            Answered sh k.shown_after k.next →
            Means sh k.shown_after (record { key = k.next.key; answer = k.next.answer })
        meant (says_full e) = means_full e
        meant (says_shown e h) = means_shown e h

        go :
            (b : Bool) →
            eqb k.next.phase 13 ≡ b →
            All
            (Means sh k.shown_after)
            (cond b (record { key = k.next.key; answer = k.next.answer } ∷ w.said) w.said)
        go true e = every.both (meant (k.ends (eqb-true k.next.phase 13 e))) older
        go false e = older

    -- with room for all keys nobody says full
    not_full : (us : List Entry) → Spacious sh start w.given us → k.next.answer ≢ 3
    not_full us space full = go (k.full full)
      where
        e : Entry
        e = split sh (task_at w.tasks i).key

        here : holds e us ≡ true
        here =
            space.gives
            e
            (sym (listed_split sh (task_at w.tasks i).key w.given) ∙ f.task_given i lt first last)

        inside : Inside f.shown us
        inside x h = either (holds x (entries (words_of start))) refl (sym (f.shown_is x) ∙ h)
          where
            either :
                (b : Bool) → holds x (entries (words_of start)) ≡ b → (b || holds x f.put) ≡ true →
                holds x us ≡ true
            either true y z = space.starts x y
            either false y z = space.gives x (f.put_given x z)

        go :
            ((task_at w.tasks i).answer ≡ 3)
            ⊎ (AllTaken sh (occupied_places f.laid)
            × (holds (split sh (task_at w.tasks i).key) f.shown ≡ false)) →
            ⊥
        go (inl before) = (f.none_full us space).of_busy i lt first last before
        go (inr (every, new)) =
            put_not_full
            e
            space.room
            f.inv.plain
            inside
            here
            new
            (full_room
            (table_guarded sh f.inv.plain.size f.inv.plain.table)
            (in_home e space.room here)
            every)

    none_full_after :
        (us : List Entry) → Spacious sh start w.given us →
        NoneFull (set w.tasks i k.next) (heard k.next w.said)
    none_full_after us space =
        record {
          of_busy = λ j l a b. others j l a b (same_or_not i j);
          of_said = go (eqb k.next.phase 13);
        }
      where
        before : NoneFull w.tasks w.said
        before = f.none_full us space

        others :
            (j : ℕ) →
            j < length (set w.tasks i k.next) →
            1 ≤ (task_at (set w.tasks i k.next) j).phase →
            (task_at (set w.tasks i k.next) j).phase ≤ 12 →
            (j ≡ i) ⊎ (j ≢ i) → (task_at (set w.tasks i k.next) j).answer ≢ 3
        others j l a b (inl e) full =
            not_full
            us
            space
            (sym
            (ap (λ (n : ℕ). (task_at (set w.tasks i k.next) n).answer) e
            ∙ ap (λ (t : Task). t.answer) (task_same w.tasks i k.next lt))
            ∙ full)
        others j l a b (inr n) full =
            let same = task_other w.tasks i j k.next n in
            before.of_busy
            j
            (omega (arith, length-set w.tasks i k.next))
            (subst (λ (t : Task). 1 ≤ t.phase) same a)
            (subst (λ (t : Task). t.phase ≤ 12) same b)
            (sym (ap (λ (t : Task). t.answer) same) ∙ full)

        go :
            (b : Bool) →
            All
            (λ (s : Said). s.answer ≢ 3)
            (cond b (record { key = k.next.key; answer = k.next.answer } ∷ w.said) w.said)
        go true = every.both (not_full us space) before.of_said
        go false = before.of_said

    fair_stepped : Fair sh start (stepped_world w i k.next k.words)
    fair_stepped =
        record {
          good = good_after;
          small = bytes_small k.words k.shows.small;
          few = omega (arith, length-set w.tasks i k.next, f.few);
          laid = k.laid_after;
          shown = k.shown_after;
          inv = inv_after;
          put = left_of.put;
          chain = left_of.chain;
          shown_is = left_of.shown_is;
          put_new = left_of.put_new;
          put_given = left_of.put_given;
          tally = left_of.tally;
          answers = λ key.
              f.answers key
              ∙ sym (answers_step key w.tasks i k.next w.said lt first last k.begun at_last k.same_key);
          task_given = λ j l a b. still_given j l a b (same_or_not i j);
          in_keys = f.in_keys;
          meaning = meaning_after;
          none_full = none_full_after;
        }

-- ---- a step, walked or refused
abbrev lent : World → Lent
lent w = record { table = w.table; tasks = w.tasks }

-- what a step answers: by the task number, by a task at rest, or a busy task's walk
data StepCase {sh : Shape} {start : List ℕ} {w : World} (f : Fair sh start w) (i : ℕ) : Type 0 where
  no_task_lem : length w.tasks ≤ i → step sh w.table w.tasks i ≡ leaves (refuses 3) (lent w) → StepCase f i
  resting :
      i < length w.tasks →
      at_rest (task_at w.tasks i) ≡ true → step sh w.table w.tasks i ≡ leaves (refuses 5) (lent w) →
      StepCase f i
  walked :
      (lt : i < length w.tasks) →
      1 ≤ (task_at w.tasks i).phase →
      (task_at w.tasks i).phase ≤ 12 →
      (k : Walked sh (words_of w.table) w.tasks f.laid f.shown i) →
      step sh w.table w.tasks i
      ≡ leaves (says 0) (record { table = bytes_of k.words; tasks = set w.tasks i k.next }) →
      StepCase f i

rest_refused :
    {sh : Shape} {start : List ℕ} {w : World} (f : Fair sh start w) (i : ℕ) →
    i < length w.tasks →
    at_rest (task_at w.tasks i) ≡ true → step_of sh (words_of w.table) (task_at w.tasks i) ≡ refused 5
unfolding step_of
rest_refused {sh} {start} {w} f i lt rest =
    rw (
      stage_fits
          {ws = words_of w.table}
          {shown = f.shown}
          f.inv.plain.size
          (task_at w.tasks i)
          (f.inv.stage i lt),
      rest,
    )

step_case : {sh : Shape} {start : List ℕ} {w : World} (f : Fair sh start w) (i : ℕ) → StepCase f i
unfolding step good_task
step_case {sh} {start} {w} f i = go (ltb i (length w.tasks)) refl
  where
    sixteen : leb (length w.tasks) 16 ≡ true
    sixteen = le-leb (length w.tasks) 16 f.few

    passed :
        ltb i (length w.tasks) ≡ true →
        step sh w.table w.tasks i
        ≡ lent_after w.table w.tasks i (step_of sh (words_of w.table) (task_at w.tasks i))
    passed e = rw (f.good, sixteen, e)

    low : remainders sh ≤ 4096
    low = remainders_high sh (good_table_lem sh (length w.table) f.good).0

    here : ltb i (length w.tasks) ≡ true → (b : Bool) → at_rest (task_at w.tasks i) ≡ b → StepCase f i
    here e true rest =
        let lt = ltb-true i (length w.tasks) e in
        resting lt rest (passed e ∙ ap (lent_after w.table w.tasks i) (rest_refused f i lt rest))
    here e false rest =
        let lt = ltb-true i (length w.tasks) e in
        let (first, last) =
        works_phase (task_at w.tasks i) (stage_last (task_at w.tasks i) (f.inv.stage i lt)) rest in
        let k = walk low f.inv i lt first last in
        walked lt first last k (passed e ∙ ap (lent_after w.table w.tasks i) k.step)

    go : (b : Bool) → ltb i (length w.tasks) ≡ b → StepCase f i
    go false e = no_task_lem (ltb-false i (length w.tasks) e) (rw (f.good, sixteen, e))
    go true e = here e (at_rest (task_at w.tasks i)) refl

pub fair_step : {sh : Shape} {start : List ℕ} {w : World} (i : ℕ) → Fair sh start w → Fair sh start (act sh w (steps i))
unfolding act
fair_step {sh} {start} {w} i f = go (step_case f i)
  where
    by_answer :
        {x : Leaves Lent} →
        step sh w.table w.tasks i ≡ x → Fair sh start (after_step w i x) → Fair sh start (act sh w (steps i))
    by_answer e g = subst (λ (x : Leaves Lent). Fair sh start (after_step w i x)) (sym e) g

    go : StepCase f i → Fair sh start (act sh w (steps i))
    go (no_task_lem le e) = by_answer {x = leaves (refuses 3) (lent w)} e f
    go (resting lt rest e) = by_answer {x = leaves (refuses 5) (lent w)} e f
    go (walked lt first last k e) =
        by_answer
        {x = leaves (says 0) (record { table = bytes_of k.words; tasks = set w.tasks i k.next })}
        e
        (subst
        (λ (t : Task).
        Fair
        sh
        start
        (record {
          table = bytes_of k.words;
          tasks = set w.tasks i k.next;
          given = w.given;
          said = heard t w.said;
        }))
        (sym (task_same w.tasks i k.next lt))
        (fair_stepped f i lt first last k))

-- ---- any number of actions
pub fair_act : {sh : Shape} {start : List ℕ} {w : World} (a : Action) → Fair sh start w → Fair sh start (act sh w a)
fair_act (gives i key) f = fair_give i key f
fair_act (steps i) f = fair_step i f

pub fair_course :
    {sh : Shape} {start : List ℕ} {w : World} (more : List Action) → Fair sh start w →
    Fair sh start (course sh w more)
unfolding course
fair_course [] f = f
fair_course {sh = sh} {w = w} (a ∷ more) f = fair_course {w = act sh w a} more (fair_act a f)

-- ---- what a step may answer on the way
pub data StepAnswer (ts : List Task) (i : ℕ) : Answer → Type 0 where
  accepted : StepAnswer ts i (says 0)
  not_a_task : length ts ≤ i → StepAnswer ts i (refuses 3)
  at_leisure : i < length ts → at_rest (task_at ts i) ≡ true → StepAnswer ts i (refuses 5)

abbrev pub answer_of : {A : Type 0} → Leaves A → Answer
answer_of (leaves a x) = a

pub step_answers :
    {sh : Shape} {start : List ℕ} {w : World} (i : ℕ) →
    Fair sh start w → StepAnswer w.tasks i (answer_of (step sh w.table w.tasks i))
step_answers {sh} {start} {w} i f = go (step_case f i)
  where
    by :
        {x : Leaves Lent} → step sh w.table w.tasks i ≡ x → StepAnswer w.tasks i (answer_of x) →
        StepAnswer w.tasks i (answer_of (step sh w.table w.tasks i))
    by e s = subst (λ (x : Leaves Lent). StepAnswer w.tasks i (answer_of x)) (sym e) s

    go : StepCase f i → StepAnswer w.tasks i (answer_of (step sh w.table w.tasks i))
    go (no_task_lem le e) = by {x = leaves (refuses 3) (lent w)} e (not_a_task le)
    go (resting lt rest e) = by {x = leaves (refuses 5) (lent w)} e (at_leisure lt rest)
    go (walked lt first last k e) =
        by {x = leaves (says 0) (record { table = bytes_of k.words; tasks = set w.tasks i k.next })} e accepted
