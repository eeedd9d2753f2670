-- How long things stay: a step keeps the table's length and the number of tasks, and so does a line's play, which has
-- an answer for each key (`step_bytes`, `step_tasks`, `play_sizes`).
-- Assumes nothing.
use Prim.Native.Nat.{ℕ, zero, suc, ◌*◌, ◌-◌}
use Rattle.std.specs.Prelude.{◌≡◌, Bool, cond, List, get_or, set, ltb, eqb}
use Rattle.std.proofs.Math.Path.{refl}
use Rattle.std.proofs.Common.{sym, ap, ◌∙◌, length-set}
use Rattle.std.proofs.Math.Bool.{true, false}
use Rattle.std.proofs.Math.ListN.{length}
use Rattle.std.proofs.lemmas.List.{length-replicate}
use Rattle.rules.specs.declared.Shape.{Shape}
use Rattle.rules.specs.declared.Task.{Task}
use Rattle.rules.specs.Word.{Word}
use Rattle.rules.specs.Bytes.{words_of}
use Rattle.rules.specs.Shape.{in_range, keys, places, good_table}
use Rattle.rules.specs.Record.{home_place_of, at_rest, task_at, good_task}
use Rattle.rules.specs.Answer as answer
use Rattle.rules.specs.Answer.{Leaves, leaves}
use Rattle.rules.specs.Give.{give_to, stored_at, give}
use Rattle.rules.specs.Phase as phase
use Rattle.rules.specs.Phase.{Step, to, unsound, exchange, marked, set_change, set_virgin}
use Rattle.rules.specs.Step.{Lent, Stepped, steps, refused, of_phase, or_unsound, step_of, lent_after, step}
use Rattle.table_words.specs.Layout.{words_length, bytes_length, change_length, virgin_length}
use Rattle.table_words.specs.Range.{good_table_lem}
use Rattle.frame_rules.specs.Rounds.{Floor, start, after_take, after_step, turn, turns, round, all_answered, rounds, limit}
use Rattle.frame_rules.specs.Rounds.{play}
use Rattle.frame_rules.specs.declared.First.{First}

-- ---- a phase leaves as many words as there were
data Sized (n : ℕ) : Step → Type 0 where
  sized : {t : Task} {ws : List Word} → length ws ≡ n → Sized n (to t ws)
  none : Sized n unsound

one_of : {n : ℕ} {x y : Step} (b : Bool) → Sized n x → Sized n y → Sized n (cond b x y)
one_of true p q = p
one_of false p q = q

module _ (sh : Shape) (ws : List Word) (t : Task) where
  same : {u : Task} → Sized (length ws) (to u ws)
  same = sized refl

  stored : {u : Task} (p : ℕ) (w : Word) → Sized (length ws) (to u (set ws p w))
  stored p w = sized (length-set ws p w)

  stored_twice : {u : Task} (p q : ℕ) (v w : Word) → Sized (length ws) (to u (set (set ws p v) q w))
  stored_twice p q v w = sized (length-set (set ws p v) q w ∙ length-set ws p v)

  home_sized : Sized (length ws) (phase.home sh ws t)
  unfolding phase.home
  home_sized = search (one_of, same, stored, none)

  looks_sized : Sized (length ws) (phase.look_left sh ws t) × Sized (length ws) (phase.look_right sh ws t)
  unfolding phase.look_left phase.look_right
  looks_sized = (search (one_of, same), search (one_of, same))

  locks_sized : Sized (length ws) (phase.lock_left sh ws t) × Sized (length ws) (phase.lock_right sh ws t)
  unfolding phase.lock_left phase.lock_right
  locks_sized = (search (one_of, same, stored), search (one_of, same, stored))

  read_sized : Sized (length ws) (phase.read sh ws t)
  unfolding phase.read
  read_sized = search (one_of, same)

  fill_sized : Sized (length ws) (phase.fill_hand sh ws t)
  unfolding phase.fill_hand
  fill_sized = search (one_of, stored, none)

  move_sized : Sized (length ws) (phase.move sh ws t)
  unfolding phase.move exchange
  move_sized = search (one_of, stored_twice, none)

  -- the marks, by the two tests of the mark
  marks_length :
      (two one : Bool) (goal home_at : ℕ) →
      length (cond two
      (set_virgin (set_change ws goal true) home_at)
      (cond one (set_change (set_change ws goal true) (goal - 1) false) ws)) ≡ length ws
  marks_length true one goal home_at = virgin_length (set_change ws goal true) home_at ∙ change_length ws goal true
  marks_length false true goal home_at =
      change_length (set_change ws goal true) (goal - 1) false ∙ change_length ws goal true
  marks_length false false goal home_at = refl

  mark_sized : Sized (length ws) (phase.mark sh ws t)
  unfolding phase.mark marked
  mark_sized = sized (marks_length (eqb t.mark 2) (eqb t.mark 1) t.goal (home_place_of sh t))

  phase_sized : Sized (length ws) (of_phase sh ws t)
  unfolding of_phase phase.back_off phase.free_left phase.free_right
  phase_sized =
      search (
        one_of,
        home_sized,
        looks_sized.0,
        looks_sized.1,
        locks_sized.0,
        locks_sized.1,
        stored,
        read_sized,
        fill_sized,
        move_sized,
        mark_sized,
      ) depth 14

-- ---- a step keeps the table's length, and the number of tasks
abbrev pub bytes_after : Leaves Lent → ℕ
bytes_after (leaves a l) = length l.table

abbrev pub tasks_after : Leaves Lent → ℕ
tasks_after (leaves a l) = length l.tasks

abbrev pub given_after : Leaves (List Task) → ℕ
given_after (leaves a ts) = length ts

data Stays (n : ℕ) : Stepped → Type 0 where
  stays : {t : Task} {ws : List Word} → length ws ≡ n → Stays n (steps t ws)
  refuses : {k : ℕ} → Stays n (refused k)

either : {n : ℕ} {x y : Stepped} (b : Bool) → Stays n x → Stays n y → Stays n (cond b x y)
either true p q = p
either false p q = q

or_unsound_lem : {n : ℕ} {x : Step} → Sized n x → Stays n (or_unsound x)
or_unsound_lem (sized e) = stays e
or_unsound_lem none = refuses

step_stays : (sh : Shape) (ws : List Word) (t : Task) → Stays (length ws) (step_of sh ws t)
unfolding step_of
step_stays sh ws t = search (either, or_unsound_lem, phase_sized, refuses)

lent_bytes :
    (bytes : List ℕ) (ts : List Task) (i : ℕ) {k : ℕ} {x : Stepped} → length bytes ≡ 2 * k → Stays k x →
    bytes_after (lent_after bytes ts i x) ≡ length bytes
lent_bytes bytes ts i size (stays {t} {ws} e) = bytes_length ws ∙ ap (λ (k : ℕ). 2 * k) e ∙ sym size
lent_bytes bytes ts i size refuses = refl

lent_tasks : (bytes : List ℕ) (ts : List Task) (i : ℕ) (x : Stepped) → tasks_after (lent_after bytes ts i x) ≡ length ts
lent_tasks bytes ts i (steps t ws) = length-set ts i t
lent_tasks bytes ts i (refused k) = refl

module _ (sh : Shape) (bytes : List ℕ) (ts : List Task) (i : ℕ) where
  pub step_bytes : bytes_after (step sh bytes ts i) ≡ length bytes
  unfolding step
  step_bytes = go (good_table sh (length bytes)) (good_task ts i) refl
    where
      go :
          (good task : Bool) → good_table sh (length bytes) ≡ good →
          bytes_after (cond good
          (cond task
          (lent_after bytes ts i (step_of sh (words_of bytes) (task_at ts i)))
          (leaves (answer.refuses 3) (record { table = bytes; tasks = ts })))
          (leaves (answer.refuses 1) (record { table = bytes; tasks = ts }))) ≡ length bytes
      go true true e =
          let size = (good_table_lem sh (length bytes) e).1 in
          let count = words_length bytes (places sh) size in
          lent_bytes bytes ts i (rw count size) (step_stays sh (words_of bytes) (task_at ts i))
      go true false e = refl
      go false task e = refl

  pub step_tasks : tasks_after (step sh bytes ts i) ≡ length ts
  unfolding step
  step_tasks = go (good_table sh (length bytes)) (good_task ts i)
    where
      go :
          (good task : Bool) →
          tasks_after (cond good
          (cond task
          (lent_after bytes ts i (step_of sh (words_of bytes) (task_at ts i)))
          (leaves (answer.refuses 3) (record { table = bytes; tasks = ts })))
          (leaves (answer.refuses 1) (record { table = bytes; tasks = ts }))) ≡ length ts
      go true true = lent_tasks bytes ts i (step_of sh (words_of bytes) (task_at ts i))
      go true false = refl
      go false task = refl

stored_tasks : (ts : List Task) (i : ℕ) (x : Leaves Task) → given_after (stored_at ts i x) ≡ length ts
stored_tasks ts i (leaves a t) = length-set ts i t

pub give_tasks :
    (sh : Shape) (key : ℕ) (ts : List Task) (i : ℕ) → given_after (give sh key ts i) ≡ length ts
unfolding give
give_tasks sh key ts i = go (in_range sh) (ltb key (keys sh)) (good_task ts i)
  where
    go :
        (range low task : Bool) →
        given_after (cond range
        (cond low
        (cond task (stored_at ts i (give_to (task_at ts i) key)) (leaves (answer.refuses 3) ts))
        (leaves (answer.refuses 2) ts))
        (leaves (answer.refuses 1) ts)) ≡ length ts
    go true true true = stored_tasks ts i (give_to (task_at ts i) key)
    go true true false = refl
    go true false task = refl
    go false low task = refl

-- ---- a line's play keeps all three sizes
pub record Sizes (p q : Floor) : Type 0 where
  pub table : length q.table ≡ length p.table
  pub tasks : length q.tasks ≡ length p.tasks
  pub answers : length q.answers ≡ length p.answers

same_sizes : (p : Floor) → Sizes p p
same_sizes p = record { table = refl; tasks = refl; answers = refl }

then : {p q s : Floor} → Sizes p q → Sizes q s → Sizes p s
then a b =
    record {
      table = b.table ∙ a.table;
      tasks = b.tasks ∙ a.tasks;
      answers = b.answers ∙ a.answers;
    }

take_sizes :
    (p : Floor) (i : ℕ) (x : Leaves (List Task)) → given_after x ≡ length p.tasks →
    Sizes p (after_take p i x)
take_sizes p i (leaves a ts) e = record { table = refl; tasks = e; answers = refl }

answered_length :
    (done : Bool) (xs : List ℕ) (k a : ℕ) → length (cond done (set xs k a) xs) ≡ length xs
answered_length true xs k a = length-set xs k a
answered_length false xs k a = refl

step_sizes :
    (p : Floor) (i : ℕ) (x : Leaves Lent) → bytes_after x ≡ length p.table → tasks_after x ≡ length p.tasks →
    Sizes p (after_step p i x)
step_sizes p i (leaves a l) e u =
    record {
      table = e;
      tasks = u;
      answers =
          answered_length
          (eqb (task_at l.tasks i).phase 13)
          p.answers
          (get_or p.serving i 0)
          (task_at l.tasks i).answer;
    }

module _ (f : First) (ks : List ℕ) where
  turn_sizes : (i : ℕ) (p : Floor) → Sizes p (turn f ks i p)
  unfolding turn
  turn_sizes i p = go (at_rest (task_at p.tasks i)) (ltb p.taken (length ks))
    where
      go :
          (rest more : Bool) →
          Sizes p
          (cond rest
          (cond more (after_take p i (give f.shape (get_or ks p.taken 0) p.tasks i)) p)
          (after_step p i (step f.shape p.table p.tasks i)))
      go true true =
          take_sizes p i
          (give f.shape (get_or ks p.taken 0) p.tasks i)
          (give_tasks f.shape (get_or ks p.taken 0) p.tasks i)
      go true false = same_sizes p
      go false more =
          step_sizes p i
          (step f.shape p.table p.tasks i)
          (step_bytes f.shape p.table p.tasks i)
          (step_tasks f.shape p.table p.tasks i)

  turns_sizes : (n i : ℕ) (p : Floor) → Sizes p (turns f ks n i p)
  unfolding turns
  turns_sizes zero i p = same_sizes p
  turns_sizes (suc n) i p = then (turn_sizes i p) (turns_sizes n (suc i) (turn f ks i p))

  round_sizes : (p : Floor) → Sizes p (round f ks p)
  unfolding round
  round_sizes p = turns_sizes (length p.tasks) 0 p

  rounds_sizes : (n : ℕ) (p : Floor) → Sizes p (rounds f ks n p)
  unfolding rounds
  rounds_sizes zero p = same_sizes p
  rounds_sizes (suc n) p = go (all_answered ks p) (rounds_sizes n (round f ks p))
    where
      go :
          (done : Bool) → Sizes (round f ks p) (rounds f ks n (round f ks p)) →
          Sizes p (cond done p (rounds f ks n (round f ks p)))
      go true next = same_sizes p
      go false next = then (round_sizes p) next

pub play_sizes : (f : First) (bytes ks : List ℕ) → Sizes (start bytes f.tasks ks) (play f bytes ks)
unfolding play
play_sizes f bytes ks = rounds_sizes f ks (limit f.shape (length ks)) (start bytes f.tasks ks)

-- the table as long as it was, and an answer for each key
pub play_table : (f : First) (bytes ks : List ℕ) → length (play f bytes ks).table ≡ length bytes
unfolding start
play_table f bytes ks = (play_sizes f bytes ks).table

pub play_answers : (f : First) (bytes ks : List ℕ) → length (play f bytes ks).answers ≡ length ks
unfolding start
play_answers f bytes ks = (play_sizes f bytes ks).answers ∙ length-replicate (length ks) 0
