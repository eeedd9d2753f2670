-- Every moment of a line's rounds is reached by a course of gives and steps, with the floor beside its history:
-- `Moment`. A turn is at most one action (`turn_moment`), so rounds follow a course (`rounds_follow`).
-- Assumes nothing.
use Prim.Native.Nat.{ℕ, zero, suc, ◌+◌, ◌≤◌, ◌<◌}
use Rattle.std.specs.Prelude.{◌≡◌, Bool, List, [], ◌∷◌, ◌++◌, length, get_or, replicate, eqb, leb}
use Rattle.std.proofs.Math.Path.{refl, ap, subst}
use Rattle.std.proofs.Common.{sym, ◌∙◌, inl, inr, arith}
use Rattle.std.proofs.Math.Bool.{true, false, cond}
use Rattle.std.proofs.Math.ListN.{set, length-set, length-replicate}
use Rattle.std.proofs.Math.Dec.{ltb}
use Rattle.rules.specs.declared.Shape.{Shape}
use borrow.Author.Tests.{leb-true, lt-ltb, ltb-true}
use Rattle.rules.specs.declared.Task.{Task}
use Rattle.rules.specs.Lists.{count, all}
use Rattle.rules.specs.Bytes.{words_of, bytes_of}
use Rattle.rules.specs.Shape.{keys}
use Rattle.rules.specs.Answer.{says, leaves}
use Rattle.rules.specs.Record.{busy, at_rest, no_task, task_at, good_task}
use Rattle.rules.specs.Give.{given, give_to, give}
use Rattle.rules.specs.Step.{lent_after, step}
use Rattle.table_words.specs.Range.{good_table_lem, remainders_high, range_in}
use Rattle.table_words.specs.All.{all_at}
use Rattle.theory.specs.Record.{good_task_lem, rest_not_busy, fits_works}
use Rattle.theory.specs.Dealt.{and_left, and_right}
use Rattle.demands.specs.Terms.{PlainTable, InKeys}
use Rattle.frame_rules.specs.declared.First.{First}
use Rattle.frame_rules.specs.Rounds as rounds_of
use Rattle.frame_rules.specs.Rounds.{Floor, start, turn, turns, round, rounds, all_answered, limit, play}
use Rattle.together.specs.Machine.{Action, gives, steps, Said, World, begin, after_give, after_step, act, course, quiet}
use Rattle.together.specs.Update.{task_same}
use Rattle.together.specs.Fitting.{stage_fits}
use Rattle.together.specs.Walk.{Walked, Answered, says_full, says_shown}
use Rattle.together.specs.Course.{walk}
use Rattle.together.specs.History.{heard}
use Rattle.together.specs.Fair.{Fair, fair_begin, fair_course}
use Rattle.frame_day.specs.Terms.{Follows}
use Rattle.frame_day.proofs.Tally.{Tally, beside_start, took, beside_take, stepped, beside_step}

-- ---- courses and what they start from
course_append :
    (sh : Shape) (w : World) (first more : List Action) →
    course sh w (first ++ more) ≡ course sh (course sh w first) more
unfolding course
course_append sh w [] more = refl
course_append sh w (a ∷ first) more = course_append sh (act sh w a) first more

pub idle_tasks : (n : ℕ) → quiet (replicate n no_task) ≡ true
unfolding quiet all at_rest
idle_tasks zero = refl
idle_tasks (suc n) = idle_tasks n

-- a floor's table and tasks, and a history
abbrev world : Floor → List ℕ → List Said → World
world floor accepted said = record { table = floor.table; tasks = floor.tasks; given = accepted; said = said }

record Moment (f : First) (bytes ks : List ℕ) (floor : Floor) : Type 0 where
  actions : List Action
  accepted : List ℕ
  said : List Said
  reached : course f.shape (begin bytes (replicate f.tasks no_task)) actions ≡ world floor accepted said
  crew : length floor.tasks ≡ f.tasks
  beside : Tally ks floor accepted said

-- what a moment says of its course alone
moment_follows :
    {f : First} {bytes ks : List ℕ} {floor : Floor} → Moment f bytes ks floor → Follows f bytes ks floor
moment_follows {f} {bytes} {ks} {floor} now =
    record {
      actions = now.actions;
      same_table = ap (λ (w : World). w.table) now.reached;
      same_tasks = ap (λ (w : World). w.tasks) now.reached;
      as_many = now.beside.as_many;
      same_keys = λ p. ap (λ (w : World). count p w.given) now.reached ∙ now.beside.accepts p;
      same_answers = λ p. ap (λ (w : World). count p w.said) now.reached ∙ sym (now.beside.so_answered p);
    }

-- ---- one task's give and step
in_keys_at :
    (ks : List ℕ) (n j : ℕ) → all (λ (key : ℕ). ltb key n) ks ≡ true → j < length ks → get_or ks j 0 < n
in_keys_at ks n j h lt = ltb-true _ n (all_at (λ (key : ℕ). ltb key n) ks j 0 h lt)

module _ (f : First) {bytes : List ℕ} (ks : List ℕ) (t : PlainTable f.shape bytes) (few : f.tasks ≤ 16)
    (h : InKeys f.shape ks)
  where
    -- demand 3's invariant holds at every moment
    moment_fair : {floor : Floor} (now : Moment f bytes ks floor) →
        Fair f.shape bytes (world floor now.accepted now.said)
    unfolding quiet
    moment_fair now =
        subst
        (Fair f.shape bytes)
        now.reached
        (fair_course
        now.actions
        (fair_begin (replicate f.tasks no_task) t (omega (arith, length-replicate f.tasks no_task))
        (idle_tasks f.tasks)))

    moment_start : Moment f bytes ks (start bytes f.tasks ks)
    unfolding start course
    moment_start =
        record {
          actions = [];
          accepted = [];
          said = [];
          reached = refl;
          crew = length-replicate f.tasks no_task;
          beside = beside_start bytes f.tasks ks;
        }

    module _ {floor : Floor} (now : Moment f bytes ks floor) (i : ℕ) (lt : i < f.tasks) where
      abbrev w : World
      w = world floor now.accepted now.said

      fair : Fair f.shape bytes w
      fair = moment_fair now

      here : i < length floor.tasks
      here = omega (arith, now.crew)

      good_number : good_task floor.tasks i ≡ true
      good_number = good_task_lem floor.tasks i fair.few here

      -- ---- a task at rest takes the next key
      module _ (rest : at_rest (task_at floor.tasks i) ≡ true) (more : floor.taken < length ks) where
        abbrev key : ℕ
        key = get_or ks floor.taken 0

        accepts : give f.shape key floor.tasks i ≡ leaves (says 0) (set floor.tasks i (given key))
        unfolding give give_to
        accepts =
            rw (
              range_in f.shape (good_table_lem f.shape (length floor.table) fair.good).0,
              lt-ltb key (keys f.shape) (in_keys_at ks (keys f.shape) floor.taken h more),
              good_number,
              rest_not_busy (task_at floor.tasks i) rest,
            )

        moment_took : Moment f bytes ks (took ks i floor)
        unfolding course act
        moment_took =
            record {
              actions = now.actions ++ (gives i key ∷ []);
              accepted = key ∷ now.accepted;
              said = now.said;
              reached =
                  course_append f.shape (begin bytes (replicate f.tasks no_task)) now.actions (gives i key ∷ [])
                  ∙ ap (λ (v : World). act f.shape v (gives i key)) now.reached
                  ∙ ap (after_give w key) accepts;
              crew = length-set floor.tasks i (given key) ∙ now.crew;
              beside = beside_take now.beside i here more;
            }

      -- ---- any other task makes a step, which is not refused
      module _ (works : at_rest (task_at floor.tasks i) ≡ false) where
        busy_now : busy (task_at floor.tasks i) ≡ true
        busy_now =
            (fits_works
            (task_at floor.tasks i)
            f.shape
            (stage_fits
            {ws = words_of floor.table}
            {shown = fair.shown}
            fair.inv.plain.size
            (task_at floor.tasks i)
            (fair.inv.stage i here))
            works
            ).0

        walked : Walked f.shape (words_of floor.table) floor.tasks fair.laid fair.shown i
        unfolding busy
        walked =
            walk
            (remainders_high f.shape (good_table_lem f.shape (length floor.table) fair.good).0)
            fair.inv
            i
            here
            (leb-true 1 _ (and_left (leb 1 (task_at floor.tasks i).phase) _ busy_now))
            (leb-true _ 12 (and_right (leb 1 (task_at floor.tasks i).phase) _ busy_now))

        abbrev next : Task
        next = walked.next

        makes :
            step f.shape floor.table floor.tasks i
            ≡ leaves (says 0) (record { table = bytes_of walked.words; tasks = set floor.tasks i next })
        unfolding step
        makes =
            rw (fair.good, good_number) (ap (lent_after floor.table floor.tasks i) walked.step)

        known : next.phase ≡ 13 → 1 ≤ next.answer
        known done = go (walked.ends done)
          where
            go : Answered f.shape walked.shown_after next → 1 ≤ next.answer
            go (says_full e) = omega arith
            go (says_shown (inl e) x) = omega arith
            go (says_shown (inr e) x) = omega arith

        -- the record that stands at i afterwards is the next one
        stands : task_at (set floor.tasks i next) i ≡ next
        stands = task_same floor.tasks i next here

        moment_stepped : Moment f bytes ks (stepped i next (bytes_of walked.words) floor)
        unfolding course act
        moment_stepped =
            record {
              actions = now.actions ++ (steps i ∷ []);
              accepted = now.accepted;
              said = heard next now.said;
              reached =
                  course_append f.shape (begin bytes (replicate f.tasks no_task)) now.actions (steps i ∷ [])
                  ∙ ap (λ (v : World). act f.shape v (steps i)) now.reached
                  ∙ ap (after_step w i) makes
                  ∙ ap
                  (λ (u : Task).
                  world (stepped i next (bytes_of walked.words) floor) now.accepted (heard u now.said))
                  stands;
              crew = length-set floor.tasks i next ∙ now.crew;
              beside = beside_step now.beside i here works next walked.same_key (bytes_of walked.words) known;
            }

        turn_steps : turn f ks i floor ≡ stepped i next (bytes_of walked.words) floor
        unfolding turn
        turn_steps =
            rw works
            (ap (rounds_of.after_step floor i) makes
            ∙ ap (λ (u : Task). answered_by u) stands)
          where
            answered_by : Task → Floor
            answered_by u =
                record {
                  table = bytes_of walked.words;
                  tasks = set floor.tasks i next;
                  serving = floor.serving;
                  taken = floor.taken;
                  answers = cond (eqb u.phase 13) (set floor.answers (get_or floor.serving i 0) u.answer)
                      floor.answers;
                }

      -- ---- a turn
      turn_moment : Moment f bytes ks (turn f ks i floor)
      unfolding turn
      turn_moment = go (at_rest (task_at floor.tasks i)) (ltb floor.taken (length ks)) refl refl
        where
          go :
              (a b : Bool) →
              at_rest (task_at floor.tasks i) ≡ a →
              ltb floor.taken (length ks) ≡ b → Moment f bytes ks (turn f ks i floor)
          go true true x y =
              let more = ltb-true floor.taken (length ks) y in
              rw (x, y, accepts x more) (moment_took x more)
          go true false x y = rw (x, y) now
          go false b x y = subst (Moment f bytes ks) (sym (turn_steps x)) (moment_stepped x)

    -- ---- turns, rounds
    turns_moment :
        (k i : ℕ) {floor : Floor} → i + k ≤ f.tasks → Moment f bytes ks floor →
        Moment f bytes ks (turns f ks k i floor)
    unfolding turns
    turns_moment zero i le now = now
    turns_moment (suc k) i le now =
        turns_moment k (suc i) (omega arith) (turn_moment now i (omega arith))

    rounds_moment : (k : ℕ) {floor : Floor} → Moment f bytes ks floor → Moment f bytes ks (rounds f ks k floor)
    unfolding rounds round
    rounds_moment zero now = now
    rounds_moment (suc k) {floor} now =
        go
        (all_answered ks floor)
        (rounds_moment k (turns_moment (length floor.tasks) 0 (omega (arith, now.crew)) now))
      where
        go :
            (b : Bool) {g : Floor} → Moment f bytes ks g → Moment f bytes ks (cond b floor g)
        go true later = now
        go false later = later

    -- ---- the line
    pub rounds_follow : (k : ℕ) → Follows f bytes ks (rounds f ks k (start bytes f.tasks ks))
    rounds_follow k = moment_follows (rounds_moment k moment_start)

    pub play_follows : Follows f bytes ks (play f bytes ks)
    unfolding play
    play_follows = rounds_follow (limit f.shape (length ks))
