-- One line whose keys are all answered: its answers are its course's, up to their order, so what demand 3 says of the
-- course holds of the line. The statements are in Day.
-- Assumes nothing.
use Rattle.std.specs.Prelude.{ℕ, ◌+◌, ◌≤◌, ◌≡◌, refl, Bool, true, false, not, ◌&&◌, ◌||◌, length, replicate}
use Rattle.std.proofs.Math.Path.{sym, ap}
use Rattle.std.proofs.Common.{ap₂, ◌∙◌, subst, arith, eqb-true, eq-eqb, leb-true, le-leb}
use mathlib.Core.List.{List, [], ◌∷◌}
use Rattle.std.proofs.Math.ListN.{take}
use Rattle.std.proofs.lemmas.List.{length-replicate}
use Rattle.std.proofs.Math.Seq.{take-length}
use Rattle.std.proofs.Math.Dec.{eqb, leb}
use Rattle.std.proofs.lemmas.Bool.{not-false}
use Rattle.rules.specs.declared.Task.{Task}
use Rattle.rules.specs.Lists.{bit_of, count, all}
use Rattle.rules.specs.Record.{within, at_rest, no_task}
use Rattle.table_words.specs.Tests.{eqb_sym}
use Rattle.theory.specs.Every as every
use Rattle.theory.specs.Every.{All}
use Rattle.theory.specs.Dealt.{and_left, and_right, and_both}
use Rattle.theory.specs.Keys.{listed}
use Rattle.demands.specs.Terms.{PlainTable, list_of}
use Rattle.frame_rules.specs.declared.First.{First}
use Rattle.frame_rules.specs.Rounds.{Floor, all_answered}
use Rattle.together.specs.Machine.{Said, World, begin, course, quiet, times_given, times_said, times_inserted}
use Rattle.together.specs.Demand3 as demand_3
use Rattle.together.specs.Demand3.{was_inserted}
use Rattle.frame_day.specs.Terms.{paired, answered_so, Follows}
use Rattle.frame_day.specs.Counting.{count_also, count_same, count_none, none_counted, count_map, paired_parts}
use Rattle.frame_day.proofs.Moments.{idle_tasks}

-- ---- lists that have as many of every kind
abbrev Alike : {A : Type 0} → List A → List A → Type 0
Alike {A} xs ys = (p : A → Bool) → count p xs ≡ count p ys

-- what holds of all of one, and can be tested, holds of all of the other
pub all_alike :
    {A : Type 0} {P : A → Type 0} (fails : A → Bool) {xs ys : List A} →
    ((x : A) → P x → fails x ≡ false) → ((x : A) → fails x ≡ false → P x) → Alike xs ys → All P xs → All P ys
all_alike fails {xs} {ys} tested holds same h =
    every.all_map holds (none_counted fails ys (sym (same fails) ∙ count_none fails (every.all_map tested h)))

-- what holds of the elements of each key holds of all
every_key :
    {Q : Said → Type 0} (ss : List Said) → ((x : ℕ) → All (λ (s : Said). eqb s.key x ≡ true → Q s) ss) → All Q ss
every_key [] h = every.none
every_key {Q} (s ∷ ss) h = every.both (first (h s.key)) (every_key ss (λ x. rest x (h x)))
  where
    first : All (λ (u : Said). eqb u.key s.key ≡ true → Q u) (s ∷ ss) → Q s
    first (every.both q qs) = q (eq-eqb s.key s.key refl)

    rest :
        (x : ℕ) → All (λ (u : Said). eqb u.key x ≡ true → Q u) (s ∷ ss) →
        All (λ (u : Said). eqb u.key x ≡ true → Q u) ss
    rest x (every.both q qs) = qs

times_given_lem : (x : ℕ) (ks : List ℕ) → times_given x ks ≡ count (λ (k : ℕ). eqb k x) ks
unfolding times_given count
times_given_lem x [] = refl
times_given_lem x (k ∷ ks) = ap₂ (λ (b : Bool) (n : ℕ). bit_of b + n) (eqb_sym x k) (times_given_lem x ks)

-- ---- the line
module _ (f : First) {bytes : List ℕ} (t : PlainTable f.shape bytes)
    (few : f.tasks ≤ 16) {ks : List ℕ} {floor : Floor}
    (run : Follows f bytes ks floor) (complete : all_answered ks floor ≡ true)
  where
    abbrev tasks : List Task
    tasks = replicate f.tasks no_task

    pub no_more : length tasks ≤ 16
    no_more = omega (arith, length-replicate f.tasks no_task)

    abbrev pub after : World
    after = course f.shape (begin bytes tasks) run.actions

    pub done : quiet after.tasks ≡ true
    unfolding quiet all_answered
    done = ap (all at_rest) run.same_tasks ∙ and_right (eqb floor.taken (length ks)) _ complete

    all_taken : take floor.taken ks ≡ ks
    unfolding all_answered
    all_taken =
        ap (λ (k : ℕ). take k ks)
        (eqb-true floor.taken (length ks) (and_left (eqb floor.taken (length ks)) _ complete))
        ∙ take-length ks

    pub keys_alike : (p : ℕ → Bool) → count p after.given ≡ count p ks
    keys_alike p = run.same_keys p ∙ ap (count p) all_taken

    abbrev answers : List Said
    answers = paired ks floor.answers

    -- each key has an answer
    has_answer : All (λ (s : Said). leb 1 s.answer ≡ true) answers
    unfolding times_said
    has_answer =
        every_key
        answers
        (λ x. count_same (λ (s : Said). leb 1 s.answer) (λ (s : Said). eqb s.key x) answers (each x))
      where
        each :
            (x : ℕ) →
            count (answered_so (λ (s : Said). eqb s.key x)) answers ≡ count (λ (s : Said). eqb s.key x) answers
        each x =
            sym (run.same_answers (λ (s : Said). eqb s.key x))
            ∙ demand_3.answered t tasks no_more (idle_tasks f.tasks) run.actions done x
            ∙ times_given_lem x after.given
            ∙ keys_alike (λ (k : ℕ). eqb k x)
            ∙ sym
            (ap (count (λ (k : ℕ). eqb k x)) (paired_parts ks floor.answers run.as_many).0)
            ∙ count_map (λ (s : Said). s.key) (λ (k : ℕ). eqb k x) answers

    pub answers_alike : (p : Said → Bool) → count p after.said ≡ count p answers
    answers_alike p = run.same_answers p ∙ count_also (λ (s : Said). leb 1 s.answer) p has_answer

    pub inserted_alike : (x : ℕ) → times_inserted x after.said ≡ times_inserted x answers
    unfolding times_inserted
    inserted_alike x = answers_alike (λ (s : Said). eqb s.key x && eqb s.answer 2)

    pub line_plain : PlainTable f.shape floor.table
    line_plain =
        subst
        (PlainTable f.shape)
        run.same_table
        (demand_3.table_after t tasks no_more (idle_tasks f.tasks) run.actions done)

    pub line_known : All (λ (s : Said). (1 ≤ s.answer) × (s.answer ≤ 3)) answers
    line_known =
        all_alike
        (λ (s : Said). not (within 1 3 s.answer))
        (λ s p. ap not (and_both _ _ (le-leb 1 s.answer p.0) (le-leb s.answer 3 p.1)))
        (λ s e.
        let ok = not-false (within 1 3 s.answer) e in
        (leb-true 1 s.answer (and_left _ _ ok), leb-true s.answer 3 (and_right (leb 1 s.answer) _ ok)))
        answers_alike
        (demand_3.answers_known t tasks no_more (idle_tasks f.tasks) run.actions)

    pub line_lists :
        (x : ℕ) → listed x (list_of f.shape floor.table)
        ≡ (listed x (list_of f.shape bytes) || was_inserted x answers)
    unfolding was_inserted
    line_lists x =
        ap (λ (bs : List ℕ). listed x (list_of f.shape bs)) (sym run.same_table)
        ∙ demand_3.lists_after t tasks no_more (idle_tasks f.tasks) run.actions done x
        ∙ ap (λ (k : ℕ). listed x (list_of f.shape bytes) || leb 1 k) (inserted_alike x)

    pub line_once : (x : ℕ) → times_inserted x answers ≤ 1
    line_once x =
        omega (
          arith,
          inserted_alike x,
          demand_3.inserted_once t tasks no_more (idle_tasks f.tasks) run.actions done x,
        )

    pub line_new : (x : ℕ) → listed x (list_of f.shape bytes) ≡ true → times_inserted x answers ≡ 0
    line_new x there =
        sym (inserted_alike x)
        ∙ demand_3.inserted_new t tasks no_more (idle_tasks f.tasks) run.actions done x there
