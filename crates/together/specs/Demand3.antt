-- Demand 3 about the definitions that the contracts of give and step cite, sentence by sentence, for every shape in
-- range. The terms are in Machine (a course of gives and steps, and its history); the invariant is in Invariant;
-- every proof is elsewhere (Fair, Rest).
-- Assumes nothing.
use Rattle.std.specs.Prelude.{ℕ, ◌+◌, ◌≤◌, ◌<◌, ◌≡◌, ◌⊎◌, ◌≢◌, Bool, not, ◌&&◌, ◌||◌, List, ◌++◌, length}
use Rattle.std.proofs.Math.Path.{refl, sym, ap}
use Rattle.std.proofs.Common.{inl, inr, arith, le-leb}
use Rattle.std.proofs.Math.Bool.{true, false}
use Rattle.std.proofs.Math.Dec.{leb}
use Rattle.std.proofs.lemmas.Bool.{lt-leb}
use Rattle.rules.specs.declared.Shape.{Shape}
use Rattle.rules.specs.declared.Task.{Task}
use Rattle.rules.specs.Lists.{bit_of}
use Rattle.rules.specs.Shape.{homes, keys}
use Rattle.rules.specs.Step.{step}
use Rattle.theory.specs.Every as every
use Rattle.theory.specs.Every.{All}
use Rattle.theory.specs.Keys.{listed}
use Rattle.demands.specs.Terms.{PlainTable, InKeys, list_of, distinct, put_all}
use Rattle.together.specs.Machine.{Action, Said, World, begin, course, quiet, times_given, times_said}
use Rattle.together.specs.Machine.{times_inserted}
use Rattle.together.specs.Fair.{Means, means_full, means_shown, Fair, StepAnswer, answer_of, fair_begin}
use Rattle.together.specs.Fair.{fair_course, step_answers}
use Rattle.together.specs.Rest as proof

-- whether a key was answered inserted
unfoldable pub was_inserted : ℕ → List Said → Bool
was_inserted key said = leb 1 (times_inserted key said)

-- such a history is fair
fair :
    {sh : Shape} {bytes : List ℕ} → PlainTable sh bytes → (ts : List Task) → length ts ≤ 16 → quiet ts ≡ true →
    (actions : List Action) → Fair sh bytes (course sh (begin bytes ts) actions)
unfolding quiet
fair t ts few idle actions = fair_course actions (fair_begin ts t few idle)

-- "One shape, a sound unlocked table, idle tasks, gives and steps in any order": a task may also be done
module _ {sh : Shape} {bytes : List ℕ} (t : PlainTable sh bytes) (ts : List Task) (few : length ts ≤ 16)
    (idle : quiet ts ≡ true) (actions : List Action)
  where
    -- what they leave; since the actions are any list, this is every moment on the way
    abbrev pub after : World
    after = course sh (begin bytes ts) actions

    -- the next step, of whatever task, is refused only by 3 (no such task) or 5 (idle or done)
    pub step_refusals : (i : ℕ) → StepAnswer after.tasks i (answer_of (step sh after.table after.tasks i))
    step_refusals i = step_answers i (fair t ts few idle actions)

    -- every answer is found, inserted or full; 4 is never given
    pub answers_known : All (λ (s : Said). (1 ≤ s.answer) × (s.answer ≤ 3)) after.said
    answers_known = every.all_map known (fair t ts few idle actions).meaning
      where
        known : (s : Said) → Means sh (fair t ts few idle actions).shown s → (1 ≤ s.answer) × (s.answer ≤ 3)
        known s (means_full e) = (omega arith, omega arith)
        known s (means_shown (inl e) h) = (omega arith, omega arith)
        known s (means_shown (inr e) h) = (omega arith, omega arith)

    -- "whenever every task is idle or done,"
    module _ (done : quiet after.tasks ≡ true) where
      -- the table is sound and without locks,
      pub table_after : PlainTable sh after.table
      unfolding quiet
      table_after = proof.rest_plain t (fair t ts few idle actions) done

      -- "the table lists the starting keys plus those answered inserted,"
      pub lists_after :
          (x : ℕ) → listed x (list_of sh after.table) ≡ (listed x (list_of sh bytes) || was_inserted x after.said)
      unfolding was_inserted quiet
      lists_after x =
          go
          (listed x (list_of sh after.table))
          (listed x (list_of sh bytes))
          (times_inserted x after.said)
          (proof.rest_tally t (fair t ts few idle actions) done x)
        where
          go : (a b : Bool) (n : ℕ) → bit_of b + n ≡ bit_of a → a ≡ (b || leb 1 n)
          go true true n e = refl
          go true false n e = sym (le-leb 1 n (omega arith))
          go false true n e = absurd (omega arith)
          go false false n e = sym (lt-leb 1 n (omega arith))

      -- "none so answered twice",
      pub inserted_once : (x : ℕ) → times_inserted x after.said ≤ 1
      unfolding quiet
      inserted_once x = go (listed x (list_of sh after.table)) (proof.rest_tally t (fair t ts few idle actions) done x)
        where
          go :
              (a : Bool) → bit_of (listed x (list_of sh bytes)) + times_inserted x after.said ≡ bit_of a →
              times_inserted x after.said ≤ 1
          go true e = omega arith
          go false e = omega arith

      -- and none that was there at the start
      pub inserted_new : (x : ℕ) → listed x (list_of sh bytes) ≡ true → times_inserted x after.said ≡ 0
      unfolding quiet
      inserted_new x there = go (listed x (list_of sh after.table)) (proof.rest_tally t (fair t ts few idle actions) done x)
        where
          go :
              (a : Bool) → bit_of (listed x (list_of sh bytes)) + times_inserted x after.said ≡ bit_of a →
              times_inserted x after.said ≡ 0
          go true e = omega (arith, ap bit_of there)
          go false e = omega arith

      -- each accepted give was answered
      pub answered : (x : ℕ) → times_said x after.said ≡ times_given x after.given
      unfolding quiet
      answered = proof.rest_answers t (fair t ts few idle actions) done

      -- "If starting and accepted keys are no more distinct keys than places without guards,"
      module _ (fits : distinct sh (list_of sh bytes ++ after.given) ≤ homes sh) where
        -- "none is answered full,"
        pub none_full : All (λ (s : Said). s.answer ≢ 3) after.said
        unfolding quiet
        none_full = proof.rest_none_full t (fair t ts few idle actions) done fits

        -- "each new key is answered inserted exactly once,"
        pub inserted_exactly_once :
            (x : ℕ) →
            listed x after.given ≡ true → listed x (list_of sh bytes) ≡ false → times_inserted x after.said ≡ 1
        unfolding quiet
        inserted_exactly_once x given new =
            omega (arith, proof.rest_tally t (fair t ts few idle actions) done x, ap bit_of new, ap bit_of (proof.rest_listed t (fair t ts few idle actions) done fits x given))

        -- every other answer is found
        pub found_or_inserted : All (λ (s : Said). (s.answer ≡ 1) ⊎ (s.answer ≡ 2)) after.said
        unfolding quiet
        found_or_inserted = proof.rest_found_or_inserted t (fair t ts few idle actions) done fits

        -- "and the bytes are those of putting the new keys one by one in any order." (with any repeats)
        pub bytes_after :
            (ks : List ℕ) →
            InKeys sh ks →
            ((x : ℕ) →
            x < keys sh → listed x ks ≡ (listed x after.given && not (listed x (list_of sh bytes)))) →
            put_all sh bytes ks ≡ after.table
        unfolding quiet
        bytes_after ks h new = proof.rest_bytes t (fair t ts few idle actions) done fits ks h new
