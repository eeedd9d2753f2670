-- What ties a line's floor to the history of a run: `Beside`. It holds at the start (`beside_start`), and a key taken
-- (`beside_take`) and a step made (`beside_step`) keep it.
-- Assumes nothing.
use Rattle.std.specs.Prelude.{ℕ, suc, ◌≤◌, ◌<◌, ◌≡◌, refl, ◌⊎◌, ◌≢◌, Bool, true, false, cond, ◌&&◌, ◌||◌, List, [], ◌∷◌, take, set, replicate, eqb}
use Rattle.std.proofs.Common.{sym, ◌∙◌, inl, inr, true≢false, length-set, take-suc, get_or-set_same, get_or-set_other, eqb-true, le-leb}
use Rattle.std.proofs.Math.Path.{ap}
use native.Mathlib.Omega.{arith}
use Rattle.std.proofs.Math.ListN.{length, get_or, get_or-eq_default}
use Rattle.std.proofs.lemmas.List.{length-replicate, get_or-replicate}
use Rattle.rules.specs.declared.Task.{Task}
use Rattle.rules.specs.Lists.{bit_of, count}
use Rattle.rules.specs.Record.{at_rest, no_task, task_at}
use Rattle.rules.specs.Give.{given}
use Rattle.table_words.specs.Counts.{count_append}
use Rattle.frame_rules.specs.Rounds.{Floor, start}
use Rattle.theory.specs.Dealt.{or_right}
use Rattle.together.specs.Machine.{Said}
use Rattle.together.specs.History.{heard}
use Rattle.together.specs.Update.{task_same, task_other, same_or_not}
use Rattle.together.specs.Facts.{in_order}
use Rattle.frame_day.specs.Terms.{paired, answered_so}
use Rattle.frame_day.specs.Counting.{paired_set, paired_start}

-- a busy task works on the key whose number it holds, which is taken and not yet answered
pub record Hand (ks answers : List ℕ) (taken h : ℕ) (t : Task) : Type 0 where
  pub low : h < taken
  pub its_key : get_or ks h 0 ≡ t.key
  pub unanswered : get_or answers h 0 ≡ 0

pub record Tally (ks : List ℕ) (f : Floor) (accepted : List ℕ) (said : List Said) : Type 0 where
  pub as_many : length f.answers ≡ length ks
  pub one_each : length f.serving ≡ length f.tasks
  pub enough : f.taken ≤ length ks
  pub hand :
      (i : ℕ) →
      i < length f.tasks →
      at_rest (task_at f.tasks i) ≡ false →
      Hand ks f.answers f.taken (get_or f.serving i 0) (task_at f.tasks i)
  -- no two busy tasks hold one number
  pub apart :
      (i j : ℕ) →
      i < length f.tasks →
      j < length f.tasks →
      i ≢ j →
      at_rest (task_at f.tasks i) ≡ false →
      at_rest (task_at f.tasks j) ≡ false → get_or f.serving i 0 ≢ get_or f.serving j 0
  -- what is not taken has no answer
  pub later : (j : ℕ) → f.taken ≤ j → get_or f.answers j 0 ≡ 0
  -- the accepted keys are those taken, and the answers said are those of the line, both up to their order
  pub accepts : (p : ℕ → Bool) → count p accepted ≡ count p (take f.taken ks)
  pub so_answered : (p : Said → Bool) → count (answered_so p) (paired ks f.answers) ≡ count p said

-- ---- the start
replicate_zero : (n j : ℕ) → ◌≡◌ {A = ℕ} (get_or (replicate n 0) j 0) 0
replicate_zero n j = go (in_order n j)
  where
    go : (n ≤ j) ⊎ (j < n) → ◌≡◌ {A = ℕ} (get_or (replicate n 0) j 0) 0
    go (inl le) = get_or-eq_default (replicate n 0) 0 {n = j} (omega (arith, length-replicate {A = ℕ} n 0))
    go (inr lt) = get_or-replicate n j 0 0 lt

idle_at : (n i : ℕ) → i < n → at_rest (task_at (replicate n no_task) i) ≡ true
unfolding at_rest
idle_at n i lt = ap (λ (t : Task). eqb t.phase 0 || eqb t.phase 13) (get_or-replicate n i no_task no_task lt)

pub beside_start : (bytes : List ℕ) (n : ℕ) (ks : List ℕ) → Tally ks (start bytes n ks) [] []
unfolding start count
beside_start bytes n ks =
    record {
      as_many = length-replicate (length ks) 0;
      one_each = length-replicate n 0 ∙ sym (length-replicate n no_task);
      enough = omega arith;
      hand = λ i lt busy. absurd (never i lt busy);
      apart = λ i j lt l n busy other. absurd (never i lt busy);
      later = λ j le. replicate_zero (length ks) j;
      accepts = λ p. refl;
      so_answered = λ p. paired_start p ks;
    }
  where
    never : (i : ℕ) → i < length (replicate n no_task) → at_rest (task_at (replicate n no_task) i) ≡ false → ⊥
    never i lt busy = true≢false (sym (idle_at n i (omega (arith, length-replicate n no_task))) ∙ busy)

-- ---- a key taken
abbrev pub took : List ℕ → ℕ → Floor → Floor
took ks i f =
    record {
      table = f.table;
      tasks = set f.tasks i (given (get_or ks f.taken 0));
      serving = set f.serving i f.taken;
      taken = suc f.taken;
      answers = f.answers;
    }

module _ {ks : List ℕ} {f : Floor} {accepted : List ℕ} {said : List Said} (b : Tally ks f accepted said) (i : ℕ)
    (lt : i < length f.tasks) (more : f.taken < length ks)
  where
    abbrev t : Task
    t = given (get_or ks f.taken 0)

    new_number : get_or (set f.serving i f.taken) i 0 ≡ f.taken
    new_number = get_or-set_same f.serving i f.taken 0 (omega (arith, b.one_each))

    under : (j : ℕ) → j < length (set f.tasks i t) → j < length f.tasks
    under j l = omega (arith, length-set f.tasks i t)

    -- the others hold what they held
    other_hand :
        (j : ℕ) →
        j < length f.tasks →
        j ≢ i →
        at_rest (task_at (set f.tasks i t) j) ≡ false →
        Hand ks f.answers f.taken (get_or (set f.serving i f.taken) j 0) (task_at (set f.tasks i t) j)
    other_hand j l n busy =
        rw (task_other f.tasks i j t n, get_or-set_other f.serving i j f.taken 0 n)
        (b.hand j l (sym (ap at_rest (task_other f.tasks i j t n)) ∙ busy))

    -- all but the one that takes a key hold a lower number
    lower :
        (j : ℕ) →
        j < length f.tasks →
        j ≢ i → at_rest (task_at (set f.tasks i t) j) ≡ false → get_or (set f.serving i f.taken) j 0 < f.taken
    lower j l n busy = (other_hand j l n busy).low

    hand_after :
        (j : ℕ) →
        j < length f.tasks →
        at_rest (task_at (set f.tasks i t) j) ≡ false →
        (j ≡ i) ⊎ (j ≢ i) →
        Hand ks f.answers (suc f.taken) (get_or (set f.serving i f.taken) j 0) (task_at (set f.tasks i t) j)
    unfolding given
    hand_after j l busy (inl e) =
        rw (e, new_number, task_same f.tasks i t lt)
        (record { low = omega arith; its_key = refl; unanswered = b.later f.taken (omega arith) })
    hand_after j l busy (inr n) =
        let h = other_hand j l n busy in
        record { low = omega (arith, h.low); its_key = h.its_key; unanswered = h.unanswered }

    apart_after :
        (j k : ℕ) →
        j < length f.tasks →
        k < length f.tasks →
        j ≢ k →
        at_rest (task_at (set f.tasks i t) j) ≡ false →
        at_rest (task_at (set f.tasks i t) k) ≡ false →
        (j ≡ i) ⊎ (j ≢ i) →
        (k ≡ i) ⊎ (k ≢ i) → get_or (set f.serving i f.taken) j 0 ≢ get_or (set f.serving i f.taken) k 0
    apart_after j k l m n x y (inl d) (inl e) same = n (d ∙ sym e)
    apart_after j k l m n x y (inl d) (inr e) same =
        omega (arith, lower k m e y, ap (λ (q : ℕ). get_or (set f.serving i f.taken) q 0) d, new_number)
    apart_after j k l m n x y (inr d) (inl e) same =
        omega (arith, lower j l d x, ap (λ (q : ℕ). get_or (set f.serving i f.taken) q 0) e, new_number)
    apart_after j k l m n x y (inr d) (inr e) same =
        b.apart
        j
        k
        l
        m
        n
        (sym (ap at_rest (task_other f.tasks i j t d)) ∙ x)
        (sym (ap at_rest (task_other f.tasks i k t e)) ∙ y)
        (sym (get_or-set_other f.serving i j f.taken 0 d) ∙ same ∙ get_or-set_other f.serving i k f.taken 0 e)

    accepts_after :
        (p : ℕ → Bool) → count p (get_or ks f.taken 0 ∷ accepted) ≡ count p (take (suc f.taken) ks)
    unfolding count
    accepts_after p =
        omega (
          arith,
          b.accepts p,
          ap (count p) (take-suc ks f.taken 0 more),
          count_append p (take f.taken ks) (get_or ks f.taken 0 ∷ []),
        )

    pub beside_take : Tally ks (took ks i f) (get_or ks f.taken 0 ∷ accepted) said
    beside_take =
        record {
          as_many = b.as_many;
          one_each =
              length-set f.serving i f.taken ∙ b.one_each ∙ sym (length-set f.tasks i t);
          enough = more;
          hand = λ j l busy. hand_after j (under j l) busy (same_or_not i j);
          apart = λ j k l m n x y.
              apart_after j k (under j l) (under k m) n x y (same_or_not i j) (same_or_not i k);
          later = λ j le. b.later j (omega arith);
          accepts = accepts_after;
          so_answered = b.so_answered;
        }

-- ---- a step made
-- by a task whose next record is known; if that is done, its key is answered
abbrev pub stepped : ℕ → Task → List ℕ → Floor → Floor
stepped i t bytes f =
    record {
      table = bytes;
      tasks = set f.tasks i t;
      serving = f.serving;
      taken = f.taken;
      answers = cond (eqb t.phase 13) (set f.answers (get_or f.serving i 0) t.answer) f.answers;
    }

module _ {ks : List ℕ} {f : Floor} {accepted : List ℕ} {said : List Said} (b : Tally ks f accepted said) (i : ℕ)
    (lt : i < length f.tasks) (works : at_rest (task_at f.tasks i) ≡ false) (t : Task)
    (same_key : t.key ≡ (task_at f.tasks i).key) (bytes : List ℕ)
  where
    abbrev number : ℕ
    number = get_or f.serving i 0

    mine : Hand ks f.answers f.taken number (task_at f.tasks i)
    mine = b.hand i lt works

    below : (j : ℕ) → j < length (set f.tasks i t) → j < length f.tasks
    below j l = omega (arith, length-set f.tasks i t)

    -- who is busy afterwards was so before
    was_busy :
        (j : ℕ) → at_rest (task_at (set f.tasks i t) j) ≡ false → (j ≡ i) ⊎ (j ≢ i) →
        at_rest (task_at f.tasks j) ≡ false
    was_busy j busy (inl e) = ap (λ (k : ℕ). at_rest (task_at f.tasks k)) e ∙ works
    was_busy j busy (inr n) = sym (ap at_rest (task_other f.tasks i j t n)) ∙ busy

    still_apart :
        (j k : ℕ) →
        j < length (set f.tasks i t) →
        k < length (set f.tasks i t) →
        j ≢ k →
        at_rest (task_at (set f.tasks i t) j) ≡ false →
        at_rest (task_at (set f.tasks i t) k) ≡ false → get_or f.serving j 0 ≢ get_or f.serving k 0
    still_apart j k l m n x y =
        b.apart j k (below j l) (below k m) n (was_busy j x (same_or_not i j)) (was_busy k y (same_or_not i k))

    -- the step leaves the task busy
    hand_on :
        (j : ℕ) →
        j < length f.tasks →
        at_rest (task_at (set f.tasks i t) j) ≡ false →
        (j ≡ i) ⊎ (j ≢ i) →
        Hand ks f.answers f.taken (get_or f.serving j 0) (task_at (set f.tasks i t) j)
    hand_on j l busy (inl e) =
        rw (e, task_same f.tasks i t lt)
        (record {
          low = mine.low;
          its_key = mine.its_key ∙ sym same_key;
          unanswered = mine.unanswered;
        })
    hand_on j l busy (inr n) =
        rw (task_other f.tasks i j t n) (b.hand j l (was_busy j busy (inr n)))

    beside_on :
        Tally
        ks
        (record {
          table = bytes;
          tasks = set f.tasks i t;
          serving = f.serving;
          taken = f.taken;
          answers = f.answers;
        })
        accepted
        said
    beside_on =
        record {
          as_many = b.as_many;
          one_each = b.one_each ∙ sym (length-set f.tasks i t);
          enough = b.enough;
          hand = λ j l busy. hand_on j (below j l) busy (same_or_not i j);
          apart = still_apart;
          later = b.later;
          accepts = b.accepts;
          so_answered = b.so_answered;
        }

    -- the step leaves it done: its key has its answer
    module _ (done : eqb t.phase 13 ≡ true) (known : 1 ≤ t.answer) where
      abbrev answers_done : List ℕ
      answers_done = set f.answers number t.answer

      rests : at_rest t ≡ true
      unfolding at_rest
      rests = or_right (eqb t.phase 0) _ done

      hand_done :
          (j : ℕ) →
          j < length f.tasks →
          at_rest (task_at (set f.tasks i t) j) ≡ false →
          (j ≡ i) ⊎ (j ≢ i) →
          Hand ks answers_done f.taken (get_or f.serving j 0) (task_at (set f.tasks i t) j)
      hand_done j l busy (inl e) =
          absurd
          (true≢false
          (sym (ap at_rest (ap (task_at (set f.tasks i t)) e ∙ task_same f.tasks i t lt) ∙ rests) ∙ busy))
      hand_done j l busy (inr n) =
          let before = was_busy j busy (inr n) in
          let h = b.hand j l before in
          let other = b.apart j i l lt n before works in
          rw (task_other f.tasks i j t n)
          (record {
            low = h.low;
            its_key = h.its_key;
            unanswered =
                get_or-set_other f.answers number (get_or f.serving j 0) t.answer 0 other ∙ h.unanswered;
          })

      says_done :
          (p : Said → Bool) →
          count (answered_so p) (paired ks answers_done) ≡ count p (record { key = t.key; answer = t.answer } ∷ said)
      unfolding count
      says_done p =
          omega (
            arith,
            paired_set (answered_so p) ks f.answers number t.answer low_key (omega (arith, b.as_many, low_key)),
            b.so_answered p,
            ap (λ (a : ℕ). bit_of (answered_so p (record { key = get_or ks number 0; answer = a }))) mine.unanswered,
            new,
          )
        where
          low_key : number < length ks
          low_key = omega (arith, mine.low, b.enough)

          new :
              bit_of (answered_so p (record { key = get_or ks number 0; answer = t.answer }))
              ≡ bit_of (p (record { key = t.key; answer = t.answer }))
          new =
              ap
              (λ (c : Bool). bit_of (c && p (record { key = get_or ks number 0; answer = t.answer })))
              (le-leb 1 t.answer known)
              ∙ ap
              (λ (k : ℕ). bit_of (p (record { key = k; answer = t.answer })))
              (mine.its_key ∙ sym same_key)

      beside_done :
          Tally
          ks
          (record {
            table = bytes;
            tasks = set f.tasks i t;
            serving = f.serving;
            taken = f.taken;
            answers = answers_done;
          })
          accepted
          (record { key = t.key; answer = t.answer } ∷ said)
      beside_done =
          record {
            as_many = length-set f.answers number t.answer ∙ b.as_many;
            one_each = b.one_each ∙ sym (length-set f.tasks i t);
            enough = b.enough;
            hand = λ j l busy. hand_done j (below j l) busy (same_or_not i j);
            apart = still_apart;
            later = λ j le.
                get_or-set_other f.answers number j t.answer 0 (λ e. omega (arith, mine.low))
                ∙ b.later j le;
            accepts = b.accepts;
            so_answered = says_done;
          }

    pub beside_step : (t.phase ≡ 13 → 1 ≤ t.answer) → Tally ks (stepped i t bytes f) accepted (heard t said)
    beside_step known = go (eqb t.phase 13) refl
      where
        go :
            (c : Bool) →
            eqb t.phase 13 ≡ c →
            Tally
            ks
            (record {
              table = bytes;
              tasks = set f.tasks i t;
              serving = f.serving;
              taken = f.taken;
              answers = cond c (set f.answers number t.answer) f.answers;
            })
            accepted
            (cond c (record { key = t.key; answer = t.answer } ∷ said) said)
        go true e = beside_done e (known (eqb-true t.phase 13 e))
        go false e = beside_on
