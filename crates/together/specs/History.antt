-- Counting over the records and the history: how often a key is busy, loaded (put and not yet answered), answered;
-- and what a give and a step do to these counts.
-- Assumes nothing.
use Rattle.std.specs.Prelude.{ℕ, zero, suc, ◌+◌, ◌≤◌, ◌<◌, ◌≡◌, refl, ◌⊎◌, ◌≢◌, Bool, true, false, cond, ◌&&◌, ◌||◌, List, [], ◌∷◌, length, get_or, set, eqb, leb}
use Rattle.std.proofs.Common.{sym, ap, ap₂, ◌∙◌, inl, inr, arith, eqb-true, le-leb}
use Rattle.std.proofs.Math.Bool.{and-true, and-false}
use Rattle.std.proofs.lemmas.Bool.{eqb-false}
use Rattle.rules.specs.declared.Task.{Task}
use Rattle.rules.specs.Lists.{bit_of, count, all}
use Rattle.rules.specs.Record.{within, busy, at_rest, no_task, task_at}
use Rattle.theory.specs.Record.{resting, is_busy, done_or_beyond, rest_phase, rest_not_busy}
use Rattle.theory.specs.Dealt.{and_left, and_right}
use Rattle.together.specs.Machine.{Said, times_said, times_inserted}
use Rattle.together.specs.Walk.{weight}

-- ---- counting over a list in which one element is stored anew
pub count_set :
    {A : Type 0} (f : A → Bool) (xs : List A) (i : ℕ) (x d : A) →
    i < length xs → count f (set xs i x) + bit_of (f (get_or xs i d)) ≡ count f xs + bit_of (f x)
unfolding count
count_set f [] i x d lt = absurd (omega arith)
count_set f (y ∷ xs) zero x d lt = omega arith
count_set f (y ∷ xs) (suc i) x d lt = omega (arith, count_set f xs i x d (omega arith))

-- a task that has put its key and is not yet done
abbrev pub loaded : Task → Bool
loaded t = within 9 10 t.phase || (within 11 12 t.phase && eqb t.answer 2)

unfoldable pub times_loaded : ℕ → List Task → ℕ
times_loaded key ts = count (λ (t : Task). eqb t.key key && loaded t) ts

unfoldable pub times_busy : ℕ → List Task → ℕ
times_busy key ts = count (λ (t : Task). eqb t.key key && busy t) ts

-- what a task weighs before and after it is done
load_busy : (t : Task) → t.phase ≤ 12 → weight t ≡ bit_of (loaded t)
load_busy t le =
    ap
    (λ (b : Bool). bit_of (within 9 10 t.phase || (leb 11 t.phase && b && eqb t.answer 2)))
    (le-leb t.phase 13 (omega arith) ∙ sym (le-leb t.phase 12 le))

load_done : (t : Task) → t.phase ≡ 13 → weight t ≡ bit_of (eqb t.answer 2)
load_done t e = ap (λ (n : ℕ). bit_of (within 9 10 n || (within 11 13 n && eqb t.answer 2))) e

unloaded_done : (t : Task) → t.phase ≡ 13 → loaded t ≡ false
unloaded_done t e = ap (λ (n : ℕ). within 9 10 n || (within 11 12 n && eqb t.answer 2)) e

-- a Boolean guard on a bit
pub guard_bit : (b c : Bool) → bit_of (b && c) ≡ cond b (bit_of c) 0
guard_bit true c = refl
guard_bit false c = refl

-- ---- a step from a busy record to the next, for one key: what has been inserted, and what is loaded
abbrev pub heard : Task → List Said → List Said
heard t ss = cond (eqb t.phase 13) (record { key = t.key; answer = t.answer } ∷ ss) ss

pub tally_step :
    (key : ℕ) (ts : List Task) (i : ℕ) (t' : Task) (ss : List Said) →
    i < length ts →
    (task_at ts i).phase ≤ 12 →
    t'.phase ≤ 13 →
    t'.key ≡ (task_at ts i).key →
    times_inserted
    key
    (heard t' ss)
    +
    times_loaded
    key
    (set ts i t')
    +
    cond
    (eqb (task_at ts i).key key)
    (weight (task_at ts i))
    0
    ≡ times_inserted key ss + times_loaded key ts + cond (eqb (task_at ts i).key key) (weight t') 0
unfolding times_inserted times_loaded count
tally_step key ts i t' ss lt before after same = go (eqb t'.phase 13) refl
  where
    t : Task
    t = task_at ts i

    mine : eqb t'.key key ≡ eqb t.key key
    mine = ap (λ (k : ℕ). eqb k key) same

    moved :
        count (λ (u : Task). eqb u.key key && loaded u) (set ts i t') + bit_of (eqb t.key key && loaded t)
        ≡ count (λ (u : Task). eqb u.key key && loaded u) ts + bit_of (eqb t'.key key && loaded t')
    moved = count_set (λ (u : Task). eqb u.key key && loaded u) ts i t' no_task lt

    old : bit_of (eqb t.key key && loaded t) ≡ cond (eqb t.key key) (weight t) 0
    old =
        guard_bit (eqb t.key key) (loaded t)
        ∙ ap (λ (n : ℕ). cond (eqb t.key key) n 0) (sym (load_busy t before))

    go :
        (b : Bool) →
        eqb t'.phase 13 ≡ b →
        count
        (λ (s : Said). eqb s.key key && eqb s.answer 2)
        (cond b (record { key = t'.key; answer = t'.answer } ∷ ss) ss)
        + count (λ (u : Task). eqb u.key key && loaded u) (set ts i t')
        + cond (eqb t.key key) (weight t) 0
        ≡ count (λ (s : Said). eqb s.key key && eqb s.answer 2) ss
        + count (λ (u : Task). eqb u.key key && loaded u) ts
        + cond (eqb t.key key) (weight t') 0
    go true e =
        let done = eqb-true t'.phase 13 e in
        let none : bit_of (eqb t'.key key && loaded t') ≡ 0 =
        guard_bit (eqb t'.key key) (loaded t')
        ∙ ap (λ (b : Bool). cond (eqb t'.key key) (bit_of b) 0) (unloaded_done t' done)
        ∙ nothing (eqb t'.key key) in
        let new : bit_of (eqb t'.key key && eqb t'.answer 2) ≡ cond (eqb t.key key) (weight t') 0 =
        guard_bit (eqb t'.key key) (eqb t'.answer 2)
        ∙ ap₂ (λ (b : Bool) (n : ℕ). cond b n 0) mine (sym (load_done t' done)) in
        omega (arith, moved, old)
      where
        nothing : (b : Bool) → cond {A = ℕ} b 0 0 ≡ 0
        nothing true = refl
        nothing false = refl
    go false e =
        let new : bit_of (eqb t'.key key && loaded t') ≡ cond (eqb t.key key) (weight t') 0 =
        guard_bit (eqb t'.key key) (loaded t')
        ∙ ap₂
        (λ (b : Bool) (n : ℕ). cond b n 0)
        mine
        (sym (load_busy t' (still_busy (eqb-false t'.phase 13 e))))
        in
        omega (arith, moved, old)
      where
        still_busy : t'.phase ≢ 13 → t'.phase ≤ 12
        still_busy n = omega arith

-- and for gives and answers: each accepted give is answered or its task is busy
pub answers_step :
    (key : ℕ) (ts : List Task) (i : ℕ) (t' : Task) (ss : List Said) →
    i < length ts →
    1 ≤ (task_at ts i).phase →
    (task_at ts i).phase ≤ 12 →
    1 ≤ t'.phase →
    t'.phase ≤ 13 →
    t'.key ≡ (task_at ts i).key →
    times_said key (heard t' ss) + times_busy key (set ts i t') ≡ times_said key ss + times_busy key ts
unfolding times_said times_busy count
answers_step key ts i t' ss lt first before next-first after same = go (eqb t'.phase 13) refl
  where
    t : Task
    t = task_at ts i

    mine : eqb t'.key key ≡ eqb t.key key
    mine = ap (λ (k : ℕ). eqb k key) same

    moved :
        count (λ (u : Task). eqb u.key key && busy u) (set ts i t') + bit_of (eqb t.key key && busy t)
        ≡ count (λ (u : Task). eqb u.key key && busy u) ts + bit_of (eqb t'.key key && busy t')
    moved = count_set (λ (u : Task). eqb u.key key && busy u) ts i t' no_task lt

    old : bit_of (eqb t.key key && busy t) ≡ bit_of (eqb t.key key)
    old =
        ap (λ (b : Bool). bit_of (eqb t.key key && b)) (is_busy t (λ z. omega arith) (omega arith))
        ∙ ap bit_of (and-true (eqb t.key key))

    go :
        (b : Bool) →
        eqb t'.phase 13 ≡ b →
        count (λ (s : Said). eqb s.key key) (cond b (record { key = t'.key; answer = t'.answer } ∷ ss) ss)
        + count (λ (u : Task). eqb u.key key && busy u) (set ts i t')
        ≡ count (λ (s : Said). eqb s.key key) ss + count (λ (u : Task). eqb u.key key && busy u) ts
    go true e =
        let none : bit_of (eqb t'.key key && busy t') ≡ 0 =
        ap (λ (b : Bool). bit_of (eqb t'.key key && b)) (done_or_beyond t' (omega (arith, eqb-true t'.phase 13 e)))
        ∙ ap bit_of (and-false (eqb t'.key key)) in
        omega (arith, moved, old, ap bit_of mine)
    go false e =
        let apart = eqb-false t'.phase 13 e in
        let new : bit_of (eqb t'.key key && busy t') ≡ bit_of (eqb t'.key key) =
        ap (λ (b : Bool). bit_of (eqb t'.key key && b)) (is_busy t' (λ z. omega (arith, next-first)) (omega arith))
        ∙ ap bit_of (and-true (eqb t'.key key)) in
        omega (arith, moved, old, ap bit_of mine)

-- a give to a task at rest
pub give_tally :
    (key : ℕ) (ts : List Task) (i : ℕ) (t' : Task) →
    i < length ts →
    ((task_at ts i).phase ≡ 0) ⊎ ((task_at ts i).phase ≡ 13) →
    t'.phase ≡ 1 →
    (times_loaded key (set ts i t') ≡ times_loaded key ts)
    × (times_busy key (set ts i t') ≡ times_busy key ts + bit_of (eqb t'.key key))
unfolding times_loaded times_busy
give_tally key ts i t' lt rest one = (
  omega (
    arith,
    count_set (λ (u : Task). eqb u.key key && loaded u) ts i t' no_task lt,
    light (loaded_rest rest),
    light',
  ),
  omega (
    arith,
    count_set (λ (u : Task). eqb u.key key && busy u) ts i t' no_task lt,
    idle (rest_not_busy t (resting t rest)),
    new,
  ),
)
  where
    t : Task
    t = task_at ts i

    loaded_rest : (t.phase ≡ 0) ⊎ (t.phase ≡ 13) → loaded t ≡ false
    loaded_rest (inl e) = ap (λ (n : ℕ). within 9 10 n || (within 11 12 n && eqb t.answer 2)) e
    loaded_rest (inr e) = unloaded_done t e

    light : loaded t ≡ false → bit_of (eqb t.key key && loaded t) ≡ 0
    light h = ap (λ (b : Bool). bit_of (eqb t.key key && b)) h ∙ ap bit_of (and-false (eqb t.key key))

    light' : bit_of (eqb t'.key key && loaded t') ≡ 0
    light' =
        ap (λ (n : ℕ). bit_of (eqb t'.key key && (within 9 10 n || (within 11 12 n && eqb t'.answer 2)))) one
        ∙ ap bit_of (and-false (eqb t'.key key))

    idle : busy t ≡ false → bit_of (eqb t.key key && busy t) ≡ 0
    idle h = ap (λ (b : Bool). bit_of (eqb t.key key && b)) h ∙ ap bit_of (and-false (eqb t.key key))

    new : bit_of (eqb t'.key key && busy t') ≡ bit_of (eqb t'.key key)
    new =
        ap (λ (b : Bool). bit_of (eqb t'.key key && b)) (is_busy t' (λ z. omega arith) (omega arith))
        ∙ ap bit_of (and-true (eqb t'.key key))

-- at rest nothing is loaded and nobody is busy
pub quiet_counts :
    (key : ℕ) (ts : List Task) →
    all at_rest ts ≡ true → (times_loaded key ts ≡ 0) × (times_busy key ts ≡ 0)
unfolding times_loaded times_busy count all
quiet_counts key [] rest = (refl, refl)
quiet_counts key (t ∷ ts) rest =
    let here = rest_phase t (and_left (at_rest t) _ rest) in
    let more = quiet_counts key ts (and_right (at_rest t) _ rest) in
    (omega (arith, light here, more.0), omega (arith, idle here, more.1))
  where
    light : (t.phase ≡ 0) ⊎ (t.phase ≡ 13) → bit_of (eqb t.key key && loaded t) ≡ 0
    light (inl e) =
        ap (λ (n : ℕ). bit_of (eqb t.key key && (within 9 10 n || (within 11 12 n && eqb t.answer 2)))) e
        ∙ ap bit_of (and-false (eqb t.key key))
    light (inr e) =
        ap (λ (n : ℕ). bit_of (eqb t.key key && (within 9 10 n || (within 11 12 n && eqb t.answer 2)))) e
        ∙ ap bit_of (and-false (eqb t.key key))

    idle : (t.phase ≡ 0) ⊎ (t.phase ≡ 13) → bit_of (eqb t.key key && busy t) ≡ 0
    idle h =
        ap (λ (b : Bool). bit_of (eqb t.key key && b)) (rest_not_busy t (resting t h))
        ∙ ap bit_of (and-false (eqb t.key key))
