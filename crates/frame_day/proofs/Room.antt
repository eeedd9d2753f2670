-- Room: where a line's keys and those in the table fit, no answer is full, each key is listed afterwards, and the
-- bytes are those of puts. Before that: tests of a list by counts, fewer keys, and the keys answered inserted.
-- Assumes nothing.
use Rattle.std.specs.Prelude.{ℕ, ◌+◌, ◌≤◌, ◌≡◌, ◌≢◌, Bool, not, cond, ◌&&◌, ◌||◌, List, [], ◌∷◌, ◌++◌, replicate, eqb, ltb}
use Rattle.std.proofs.Math.Path.{refl, sym, ap}
use Rattle.std.proofs.Common.{◌∙◌, arith, zero-add, eqb-true, eq-eqb, ne_eqb, le-leb, leb-true}
use Rattle.std.proofs.Math.Bool.{true, false, or_assoc}
use Rattle.std.proofs.Math.Dec.{leb}
use Rattle.std.proofs.lemmas.Bool.{eqb-false}
use Rattle.rules.specs.declared.Shape.{Shape}
use Rattle.rules.specs.Lists.{bit_of, count, all, any}
use Rattle.rules.specs.Shape.{homes, remainders, keys}
use Rattle.rules.specs.Entry.{Entry, join}
use Rattle.rules.specs.Lay.{holds, ascend}
use Rattle.rules.specs.Record.{no_task}
use Rattle.theory.specs.Every.{All}
use Rattle.theory.specs.Insert.{ascend_asc, holds_ascend}
use Rattle.theory.specs.Dealt.{and_left, and_right, and_both, or_left, or_right}
use Rattle.theory.specs.Keys.{listed}
use Rattle.theory.specs.Building.{subset_length}
use Rattle.demands.specs.Terms.{PlainTable, InKeys, entries_of, list_of, distinct, put_all}
use Rattle.demands.specs.Tables.{low_of}
use Rattle.demands.specs.Proof2.{ascending_list}
use Rattle.demands.specs.Proof3.{listed_split, held_key, all_within, all_both, ascending_keys}
use Rattle.frame_rules.specs.declared.First.{First}
use Rattle.frame_rules.specs.Rounds.{Floor, all_answered}
use Rattle.together.specs.Machine.{Said, times_inserted}
use Rattle.together.specs.Demand3 as demand_3
use Rattle.together.specs.Demand3.{was_inserted}
use Rattle.frame_day.specs.Terms.{paired, keys_in, inserted_in, Follows}
use Rattle.frame_day.specs.Counting.{paired_parts}
use Rattle.frame_day.specs.Inserted.{inserted_count}
use Rattle.frame_day.proofs.Moments.{idle_tasks}
use Rattle.frame_day.proofs.Line.{all_alike, answers_alike, keys_alike, inserted_alike, done, no_more, after}
use Rattle.frame_day.proofs.Line.{line_lists, line_new}

-- ---- tests of a list by counts
any_count : {A : Type 0} (p : A → Bool) (xs : List A) → any p xs ≡ leb 1 (count p xs)
unfolding any count
any_count p [] = refl
any_count p (x ∷ xs) = go (p x) (any_count p xs)
  where
    go : (b : Bool) → any p xs ≡ leb 1 (count p xs) → (b || any p xs) ≡ leb 1 (bit_of b + count p xs)
    go true e = sym (le-leb 1 (1 + count p xs) (omega arith))
    go false e = e ∙ ap (leb 1) (sym (zero-add (count p xs)))

all_count : {A : Type 0} (p : A → Bool) (xs : List A) → all p xs ≡ eqb (count (λ (x : A). not (p x)) xs) 0
unfolding all count
all_count p [] = refl
all_count {A} p (x ∷ xs) = go (p x) (all_count p xs)
  where
    fails : ℕ
    fails = count (λ (y : A). not (p y)) xs

    go : (b : Bool) → all p xs ≡ eqb fails 0 → (b && all p xs) ≡ eqb (bit_of (not b) + fails) 0
    go true e = e ∙ ap (λ (n : ℕ). eqb n 0) (sym (zero-add fails))
    go false e = sym (ne_eqb (1 + fails) 0 (λ z. omega arith))

pub listed_append : (x : ℕ) (ks js : List ℕ) → listed x (ks ++ js) ≡ (listed x ks || listed x js)
unfolding listed any
listed_append x [] js = refl
listed_append x (k ∷ ks) js =
    ap (λ (b : Bool). eqb x k || b) (listed_append x ks js) ∙ sym (or_assoc (eqb x k) (listed x ks) (listed x js))

-- ---- fewer keys
pub distinct_fewer :
    (sh : Shape) (ks us : List ℕ) →
    remainders sh ≤ 4096 →
    InKeys sh ks →
    InKeys sh us → ((x : ℕ) → listed x ks ≡ true → listed x us ≡ true) → distinct sh ks ≤ distinct sh us
unfolding distinct
distinct_fewer sh ks us low h k among =
    subset_length
    (ascend (entries_of sh us))
    low
    (ascend_asc low (all_within sh us k))
    (ascend (entries_of sh ks))
    4096
    (ascend_asc low (all_within sh ks h))
    inside
  where
    inside : (x : Entry) → holds x (ascend (entries_of sh ks)) ≡ true → holds x (ascend (entries_of sh us)) ≡ true
    inside x there =
        let held = sym (holds_ascend x (entries_of sh ks)) ∙ there in
        let back = (held_key sh ks x low h held).0 in
        let key = join sh x in
        holds_ascend x (entries_of sh us)
        ∙ ap (λ (y : Entry). holds y (entries_of sh us)) (sym back)
        ∙ sym (listed_split sh key us)
        ∙ among key (listed_split sh key ks ∙ ap (λ (y : Entry). holds y (entries_of sh ks)) back ∙ held)

-- ---- the keys answered inserted
pub inserted_times : (x : ℕ) (past : List Said) → listed x (inserted_in past) ≡ leb 1 (times_inserted x past)
unfolding listed
inserted_times x past = any_count (eqb x) (inserted_in past) ∙ ap (leb 1) (inserted_count x past)

-- they are among the keys
pub inserted_listed : (x : ℕ) (past : List Said) → 1 ≤ times_inserted x past → listed x (keys_in past) ≡ true
unfolding times_inserted count listed any
inserted_listed x [] some = absurd (omega arith)
inserted_listed x (s ∷ past) some = go (eqb s.key x) refl some (λ more. inserted_listed x past more)
  where
    go :
        (b : Bool) →
        eqb s.key x ≡ b →
        1 ≤ bit_of (b && eqb s.answer 2) + times_inserted x past →
        (1 ≤ times_inserted x past → listed x (keys_in past) ≡ true) → listed x (keys_in (s ∷ past)) ≡ true
    go true e k more = or_left _ _ (eq-eqb x s.key (sym (eqb-true s.key x e)))
    go false e k more = or_right (eqb x s.key) _ (more (omega arith))

pub inserted_in_lem : (sh : Shape) (past : List Said) → InKeys sh (keys_in past) → InKeys sh (inserted_in past)
unfolding all inserted_in
inserted_in_lem sh [] h = refl
inserted_in_lem sh (s ∷ past) h = go (eqb s.answer 2) (inserted_in_lem sh past (and_right (ltb s.key (keys sh)) _ h))
  where
    go :
        (b : Bool) → InKeys sh (inserted_in past) →
        InKeys sh (cond b (s.key ∷ inserted_in past) (inserted_in past))
    go true more = and_both _ _ (and_left (ltb s.key (keys sh)) _ h) more
    go false more = more

-- ---- one line
module _ (f : First) {bytes : List ℕ} (t : PlainTable f.shape bytes)
    (few : f.tasks ≤ 16) {ks : List ℕ} {floor : Floor}
    (run : Follows f bytes ks floor) (complete : all_answered ks floor ≡ true) (h : InKeys f.shape ks)
  where
    abbrev accepted : List ℕ
    accepted = (after f t few run complete).given

    accepted_in : InKeys f.shape accepted
    accepted_in =
        all_count (λ (key : ℕ). ltb key (keys f.shape)) accepted
        ∙ ap
        (λ (c : ℕ). eqb c 0)
        (keys_alike f t few run complete (λ (key : ℕ). not (ltb key (keys f.shape))))
        ∙ sym (all_count (λ (key : ℕ). ltb key (keys f.shape)) ks)
        ∙ h

    accepted_listed : (x : ℕ) → listed x accepted ≡ listed x ks
    unfolding listed
    accepted_listed x =
        any_count (eqb x) accepted
        ∙ ap (leb 1) (keys_alike f t few run complete (eqb x))
        ∙ sym (any_count (eqb x) ks)

    abbrev before : List ℕ
    before = list_of f.shape bytes

    before_in : InKeys f.shape before
    before_in = ascending_keys f.shape (ascending_list t.whole)

    abbrev answers : List Said
    answers = paired ks floor.answers

    in_answers : keys_in answers ≡ ks
    in_answers = (paired_parts ks floor.answers run.as_many).0

    module _ (fits : distinct f.shape (list_of f.shape bytes ++ ks) ≤ homes f.shape) where
      fits_accepted : distinct f.shape (before ++ accepted) ≤ homes f.shape
      fits_accepted =
          omega (
            arith,
            fits,
            distinct_fewer
                f.shape
                (before ++ accepted)
                (before ++ ks)
                (low_of t.whole)
                (all_both f.shape before accepted before_in accepted_in)
                (all_both f.shape before ks before_in h)
                (λ x there. sym (same x) ∙ there),
          )
        where
          same : (x : ℕ) → listed x (before ++ accepted) ≡ listed x (before ++ ks)
          same x =
              listed_append x before accepted
              ∙ ap (λ (b : Bool). listed x before || b) (accepted_listed x)
              ∙ sym (listed_append x before ks)

      pub line_none_full : All (λ (s : Said). s.answer ≢ 3) answers
      line_none_full =
          all_alike
          (λ (s : Said). eqb s.answer 3)
          (λ s apart. ne_eqb s.answer 3 apart)
          (λ s e. eqb-false s.answer 3 e)
          (answers_alike f t few run complete)
          (demand_3.none_full
          t
          (replicate f.tasks no_task)
          (no_more f t few run complete)
          (idle_tasks f.tasks)
          run.actions
          (done f t few run complete)
          fits_accepted)

      -- a new key is answered inserted once
      new_once : (x : ℕ) → listed x ks ≡ true → listed x before ≡ false → times_inserted x answers ≡ 1
      new_once x there new =
          sym (inserted_alike f t few run complete x)
          ∙ demand_3.inserted_exactly_once
          t
          (replicate f.tasks no_task)
          (no_more f t few run complete)
          (idle_tasks f.tasks)
          run.actions
          (done f t few run complete)
          fits_accepted
          x
          (accepted_listed x ∙ there)
          new

      -- each of the line's keys is listed afterwards
      pub line_every_listed : (x : ℕ) → listed x ks ≡ true → listed x (list_of f.shape floor.table) ≡ true
      unfolding was_inserted
      line_every_listed x there = line_lists f t few run complete x ∙ go (listed x before) refl
        where
          go : (b : Bool) → listed x before ≡ b → (b || leb 1 (times_inserted x answers)) ≡ true
          go true e = refl
          go false e = ap (leb 1) (new_once x there e)

      -- the bytes are those of putting the keys answered inserted
      pub line_bytes : put_all f.shape bytes (inserted_in answers) ≡ floor.table
      line_bytes =
          demand_3.bytes_after
          t
          (replicate f.tasks no_task)
          (no_more f t few run complete)
          (idle_tasks f.tasks)
          run.actions
          (done f t few run complete)
          fits_accepted
          (inserted_in answers)
          (inserted_in_lem f.shape answers (ap (all (λ (key : ℕ). ltb key (keys f.shape))) in_answers ∙ h))
          (λ x lt. exactly x ∙ ap (λ (b : Bool). b && not (listed x before)) (sym (accepted_listed x)))
          ∙ run.same_table
        where
          exactly : (x : ℕ) → listed x (inserted_in answers) ≡ (listed x ks && not (listed x before))
          exactly x = inserted_times x answers ∙ go (listed x ks) (listed x before) refl refl
            where
              go :
                  (a b : Bool) →
                  listed x ks ≡ a → listed x before ≡ b → leb 1 (times_inserted x answers) ≡ (a && not b)
              go true true y z = ap (leb 1) (line_new f t few run complete x z)
              go true false y z = ap (leb 1) (new_once x y z)
              go false b y z =
                  not_asked (leb 1 (times_inserted x answers)) refl
                where
                  not_asked : (c : Bool) → leb 1 (times_inserted x answers) ≡ c → c ≡ false
                  not_asked true e =
                      sym (inserted_listed x answers (leb-true 1 _ e)) ∙ ap (listed x) in_answers ∙ y
                  not_asked false e = refl
