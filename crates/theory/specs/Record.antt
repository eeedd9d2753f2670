-- A record at rest or busy, by its phase. `resting` to `done_or_beyond`: the tests by the phase; `rest_phase`,
-- `works_phase`: the phase by the test. `rest_not_busy`, `fits_works`: what the tests tell of one another.
-- `good_task_lem`: one of at most sixteen records has a good number. `again_stays`: to begin again in phase 1 is to stay.
-- Assumes nothing.
use Rattle.std.specs.Prelude.{ℕ, ◌≤◌, ◌<◌, ◌≡◌, Bool, ◌||◌, ◌⊎◌, List, length}
use Rattle.std.proofs.Math.Path.{refl}
use Rattle.std.proofs.Common.{sym, ap, true≢false, arith}
use Rattle.std.proofs.Math.Bool.{true, false, and-eq-true_iff}
use Rattle.std.proofs.lemmas.Bool.{false≢true}
use Rattle.std.proofs.Math.Logic.{inl, inr}
use Rattle.std.proofs.Math.Dec.{eqb}
use borrow.Author.Tests.{le-leb, lt-leb, lt-ltb, ne_eqb, eqb-true, eqb-false}
use Rattle.rules.specs.declared.Shape.{Shape}
use Rattle.rules.specs.declared.Task.{Task}
use Rattle.rules.specs.Record.{busy, at_rest, fits_busy, fits, good_task, to_phase, again}

pub good_task_lem : (ts : List Task) (i : ℕ) → length ts ≤ 16 → i < length ts → good_task ts i ≡ true
unfolding good_task
good_task_lem ts i few here = rw (le-leb (length ts) 16 few, lt-ltb i (length ts) here)

-- phases 0 and 13
abbrev pub Resting : Task → Type 0
Resting t = (t.phase ≡ 0) ⊎ (t.phase ≡ 13)

module _ (t : Task) where
  pub resting : Resting t → at_rest t ≡ true
  unfolding at_rest
  resting (inl e) = rw e
  resting (inr e) = rw e

  pub not_resting : (Resting t → ⊥) → at_rest t ≡ false
  unfolding at_rest
  not_resting awake =
      rw (ne_eqb t.phase 0 (λ e. awake (inl e)), ne_eqb t.phase 13 (λ e. awake (inr e)))

  -- phases 1 to 12
  pub is_busy : (t.phase ≡ 0 → ⊥) → t.phase < 13 → busy t ≡ true
  unfolding busy
  is_busy not-idle h = rw (le-leb 1 t.phase (omega arith), le-leb t.phase 12 (omega arith))

  pub idle : t.phase ≡ 0 → busy t ≡ false
  unfolding busy
  idle e = rw e

  pub done_or_beyond : 13 ≤ t.phase → busy t ≡ false
  unfolding busy
  done_or_beyond h = rw (le-leb 1 t.phase (omega arith), lt-leb t.phase 12 (omega arith))

  pub rest_phase : at_rest t ≡ true → Resting t
  unfolding at_rest
  rest_phase h = go (eqb t.phase 0) (eqb t.phase 13) refl refl h
    where
      go : (a b : Bool) → eqb t.phase 0 ≡ a → eqb t.phase 13 ≡ b → (a || b) ≡ true → Resting t
      go true b x y k = inl (eqb-true t.phase 0 x)
      go false true x y k = inr (eqb-true t.phase 13 y)
      go false false x y k = absurd (false≢true k)

  -- a phase that is neither 0 nor 13, and at most 13, is a busy one
  pub works_phase : t.phase ≤ 13 → at_rest t ≡ false → (1 ≤ t.phase) × (t.phase ≤ 12)
  unfolding at_rest
  works_phase le h = go (eqb t.phase 0) (eqb t.phase 13) refl refl h
    where
      go :
          (a b : Bool) → eqb t.phase 0 ≡ a → eqb t.phase 13 ≡ b → (a || b) ≡ false →
          (1 ≤ t.phase) × (t.phase ≤ 12)
      go true b x y k = absurd (true≢false k)
      go false true x y k = absurd (true≢false k)
      go false false x y k =
          let n = eqb-false t.phase 0 x in
          let o = eqb-false t.phase 13 y in
          (omega (arith, n), omega (arith, o, le))

  pub rest_not_busy : at_rest t ≡ true → busy t ≡ false
  rest_not_busy rest = go (rest_phase rest)
    where
      go : Resting t → busy t ≡ false
      go (inl e) = idle e
      go (inr e) = done_or_beyond (omega arith)

  -- who fits and is not at rest is busy, and fits as such
  pub fits_works : (sh : Shape) → fits sh t ≡ true → at_rest t ≡ false → (busy t ≡ true) × (fits_busy sh t ≡ true)
  unfolding fits
  fits_works sh e works = (and-eq-true_iff (busy t) (fits_busy sh t)).0 (rw works at e)

pub again_stays : (t : Task) → t.phase ≡ 1 → again t ≡ t
again_stays t e = ap (λ (n : ℕ). to_phase n t) (sym e)
