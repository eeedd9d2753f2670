-- One task's step changes the invariant at that task alone: `inv_update`, from the step's own part and what it leaves
-- to the others.
-- Assumes nothing.
use Rattle.std.specs.Prelude.{ℕ, ◌<◌, ◌≡◌, refl, ◌⊎◌, ◌≢◌, Bool, true, false, List, length, set, eqb}
use Rattle.std.proofs.Common.{sym, ap, ◌∙◌, subst, subst₂, inl, inr, arith, length-set, get_or-set_same, get_or-set_other, eqb-true}
use Rattle.std.proofs.lemmas.Bool.{eqb-false}
use Rattle.rules.specs.declared.Shape.{Shape}
use Rattle.rules.specs.declared.Task.{Task}
use Rattle.rules.specs.Word.{Word}
use Rattle.rules.specs.Entry.{Entry}
use Rattle.rules.specs.Table.{at, occupied_places}
use Rattle.rules.specs.Record.{no_task, task_at}
use Rattle.theory.specs.Run.{unlock}
use Rattle.theory.specs.Building.{State}
use Rattle.together.specs.Invariant.{InPhase, Owns, Apart, Unfinished, Inv}

pub apart_sym : {t u : Task} → Apart t u → Apart u t
apart_sym a =
    record { owners = λ p x y. a.owners p y x; stretches = λ x y p i j. a.stretches y x p j i }

-- ---- the records after one is stored
pub task_same : (ts : List Task) (i : ℕ) (t : Task) → i < length ts → task_at (set ts i t) i ≡ t
task_same ts i t lt = get_or-set_same ts i t no_task lt

pub task_other : (ts : List Task) (i j : ℕ) (t : Task) → j ≢ i → task_at (set ts i t) j ≡ task_at ts j
task_other ts i j t n = get_or-set_other ts i j t no_task n

pub same_or_not : (i j : ℕ) → (j ≡ i) ⊎ (j ≢ i)
same_or_not i j = go (eqb j i) refl
  where
    go : (b : Bool) → eqb j i ≡ b → (j ≡ i) ⊎ (j ≢ i)
    go true e = inl (eqb-true j i e)
    go false e = inr (eqb-false j i e)

-- what a step of task t, at number i, has to show
pub record Steps (sh : Shape) (ws : List Word) (ts : List Task) (laid : List Word) (shown : List Entry) (i : ℕ)
    (t' : Task) (ws' laid' : List Word) (shown' : List Entry) : Type 0 where
  pub plain : State sh laid' shown'
  pub places : occupied_places ws' ≡ occupied_places laid'
  pub small : (p : ℕ) → (at ws' p).remainder < 4096
  pub stage : InPhase sh ws' laid' shown' t'
  pub others :
      (u : Task) → Apart (task_at ts i) u → InPhase sh ws laid shown u → InPhase sh ws' laid' shown' u
  pub apart : (u : Task) → Apart (task_at ts i) u → InPhase sh ws laid shown u → Apart t' u
  pub owner :
      (p : ℕ) → (at ws' p).lock ≡ true → Owns t' p ⊎ (((at ws p).lock ≡ true) × (Owns (task_at ts i) p → Owns t' p))
  pub settled :
      (p : ℕ) →
      (Unfinished t' p → ⊥) →
      ((j : ℕ) → j < length ts → j ≢ i → Unfinished (task_at ts j) p → ⊥) → unlock (at ws' p) ≡ at laid' p

pub inv_update :
    {sh : Shape} {ws : List Word} {ts : List Task} {laid : List Word} {shown : List Entry} (i : ℕ) {t' : Task}
    {ws' laid' : List Word} {shown' : List Entry} →
    i < length ts →
    Inv sh ws ts laid shown →
    Steps sh ws ts laid shown i t' ws' laid' shown' → Inv sh ws' (set ts i t') laid' shown'
inv_update {sh} {ws} {ts} {laid} {shown} i {t'} {ws'} {laid'} {shown'} lt inv s =
    record {
      plain = s.plain;
      places = s.places;
      small = s.small;
      stage = λ j l. stage_at j (under j l) (same_or_not i j);
      apart = λ j k l m n. apart_at j k (under j l) (under k m) n (same_or_not i j) (same_or_not i k);
      owner = λ p locked. owner_at p (s.owner p locked);
      settled = λ p none.
          s.settled p (own p none) (λ j l n x. none j (over j l) (there (λ (t : Task). Unfinished t p) j n x));
    }
  where
    under : (j : ℕ) → j < length (set ts i t') → j < length ts
    under j l = omega (arith, length-set ts i t')

    over : (j : ℕ) → j < length ts → j < length (set ts i t')
    over j l = omega (arith, length-set ts i t')

    here : (P : Task → Type 0) → P t' → P (task_at (set ts i t') i)
    here P x = subst P (sym (task_same ts i t' lt)) x

    there : (P : Task → Type 0) (j : ℕ) → j ≢ i → P (task_at ts j) → P (task_at (set ts i t') j)
    there P j n x = subst P (sym (task_other ts i j t' n)) x

    stage_at : (j : ℕ) → j < length ts → (j ≡ i) ⊎ (j ≢ i) → InPhase sh ws' laid' shown' (task_at (set ts i t') j)
    stage_at j l (inl e) =
        subst
        (λ (k : ℕ). InPhase sh ws' laid' shown' (task_at (set ts i t') k))
        (sym e)
        (here (InPhase sh ws' laid' shown') s.stage)
    stage_at j l (inr n) =
        there
        (InPhase sh ws' laid' shown')
        j
        n
        (s.others (task_at ts j) (inv.apart i j lt l (λ e. n (sym e))) (inv.stage j l))

    beside : (j : ℕ) → j < length ts → j ≢ i → Apart t' (task_at ts j)
    beside j l n = s.apart (task_at ts j) (inv.apart i j lt l (λ e. n (sym e))) (inv.stage j l)

    apart_at :
        (j k : ℕ) →
        j < length ts →
        k < length ts →
        j ≢ k →
        (j ≡ i) ⊎ (j ≢ i) →
        (k ≡ i) ⊎ (k ≢ i) → Apart (task_at (set ts i t') j) (task_at (set ts i t') k)
    apart_at j k l m n (inl e) (inl f) = absurd (n (e ∙ sym f))
    apart_at j k l m n (inl e) (inr f) =
        subst₂
        Apart
        (sym (ap (task_at (set ts i t')) e ∙ task_same ts i t' lt))
        (sym (task_other ts i k t' f))
        (beside k m f)
    apart_at j k l m n (inr e) (inl f) =
        subst₂
        Apart
        (sym (task_other ts i j t' e))
        (sym (ap (task_at (set ts i t')) f ∙ task_same ts i t' lt))
        (apart_sym (beside j l e))
    apart_at j k l m n (inr e) (inr f) =
        subst₂ Apart (sym (task_other ts i j t' e)) (sym (task_other ts i k t' f)) (inv.apart j k l m n)

    owner_at :
        (p : ℕ) →
        Owns t' p ⊎ (((at ws p).lock ≡ true) × (Owns (task_at ts i) p → Owns t' p)) →
        (j : ℕ) × (j < length (set ts i t')) × Owns (task_at (set ts i t') j) p
    owner_at p (inl o) = (i, over i lt, here (λ (t : Task). Owns t p) o)
    owner_at p (inr x) = go (inv.owner p x.0)
      where
        go :
            (j : ℕ) × (j < length ts) × Owns (task_at ts j) p →
            (j : ℕ) × (j < length (set ts i t')) × Owns (task_at (set ts i t') j) p
        go y = or_else (same_or_not i y.0)
          where
            or_else :
                (y.0 ≡ i) ⊎ (y.0 ≢ i) → (j : ℕ) × (j < length (set ts i t')) × Owns (task_at (set ts i t') j) p
            or_else (inl e) =
                (i, over i lt, here (λ (t : Task). Owns t p) (x.1 (subst (λ (j : ℕ). Owns (task_at ts j) p) e y.2)))
            or_else (inr n) = (y.0, over y.0 y.1, there (λ (t : Task). Owns t p) y.0 n y.2)

    own :
        (p : ℕ) → ((j : ℕ) → j < length (set ts i t') → Unfinished (task_at (set ts i t') j) p → ⊥) → Unfinished t' p →
        ⊥
    own p none x = none i (over i lt) (here (λ (t : Task). Unfinished t p) x)
