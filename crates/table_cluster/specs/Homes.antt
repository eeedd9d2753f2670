-- The homes of a run's groups, found one by one from the left: `homes_from`, its steps, and `due_home`, the next one.
-- `Housed`, `Owed`: as many homes as groups, so that none is missing; a sound run has them (`sound_housed`).
-- Assumes nothing.
use Rattle.std.specs.Prelude.{ℕ, zero, suc, ◌+◌, ◌-◌, ◌*◌, ◌≤◌, ◌<◌, ◌≡◌, refl, Bool, true, false, ◌&&◌, List, [], ◌∷◌, length, eqb}
use Rattle.std.proofs.Common.{◌∙◌, ap, arith, eqb-true}
use Rattle.std.proofs.Math.Numerals.{add-one}
use Rattle.std.proofs.Math.Seq.{slice}
use Rattle.rules.specs.declared.Shape.{Shape}
use Rattle.rules.specs.Lists.{bit_of, count}
use Rattle.rules.specs.Word.{Word}
use Rattle.rules.specs.Bytes.{words_of}
use Rattle.rules.specs.Table.{at, ends_in_change, sound_run, virgin_places, due}
use Rattle.theory.specs.Dealt.{is_change, is_virgin, and_left, and_right}
use Rattle.theory.specs.RunLaws.{virgin_count}
use Rattle.table_cluster.specs.Run.{run_step, run_end}

-- the homes from place p on, up to r
abbrev pub homes_from : List Word → ℕ → ℕ → List ℕ
homes_from ws r p = virgin_places p (slice p r ws)

-- the first of some homes, r if there is none
abbrev pub first_of : ℕ → List ℕ → ℕ
first_of r [] = r
first_of r (h ∷ hs) = h

module _ (bs : List ℕ) (p r : ℕ) where
  pub home_passed :
      p < r → 2 * r ≤ length bs → (at (words_of bs) p).virgin ≡ false →
      homes_from (words_of bs) r (p + 1) ≡ homes_from (words_of bs) r p
  unfolding virgin_places
  home_passed h within e = rw (run_step bs p r h within, e, add-one p)

  pub home_met :
      p < r → 2 * r ≤ length bs → (at (words_of bs) p).virgin ≡ true →
      homes_from (words_of bs) r p ≡ p ∷ homes_from (words_of bs) r (p + 1)
  unfolding virgin_places
  home_met h within e = rw (run_step bs p r h within, e, add-one p)

  pub home_end : r ≤ p → homes_from (words_of bs) r p ≡ []
  unfolding virgin_places
  home_end h = rw (run_end bs p r h)

-- the first home stands before r, and the others are the homes after it
pub record Due (bs : List ℕ) (r : ℕ) (hs : List ℕ) : Type 0 where
  pub inside : first_of r hs < r
  pub first : hs ≡ first_of r hs ∷ homes_from (words_of bs) r (first_of r hs + 1)
  pub same : homes_from (words_of bs) r (first_of r hs) ≡ hs

pub due_home :
    (bs : List ℕ) (p r : ℕ) → 2 * r ≤ length bs → 0 < length (homes_from (words_of bs) r p) →
    Due bs r (homes_from (words_of bs) r p)
due_home bs p r within = go (r - p) p refl
  where
    here :
        (p : ℕ) → p < r → (b : Bool) → (at (words_of bs) p).virgin ≡ b →
        (0 < length (homes_from (words_of bs) r (p + 1)) → Due bs r (homes_from (words_of bs) r (p + 1))) →
        0 < length (homes_from (words_of bs) r p) → Due bs r (homes_from (words_of bs) r p)
    here p h true e rest some =
        rw (home_met bs p r h within e) (record { inside = h; first = refl; same = home_met bs p r h within e })
    here p h false e rest some =
        rw (← home_passed bs p r h within e) (rest (rw (← home_passed bs p r h within e) at some))

    go : (n p : ℕ) → r - p ≡ n → 0 < length (homes_from (words_of bs) r p) → Due bs r (homes_from (words_of bs) r p)
    go zero p e some = absurd (omega (arith, ap length (home_end bs p r (omega arith))))
    go (suc n) p e some = here p (omega arith) (at (words_of bs) p).virgin refl (go n (p + 1) (omega arith)) some

-- ---- as many homes as groups
pub record Housed (run : List Word) : Type 0 where
  pub as_many : count is_virgin run ≡ count is_change run
  pub ended : ends_in_change run ≡ true

pub sound_housed : (sh : Shape) (run : List Word) → sound_run sh run ≡ true → Housed run
unfolding sound_run
sound_housed sh run e =
    let even = eqb (count is_virgin run) (count is_change run) in
    let counted = and_left (even && ends_in_change run) _ e in
    record { as_many = eqb-true _ _ (and_left even _ counted); ended = and_right even _ counted }

-- the homes that are left, with the words that are left
pub record Owed (hs : List ℕ) (ws : List Word) : Type 0 where
  pub homes : length hs ≡ count is_change ws
  pub ended : ends_in_change ws ≡ true

pub housed_owed : (p : ℕ) (run : List Word) → Housed run → Owed (virgin_places p run) run
housed_owed p run h = record { homes = virgin_count p run ∙ h.as_many; ended = h.ended }

ended_next : (w : Word) (ws : List Word) → ends_in_change (w ∷ ws) ≡ true → ends_in_change ws ≡ true
unfolding ends_in_change
ended_next w [] e = refl
ended_next w (v ∷ ws) e = e

pub owed_next : (hs : List ℕ) (w : Word) (ws : List Word) → Owed hs (w ∷ ws) → Owed (due w.change hs) ws
unfolding count
owed_next hs w ws o = record { homes = go w.change hs o.homes; ended = ended_next w ws o.ended }
  where
    go : (b : Bool) (hs : List ℕ) → length hs ≡ bit_of b + count is_change ws → length (due b hs) ≡ count is_change ws
    go false hs e = omega arith
    go true [] e = absurd (omega arith)
    go true (h ∷ hs) e = omega arith
