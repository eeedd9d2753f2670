-- Tests. `refuted`: one that cannot hold. `same_test`, `eqb_sym`: two of equality that hold together have one value.
-- A number from one to another, `within`. `inside`, `below`, `above`: the test by where the number lies;
-- `between`: where it lies by the test, as the two facts of `Between`.
-- Assumes nothing.
use Rattle.std.specs.Prelude.{ℕ, ◌≤◌, ◌<◌, ◌≡◌, refl, Bool, true, false, leb, eqb}
use Rattle.std.proofs.Common.{sym, le-leb, leb-true, eq-eqb, ne_eqb, eqb-true}
use Rattle.std.proofs.Math.Bool.{and-false, and-eq-true_iff}
use Rattle.std.proofs.lemmas.Bool.{lt-leb, eqb-false}
use Rattle.rules.specs.Record.{within}

pub refuted : (b : Bool) → (b ≡ true → ⊥) → b ≡ false
refuted true never = absurd (never refl)
refuted false never = refl

pub same_test : (a b c d : ℕ) → (a ≡ b → c ≡ d) → (c ≡ d → a ≡ b) → eqb a b ≡ eqb c d
same_test a b c d to back = go (eqb a b) refl
  where
    go : (t : Bool) → eqb a b ≡ t → t ≡ eqb c d
    go true e = sym (eq-eqb c d (to (eqb-true a b e)))
    go false e = sym (ne_eqb c d (λ q. eqb-false a b e (back q)))

pub eqb_sym : (a b : ℕ) → eqb a b ≡ eqb b a
eqb_sym a b = same_test a b b a sym sym

pub record Between (low high x : ℕ) : Type 0 where
  pub least : low ≤ x
  pub most : x ≤ high

module _ (low high x : ℕ) where
  pub inside : low ≤ x → x ≤ high → within low high x ≡ true
  inside a b = rw (le-leb low x a, le-leb x high b)

  pub below : x < low → within low high x ≡ false
  below a = rw (lt-leb low x a)

  pub above : high < x → within low high x ≡ false
  above a = rw (lt-leb x high a) (and-false (leb low x))

  pub between : within low high x ≡ true → Between low high x
  between e =
      let (a, b) = (and-eq-true_iff (leb low x) (leb x high)).0 e in
      record { least = leb-true low x a; most = leb-true x high b }
