-- An answer (01, Answers and their numbers) as the one number that a call gives to C: value + 2^56 × refusal number.
-- A call that also changes what it was lent gives that number together with what it leaves.
-- Assumes nothing.
use Rattle.std.specs.Prelude.{◌≡◌, ℕ, ◌+◌, ◌*◌}
use Rattle.std.proofs.Common.{◌∙◌, ap, arith}
use Rattle.rules.specs.Answer.{Answer, Leaves, leaves, says, refuses}

pub packed : Answer → ℕ
packed a = a.value + 72057594037927936 * a.number

-- the number given with what the call leaves of what it was lent
pub data Gives (A : Type 0) : Type 0 where
  gives : ℕ → A → Gives A

pub packed_leaves : {A : Type 0} → Leaves A → Gives A
packed_leaves (leaves a xs) = gives (packed a) xs

-- an accepted call gives its value alone, a refused one its refusal's number alone
pub says_packed : (v : ℕ) → v ≡ packed (says v)
unfolding packed
says_packed v = omega arith

pub refuses_packed : (n : ℕ) → 72057594037927936 * n ≡ packed (refuses n)
unfolding packed
refuses_packed n = omega arith

-- a call that packs what another answers gives what that call's answer packed would be
pub packs : {A : Type 0} (a : Answer) (x : ℕ) (xs : A) (l : Leaves A)
    → x ≡ packed a → leaves a xs ≡ l → gives x xs ≡ packed_leaves l
unfolding packed_leaves
packs a x xs l number left = ap (λ (n : ℕ). gives n xs) number ∙ ap packed_leaves left
