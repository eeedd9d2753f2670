-- Cleared bytes are one thing repeated: of that, some are fewer of it (`take_replicate`).
-- Assumes nothing.
use Rattle.std.specs.Prelude.{ℕ, zero, suc, ◌≤◌, ◌≡◌, refl, List, ◌∷◌, take, replicate}
use Rattle.std.proofs.Common.{ap, arith}

pub take_replicate : {A : Type 0} (k n : ℕ) (a : A) → k ≤ n → take k (replicate n a) ≡ replicate k a
take_replicate zero n a le = refl
take_replicate (suc k) zero a le = absurd (omega arith)
take_replicate {A} (suc k) (suc n) a le = ap (λ (rest : List A). a ∷ rest) (take_replicate k n a (omega arith))
