-- A key occurs among the keys answered inserted as often as it was answered so.
-- Assumes nothing.
use Rattle.std.specs.Prelude.{ℕ, ◌+◌, ◌≡◌, Bool, cond, ◌&&◌, List, [], ◌∷◌, eqb}
use Rattle.std.proofs.Math.Path.{refl, ap}
use Rattle.std.proofs.Common.{arith}
use Rattle.std.proofs.Math.Bool.{true, false}
use Rattle.rules.specs.Lists.{bit_of, count}
use Rattle.table_words.specs.Tests.{eqb_sym}
use Rattle.together.specs.Machine.{Said, times_inserted}
use Rattle.frame_day.specs.Terms.{inserted_in}

pub inserted_count : (x : ℕ) (past : List Said) → count (eqb x) (inserted_in past) ≡ times_inserted x past
unfolding inserted_in times_inserted count
inserted_count x [] = refl
inserted_count x (s ∷ past) =
    go (eqb s.answer 2) (eqb s.key x) (eqb_sym x s.key) (inserted_count x past)
  where
    go :
        (b c : Bool) →
        eqb x s.key ≡ c →
        count (eqb x) (inserted_in past) ≡ times_inserted x past →
        count (eqb x) (cond b (s.key ∷ inserted_in past) (inserted_in past)) ≡ bit_of (c && b) + times_inserted x past
    go true true e more = omega (arith, ap bit_of e, more)
    go true false e more = omega (arith, ap bit_of e, more)
    go false true e more = omega (arith, more)
    go false false e more = omega (arith, more)
