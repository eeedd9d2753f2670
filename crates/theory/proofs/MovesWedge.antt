-- The moves of a key to its goal carry the wedged payload there, to either side: `moves_wedge`.
-- Assumes nothing.
use Rattle.std.specs.Prelude.{ℕ, zero, suc, ◌-◌, ◌<◌, ◌≡◌, List, length}
use Rattle.std.proofs.Math.Nat.{suc_inj}
use Rattle.std.proofs.Common.{not-suc-le-zero, le_of_suc-le-suc, add-one, arith, sym, ap, ◌∙◌}
use Rattle.rules.specs.Word.{Word}
use Rattle.theory.specs.Motion.{toward, moves, distance, Heads, rightward, leftward, heads, toward_lt}
use Rattle.theory.specs.Motion.{distance_toward, distance_none, distance_some}
use Rattle.theory.specs.Payload.{loaded, wedge, Adjacent, adjacent_right, adjacent_left, exchange_wedge}

adjacent_toward : (hand goal : ℕ) → (hand ≡ goal → ⊥) → Adjacent hand (toward hand goal)
adjacent_toward hand goal apart = go hand (heads hand goal apart)
  where
    go : (h : ℕ) {q : ℕ} → Heads h goal q → Adjacent h q
    go h (rightward l) = rw add-one (adjacent_right h)
    go zero (leftward l) = absurd (not-suc-le-zero l)
    go (suc h) (leftward l) = rw (let e : suc h - 1 ≡ h = omega arith in e) (adjacent_left h)

-- the moves to the goal carry the wedged payload there, to either side
pub moves_wedge :
    (n hand goal : ℕ) (k : Word) (ls ws : List Word) →
    distance hand goal ≡ n → hand < suc (length ls) → goal < suc (length ls) → length ws ≡ suc (length ls) →
    moves n (loaded (wedge hand k ls) ws) hand goal ≡ loaded (wedge goal k ls) ws
unfolding moves
moves_wedge zero hand goal k ls ws d p q e =
    ap (λ (i : ℕ). loaded (wedge i k ls) ws) (distance_none hand goal d)
moves_wedge (suc n) hand goal k ls ws d p q e =
    let apart = distance_some hand goal n d in
    let r = toward_lt hand goal (suc (length ls)) apart p q in
    ap
    (λ (vs : List Word). moves n vs (toward hand goal) goal)
    (exchange_wedge (adjacent_toward hand goal apart) k ls ws (le_of_suc-le-suc p) (le_of_suc-le-suc r) e)
    ∙ moves_wedge n (toward hand goal) goal k ls ws (suc_inj (sym (distance_toward hand goal apart) ∙ d)) r q e
