-- The words in motion (01, phases 8 to 10): a fill, the moves of the hand to its goal, and the mark, on lists of words.
-- `finish` is the moves that are left and then the mark; its laws: `finish_move` (a move) and `finish_mark` (the end).
-- Assumes nothing.
use Rattle.std.specs.Prelude.{ℕ, zero, suc, ◌+◌, ◌-◌, ◌<◌, ◌≡◌, refl, Bool, true, false, cond, List, set, ltb, eqb}
use Rattle.std.proofs.Common.{arith, sym, ap, ltb-true, ltb-false, eqb-true}
use Rattle.rules.specs.declared.Task.{Task}
use Rattle.rules.specs.Word.{Word, filled_with}
use Rattle.rules.specs.Table.{at}
use Rattle.rules.specs.Phase.{neighbour, exchange, set_change, set_virgin, marked}

-- what phase 8 writes
unfoldable pub fill_at : ℕ → List Word → ℕ → List Word
fill_at x ws p = set ws p (filled_with x (at ws p))

-- the neighbour of hand towards goal
unfoldable pub toward : ℕ → ℕ → ℕ
toward hand goal = cond (ltb hand goal) (hand + 1) (hand - 1)

-- some moves of the hand towards its goal
unfoldable pub moves : ℕ → List Word → ℕ → ℕ → List Word
moves zero ws hand goal = ws
moves (suc n) ws hand goal = moves n (exchange ws hand (toward hand goal)) (toward hand goal) goal

unfoldable pub distance : ℕ → ℕ → ℕ
distance hand goal = (hand - goal) + (goal - hand)

-- the moves that are left, and then the mark
unfoldable pub finish : List Word → ℕ → ℕ → ℕ → ℕ → List Word
finish ws hand goal mark home_at = marked (moves (distance hand goal) ws hand goal) mark goal home_at

-- ---- a move at a time

pub neighbour_toward : (t : Task) → neighbour t ≡ toward t.hand t.goal
unfolding neighbour toward
neighbour_toward t = refl

-- which way the hand goes
pub data Heads (hand goal : ℕ) : ℕ → Type 0 where
  rightward : hand < goal → Heads hand goal (hand + 1)
  leftward : goal < hand → Heads hand goal (hand - 1)

pub heads : (hand goal : ℕ) → (hand ≡ goal → ⊥) → Heads hand goal (toward hand goal)
unfolding toward
heads hand goal apart = go (ltb hand goal) refl
  where
    go : (b : Bool) → ltb hand goal ≡ b → Heads hand goal (cond b (hand + 1) (hand - 1))
    go true e = rightward (ltb-true hand goal e)
    go false e = leftward (omega (arith, ltb-false hand goal e))

one_nearer : {hand goal q : ℕ} → Heads hand goal q → distance hand goal ≡ suc (distance q goal)
unfolding distance
one_nearer (rightward h) = omega arith
one_nearer (leftward h) = omega arith

-- the neighbour is one move nearer
pub distance_toward :
    (hand goal : ℕ) → (hand ≡ goal → ⊥) → distance hand goal ≡ suc (distance (toward hand goal) goal)
distance_toward hand goal apart = one_nearer (heads hand goal apart)

pub toward_lt : (hand goal n : ℕ) → (hand ≡ goal → ⊥) → hand < n → goal < n → toward hand goal < n
toward_lt hand goal n apart p q = go (heads hand goal apart)
  where
    go : {k : ℕ} → Heads hand goal k → k < n
    go (rightward h) = omega arith
    go (leftward h) = omega arith

pub distance_none : (hand goal : ℕ) → distance hand goal ≡ 0 → hand ≡ goal
unfolding distance
distance_none hand goal e = omega arith

pub distance_some : (hand goal n : ℕ) → distance hand goal ≡ suc n → hand ≡ goal → ⊥
unfolding distance
distance_some hand goal n e h = omega arith

-- a move, and then finishing from the neighbour, is finishing
pub finish_move :
    (ws : List Word) (hand goal mark home_at : ℕ) →
    (hand ≡ goal → ⊥) →
    finish (exchange ws hand (toward hand goal)) (toward hand goal) goal mark home_at ≡ finish ws hand goal mark home_at
unfolding finish moves
finish_move ws hand goal mark home_at apart =
    ap (λ (n : ℕ). marked (moves n ws hand goal) mark goal home_at) (sym (distance_toward hand goal apart))

-- at the goal only the mark is left
pub finish_mark : (ws : List Word) (goal mark home_at : ℕ) → finish ws goal goal mark home_at ≡ marked ws mark goal home_at
unfolding finish moves distance
finish_mark ws goal mark home_at =
    let none : (goal - goal) + (goal - goal) ≡ 0 = omega arith in
    ap (λ (n : ℕ). marked (moves n ws goal goal) mark goal home_at) none

-- ---- the three marks side by side

-- what two tables share after mark 2, after mark 1 and as they are, they share after any mark
pub marked_both :
    (R : List Word → List Word → Type 0) (ws vs : List Word) (mark goal goal' home_at home' : ℕ) →
    (mark ≡ 2 → R (set_virgin (set_change ws goal true) home_at) (set_virgin (set_change vs goal' true) home')) →
    (mark ≡ 1 →
    R (set_change (set_change ws goal true) (goal - 1) false) (set_change (set_change vs goal' true) (goal' - 1) false)) →
    R ws vs →
    R (marked ws mark goal home_at) (marked vs mark goal' home')
unfolding marked
marked_both R ws vs mark goal goal' home_at home' two one none = go (eqb mark 2) (eqb mark 1) refl refl
  where
    go :
        (b c : Bool) → eqb mark 2 ≡ b → eqb mark 1 ≡ c →
        R
        (cond b (set_virgin (set_change ws goal true) home_at)
        (cond c (set_change (set_change ws goal true) (goal - 1) false) ws))
        (cond b (set_virgin (set_change vs goal' true) home')
        (cond c (set_change (set_change vs goal' true) (goal' - 1) false) vs))
    go true c p q = two (eqb-true mark 2 p)
    go false true p q = one (eqb-true mark 1 q)
    go false false p q = none
