-- The side of a run that is filled, and the run with the word there, as one region that begins at place a.
-- Nothing here knows of the guards: either side may be filled at any place.
-- Assumes nothing.
use Rattle.std.specs.Prelude.{ℕ, suc, ◌+◌, ◌≤◌, ◌≡◌, refl, List, [], ◌∷◌, ◌++◌, length}
use Rattle.std.proofs.Common.{zero-le, add-zero, le_refl, arith, sym, ap, ◌∙◌, append-nil}
use Rattle.rules.specs.Word.{Word}
use Rattle.theory.specs.Payload.{wedge, wedge_front}
use Rattle.theory.specs.Gaps.{Side, left, right}

-- a run of n words and one more word at its side, from place a on; where the run begins; where that word stands
abbrev pub beside : Side → Word → List Word → List Word
beside left g run = g ∷ run
beside right g run = run ++ (g ∷ [])

abbrev pub begins : Side → ℕ → ℕ
begins left a = suc a
begins right a = a

abbrev pub stands : Side → ℕ → ℕ → ℕ
stands left a n = a
stands right a n = a + n

-- the same as an index of the region
abbrev pub index : Side → ℕ → ℕ
index left n = 0
index right n = n

pub stands_index : (side : Side) (a n : ℕ) → stands side a n ≡ a + index side n
stands_index left a n = sym (add-zero a)
stands_index right a n = refl

pub index_le : (side : Side) (n : ℕ) → index side n ≤ n
index_le left n = zero-le
index_le right n = le_refl n

pub begins_ge : (side : Side) (a : ℕ) → a ≤ begins side a
begins_ge left a = omega arith
begins_ge right a = le_refl a

pub begins_le : (side : Side) (a : ℕ) → begins side a ≤ suc a
begins_le left a = le_refl (suc a)
begins_le right a = omega arith

pub beside_wedge :
    (side : Side) (g : Word) (run : List Word) → beside side g run ≡ wedge (index side (length run)) g run
beside_wedge left g run = refl
beside_wedge right g run = sym (ap (wedge (length run) g) (sym (append-nil run)) ∙ wedge_front run g [])
