-- Payloads on places: a word is a payload (remainder and change) on a place's own bits (occupied, virgin, lock).
-- `loaded` puts payloads on places, `wedge` puts one thing into a list; moves carry one payload past the others.
-- Assumes nothing.
use Rattle.std.specs.Prelude.{ℕ, zero, suc, ◌≤◌, ◌≡◌, refl, List, [], ◌∷◌, ◌++◌, map, length}
use Rattle.std.proofs.Math.Nat.{suc_inj}
use Rattle.std.proofs.Common.{suc-ne-zero, not-suc-le-zero, le_of_suc-le-suc, sym, ap}
use Rattle.rules.specs.Word.{Word, with_payload, filled_with}
use Rattle.rules.specs.Phase.{exchange}
use Rattle.theory.specs.Motion.{fill_at}

-- the payloads of some words on the places of others
abbrev pub loaded : List Word → List Word → List Word
loaded [] ws = []
loaded (v ∷ vs) [] = []
loaded (v ∷ vs) (w ∷ ws) = with_payload v w ∷ loaded vs ws

module _ {A : Type 0} where
  -- a thing put into a list so that it has index i
  abbrev pub wedge : ℕ → A → List A → List A
  wedge zero x ys = x ∷ ys
  wedge (suc i) x [] = x ∷ []
  wedge (suc i) x (y ∷ ys) = y ∷ wedge i x ys

  pub length_wedge : (i : ℕ) (x : A) (ys : List A) → length (wedge i x ys) ≡ suc (length ys)
  length_wedge zero x ys = refl
  length_wedge (suc i) x [] = refl
  length_wedge (suc i) x (y ∷ ys) = ap suc (length_wedge i x ys)

  pub wedge_front : (xs : List A) (y : A) (ys : List A) → wedge (length xs) y (xs ++ ys) ≡ xs ++ y ∷ ys
  wedge_front [] y ys = refl
  wedge_front (x ∷ xs) y ys = ap (λ (r : List A). x ∷ r) (wedge_front xs y ys)

pub map_wedge :
    {A B : Type 0} (f : A → B) (i : ℕ) (x : A) (ys : List A) → map f (wedge i x ys) ≡ wedge i (f x) (map f ys)
map_wedge f zero x ys = refl
map_wedge f (suc i) x [] = refl
map_wedge {B = B} f (suc i) x (y ∷ ys) = ap (λ (r : List B). f y ∷ r) (map_wedge f i x ys)

pub wedge_loaded :
    (i : ℕ) (v w : Word) (vs ws : List Word) →
    length vs ≡ length ws → wedge i (with_payload v w) (loaded vs ws) ≡ loaded (wedge i v vs) (wedge i w ws)
wedge_loaded zero v w vs ws e = refl
wedge_loaded (suc i) v w [] [] e = refl
wedge_loaded (suc i) v w [] (y ∷ ws) e = absurd (suc-ne-zero (length ws) (sym e))
wedge_loaded (suc i) v w (x ∷ vs) [] e = absurd (suc-ne-zero (length vs) e)
wedge_loaded (suc i) v w (x ∷ vs) (y ∷ ws) e =
    ap (λ (r : List Word). with_payload x y ∷ r) (wedge_loaded i v w vs ws (suc_inj e))

-- a fill of the wedged word
pub fill_at_wedge :
    (x i : ℕ) (w : Word) (ws : List Word) → i ≤ length ws → fill_at x (wedge i w ws) i ≡ wedge i (filled_with x w) ws
unfolding fill_at
fill_at_wedge x zero w ws h = refl
fill_at_wedge x (suc i) w [] h = absurd (not-suc-le-zero h)
fill_at_wedge x (suc i) w (v ∷ ws) h = ap (λ (r : List Word). v ∷ r) (fill_at_wedge x i w ws (le_of_suc-le-suc h))

-- two indices side by side, either way round
pub data Adjacent : ℕ → ℕ → Type 0 where
  right : Adjacent zero (suc zero)
  left : Adjacent (suc zero) zero
  next : {i j : ℕ} → Adjacent i j → Adjacent (suc i) (suc j)

pub adjacent_right : (i : ℕ) → Adjacent i (suc i)
adjacent_right zero = right
adjacent_right (suc i) = next (adjacent_right i)

pub adjacent_left : (i : ℕ) → Adjacent (suc i) i
adjacent_left zero = left
adjacent_left (suc i) = next (adjacent_left i)

-- an exchange with a neighbour carries the wedged payload there
pub exchange_wedge :
    {i j : ℕ} → Adjacent i j →
    (k : Word) (ls ws : List Word) →
    i ≤ length ls → j ≤ length ls → length ws ≡ suc (length ls) →
    exchange (loaded (wedge i k ls) ws) i j ≡ loaded (wedge j k ls) ws
unfolding exchange
exchange_wedge b k ls [] p q e = absurd (suc-ne-zero (length ls) (sym e))
exchange_wedge right k [] (w ∷ ws) p q e = absurd (not-suc-le-zero q)
exchange_wedge left k [] (w ∷ ws) p q e = absurd (not-suc-le-zero p)
exchange_wedge (next b) k [] (w ∷ ws) p q e = absurd (not-suc-le-zero p)
exchange_wedge right k (l ∷ ls) (w ∷ []) p q e = absurd (suc-ne-zero (length ls) (sym (suc_inj e)))
exchange_wedge left k (l ∷ ls) (w ∷ []) p q e = absurd (suc-ne-zero (length ls) (sym (suc_inj e)))
exchange_wedge right k (l ∷ ls) (w ∷ v ∷ ws) p q e = refl
exchange_wedge left k (l ∷ ls) (w ∷ v ∷ ws) p q e = refl
exchange_wedge (next b) k (l ∷ ls) (w ∷ ws) p q e =
    ap (λ (r : List Word). with_payload l w ∷ r)
    (exchange_wedge b k ls ws (le_of_suc-le-suc p) (le_of_suc-le-suc q) (suc_inj e))
