-- Whether all of a list pass a test, `all`. `all_on` to `all_told`: asked one by one from the left, the laws of such a
-- loop. `all_at`: what holds of all holds at a place. `all_append`: over lists joined.
-- Assumes nothing.
use Rattle.std.specs.Prelude.{ℕ, zero, suc, ◌+◌, ◌≤◌, ◌<◌, ◌≡◌, refl, Bool, true, false, ◌&&◌, List, [], ◌∷◌, ◌++◌, length, get_or, drop}
use Rattle.std.proofs.Common.{sym, add-one, arith, drop_of_length-le}
use Rattle.std.proofs.Math.Bool.{and-true, and_assoc, and-eq-true_iff}
use Rattle.std.proofs.Math.Seq.{drop-cons}
use Rattle.rules.specs.Lists.{all}

module _ {A : Type 0} (f : A → Bool) (xs : List A) (i : ℕ) (d : A) where
  -- the i-th passes, and the rest is asked
  pub all_on : i < length xs → f (get_or xs i d) ≡ true → all f (drop (i + 1) xs) ≡ all f (drop i xs)
  unfolding all
  all_on low e = rw (add-one, drop-cons xs i d low, e)

  -- the i-th does not
  pub all_stops : i < length xs → f (get_or xs i d) ≡ false → all f (drop i xs) ≡ false
  unfolding all
  all_stops low e = rw (drop-cons xs i d low, e)

  -- none is left
  pub all_ends : length xs ≤ i → all f (drop i xs) ≡ true
  unfolding all
  all_ends done = rw (drop_of_length-le xs {i = i} done)

  -- the same without a stop: b tells of those before
  pub all_asked :
      i < length xs → (b t : Bool) → t ≡ f (get_or xs i d) →
      ((b && t) && all f (drop (i + 1) xs)) ≡ (b && all f (drop i xs))
  unfolding all
  all_asked low b t told = rw (add-one, drop-cons xs i d low, told) (and_assoc b (f (get_or xs i d)) _)

  pub all_told : length xs ≤ i → (b : Bool) → (b && all f (drop i xs)) ≡ b
  all_told done b = rw (all_ends done) (and-true b)

module _ {A : Type 0} (f : A → Bool) where
  pub all_at : (xs : List A) (i : ℕ) (d : A) → all f xs ≡ true → i < length xs → f (get_or xs i d) ≡ true
  unfolding all
  all_at [] i d h inside = absurd (omega arith)
  all_at (x ∷ xs) zero d h inside = ((and-eq-true_iff (f x) _).0 h).0
  all_at (x ∷ xs) (suc i) d h inside = all_at xs i d ((and-eq-true_iff (f x) _).0 h).1 (omega arith)

  pub all_append : (xs ys : List A) → all f (xs ++ ys) ≡ (all f xs && all f ys)
  unfolding all
  all_append [] ys = refl
  all_append (x ∷ xs) ys = rw (all_append xs ys) (sym (and_assoc (f x) (all f xs) (all f ys)))
