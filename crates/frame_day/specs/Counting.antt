-- Counting over keys with their answers: what one more answer adds; when a count says something of every element; and
-- counts over lists joined.
-- Assumes nothing.
use Prim.Native.Nat.{ℕ, zero, suc, ◌+◌, ◌≤◌, ◌<◌}
use Rattle.std.specs.Prelude.{◌≡◌, Bool, ◌&&◌, length, get_or, set, replicate}
use Rattle.std.proofs.Math.Path.{refl, ap, ap₂}
use Rattle.std.proofs.Common.{sym, ◌∙◌, true≢false}
use Rattle.std.proofs.Math.Bool.{true, false}
use mathlib.Core.List.{List, [], ◌∷◌, map}
use native.Mathlib.Omega.{arith}
use Rattle.rules.specs.Lists.{bit_of, count}
use Rattle.theory.specs.Every as every
use Rattle.theory.specs.Every.{All}
use Rattle.together.specs.Machine.{Said}
use Rattle.frame_day.specs.Terms.{paired, keys_in, answered_so}

-- ---- counts and what they say of every element
module _ {A : Type 0} where
  pub count_map :
      {B : Type 0} (g : B → A) (p : A → Bool) (xs : List B) → count p (map g xs) ≡ count (λ (x : B). p (g x)) xs
  unfolding count
  count_map g p [] = refl
  count_map g p (x ∷ xs) = ap (λ (n : ℕ). bit_of (p (g x)) + n) (count_map g p xs)

  -- a second test that all pass changes no count
  pub count_also :
      (q p : A → Bool) {xs : List A} → All (λ (x : A). q x ≡ true) xs → count (λ (x : A). q x && p x) xs ≡ count p xs
  unfolding count
  count_also q p every.none = refl
  count_also q p (every.both {x = x} {xs = xs} h hs) =
      ap₂ ◌+◌ (ap (λ (b : Bool). bit_of (b && p x)) h) (count_also q p hs)

  -- with a second test no more pass
  count_fewer : (q p : A → Bool) (xs : List A) → count (λ (x : A). q x && p x) xs ≤ count p xs
  unfolding count
  count_fewer q p [] = omega arith
  count_fewer q p (x ∷ xs) = go (q x) (p x) (count_fewer q p xs)
    where
      go :
          (a b : Bool) {k l : ℕ} → k ≤ l → bit_of (a && b) + k ≤ bit_of b + l
      go true b le = omega arith
      go false b le = omega arith

  -- and where as many do, all that pass the first pass both
  pub count_same :
      (q p : A → Bool) (xs : List A) →
      count (λ (x : A). q x && p x) xs ≡ count p xs → All (λ (x : A). p x ≡ true → q x ≡ true) xs
  unfolding count
  count_same q p [] e = every.none
  count_same q p (x ∷ xs) e = go (q x) (p x) refl refl e (λ s. count_same q p xs s)
    where
      go :
          (a b : Bool) →
          q x ≡ a →
          p x ≡ b →
          bit_of (a && b) + count (λ (y : A). q y && p y) xs ≡ bit_of b + count p xs →
          (count (λ (y : A). q y && p y) xs ≡ count p xs → All (λ (y : A). p y ≡ true → q y ≡ true) xs) →
          All (λ (y : A). p y ≡ true → q y ≡ true) (x ∷ xs)
      go true b k l s more = every.both (λ z. k) (more (omega arith))
      go false false k l s more = every.both (λ z. absurd (true≢false (sym z ∙ l))) (more (omega arith))
      go false true k l s more = absurd (omega (arith, count_fewer q p xs))

  -- none pass, one by one or by their count
  pub count_none : (p : A → Bool) {xs : List A} → All (λ (x : A). p x ≡ false) xs → count p xs ≡ 0
  unfolding count
  count_none p every.none = refl
  count_none p (every.both h hs) = omega (arith, ap bit_of h, count_none p hs)

  pub none_counted : (p : A → Bool) (xs : List A) → count p xs ≡ 0 → All (λ (x : A). p x ≡ false) xs
  unfolding count
  none_counted p [] e = every.none
  none_counted p (x ∷ xs) e = go (p x) refl e (λ s. none_counted p xs s)
    where
      go :
          (b : Bool) → p x ≡ b → bit_of b + count p xs ≡ 0 → (count p xs ≡ 0 → All (λ (y : A). p y ≡ false) xs) →
          All (λ (y : A). p y ≡ false) (x ∷ xs)
      go true k s more = absurd (omega arith)
      go false k s more = every.both k (more (omega arith))

-- ---- keys with their answers
-- one answer stored anew
pub paired_set :
    (p : Said → Bool) (ks answers : List ℕ) (h a : ℕ) →
    h < length ks →
    h < length answers →
    count p (paired ks (set answers h a)) + bit_of (p (record { key = get_or ks h 0; answer = get_or answers h 0 }))
    ≡ count p (paired ks answers) + bit_of (p (record { key = get_or ks h 0; answer = a }))
unfolding paired count
paired_set p [] answers h a lt l = absurd (omega arith)
paired_set p (k ∷ ks) [] h a lt l = absurd (omega arith)
paired_set p (k ∷ ks) (b ∷ answers) zero a lt l = omega arith
paired_set p (k ∷ ks) (b ∷ answers) (suc h) a lt l =
    let more = paired_set p ks answers h a (omega arith) (omega arith) in
    omega (arith, more)

-- no answers yet
pub paired_start :
    (p : Said → Bool) (ks : List ℕ) → count (answered_so p) (paired ks (replicate (length ks) 0)) ≡ 0
unfolding paired count
paired_start p [] = refl
paired_start p (k ∷ ks) = omega (arith, paired_start p ks)

-- the keys alone, and the answers alone
pub paired_parts :
    (ks answers : List ℕ) →
    length answers ≡ length ks →
    (keys_in (paired ks answers) ≡ ks) × (map (λ (s : Said). s.answer) (paired ks answers) ≡ answers)
unfolding paired
paired_parts [] [] size = (refl, refl)
paired_parts [] (a ∷ answers) size = absurd (omega arith)
paired_parts (k ∷ ks) [] size = absurd (omega arith)
paired_parts (k ∷ ks) (a ∷ answers) size =
    let rest = paired_parts ks answers (omega arith) in
    (ap (λ (js : List ℕ). k ∷ js) rest.0, ap (λ (bs : List ℕ). a ∷ bs) rest.1)
