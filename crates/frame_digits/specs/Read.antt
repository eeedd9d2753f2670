-- Digits read. `digit`: what a byte is worth as a digit, if it is one, with its laws; `Reading`: the invariant of a
-- number read digit by digit, with its laws; `part_good`, `number_low`: the digits at a place, and how large their
-- number is. Assumes nothing.
use Rattle.std.specs.Prelude.{ℕ, zero, suc, ◌+◌, ◌*◌, ◌^◌, ◌≤◌, ◌<◌, Bool, cond, List, [], get_or, take, drop, Option, Some, None, is_some, IsSome, unwrap_or}
use Rattle.std.proofs.Math.Path.{◌≡◌, refl}
use Rattle.std.proofs.Common.{◌∙◌, zero-lt-suc, arith, length-drop, drop_of_length-le, ap, drop-cons, length-take-le, get_or-take, get_or-drop}
use Rattle.std.proofs.Math.Bool.{true, false}
use Rattle.std.proofs.Math.Numerals.{add-one}
use Rattle.std.proofs.Math.Nat.{pow-zero, pow-suc, pow-le-pow_right}
use Rattle.std.proofs.lemmas.Bool.Decides.{nat_tests}
use Rattle.std.proofs.lemmas.List.Recursion.{and_from_places}
use Rattle.std.proofs.Math.ListN.{length}
use Rattle.rules.specs.Lists.{all}
use Rattle.table_words.specs.All.{all_at}
use Rattle.frame_rules.specs.Digits.{is_digit, worth, number_after, number}

-- what a byte is worth as a digit, if it is one
unfoldable pub digit : ℕ → Option ℕ
digit c = cond (is_digit c) (Some (worth c)) None

-- the same as a number below 16, and 16 where it is none
unfoldable pub digit_or : ℕ → ℕ
digit_or c = cond (is_digit c) (worth c) 16

-- ---- a digit's worth

-- a digit is worth less than 16
pub worth_low : (c : ℕ) → is_digit c ≡ true → worth c < 16
unfolding is_digit worth
worth_low c h = grind (arith, nat_tests)

module _ (c : ℕ) where
  some_worth : is_digit c ≡ true → digit c ≡ Some (worth c)
  unfolding digit
  some_worth good = rw good

  pub digit_or_16 : unwrap_or (digit c) 16 ≡ digit_or c
  unfolding digit digit_or
  digit_or_16 = go (is_digit c)
    where
      go : (b : Bool) → unwrap_or (cond b (Some (worth c)) None) 16 ≡ cond b (worth c) 16
      go true = refl
      go false = refl

  pub is_some_digit : is_some (digit c) ≡ is_digit c
  unfolding digit
  is_some_digit = go (is_digit c)
    where
      go : (b : Bool) → is_some (cond b (Some (worth c)) None) ≡ b
      go true = refl
      go false = refl

  pub digit_worth : (d : ℕ) → digit c ≡ Some d → is_digit c ≡ true → d ≡ worth c
  digit_worth d some good = cc (some_worth good)

-- ---- a number, digit by digit

-- j digits of p are read, and they write k
pub record Reading (p : List ℕ) (k j : ℕ) : Type 0 where
  pub fits : k < 16 ^ j
  pub left : number_after k (drop j p) ≡ number p

module _ (p : List ℕ) where
  pub reading_begins : Reading p 0 0
  unfolding number
  reading_begins = record { fits = omega (arith, pow-zero 16); left = refl }

  pub reading_ends : {k j : ℕ} → Reading p k j → length p ≤ j → k ≡ number p
  unfolding number_after
  reading_ends {k} {j} r done =
      let over : drop j p ≡ [] = drop_of_length-le p done in
      rw over at r.left

  -- few digits so far leave room for one more
  pub number_fits : {k j : ℕ} → Reading p k j → j < 8 → 16 * k + 15 < 4294967296
  number_fits {k} {j} r few =
      let most : 16 ^ j ≤ 16 ^ 7 = pow-le-pow_right (zero-lt-suc 15) (let few : j ≤ 7 = omega arith in few) in
      omega (arith, r.fits)

module _ (p : List ℕ) (good : all is_digit p ≡ true) (j : ℕ) (more : j < length p) where
  digit_good : is_digit (get_or p j 0) ≡ true
  digit_good = all_at is_digit p j 0 good more

  pub digit_is_some : IsSome (digit (get_or p j 0))
  digit_is_some = is_some_digit (get_or p j 0) ∙ digit_good

  pub digit_low : (d : ℕ) → digit (get_or p j 0) ≡ Some d → d < 16
  digit_low d is = omega (arith, digit_worth (get_or p j 0) d is digit_good, worth_low (get_or p j 0) digit_good)

  pub reading_on :
      {k : ℕ} → Reading p k j → (d : ℕ) → digit (get_or p j 0) ≡ Some d → Reading p (16 * k + d) (j + 1)
  unfolding number_after
  reading_on {k} r d is =
      record {
        fits = rw (add-one j, pow-suc 16 j) (omega (arith, r.fits, digit_low d is));
        left = rw (digit_worth (get_or p j 0) d is digit_good, add-one j) (rw (drop-cons p j 0 more) at r.left);
      }

-- ---- the digits at a place
module _ (s : List ℕ) (at n : ℕ) (inside : at + n ≤ length s) where
  abbrev part : List ℕ
  part = take n (drop at s)

  pub part_length : length part ≡ n
  part_length = length-take-le n (drop at s) (omega (arith, length-drop at s))

  module _ (good : all is_digit s ≡ true) where
    pub part_good : all is_digit part ≡ true
    unfolding all
    part_good =
        and_from_places (all is_digit) is_digit refl (λ _ _. refl) part 0
        (λ j here.
        ap is_digit (get_or-take n (drop at s) j 0 (omega (arith, part_length)) ∙ get_or-drop at s j 0)
        ∙ all_at is_digit s (at + j) 0 good (omega (arith, part_length)))

    -- n digits write a number below 16^n
    record SoFar (j : ℕ) : Type 0 where
      pub worth_so_far : ℕ
      pub reading : Reading part worth_so_far j

    so_far : (j : ℕ) → j ≤ n → SoFar j
    so_far zero h = record { worth_so_far = 0; reading = reading_begins part }
    so_far (suc j) h =
        let r = so_far j (omega arith) in
        let here : j < length part = omega (arith, part_length) in
        let d = worth (get_or part j 0) in
        let is = some_worth (get_or part j 0) (digit_good part part_good j here) in
        record {
          worth_so_far = 16 * r.worth_so_far + d;
          reading = rw (← add-one j) (reading_on part part_good j here r.reading d is);
        }

    pub number_low : number part < 16 ^ n
    number_low =
        let r = so_far n (omega arith) in
        rw (← reading_ends part r.reading (omega (arith, part_length))) r.reading.fits
