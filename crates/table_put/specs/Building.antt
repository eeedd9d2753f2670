-- The loops of build: all keys in range, the bytes cleared, the keys put one by one; and `build_full`, `build_done`,
-- what build answers by whether all of them found room.
-- Assumes nothing.
use Rattle.std.specs.Prelude.{ℕ, zero, suc, ◌+◌, ◌*◌, ◌≤◌, ◌<◌, ◌≡◌, refl, Bool, true, false, cond, ◌&&◌, length, get_or, drop, replicate, ltb, Result, Ok, Err, is_err, IfErr}
use Rattle.std.proofs.Common.{sym, ◌∙◌, ap, add-one, arith, rules, drop_of_length-le, pow_pos}
use mathlib.Core.List.{List, [], ◌∷◌, ◌++◌, append-nil, map}
use Rattle.std.proofs.Math.Seq.{drop-cons}
use Rattle.std.specs.Int.Bits.{bit_or}
use Rattle.std.specs.List.{fold}
use Rattle.std.proofs.Math.Bool.{and-true, and_assoc}
use borrow.Author.Tests.{ltb-true, lt-ltb}
use Rattle.rules.specs.declared.Shape.{Shape}
use Rattle.rules.specs.declared.Refusal.{Refusal}
use Rattle.rules.specs.declared.Refusal.TheVariants.{Full}
use Rattle.rules.specs.Lists.{all}
use Rattle.rules.specs.Word.{Word, zero_word, word_of}
use Rattle.rules.specs.Bytes.{words_of, bytes_of}
use Rattle.rules.specs.Shape.{keys, places}
use Rattle.rules.specs.Entry.{split}
use Rattle.rules.specs.Answer.{says, refuses, leaves}
use Rattle.rules.specs.Build.{zeros, puts, too_many, build_in}
use Rattle.table_words.specs.Over.{over_below}
use Rattle.table_words.specs.Range.{InRange, remainders_high}
use Rattle.table_words.specs.Layout.{bytes_are}
use Rattle.theory.specs.Dealt.{and_left, and_right}
use Rattle.demands.specs.Proof3.{all_within}
use Rattle.table_put.specs.Filling.{Filled, overflows, filled, fill_with, fill_all, fill_stops}
use Rattle.table_put.specs.Filling.{fill_zeros}

-- a key in range
abbrev pub good : Shape → ℕ → Bool
good sh key = ltb key (keys sh)

-- keys laid over one another, over some laid before
goods_over :
    (sh : Shape) (over : ℕ) (ks : List ℕ) → good sh (fold bit_or over ks) ≡ (good sh over && all (good sh) ks)
unfolding all keys
goods_over sh over [] = sym (and-true (good sh over))
goods_over sh over (k ∷ ks) =
    goods_over sh (bit_or over k) ks
    ∙ rw (over_below (sh.m + sh.r) over k) (and_assoc (good sh over) (good sh k) (all (good sh) ks))

-- all keys laid over one another are in range where each is
pub goods_laid : (sh : Shape) (ks : List ℕ) → good sh (fold bit_or 0 ks) ≡ all (good sh) ks
unfolding keys
goods_laid sh ks =
    goods_over sh 0 ks
    ∙ ap (λ (b : Bool). b && all (good sh) ks) (lt-ltb 0 (keys sh) (pow_pos (sh.m + sh.r)))

pub key_good : (sh : Shape) (ks : List ℕ) (i : ℕ) → i < length ks → all (good sh) ks ≡ true → get_or ks i 0 < keys sh
unfolding all
key_good sh [] i low e = absurd (omega arith)
key_good sh (k ∷ ks) zero low e = ltb-true k (keys sh) (and_left (good sh k) _ e)
key_good sh (k ∷ ks) (suc i) low e = key_good sh ks i (omega arith) (and_right (good sh k) _ e)

-- all of them
pub cleared_whole :
    (bs cs : List ℕ) (n : ℕ) → n ≡ length bs → cs ≡ replicate n 0 ++ drop n bs → cs ≡ replicate (length bs) 0
cleared_whole bs cs n whole e =
    rw (e, drop_of_length-le bs {i = n} (omega arith), append-nil, whole)

-- cleared bytes are the table that is all zero
words_of_zeros : (n : ℕ) → words_of (replicate (2 * n) 0) ≡ replicate n zero_word
unfolding words_of word_of
words_of_zeros zero = refl
words_of_zeros (suc n) =
    let two : 2 * suc n ≡ suc (suc (2 * n)) = omega arith in
    rw two (ap (λ (ws : List Word). zero_word ∷ ws) (words_of_zeros n))

pub cleared_zeros :
    (sh : Shape) (bs cs : List ℕ) → length bs ≡ 2 * places sh → cs ≡ replicate (length bs) 0 → words_of cs ≡ zeros sh
unfolding zeros
cleared_zeros sh bs cs even e = rw (e, even) (words_of_zeros (places sh))

-- ---- the keys put one by one
module _ (sh : Shape) (ws : List Word) (ks : List ℕ) (i : ℕ) where
  next_fill :
      i < length ks →
      fill_all sh (fill_with sh (filled ws) (split sh (get_or ks i 0))) (map (split sh) (drop (i + 1) ks))
      ≡ fill_all sh (filled ws) (map (split sh) (drop i ks))
  unfolding fill_all
  next_fill low = rw (add-one, drop-cons ks i 0 low)

  -- the key at i found room, or it did not
  pub fill_passed :
      i < length ks → (vs : List Word) → filled vs ≡ fill_with sh (filled ws) (split sh (get_or ks i 0)) →
      fill_all sh (filled vs) (map (split sh) (drop (i + 1) ks))
      ≡ fill_all sh (filled ws) (map (split sh) (drop i ks))
  fill_passed low vs made =
      ap (λ (f : Filled). fill_all sh f (map (split sh) (drop (i + 1) ks))) made ∙ next_fill low

  pub fill_refused :
      i < length ks → overflows ≡ fill_with sh (filled ws) (split sh (get_or ks i 0)) →
      overflows ≡ fill_all sh (filled ws) (map (split sh) (drop i ks))
  fill_refused low made =
      sym (fill_stops sh _)
      ∙ ap (λ (f : Filled). fill_all sh f (map (split sh) (drop (i + 1) ks))) made
      ∙ next_fill low

  pub fill_ends : length ks ≤ i → filled ws ≡ fill_all sh (filled ws) (map (split sh) (drop i ks))
  unfolding fill_all
  fill_ends h = rw (drop_of_length-le ks {i = i} h)

-- ---- what build answers
-- whether the puts found room, which alone they are refused for
pub all_put : (r : Result Unit Refusal) → is_err r ≡ false → r ≡ Ok tt
all_put (Ok _) e = refl
all_put (Err n) e = absurd (search rules)

pub too_full : (r : Result Unit Refusal) → is_err r ≡ true → IfErr r (λ n. n ≡ Full) → r ≡ Err Full
too_full (Ok _) e same = absurd (search rules)
too_full (Err n) e same = ap Err same

module _ (sh : Shape) (range : InRange sh) (bs ks : List ℕ) (goods : all (good sh) ks ≡ true) where
  -- with room for all of them the bytes are those of the puts
  pub build_done :
      (cs : List ℕ) → length cs ≡ 2 * places sh → ((i : ℕ) → get_or cs i 0 < 256) →
      filled (words_of cs) ≡ fill_all sh (filled (zeros sh)) (map (split sh) ks) →
      leaves (says 0) cs ≡ build_in sh bs (map (split sh) ks)
  unfolding build_in
  build_done cs even small made =
      go
      (too_many sh (map (split sh) ks))
      (made ∙ fill_zeros sh (remainders_high sh range) (all_within sh ks goods))
    where
      done : List Word
      done = puts sh (zeros sh) (map (split sh) ks)

      go :
          (b : Bool) → filled (words_of cs) ≡ cond b overflows (filled done) →
          leaves (says 0) cs ≡ cond b (leaves (refuses 8) (replicate (length bs) 0)) (leaves (says 0) (bytes_of done))
      go true e = let never : ◌≡◌ {A = ℕ} 0 1 = cc in absurd (omega arith)
      go false e =
          let words : words_of cs ≡ done = cc in
          ap (leaves (says 0)) (bytes_are cs (places sh) done even small words)

  pub build_full :
      overflows ≡ fill_all sh (filled (zeros sh)) (map (split sh) ks) →
      leaves (refuses 8) (replicate (length bs) 0) ≡ build_in sh bs (map (split sh) ks)
  unfolding build_in
  build_full made =
      go
      (too_many sh (map (split sh) ks))
      (made ∙ fill_zeros sh (remainders_high sh range) (all_within sh ks goods))
    where
      done : List Word
      done = puts sh (zeros sh) (map (split sh) ks)

      go :
          (b : Bool) → overflows ≡ cond b overflows (filled done) →
          leaves (refuses 8) (replicate (length bs) 0)
          ≡ cond b (leaves (refuses 8) (replicate (length bs) 0)) (leaves (says 0) (bytes_of done))
      go true e = refl
      go false e = let never : ◌≡◌ {A = ℕ} 0 1 = cc in absurd (omega arith)
