-- Digits printed at the front of lent bytes. How long they are; `two_more`, two digits stored behind what is printed;
-- `Printing` and `Wording`, the invariants of bytes and of words printed one by one, each with its laws.
-- Assumes nothing.
use Prim.Native.Nat.{ℕ, zero, suc, ◌+◌, ◌*◌, ◌/◌, ◌%◌, ◌≤◌, ◌<◌}
use Rattle.std.specs.Prelude.{◌≡◌, get_or, set, take, drop}
use Rattle.std.proofs.Math.Path.{refl, ap₂}
use Rattle.std.proofs.Common.{sym, ap, ◌∙◌, add-one, arith, length-append, length-set, take-suc, drop-cons, length-take-le, drop-drop, get_or-take, get_or-drop}
use mathlib.Core.List.{List, [], ◌∷◌, ◌++◌, append_assoc}
use Rattle.std.proofs.Math.ListN.{length}
use Rattle.std.proofs.Math.Seq.{take_all, append_snoc}
use Rattle.std.proofs.lemmas.List.{set_at}
use Rattle.std.specs.Simd.{first_chunks}
use Rattle.rules.specs.Lists.{at_front}
use Rattle.frame_rules.specs.Digits.{glyph, digits_of, word_digits}

-- ---- lengths

pub digits_length : (ns : List ℕ) → length (digits_of ns) ≡ 2 * length ns
unfolding digits_of
digits_length [] = refl
digits_length (n ∷ ns) = omega (arith, digits_length ns)

pub words_length : (bs : List ℕ) → length (word_digits bs) ≡ 4 * (length bs / 2)
unfolding word_digits
words_length [] = refl
words_length (low ∷ []) = refl
words_length (low ∷ high ∷ bs) = omega (arith, words_length bs)

-- ---- digits stored behind a text

-- a text at the front, in the place of n bytes
abbrev pub front : List ℕ → ℕ → List ℕ → List ℕ
front text n out = text ++ drop n out

one_more :
    (text out : List ℕ) (n a : ℕ) →
    length text ≡ n → n < length out → set (front text n out) n a ≡ front (text ++ a ∷ []) (n + 1) out
one_more text out n a long room =
    rw (drop-cons out n 0 room, set_at text (get_or out n 0) (drop (suc n) out) a n long, add-one n)
    (sym (append_snoc text a (drop (suc n) out)))

pub two_more :
    (text out : List ℕ) (n a b : ℕ) →
    length text ≡ n →
    n + 1 < length out →
    set (set (front text n out) n a) (n + 1) b ≡ front (text ++ a ∷ b ∷ []) (n + 2) out
two_more text out n a b long room =
    ap (λ (l : List ℕ). set l (n + 1) b) (one_more text out n a long (omega arith))
    ∙ one_more (text ++ a ∷ []) out (n + 1) b (omega (arith, length-append text (a ∷ []))) room
    ∙ ap₂ (λ (t : List ℕ) (k : ℕ). front t k out) (append_assoc text (a ∷ []) (b ∷ [])) both
  where
    both : n + 1 + 1 ≡ n + 2
    both = omega arith

-- ---- bytes

digits_snoc : (ns : List ℕ) (b : ℕ) → digits_of (ns ++ b ∷ []) ≡ digits_of ns ++ glyph (b / 16) ∷ glyph (b % 16) ∷ []
unfolding digits_of
digits_snoc [] b = refl
digits_snoc (n ∷ ns) b = rw (digits_snoc ns b)

-- i bytes are printed
pub record Printing (bytes out₀ : List ℕ) (i : ℕ) (out : List ℕ) : Type 0 where
  pub reached : i ≤ length bytes
  pub size : length out ≡ length out₀
  pub printed : out ≡ front (digits_of (take i bytes)) (2 * i) out₀

module _ (bytes out₀ : List ℕ) (room : 2 * length bytes ≤ length out₀) where
  pub printing_begins : Printing bytes out₀ 0 out₀
  unfolding digits_of
  printing_begins = record { reached = omega arith; size = refl; printed = refl }

  module _ {i : ℕ} {out : List ℕ} (p : Printing bytes out₀ i out) where
    so_far : length (digits_of (take i bytes)) ≡ 2 * i
    so_far = digits_length (take i bytes) ∙ ap (λ (n : ℕ). 2 * n) (length-take-le i bytes p.reached)

    pub printing_on :
        i < length bytes →
        (next : List ℕ) →
        next ≡ set (set out (2 * i) (glyph (get_or bytes i 0 / 16))) (2 * i + 1) (glyph (get_or bytes i 0 % 16)) →
        Printing bytes out₀ (i + 1) next
    printing_on more next is =
        record {
          reached = omega arith;
          size = rw (is, length-set, length-set) p.size;
          printed =
              is
              ∙ ap (λ (l : List ℕ). set (set l (2 * i) (glyph (b / 16))) (2 * i + 1) (glyph (b % 16))) p.printed
              ∙ two_more (digits_of (take i bytes)) out₀ (2 * i) (glyph (b / 16)) (glyph (b % 16)) so_far (omega arith)
              ∙ ap₂ (λ (t : List ℕ) (k : ℕ). front t k out₀) (sym text) places;
        }
      where
        b : ℕ
        b = get_or bytes i 0

        text : digits_of (take (i + 1) bytes) ≡ digits_of (take i bytes) ++ glyph (b / 16) ∷ glyph (b % 16) ∷ []
        text = rw (add-one i, take-suc bytes i 0 more) (digits_snoc (take i bytes) b)

        places : 2 * i + 2 ≡ 2 * (i + 1)
        places = omega arith

    pub printing_ends : length bytes ≤ i → out ≡ at_front (digits_of bytes) out₀
    unfolding at_front
    printing_ends done =
        let all_bytes : i ≡ length bytes = omega (arith, p.reached) in
        p.printed
        ∙ rw (digits_length bytes, all_bytes, take_all (length bytes) bytes (omega arith))

-- ---- words

words_snoc :
    (bs : List ℕ) (w low high : ℕ) →
    length bs ≡ 2 * w →
    word_digits (bs ++ low ∷ high ∷ [])
    ≡ word_digits bs ++ glyph (high / 16) ∷ glyph (high % 16) ∷ glyph (low / 16) ∷ glyph (low % 16) ∷ []
unfolding word_digits
words_snoc [] w low high even = refl
words_snoc (b ∷ []) w low high even = absurd (omega arith)
words_snoc (b ∷ c ∷ bs) zero low high even = absurd (omega arith)
words_snoc (b ∷ c ∷ bs) (suc w) low high even = rw (words_snoc bs w low high (omega arith))

-- a last byte that has no partner is no word
words_whole : (bs : List ℕ) (w : ℕ) → w ≡ length bs / 2 → word_digits (take (2 * w) bs) ≡ word_digits bs
unfolding word_digits
words_whole [] w is = rw is
words_whole (b ∷ []) w is = rw is
words_whole (b ∷ c ∷ bs) zero is = absurd (omega arith)
words_whole (b ∷ c ∷ bs) (suc w) is =
    let two : 2 * suc w ≡ suc (suc (2 * w)) = omega arith in
    rw two (rw (words_whole bs w (omega arith)))

-- a table's words are its pairs of bytes
pair_at : (bs : List ℕ) (n i : ℕ) → i < n → get_or (first_chunks 2 n bs) i [] ≡ take 2 (drop (2 * i) bs)
pair_at bs zero i here = absurd (omega arith)
pair_at bs (suc n) zero here = refl
pair_at bs (suc n) (suc i) here =
    let two : 2 + 2 * i ≡ 2 * suc i = omega arith in
    pair_at (drop 2 bs) n i (omega arith)
    ∙ ap (take 2) (drop-drop (2 * i) 2 bs ∙ ap (λ (k : ℕ). drop k bs) two)

pub byte_at :
    (bs : List ℕ) (n i k : ℕ) → i < n → k < 2 → get_or (get_or (first_chunks 2 n bs) i []) k 0 ≡ get_or bs (2 * i + k) 0
byte_at bs n i k here low =
    ap (λ (l : List ℕ). get_or l k 0) (pair_at bs n i here)
    ∙ get_or-take 2 (drop (2 * i) bs) k 0 low
    ∙ get_or-drop (2 * i) bs k 0

-- i words are printed
pub record Wording (bytes out₀ : List ℕ) (i : ℕ) (out : List ℕ) : Type 0 where
  pub reached : i ≤ length bytes / 2
  pub size : length out ≡ length out₀
  pub printed : out ≡ front (word_digits (take (2 * i) bytes)) (4 * i) out₀

module _ (bytes out₀ : List ℕ) (room : 2 * length bytes ≤ length out₀) where
  pub wording_begins : Wording bytes out₀ 0 out₀
  unfolding word_digits
  wording_begins = record { reached = omega arith; size = refl; printed = refl }

  module _ {i : ℕ} {out : List ℕ} (p : Wording bytes out₀ i out) where
    begun : length (take (2 * i) bytes) ≡ 2 * i
    begun = length-take-le (2 * i) bytes (omega (arith, p.reached))

    written : length (word_digits (take (2 * i) bytes)) ≡ 4 * i
    written = omega (arith, words_length (take (2 * i) bytes), ap (λ (n : ℕ). 4 * (n / 2)) begun)

    pub wording_on :
        (words : List (List ℕ)) →
        words ≡ first_chunks 2 (length bytes / 2) bytes →
        i < length bytes / 2 →
        (mid next : List ℕ) →
        mid
        ≡ set (set out (4 * i) (glyph (get_or (get_or words i []) 1 0 / 16))) (4 * i + 1)
        (glyph (get_or (get_or words i []) 1 0 % 16)) →
        next
        ≡ set (set mid (4 * i + 2) (glyph (get_or (get_or words i []) 0 0 / 16))) (4 * i + 2 + 1)
        (glyph (get_or (get_or words i []) 0 0 % 16)) →
        Wording bytes out₀ (i + 1) next
    wording_on words are more mid next first second =
        record {
          reached = omega arith;
          size = rw (second, length-set, length-set, first, length-set, length-set) p.size;
          printed =
              second
              ∙ ap (λ (l : List ℕ). store l (4 * i + 2) low) first
              ∙ ap (λ (l : List ℕ). store (store l (4 * i) high) (4 * i + 2) low) p.printed
              ∙ ap (λ (l : List ℕ). store l (4 * i + 2) low)
              (two_more text₀ out₀ (4 * i) (glyph (high / 16)) (glyph (high % 16)) written (omega arith))
              ∙ two_more text₁ out₀ (4 * i + 2) (glyph (low / 16)) (glyph (low % 16)) longer (omega arith)
              ∙ ap₂ (λ (t : List ℕ) (k : ℕ). front t k out₀) text places;
        }
      where
        low : ℕ
        low = get_or (get_or words i []) 0 0

        high : ℕ
        high = get_or (get_or words i []) 1 0

        at_half : (k : ℕ) → k < 2 → get_or bytes (2 * i + k) 0 ≡ get_or (get_or words i []) k 0
        at_half k half =
            sym (ap (λ (ps : List (List ℕ)). get_or (get_or ps i []) k 0) are ∙ byte_at bytes (length bytes / 2) i k more half)

        store : List ℕ → ℕ → ℕ → List ℕ
        store l n b = set (set l n (glyph (b / 16))) (n + 1) (glyph (b % 16))

        text₀ : List ℕ
        text₀ = word_digits (take (2 * i) bytes)

        text₁ : List ℕ
        text₁ = text₀ ++ glyph (high / 16) ∷ glyph (high % 16) ∷ []

        longer : length text₁ ≡ 4 * i + 2
        longer = omega (arith, length-append text₀ (glyph (high / 16) ∷ glyph (high % 16) ∷ []), written)

        taken : take (2 * (i + 1)) bytes ≡ take (2 * i) bytes ++ low ∷ high ∷ []
        taken =
            let two : 2 * (i + 1) ≡ suc (suc (2 * i)) = omega arith in
            let none : 2 * i + 0 ≡ 2 * i = omega arith in
            rw (
              two,
              take-suc bytes (suc (2 * i)) 0 (omega arith),
              take-suc bytes (2 * i) 0 (omega arith),
              ← add-one (2 * i),
              at_half 1 (omega arith),
              rw none at (at_half 0 (omega arith)),
              append_assoc (take (2 * i) bytes) (low ∷ []) (high ∷ []),
            )

        text : text₁ ++ glyph (low / 16) ∷ glyph (low % 16) ∷ [] ≡ word_digits (take (2 * (i + 1)) bytes)
        text =
            rw (taken, words_snoc (take (2 * i) bytes) i low high begun)
            (append_assoc text₀ (glyph (high / 16) ∷ glyph (high % 16) ∷ []) (glyph (low / 16) ∷ glyph (low % 16) ∷ []))

        places : 4 * i + 2 + 2 ≡ 4 * (i + 1)
        places = omega arith

    pub wording_ends : length bytes / 2 ≤ i → out ≡ at_front (word_digits bytes) out₀
    unfolding at_front
    wording_ends done =
        let all_words : i ≡ length bytes / 2 = omega (arith, p.reached) in
        p.printed
        ∙ ap₂ front' (words_whole bytes i all_words) long
      where
        front' : List ℕ → ℕ → List ℕ
        front' t k = front t k out₀

        long : 4 * i ≡ length (word_digits bytes)
        long = omega (arith, words_length bytes, p.reached)
