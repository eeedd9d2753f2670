-- A table cut at two of its places: `cut`, and `cut_beside` with the word at one of them kept beside what is between.
-- `cut_home`: the gaps of an occupied home place are two such places, and all that lies between is occupied. Only the
-- guards are known to be void there: the rest of the table may be unsound.
-- Assumes nothing.
use Rattle.std.specs.Prelude.{ℕ, suc, ◌+◌, ◌-◌, ◌≤◌, ◌<◌, ◌≡◌, refl, Bool, true, false, List, [], ◌∷◌, ◌++◌, length, get_or, take, drop, leb}
use Rattle.std.proofs.Common.{sym, ap, ◌∙◌, true≢false, append_assoc, arith, length-take-le, take-suc, drop-cons, get_or-drop, get_or-take, leb-true, leb-false}
use Rattle.std.proofs.Math.Seq.{slice, slice-cons, split_at, length-slice}
use Rattle.std.proofs.lemmas.List.{drop-append-le}
use Rattle.rules.specs.declared.Shape.{Shape}
use Rattle.rules.specs.Lists.{all}
use Rattle.rules.specs.Word.{Word, zero_word, is_void}
use Rattle.rules.specs.Shape.{places, right_guard}
use Rattle.rules.specs.Table.{at, occupied_places, left_gap, right_gap, between, guards_void}
use Rattle.theory.specs.Dealt.{is_occupied, and_right, and_both}
use Rattle.theory.specs.Gaps.{Side, Free, Taken, TakenFrom, Guarded, HomePlace, Gap, gap_is, gap_first, gap_below}
use Rattle.theory.specs.Gaps.{gap_above}
use Rattle.theory.specs.Gaps as gaps
use Rattle.theory.specs.Places.{void_free, left_free, occupied_at, occupied_length}
use Rattle.theory.specs.Side.{beside, begins, stands}

-- the words before place l, at it, between it and place r, at that, and after it
pub record Cut (ws : List Word) (l r : ℕ) : Type 0 where
  pub words : ws ≡ take l ws ++ (at ws l ∷ (between ws l r ++ (at ws r ∷ drop (suc r) ws)))
  pub before : length (take l ws) ≡ l
  pub inside : length (between ws l r) ≡ r - suc l

pub cut : (ws : List Word) (l r : ℕ) → l < r → r < length ws → Cut ws l r
cut ws l r ordered low =
    record {
      words = split_at ws l zero_word (omega arith) ∙ ap (λ (vs : List Word). take l ws ++ (at ws l ∷ vs)) rest;
      before = length-take-le l ws (omega arith);
      inside = length-slice (suc l) r ws (omega arith);
    }
  where
    rest : drop (suc l) ws ≡ between ws l r ++ (at ws r ∷ drop (suc r) ws)
    rest =
        ap (drop (suc l)) (split_at ws r zero_word low)
        ∙ drop-append-le
        (suc l)
        (take r ws)
        (at ws r ∷ drop (suc r) ws)
        (omega (arith, length-take-le r ws (omega arith)))

-- the two places with what lies between
pub cut_closed :
    (ws : List Word) (l r : ℕ) →
    l < r → r < length ws → slice l (suc r) ws ≡ at ws l ∷ (between ws l r ++ (at ws r ∷ []))
cut_closed ws l r ordered low =
    slice-cons l (suc r) ws zero_word (omega arith) low
    ∙ ap
    (λ (vs : List Word). at ws l ∷ vs)
    (ap (drop (suc l)) (take-suc ws r zero_word low)
    ∙ drop-append-le (suc l) (take r ws) (at ws r ∷ []) (omega (arith, length-take-le r ws (omega arith))))

-- ---- with the word at one end kept beside what lies between

-- the place of that word; the first place of the two together, and the first after them
abbrev pub end : Side → ℕ → ℕ → ℕ
end gaps.left l r = l
end gaps.right l r = r

abbrev pub from : Side → ℕ → ℕ
from gaps.left l = l
from gaps.right l = suc l

abbrev pub up_to : Side → ℕ → ℕ
up_to gaps.left r = r
up_to gaps.right r = suc r

pub record CutBeside (side : Side) (ws : List Word) (l r : ℕ) : Type 0 where
  pub words :
      ws
      ≡ take (from side l) ws ++ (beside side (at ws (end side l r)) (between ws l r) ++ drop (up_to side r) ws)
  pub size : length (take (from side l) ws) ≡ from side l
  pub run : begins side (from side l) ≡ suc l
  pub stands : stands side (from side l) (length (between ws l r)) ≡ end side l r

pub cut_beside : (side : Side) (ws : List Word) (l r : ℕ) → l < r → r < length ws → CutBeside side ws l r
cut_beside gaps.left ws l r ordered low =
    let c = cut ws l r ordered low in
    record {
      words =
          c.words
          ∙ ap
          (λ (vs : List Word). take l ws ++ (at ws l ∷ (between ws l r ++ vs)))
          (sym (drop-cons ws r zero_word low));
      size = c.before;
      run = refl;
      stands = refl;
    }
cut_beside gaps.right ws l r ordered low =
    let c = cut ws l r ordered low in
    record {
      words =
          c.words
          ∙ ap
          (λ (vs : List Word). take l ws ++ (at ws l ∷ vs))
          (sym (append_assoc (between ws l r) (at ws r ∷ []) (drop (suc r) ws)))
          ∙ sym (append_assoc (take l ws) (at ws l ∷ []) _)
          ∙ ap
          (λ (vs : List Word). vs ++ ((between ws l r ++ (at ws r ∷ [])) ++ drop (suc r) ws))
          (sym (take-suc ws l zero_word (omega arith)));
      size = length-take-le (suc l) ws (omega arith);
      run = refl;
      stands = omega (arith, c.inside);
    }

-- ---- what lies between two places, word by word

pub between_at : (ws : List Word) (l r i : ℕ) → suc l + i < r → at (between ws l r) i ≡ at ws (suc l + i)
between_at ws l r i low = get_or-drop (suc l) (take r ws) i zero_word ∙ get_or-take r ws (suc l + i) zero_word low

all_of : (f : Word → Bool) (ws : List Word) → ((i : ℕ) → i < length ws → f (at ws i) ≡ true) → all f ws ≡ true
unfolding all
all_of f [] h = refl
all_of f (w ∷ ws) h = and_both _ _ (h 0 (omega arith)) (all_of f ws (λ i lt. h (suc i) (omega arith)))

-- all is occupied between two places if each place there is
pub between_occupied :
    (ws : List Word) (l r : ℕ) →
    r ≤ length ws → TakenFrom (occupied_places ws) (suc l) r → all is_occupied (between ws l r) ≡ true
between_occupied ws l r low taken =
    all_of
    is_occupied
    (between ws l r)
    (λ i lt.
    let near : suc l + i < r = omega (arith, length-slice (suc l) r ws low) in
    ap is_occupied (between_at ws l r i near)
    ∙ sym (occupied_at ws (suc l + i))
    ∙ taken (suc l + i) (omega arith) near)

-- ---- the gaps of an occupied home place

pub void_guarded :
    (sh : Shape) (ws : List Word) → length ws ≡ places sh → guards_void sh ws ≡ true → Guarded sh (occupied_places ws)
unfolding guards_void
void_guarded sh ws size void =
    record {
      size = occupied_length ws ∙ size;
      left = occupied_at ws 0 ∙ left_free sh ws void;
      right = occupied_at ws (right_guard sh) ∙ void_free _ (and_right (is_void (at ws 0)) _ void);
    }

pub record CutHome (ws : List Word) (h : ℕ) : Type 0 where
  pub after : left_gap (occupied_places ws) h < h
  pub before : h < right_gap (occupied_places ws) h
  pub inside : right_gap (occupied_places ws) h < length ws
  pub taken : all is_occupied (between ws (left_gap (occupied_places ws) h) (right_gap (occupied_places ws) h)) ≡ true

pub cut_home :
    (sh : Shape) (ws : List Word) (h : ℕ) →
    length ws ≡ places sh →
    guards_void sh ws ≡ true → HomePlace sh h → (at ws h).occupied ≡ true → CutHome ws h
unfolding places right_guard
cut_home sh ws h size void home_at full =
    record {
      after = omega (arith, below.side, apart l below.free);
      before = omega (arith, above.side, apart r above.free);
      inside = omega (arith, end);
      taken = between_occupied ws l r (omega (arith, end)) (λ q x y. go q x y (leb q h) refl);
    }
  where
    guarded : Guarded sh (occupied_places ws)
    guarded = void_guarded sh ws size void

    l : ℕ
    l = left_gap (occupied_places ws) h

    r : ℕ
    r = right_gap (occupied_places ws) h

    below : Gap gaps.left (occupied_places ws) h l
    below = gap_is gaps.left h guarded

    above : Gap gaps.right (occupied_places ws) h r
    above = gap_is gaps.right h guarded

    end : r ≤ right_guard sh
    end = gap_first gaps.right (right_guard sh) above (omega (arith, home_at.last)) guarded.right

    -- a gap is another place than the home
    apart : (p : ℕ) → Free (occupied_places ws) p → p ≡ h → ⊥
    apart p free same =
        true≢false (sym full ∙ sym (occupied_at ws h) ∙ ap (λ (q : ℕ). get_or (occupied_places ws) q false) (sym same)
        ∙ free)

    go : (q : ℕ) → suc l ≤ q → q < r → (b : Bool) → leb q h ≡ b → Taken (occupied_places ws) q
    go q x y true e = gap_below gaps.left below q x (omega (arith, leb-true q h e))
    go q x y false e = gap_above gaps.right above q (omega (arith, leb-false q h e)) y
