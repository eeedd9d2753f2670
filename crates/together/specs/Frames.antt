-- What finishing a task's words reads and writes, place by place: nothing outside the stretch in which hand, goal and
-- home lie.
-- Assumes nothing.
use Rattle.std.specs.Prelude.{ℕ, suc, ◌+◌, ◌-◌, ◌≤◌, ◌<◌, ◌≡◌, ◌≢◌, Bool, false, List, ◌++◌, get_or, take, drop, set}
use Rattle.std.proofs.Common.{sym, ap, ◌∙◌, append_assoc, arith, length-append, take-append-drop, length-take-le, take-take, get_or-append-add, get_or-set_same, get_or-set_other, ext_get_or}
use Rattle.std.proofs.Math.ListN.{length, get_or-append, get_or-map}
use Rattle.std.proofs.Math.Seq.{slice, length-slice, get_or-take, get_or-drop}
use Rattle.rules.specs.Word.{Word, zero_word}
use Rattle.rules.specs.Table.{at, occupied_places}
use Rattle.theory.specs.Places.{occupied_at, occupied_length}
use Rattle.theory.specs.Motion.{finish}
use Rattle.theory.proofs.Region.{locks, length_locks, finish_locks, finish_within}

-- ---- words at a place
pub at_set : (ws : List Word) (p : ℕ) (w : Word) → p < length ws → at (set ws p w) p ≡ w
at_set ws p w lt = get_or-set_same ws p w zero_word lt

pub at_other : (ws : List Word) (p q : ℕ) (w : Word) → q ≢ p → at (set ws p w) q ≡ at ws q
at_other ws p q w n = get_or-set_other ws p q w zero_word n

-- a stretch from place a to place b, both included
abbrev pub Within : ℕ → ℕ → ℕ → Type 0
Within a b p = (a ≤ p) × (p ≤ b)

-- the words before a stretch, in it and after it
stretch : List Word → ℕ → ℕ → List Word
stretch ws a b = slice a (suc b) ws

parts : (ws : List Word) (a b : ℕ) → a ≤ b → b < length ws → ws ≡ take a ws ++ (stretch ws a b ++ drop (suc b) ws)
unfolding stretch
parts ws a b le lt =
    sym (take-append-drop (suc b) ws)
    ∙ ap
    (λ (us : List Word). us ++ drop (suc b) ws)
    (sym (take-append-drop a (take (suc b) ws))
    ∙ ap (λ (us : List Word). us ++ drop a (take (suc b) ws)) (take-take a (suc b) ws (omega arith)))
    ∙ append_assoc (take a ws) (drop a (take (suc b) ws)) (drop (suc b) ws)

module _ (ws : List Word) (a b : ℕ) (le : a ≤ b) (lt : b < length ws) where
  before_length : length (take a ws) ≡ a
  before_length = length-take-le a ws (omega arith)

  stretch_length : length (stretch ws a b) ≡ suc b - a
  unfolding stretch
  stretch_length = length-slice a (suc b) ws (omega arith)

  stretch_at : (i : ℕ) → a + i ≤ b → at (stretch ws a b) i ≡ at ws (a + i)
  unfolding stretch
  stretch_at i near = get_or-drop a (take (suc b) ws) i zero_word ∙ get_or-take (suc b) ws (a + i) zero_word (omega arith)

  -- finishing inside the stretch, as finishing the stretch alone
  module _ (hand goal mark home_at : ℕ)
      (hand_in : Within a b hand) (goal_in : Within a b goal) (home_in : Within a b home_at)
      (closes : mark ≡ 1 → a < goal)
    where
      inner : List Word
      inner = finish (stretch ws a b) (hand - a) (goal - a) mark (home_at - a)

      finish_parts : finish ws hand goal mark home_at ≡ take a ws ++ (inner ++ drop (suc b) ws)
      unfolding inner
      finish_parts =
          (λ j.
          finish
          (parts ws a b le lt j)
          (place hand hand_in.0 j)
          (place goal goal_in.0 j)
          mark
          (place home_at home_in.0 j))
          ∙ finish_within
          (take a ws)
          (stretch ws a b)
          (drop (suc b) ws)
          (hand - a)
          (goal - a)
          mark
          (home_at - a)
          (omega (arith, stretch_length))
          (omega (arith, stretch_length))
          (omega (arith, stretch_length))
          (λ one. omega (arith, closes one))
        where
          place : (p : ℕ) → a ≤ p → p ≡ length (take a ws) + (p - a)
          place p low = omega (arith, before_length)

      inner_length : length inner ≡ length (stretch ws a b)
      unfolding inner
      inner_length =
          length_locks inner (stretch ws a b) (finish_locks (stretch ws a b) (hand - a) (goal - a) mark (home_at - a))

      -- outside it nothing changes
      pub finish_before : (p : ℕ) → p < a → at (finish ws hand goal mark home_at) p ≡ at ws p
      finish_before p low =
          ap (λ (us : List Word). at us p) finish_parts
          ∙ get_or-append (take a ws) (inner ++ drop (suc b) ws) zero_word p (omega (arith, before_length))
          ∙ get_or-take a ws p zero_word low

      pub finish_after : (p : ℕ) → b < p → at (finish ws hand goal mark home_at) p ≡ at ws p
      finish_after p high =
          ap (λ (us : List Word). at us p) (finish_parts ∙ sym (append_assoc (take a ws) inner (drop (suc b) ws)))
          ∙ ap (at ((take a ws ++ inner) ++ drop (suc b) ws)) place
          ∙ get_or-append-add (take a ws ++ inner) (drop (suc b) ws) (p - suc b) zero_word
          ∙ get_or-drop (suc b) ws (p - suc b) zero_word
          ∙ ap (at ws) there
        where
          place : p ≡ length (take a ws ++ inner) + (p - suc b)
          place = omega (arith, length-append (take a ws) inner, before_length, inner_length, stretch_length)

          there : suc b + (p - suc b) ≡ p
          there = omega arith

      -- inside it only the stretch matters
      finish_inside : (p : ℕ) → Within a b p → at (finish ws hand goal mark home_at) p ≡ at inner (p - a)
      finish_inside p near =
          ap (λ (us : List Word). at us p) finish_parts
          ∙ ap (at (take a ws ++ (inner ++ drop (suc b) ws))) place
          ∙ get_or-append-add (take a ws) (inner ++ drop (suc b) ws) (p - a) zero_word
          ∙ get_or-append inner (drop (suc b) ws) zero_word (p - a) (omega (arith, inner_length, stretch_length))
        where
          place : p ≡ length (take a ws) + (p - a)
          place = omega (arith, before_length)

stretch_same :
    (ws vs : List Word) (a b : ℕ) →
    a ≤ b →
    b < length ws →
    length ws ≡ length vs → ((p : ℕ) → Within a b p → at ws p ≡ at vs p) → stretch ws a b ≡ stretch vs a b
stretch_same ws vs a b le lt size alike =
    ext_get_or
    zero_word
    (stretch ws a b)
    (stretch vs a b)
    (stretch_length ws a b le lt ∙ sym (stretch_length vs a b le (omega arith)))
    (λ i near.
    let low : a + i ≤ b = omega (arith, stretch_length ws a b le lt) in
    stretch_at ws a b le lt i low ∙ alike (a + i) (omega arith, low) ∙ sym (stretch_at vs a b le (omega arith) i low))

-- tables that agree on the stretch agree there when finished
pub finish_agree :
    (ws vs : List Word) (a b : ℕ) →
    a ≤ b →
    b < length ws →
    length ws ≡ length vs →
    (hand goal mark home_at : ℕ) →
    Within a b hand →
    Within a b goal →
    Within a b home_at →
    (mark ≡ 1 → a < goal) →
    ((p : ℕ) → Within a b p → at ws p ≡ at vs p) →
    (p : ℕ) → Within a b p → at (finish ws hand goal mark home_at) p ≡ at (finish vs hand goal mark home_at) p
unfolding inner
finish_agree ws vs a b le lt size hand goal mark home_at hand_in goal_in home_in closes alike p near =
    finish_inside ws a b le lt hand goal mark home_at hand_in goal_in home_in closes p near
    ∙ ap
    (λ (us : List Word). at (finish us (hand - a) (goal - a) mark (home_at - a)) (p - a))
    (stretch_same ws vs a b le lt size alike)
    ∙ sym (finish_inside vs a b le (omega arith) hand goal mark home_at hand_in goal_in home_in closes p near)

-- ---- locks and occupied places
pub locks_at : (ws vs : List Word) (p : ℕ) → locks ws ≡ locks vs → (at ws p).lock ≡ (at vs p).lock
locks_at ws vs p e =
    sym (get_or-map (λ (w : Word). w.lock) ws p zero_word)
    ∙ ap (λ (bs : List Bool). get_or bs p false) e
    ∙ get_or-map (λ (w : Word). w.lock) vs p zero_word

pub occupied_same : (ws vs : List Word) (p : ℕ) → occupied_places ws ≡ occupied_places vs →
    (at ws p).occupied ≡ (at vs p).occupied
occupied_same ws vs p e = sym (occupied_at ws p) ∙ ap (λ (bs : List Bool). get_or bs p false) e ∙ occupied_at vs p

-- words with the same places occupied, place by place
pub occupied_by :
    (ws vs : List Word) →
    length ws ≡ length vs → ((p : ℕ) → (at ws p).occupied ≡ (at vs p).occupied) → occupied_places ws ≡ occupied_places vs
occupied_by ws vs size alike =
    ext_get_or
    false
    (occupied_places ws)
    (occupied_places vs)
    (occupied_length ws ∙ size ∙ sym (occupied_length vs))
    (λ p lt. occupied_at ws p ∙ alike p ∙ sym (occupied_at vs p))
