-- A payload held in the hand: each place that the hand passes takes its neighbour's payload (`shifts`), and at the goal
-- the held one is put down (`moves_shift`). `Shifting` is the invariant of the loop, with `shift_on`, `shift_ends`.
-- Assumes nothing.
use Rattle.std.specs.Prelude.{ℕ, zero, suc, ◌+◌, ◌-◌, ◌*◌, ◌<◌, ◌≡◌, refl, ◌≢◌, List, [], ◌∷◌, length, set}
use Rattle.std.proofs.Common.{sym, ap, ap₂, ◌∙◌, arith, lt-ltb, le-ltb, length-set, set-set, get_or-set_same, get_or-set_other}
use Rattle.std.proofs.lemmas.List.{set-get_or}
use Rattle.rules.specs.Word.{Word, word_of, zero_word, with_payload}
use Rattle.rules.specs.Bytes.{words_of}
use Rattle.rules.specs.Table.{at}
use Rattle.rules.specs.Phase.{exchange}
use Rattle.table_words.specs.Sides.{Side, left, right, Ahead, beside}
use Rattle.theory.specs.Motion.{
  toward,
  moves,
  distance,
  distance_toward,
  distance_none,
  distance_some,
  toward_lt,
  heads,
  Heads,
  rightward,
  leftward,
}

-- the table where place p has taken the payload of v
abbrev pub holding : Word → List Word → ℕ → List Word
holding v ws p = set ws p (with_payload v (at ws p))

-- some moves of the hand towards its goal, but for the payload that it holds
unfoldable pub shifts : ℕ → List Word → ℕ → ℕ → List Word
shifts zero ws hand goal = ws
shifts (suc n) ws hand goal = shifts n (holding (at ws (toward hand goal)) ws hand) (toward hand goal) goal

-- the neighbour's payload goes to the hand's place, and then the held one is held for the neighbour's
exchange_held :
    (v : Word) (ws : List Word) (p q : ℕ) →
    p < length ws → q ≢ p →
    exchange (holding v ws p) p q ≡ holding v (holding (at ws q) ws p) q
unfolding exchange
exchange_held v ws p q low apart =
    ap₂ (λ (x y : Word). set (set (holding v ws p) p (with_payload y x)) q (with_payload x y)) here there
    ∙ ap
    (λ (us : List Word). set us q (with_payload v (at ws q)))
    (set-set ws p (with_payload v (at ws p)) (with_payload (at ws q) (at ws p)))
    ∙ ap
    (λ (w : Word). set (holding (at ws q) ws p) q (with_payload v w))
    (sym (get_or-set_other ws p q (with_payload (at ws q) (at ws p)) zero_word apart))
  where
    here : at (holding v ws p) p ≡ with_payload v (at ws p)
    here = get_or-set_same ws p (with_payload v (at ws p)) zero_word low

    there : at (holding v ws p) q ≡ at ws q
    there = get_or-set_other ws p q (with_payload v (at ws p)) zero_word apart

-- the neighbour is another place
beside_hand : (hand goal : ℕ) → (hand ≡ goal → ⊥) → toward hand goal ≢ hand
beside_hand hand goal apart = go (heads hand goal apart)
  where
    go : {q : ℕ} → Heads hand goal q → q ≢ hand
    go (rightward lt) = omega arith
    go (leftward lt) = omega arith

-- all the moves with a payload held at the hand's place are the shifts, and then that payload at the goal
moves_held :
    (n : ℕ) (v : Word) (ws : List Word) (hand goal : ℕ) →
    hand < length ws →
    goal < length ws →
    distance hand goal ≡ n →
    moves n (holding v ws hand) hand goal ≡ holding v (shifts n ws hand goal) goal
unfolding moves shifts
moves_held zero v ws hand goal low near count = ap (holding v ws) (distance_none hand goal count)
moves_held (suc n) v ws hand goal low near count =
    ap
    (λ (us : List Word). moves n us (toward hand goal) goal)
    (exchange_held v ws hand (toward hand goal) low (beside_hand hand goal apart))
    ∙ moves_held
    n
    v
    (holding (at ws (toward hand goal)) ws hand)
    (toward hand goal)
    goal
    (omega (arith, size, toward_lt hand goal (length ws) apart low near))
    (omega (arith, size))
    (omega (arith, distance_toward hand goal apart))
  where
    apart : hand ≡ goal → ⊥
    apart = distance_some hand goal n count

    size : length (holding (at ws (toward hand goal)) ws hand) ≡ length ws
    size = length-set ws hand (with_payload (at ws (toward hand goal)) (at ws hand))

-- a place whose two bytes are among the lent ones has a word
word_inside : (bs : List ℕ) (p : ℕ) → 2 * p + 1 < length bs → p < length (words_of bs)
unfolding words_of
word_inside [] p h = absurd (omega arith)
word_inside (low ∷ []) p h = absurd (omega arith)
word_inside (low ∷ high ∷ bs) zero h = omega arith
word_inside (low ∷ high ∷ bs) (suc p) h = let i = word_inside bs p (omega arith) in omega arith

-- the payload that is held is the one at the hand
pub moves_shift :
    (bs : List ℕ) (hand goal : ℕ) →
    2 * hand + 1 < length bs →
    2 * goal + 1 < length bs →
    holding (at (words_of bs) hand) (shifts (distance hand goal) (words_of bs) hand goal) goal
    ≡ moves (distance hand goal) (words_of bs) hand goal
moves_shift bs hand goal low near =
    sym
    (moves_held
    (distance hand goal)
    (at (words_of bs) hand)
    (words_of bs)
    hand
    goal
    (word_inside bs hand low)
    (word_inside bs goal near)
    refl)
    ∙ ap (λ (us : List Word). moves (distance hand goal) us hand goal) (set-get_or (words_of bs) hand zero_word)

-- ---- the loop, on the lent bytes: the shifts that are left give what all give from the start

pub record Shifting (bs₀ : List ℕ) (hand₀ goal : ℕ) (bs : List ℕ) (hand : ℕ) : Type 0 where
  pub size : length bs ≡ length bs₀
  pub here : 2 * hand + 1 < length bs₀
  pub there : 2 * goal + 1 < length bs₀
  pub rest :
      shifts (distance hand₀ goal) (words_of bs₀) hand₀ goal ≡ shifts (distance hand goal) (words_of bs) hand goal

-- the neighbour on the goal's side is the one towards the goal
heads_toward : {hand goal next : ℕ} → Heads hand goal next → toward hand goal ≡ next
unfolding toward
heads_toward {hand} {goal} (rightward lt) = rw (lt-ltb hand goal lt)
heads_toward {hand} {goal} (leftward lt) = rw (le-ltb hand goal (omega arith))

heads_apart : {hand goal next : ℕ} → Heads hand goal next → hand ≡ goal → ⊥
heads_apart (rightward lt) same = omega arith
heads_apart (leftward lt) same = omega arith

pub heads_to : (s : Side) (hand goal : ℕ) → Ahead s hand goal → Heads hand goal (beside s hand)
heads_to left hand goal lt = leftward lt
heads_to right hand goal lt = rightward lt

-- it is in the table where both are
pub heads_near : {hand goal next n : ℕ} → Heads hand goal next → 2 * hand + 1 < n → 2 * goal + 1 < n → 2 * next + 1 < n
heads_near (rightward lt) here there = omega arith
heads_near (leftward lt) here there = omega arith

pub nearer : {hand goal next : ℕ} → Heads hand goal next → distance next goal < distance hand goal
unfolding distance
nearer (rightward lt) = omega arith
nearer (leftward lt) = omega arith

module _ {bs₀ : List ℕ} {hand₀ goal : ℕ} {bs : List ℕ} {hand : ℕ} (s : Shifting bs₀ hand₀ goal bs hand) where
  -- the payload of the neighbour towards the goal is written at the hand
  pub shift_on :
      (next v w k : ℕ) (cs : List ℕ) →
      Heads hand goal next →
      word_of v ≡ at (words_of bs) next →
      word_of w ≡ at (words_of bs) hand →
      word_of k ≡ with_payload (word_of v) (word_of w) →
      length cs ≡ length bs →
      words_of cs ≡ set (words_of bs) hand (word_of k) → Shifting bs₀ hand₀ goal cs next
  unfolding shifts
  shift_on next v w k cs side read own made size write =
      record {
        size = size ∙ s.size;
        here = heads_near side s.here s.there;
        there = s.there;
        rest =
            s.rest
            ∙ ap (λ (n : ℕ). shifts n (words_of bs) hand goal) (distance_toward hand goal (heads_apart side))
            ∙ ap
            (λ (q : ℕ). shifts (distance q goal) (holding (at (words_of bs) q) (words_of bs) hand) q goal)
            (heads_toward side)
            ∙ ap (λ (us : List Word). shifts (distance next goal) us next goal) (sym written);
      }
    where
      written : words_of cs ≡ holding (at (words_of bs) next) (words_of bs) hand
      written = write ∙ ap (set (words_of bs) hand) (made ∙ ap₂ with_payload read own)

  -- at the goal none is left
  pub shift_ends : hand ≡ goal → words_of bs ≡ shifts (distance hand₀ goal) (words_of bs₀) hand₀ goal
  unfolding shifts distance
  shift_ends same =
      let none : (hand - goal) + (goal - hand) ≡ 0 = omega arith in
      sym (s.rest ∙ ap (λ (n : ℕ). shifts n (words_of bs) hand goal) none)
