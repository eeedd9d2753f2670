-- What a fill and finishing leave alone: lock bits, occupied places, and words outside the region of hand, goal, home.
-- In order: lock bits have no part in it (`-unlock`); they stay, as occupied places do (`-locks`, `-occupied`);
-- a region between other words is finished as it would be alone (`-within`).
-- Assumes nothing.
use Prim.Native.Nat.{ℕ, zero, suc, ◌+◌, ◌-◌, ◌<◌}
use Rattle.std.proofs.Common.{zero-add, suc-add, arith, sym, ap, ◌∙◌, lt-length-set, get_or-append-add}
use Rattle.std.proofs.Math.Nat.{suc_inj}
use Rattle.std.specs.Prelude.{◌≡◌, Bool, length, get_or, set}
use Rattle.std.proofs.Math.Path.{refl}
use Rattle.std.proofs.Math.Bool.{true, false}
use mathlib.Core.List.{List, [], ◌∷◌, ◌++◌, map}
use Rattle.std.proofs.lemmas.List.{length-map, set-append_left}
use Rattle.std.proofs.Math.ListN.{get_or-map, get_or-append}
use Rattle.std.proofs.Math.Seq.{map-set_same}
use Rattle.rules.specs.Word.{Word, zero_word, filled_with, with_payload, with_change, with_virgin}
use Rattle.rules.specs.Table.{at, occupied_places}
use Rattle.rules.specs.Phase.{exchange, set_change, set_virgin, marked}
use Rattle.table_words.specs.Layout.{change_length, exchange_length}
use Rattle.theory.specs.Run.{unlock}
use Rattle.theory.specs.Locks.{at_unlock}
use Rattle.theory.specs.Motion.{fill_at, toward, moves, distance, finish, marked_both, Heads, rightward, leftward}
use Rattle.theory.specs.Motion.{heads, toward_lt, distance_toward, distance_some}

-- ---- lock bits aside

map_set : {A B : Type 0} (f : A → B) (l : List A) (i : ℕ) (x : A) → map f (set l i x) ≡ set (map f l) i (f x)
map_set f [] i x = refl
map_set f (y ∷ l) zero x = refl
map_set {B = B} f (y ∷ l) (suc i) x = ap (λ (r : List B). f y ∷ r) (map_set f l i x)

-- a change of one word that lock bits have no part in
alter_unlock :
    (f : Word → Word) → ((w : Word) → unlock (f w) ≡ f (unlock w)) →
    (ws : List Word) (p : ℕ) →
    map unlock (set ws p (f (at ws p))) ≡ set (map unlock ws) p (f (at (map unlock ws) p))
alter_unlock f same ws p = map_set unlock ws p (f (at ws p)) ∙ rw (at_unlock ws p, same (at ws p))

pub fill_at_unlock : (x : ℕ) (ws : List Word) (p : ℕ) → map unlock (fill_at x ws p) ≡ fill_at x (map unlock ws) p
unfolding fill_at
fill_at_unlock x ws p = alter_unlock (filled_with x) (λ w. refl) ws p

exchange_unlock : (ws : List Word) (p q : ℕ) → map unlock (exchange ws p q) ≡ exchange (map unlock ws) p q
unfolding exchange
exchange_unlock ws p q = rw (at_unlock ws p, at_unlock ws q, map_set, map_set)

moves_unlock :
    (n : ℕ) (ws : List Word) (hand goal : ℕ) → map unlock (moves n ws hand goal) ≡ moves n (map unlock ws) hand goal
unfolding moves
moves_unlock zero ws hand goal = refl
moves_unlock (suc n) ws hand goal =
    moves_unlock n (exchange ws hand (toward hand goal)) (toward hand goal) goal
    ∙ ap (λ (vs : List Word). moves n vs (toward hand goal) goal) (exchange_unlock ws hand (toward hand goal))

change_unlock : (ws : List Word) (p : ℕ) (b : Bool) → map unlock (set_change ws p b) ≡ set_change (map unlock ws) p b
unfolding set_change
change_unlock ws p b = alter_unlock (with_change b) (λ w. refl) ws p

virgin_unlock : (ws : List Word) (p : ℕ) → map unlock (set_virgin ws p) ≡ set_virgin (map unlock ws) p
unfolding set_virgin
virgin_unlock ws p = alter_unlock (with_virgin true) (λ w. refl) ws p

pub finish_unlock :
    (ws : List Word) (hand goal mark home_at : ℕ) →
    map unlock (finish ws hand goal mark home_at) ≡ finish (map unlock ws) hand goal mark home_at
unfolding finish
finish_unlock ws hand goal mark home_at =
    marked_both
    (λ us vs. map unlock us ≡ vs)
    (moves (distance hand goal) ws hand goal)
    (moves (distance hand goal) (map unlock ws) hand goal)
    mark
    goal
    goal
    home_at
    home_at
    (λ two. rw (virgin_unlock, change_unlock, moves_unlock))
    (λ one. rw (change_unlock, change_unlock, moves_unlock))
    (moves_unlock (distance hand goal) ws hand goal)

-- ---- lock bits stay, and so do occupied places once the hand's is filled

abbrev pub locks : List Word → List Bool
locks ws = map (λ (w : Word). w.lock) ws

pub length_locks : (us ws : List Word) → locks us ≡ locks ws → length us ≡ length ws
length_locks us ws e =
    sym (length-map us (λ (w : Word). w.lock)) ∙ ap length e ∙ length-map ws (λ (w : Word). w.lock)

-- a bit of the places' own that no mark touches
record Fixed (f : Word → Bool) : Type 0 where
  payload : (v w : Word) → f (with_payload v w) ≡ f w
  change : (b : Bool) (w : Word) → f (with_change b w) ≡ f w
  virgin : (w : Word) → f (with_virgin true w) ≡ f w

module _ (f : Word → Bool) (fixed : Fixed f) where
  at_keeps : (us ws : List Word) → map f us ≡ map f ws → (p : ℕ) → f (at us p) ≡ f (at ws p)
  at_keeps us ws e p =
      sym (get_or-map f us p zero_word)
      ∙ ap (λ (bs : List Bool). get_or bs p (f zero_word)) e
      ∙ get_or-map f ws p zero_word

  -- a word is replaced by one with the bit that stood there
  set_keeps :
      (us ws : List Word) (p : ℕ) (w : Word) → map f us ≡ map f ws → f w ≡ f (at ws p) → map f (set us p w) ≡ map f ws
  set_keeps us ws p w e h = map-set_same f us p w zero_word (h ∙ sym (at_keeps us ws e p)) ∙ e

  exchange_keeps : (ws : List Word) (p q : ℕ) → map f (exchange ws p q) ≡ map f ws
  unfolding exchange
  exchange_keeps ws p q =
      set_keeps
      (set ws p (with_payload (at ws q) (at ws p)))
      ws
      q
      (with_payload (at ws p) (at ws q))
      (set_keeps ws ws p (with_payload (at ws q) (at ws p)) refl (fixed.payload (at ws q) (at ws p)))
      (fixed.payload (at ws p) (at ws q))

  moves_keeps : (n : ℕ) (ws : List Word) (hand goal : ℕ) → map f (moves n ws hand goal) ≡ map f ws
  unfolding moves
  moves_keeps zero ws hand goal = refl
  moves_keeps (suc n) ws hand goal =
      moves_keeps n (exchange ws hand (toward hand goal)) (toward hand goal) goal
      ∙ exchange_keeps ws hand (toward hand goal)

  change_keeps : (ws : List Word) (p : ℕ) (b : Bool) → map f (set_change ws p b) ≡ map f ws
  unfolding set_change
  change_keeps ws p b = set_keeps ws ws p (with_change b (at ws p)) refl (fixed.change b (at ws p))

  virgin_keeps : (ws : List Word) (p : ℕ) → map f (set_virgin ws p) ≡ map f ws
  unfolding set_virgin
  virgin_keeps ws p = set_keeps ws ws p (with_virgin true (at ws p)) refl (fixed.virgin (at ws p))

  finish_keeps : (ws : List Word) (hand goal mark home_at : ℕ) → map f (finish ws hand goal mark home_at) ≡ map f ws
  unfolding finish
  finish_keeps ws hand goal mark home_at =
      let moved = moves (distance hand goal) ws hand goal in
      let kept : map f moved ≡ map f ws = moves_keeps (distance hand goal) ws hand goal in
      marked_both
      (λ us vs. map f us ≡ map f ws)
      moved
      moved
      mark
      goal
      goal
      home_at
      home_at
      (λ two. virgin_keeps (set_change moved goal true) home_at ∙ change_keeps moved goal true ∙ kept)
      (λ one. change_keeps (set_change moved goal true) (goal - 1) false ∙ change_keeps moved goal true ∙ kept)
      kept

pub fill_at_locks : (x : ℕ) (ws : List Word) (p : ℕ) → locks (fill_at x ws p) ≡ locks ws
unfolding fill_at
fill_at_locks x ws p = map-set_same (λ (w : Word). w.lock) ws p (filled_with x (at ws p)) zero_word refl

pub finish_locks : (ws : List Word) (hand goal mark home_at : ℕ) → locks (finish ws hand goal mark home_at) ≡ locks ws
finish_locks ws hand goal mark home_at =
    finish_keeps
    (λ (w : Word). w.lock)
    (record { payload = λ v w. refl; change = λ b w. refl; virgin = λ w. refl })
    ws
    hand
    goal
    mark
    home_at

pub fill_at_occupied : (x : ℕ) (ws : List Word) (p : ℕ) → occupied_places (fill_at x ws p) ≡ set (occupied_places ws) p true
unfolding fill_at occupied_places
fill_at_occupied x ws p = map_set (λ (w : Word). w.occupied) ws p (filled_with x (at ws p))

pub finish_occupied :
    (ws : List Word) (hand goal mark home_at : ℕ) → occupied_places (finish ws hand goal mark home_at) ≡ occupied_places ws
unfolding occupied_places
finish_occupied ws hand goal mark home_at =
    finish_keeps
    (λ (w : Word). w.occupied)
    (record { payload = λ v w. refl; change = λ b w. refl; virgin = λ w. refl })
    ws
    hand
    goal
    mark
    home_at

-- ---- within a region

at_within :
    (pre mid post : List Word) (i : ℕ) → i < length mid → at (pre ++ (mid ++ post)) (length pre + i) ≡ at mid i
at_within pre mid post i h = get_or-append-add pre (mid ++ post) i zero_word ∙ get_or-append mid post zero_word i h

set_within :
    (pre mid post : List Word) (i : ℕ) (w : Word) →
    i < length mid →
    set (pre ++ (mid ++ post)) (length pre + i) w ≡ pre ++ (set mid i w ++ post)
set_within [] mid post i w h = ap (λ (p : ℕ). set (mid ++ post) p w) (zero-add i) ∙ set-append_left mid post i w h
set_within (v ∷ pre) mid post i w h =
    ap (λ (p : ℕ). set (v ∷ (pre ++ (mid ++ post))) p w) (suc-add (length pre) i)
    ∙ ap (λ (ws : List Word). v ∷ ws) (set_within pre mid post i w h)

alter_within :
    (f : Word → Word) (pre mid post : List Word) (i : ℕ) →
    i < length mid →
    set (pre ++ (mid ++ post)) (length pre + i) (f (at (pre ++ (mid ++ post)) (length pre + i)))
    ≡ pre ++ (set mid i (f (at mid i)) ++ post)
alter_within f pre mid post i h = rw (at_within pre mid post i h) (set_within pre mid post i (f (at mid i)) h)

pub fill_at_within :
    (x : ℕ) (pre mid post : List Word) (i : ℕ) →
    i < length mid →
    fill_at x (pre ++ (mid ++ post)) (length pre + i) ≡ pre ++ (fill_at x mid i ++ post)
unfolding fill_at
fill_at_within x pre mid post i h = alter_within (filled_with x) pre mid post i h

exchange_within :
    (pre mid post : List Word) (i j : ℕ) →
    i < length mid → j < length mid →
    exchange (pre ++ (mid ++ post)) (length pre + i) (length pre + j) ≡ pre ++ (exchange mid i j ++ post)
unfolding exchange
exchange_within pre mid post i j h k =
    let v = with_payload (at mid j) (at mid i) in
    let w = with_payload (at mid i) (at mid j) in
    rw
    (at_within pre mid post i h, at_within pre mid post j k, set_within pre mid post i v h)
    (set_within pre (set mid i v) post j w (lt-length-set mid i v k))

toward_within : (a hand goal : ℕ) → (hand ≡ goal → ⊥) → toward (a + hand) (a + goal) ≡ a + toward hand goal
toward_within a hand goal apart =
    go (heads hand goal apart) (heads (a + hand) (a + goal) (λ e. apart (omega arith)))
  where
    go : {p q : ℕ} → Heads hand goal p → Heads (a + hand) (a + goal) q → q ≡ a + p
    go (rightward h) (rightward k) = omega arith
    go (rightward h) (leftward k) = omega arith
    go (leftward h) (rightward k) = omega arith
    go (leftward h) (leftward k) = omega arith

moves_within :
    (n : ℕ) (pre mid post : List Word) (hand goal : ℕ) →
    distance hand goal ≡ n → hand < length mid → goal < length mid →
    moves n (pre ++ (mid ++ post)) (length pre + hand) (length pre + goal) ≡ pre ++ (moves n mid hand goal ++ post)
unfolding moves
moves_within zero pre mid post hand goal d h k = refl
moves_within (suc n) pre mid post hand goal d h k =
    let apart = distance_some hand goal n d in
    let q = toward hand goal in
    let l = toward_lt hand goal (length mid) apart h k in
    let next = exchange mid hand q in
    rw (toward_within (length pre) hand goal apart, exchange_within pre mid post hand q h l)
    (moves_within n pre next post q goal
    (suc_inj (sym (distance_toward hand goal apart) ∙ d))
    (rw (exchange_length mid hand q) l)
    (rw (exchange_length mid hand q) k))

length_moves : (n : ℕ) (ws : List Word) (hand goal : ℕ) → length (moves n ws hand goal) ≡ length ws
unfolding moves
length_moves zero ws hand goal = refl
length_moves (suc n) ws hand goal =
    length_moves n (exchange ws hand (toward hand goal)) (toward hand goal) goal
    ∙ exchange_length ws hand (toward hand goal)

change_within :
    (pre mid post : List Word) (i : ℕ) (b : Bool) →
    i < length mid →
    set_change (pre ++ (mid ++ post)) (length pre + i) b ≡ pre ++ (set_change mid i b ++ post)
unfolding set_change
change_within pre mid post i b h = alter_within (with_change b) pre mid post i h

virgin_within :
    (pre mid post : List Word) (i : ℕ) →
    i < length mid →
    set_virgin (pre ++ (mid ++ post)) (length pre + i) ≡ pre ++ (set_virgin mid i ++ post)
unfolding set_virgin
virgin_within pre mid post i h = alter_within (with_virgin true) pre mid post i h

-- mark 1 writes at goal − 1, which must be in the region too
marked_within :
    (pre mid post : List Word) (mark goal home_at : ℕ) →
    goal < length mid → home_at < length mid → (mark ≡ 1 → 0 < goal) →
    marked (pre ++ (mid ++ post)) mark (length pre + goal) (length pre + home_at)
    ≡ pre ++ (marked mid mark goal home_at ++ post)
marked_within pre mid post mark goal home_at g h inner =
    marked_both
    (λ us vs. us ≡ pre ++ (vs ++ post))
    (pre ++ (mid ++ post))
    mid
    mark
    (length pre + goal)
    goal
    (length pre + home_at)
    home_at
    (λ two.
    rw (change_within pre mid post goal true g)
    (virgin_within pre (set_change mid goal true) post home_at (rw (change_length mid goal true) h)))
    (λ one.
    let p : length pre + goal - 1 ≡ length pre + (goal - 1) = omega (arith, inner one) in
    let l : goal - 1 < length mid = omega arith in
    rw (p, change_within pre mid post goal true g)
    (change_within pre (set_change mid goal true) post (goal - 1) false (rw (change_length mid goal true) l)))
    refl

pub finish_within :
    (pre mid post : List Word) (hand goal mark home_at : ℕ) →
    hand < length mid → goal < length mid → home_at < length mid → (mark ≡ 1 → 0 < goal) →
    finish (pre ++ (mid ++ post)) (length pre + hand) (length pre + goal) mark (length pre + home_at)
    ≡ pre ++ (finish mid hand goal mark home_at ++ post)
unfolding finish distance
finish_within pre mid post hand goal mark home_at i g h inner =
    let a = length pre in
    let n = (hand - goal) + (goal - hand) in
    let far : (a + hand - (a + goal)) + (a + goal - (a + hand)) ≡ n = omega arith in
    let done = moves n mid hand goal in
    rw
    (far, moves_within n pre mid post hand goal refl i g)
    (marked_within pre done post mark goal home_at
    (rw (length_moves n mid hand goal) g)
    (rw (length_moves n mid hand goal) h)
    inner)
