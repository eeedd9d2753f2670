-- The gaps on the two sides of a place, and the place that the rule names: laws over the occupied places alone.
-- `Gap` says what a gap is; by `gap_is` and `gap_eq` it is what `left_gap` and `right_gap` find, and nothing else.
-- `Picks` is the view of `which_end`, `Chosen` that of `room_for`, over the side where the rule looks first.
-- Assumes nothing.
use Rattle.std.specs.Prelude.{ℕ, zero, suc, ◌+◌, ◌-◌, ◌≤◌, ◌<◌, ◌≡◌, ◌≢◌, ◌⊎◌, Bool, cond, List, [], ◌∷◌, length, get_or, set, drop, leb}
use Rattle.std.proofs.Math.Path.{refl}
use Rattle.std.proofs.Common.{sym, ap, ◌∙◌, inl, inr, true≢false, le_refl, arith, length-set, get_or-set_same, get_or-set_other, get_or-drop}
use Rattle.std.proofs.Math.Bool.{true, false}
use Rattle.std.proofs.Math.Dec.{eqb}
use borrow.Author.Tests.{leb-true, leb-false, eqb-true, eqb-false, eq-eqb, ne_eqb}
use Rattle.rules.specs.declared.Shape.{Shape}
use Rattle.rules.specs.Shape.{homes, places, right_guard}
use Rattle.rules.specs.Table.{left_gap, lead, right_gap}
use Rattle.rules.specs.Room.{Room, place, full, ToFill, on_left, on_right, on_neither, which_end, room_at, room_beside}
use Rattle.rules.specs.Room.{room_for}

-- ---- occupied places

abbrev pub Taken : List Bool → ℕ → Type 0
Taken os p = get_or os p false ≡ true

abbrev pub Free : List Bool → ℕ → Type 0
Free os p = get_or os p false ≡ false

-- from place a up to, not including, place b
abbrev pub TakenFrom : List Bool → ℕ → ℕ → Type 0
TakenFrom os a b = (q : ℕ) → a ≤ q → q < b → Taken os q

-- a table's occupied places: as many as the shape says, both guards free
pub record Guarded (sh : Shape) (os : List Bool) : Type 0 where
  pub size : length os ≡ places sh
  pub left : Free os 0
  pub right : Free os (right_guard sh)

-- a place that is no guard: the home places
pub record HomePlace (sh : Shape) (p : ℕ) : Type 0 where
  pub first : 1 ≤ p
  pub last : p ≤ homes sh

-- ---- filling a place

pub set_keeps : (os : List Bool) (p q : ℕ) → Taken os q → Taken (set os p true) q
set_keeps [] p q t = t
set_keeps (o ∷ os) zero zero t = refl
set_keeps (o ∷ os) zero (suc q) t = t
set_keeps (o ∷ os) (suc p) zero t = t
set_keeps (o ∷ os) (suc p) (suc q) t = set_keeps os p q t

pub set_taken : {sh : Shape} {os : List Bool} {p : ℕ} → Guarded sh os → HomePlace sh p → Taken (set os p true) p
unfolding places
set_taken {sh} {os} {p} g h = get_or-set_same os p true false (omega arith)

pub set_guarded : {sh : Shape} {os : List Bool} {p : ℕ} → Guarded sh os → HomePlace sh p → Guarded sh (set os p true)
unfolding places right_guard
set_guarded {sh} {os} {p} g h =
    record {
      size = length-set os p true ∙ g.size;
      left = get_or-set_other os p 0 true false (omega arith) ∙ g.left;
      right = get_or-set_other os p (right_guard sh) true false (omega arith) ∙ g.right;
    }

-- ---- gaps, on either side of a place

pub data Side : Type 0 where
  left right : Side

-- going to a side from place a, place b is met, at once or later
abbrev pub Toward : Side → ℕ → ℕ → Type 0
Toward left a b = b ≤ a
Toward right a b = a ≤ b

-- the first unoccupied place p at or to a side of place h
pub record Gap (s : Side) (os : List Bool) (h p : ℕ) : Type 0 where
  pub side : Toward s h p
  pub free : Free os p
  pub run : (q : ℕ) → Toward s h q → Toward s q p → q ≢ p → Taken os q

abbrev pub gap : Side → List Bool → ℕ → ℕ
gap left os h = left_gap os h
gap right os h = right_gap os h

pub left_gap_is : (os : List Bool) (h : ℕ) → Free os 0 → Gap left os h (left_gap os h)
unfolding left_gap
left_gap_is os zero f = record { side = le_refl 0; free = f; run = λ q x y n. absurd (n (omega arith)) }
left_gap_is os (suc h) f = go (get_or os (suc h) false) refl (left_gap_is os h f)
  where
    last : (q : ℕ) (b : Bool) → eqb q (suc h) ≡ b → Taken os (suc h) → (q ≤ h → Taken os q) → q ≤ suc h → Taken os q
    last q true e t rest x = ap (λ (j : ℕ). get_or os j false) (eqb-true q (suc h) e) ∙ t
    last q false e t rest x = let n = eqb-false q (suc h) e in rest (omega arith)

    go :
        (b : Bool) → get_or os (suc h) false ≡ b → Gap left os h (left_gap os h) →
        Gap left os (suc h) (cond b (left_gap os h) (suc h))
    go true e g =
        record {
          side = omega (arith, g.side);
          free = g.free;
          run = λ q x y n. last q (eqb q (suc h)) refl e (λ z. g.run q z y n) x;
        }
    go false e g = record { side = le_refl (suc h); free = e; run = λ q x y n. absurd (n (omega arith)) }

lead_free : (os : List Bool) → Free os (lead os)
unfolding lead
lead_free [] = refl
lead_free (true ∷ os) = lead_free os
lead_free (false ∷ os) = refl

lead_taken : (os : List Bool) (i : ℕ) → i < lead os → Taken os i
unfolding lead
lead_taken [] i h = absurd (omega arith)
lead_taken (true ∷ os) zero h = refl
lead_taken (true ∷ os) (suc i) h = lead_taken os i (omega arith)
lead_taken (false ∷ os) i h = absurd (omega arith)

pub right_gap_is : (os : List Bool) (h : ℕ) → Gap right os h (right_gap os h)
unfolding right_gap
right_gap_is os h =
    record {
      side = omega arith;
      free = sym (get_or-drop h os (lead (drop h os)) false) ∙ lead_free (drop h os);
      run =
          λ q x y n.
          let i : h + (q - h) ≡ q = omega arith in
          ap (λ (j : ℕ). get_or os j false) (sym i)
          ∙ sym (get_or-drop h os (q - h) false)
          ∙ lead_taken (drop h os) (q - h) (omega arith);
    }

pub gap_is : (s : Side) {sh : Shape} {os : List Bool} (h : ℕ) → Guarded sh os → Gap s os h (gap s os h)
gap_is left {os} h g = left_gap_is os h g.left
gap_is right {os} h g = right_gap_is os h

toward_or : (s : Side) (a b : ℕ) → Toward s a b ⊎ (Toward s b a × (b ≢ a))
toward_or left a b = go (leb b a) refl
  where
    go : (t : Bool) → leb b a ≡ t → (b ≤ a) ⊎ ((a ≤ b) × (b ≢ a))
    go true e = inl (leb-true b a e)
    go false e = let l = leb-false b a e in inr (omega arith)
toward_or right a b = go (leb a b) refl
  where
    go : (t : Bool) → leb a b ≡ t → (a ≤ b) ⊎ ((b ≤ a) × (b ≢ a))
    go true e = inl (leb-true a b e)
    go false e = let l = leb-false a b e in inr (omega arith)

toward_both : (s : Side) (a b : ℕ) → Toward s a b → Toward s b a → a ≡ b
toward_both left a b x y = omega arith
toward_both right a b x y = omega arith

toward_trans : (s : Side) (a b c : ℕ) → Toward s a b → Toward s b c → Toward s a c
toward_trans left a b c x y = omega arith
toward_trans right a b c x y = omega arith

-- no free place comes before the gap
pub gap_first : (s : Side) {os : List Bool} {h p : ℕ} (q : ℕ) → Gap s os h p → Toward s h q → Free os q → Toward s p q
gap_first s {os} {h} {p} q g x f = go (toward_or s p q)
  where
    go : Toward s p q ⊎ (Toward s q p × (q ≢ p)) → Toward s p q
    go (inl t) = t
    go (inr t) = absurd (true≢false (sym (g.run q x t.0 t.1) ∙ f))

-- a place has one gap on a side
pub gap_only : (s : Side) {os : List Bool} {h p q : ℕ} → Gap s os h p → Gap s os h q → p ≡ q
gap_only s {os} {h} {p} {q} x y =
    toward_both s p q (gap_first s q x y.side y.free) (gap_first s p y x.side x.free)

-- an unoccupied place is its own gap
pub own_gap : (s : Side) (os : List Bool) (p : ℕ) → Free os p → gap s os p ≡ p
unfolding left_gap
own_gap left os zero f = refl
own_gap left os (suc p) f = rw f
own_gap right os p f =
    gap_only right (right_gap_is os p) (record { side = le_refl p; free = f; run = λ q x y n. absurd (n (omega arith)) })

-- so whatever is a gap is the one that is found
pub gap_eq :
    (s : Side) {sh : Shape} {os : List Bool} {h p : ℕ} → Guarded sh os → Gap s os h p → gap s os h ≡ p
gap_eq s {h = h} g x = gap_only s (gap_is s h g) x

-- a fill of another place leaves the gap where it is
pub gap_stays :
    (s : Side) {sh : Shape} {os : List Bool} (h : ℕ) {q : ℕ} → Guarded sh os → HomePlace sh q → q ≢ gap s os h →
    gap s (set os q true) h ≡ gap s os h
gap_stays s {sh} {os} h {q} g k n =
    let x = gap_is s h g in
    gap_eq
    s
    (set_guarded g k)
    (record {
      side = x.side;
      free = get_or-set_other os q (gap s os h) true false (λ e. n (sym e)) ∙ x.free;
      run = λ j y z m. set_keeps os q j (x.run j y z m);
    })

-- a gap is the gap of every place from which all are occupied up to a place that has it
gap_along :
    (s : Side) {os : List Bool} (a b : ℕ) {p : ℕ} → Toward s a b →
    ((q : ℕ) → Toward s a q → Toward s q b → Taken os q) → Gap s os b p → Gap s os a p
gap_along s {os} a b {p} x t g =
    record {
      side = toward_trans s a b p x g.side;
      free = g.free;
      run = λ q y z n. go q y z n (toward_or s q b);
    }
  where
    go : (q : ℕ) → Toward s a q → Toward s q p → q ≢ p → Toward s q b ⊎ (Toward s b q × (b ≢ q)) → Taken os q
    go q y z n (inl k) = t q y k
    go q y z n (inr k) = g.run q k.0 z n

-- places of one cluster have the same gaps
pub gap_shared :
    (s : Side) {sh : Shape} {os : List Bool} (a b : ℕ) → Guarded sh os → a ≤ b → TakenFrom os a (suc b) →
    gap s os a ≡ gap s os b
gap_shared left a b g h t =
    sym (gap_eq left g (gap_along left b a h (λ q y z. t q z (omega arith)) (gap_is left a g)))
gap_shared right a b g h t =
    gap_eq right g (gap_along right a b h (λ q y z. t q y (omega arith)) (gap_is right b g))

-- all occupied from a place to its gap
pub gap_below :
    (s : Side) {os : List Bool} {h p : ℕ} → Gap s os h p → TakenFrom os (suc p) (suc h)
gap_below left g q x y = g.run q (omega arith) (omega arith) (omega arith)
gap_below right g q x y = absurd (omega (arith, g.side))

pub gap_above :
    (s : Side) {os : List Bool} {h p : ℕ} → Gap s os h p → TakenFrom os h p
gap_above left g q x y = absurd (omega (arith, g.side))
gap_above right g q x y = g.run q (omega arith) (omega arith) (omega arith)

-- ---- the place that the rule names

abbrev pub other : Side → Side
other left = right
other right = left

abbrev pub guard : Shape → Side → ℕ
guard sh left = 0
guard sh right = right_guard sh

pub home_no_guard : (s : Side) {sh : Shape} {q : ℕ} → HomePlace sh q → q ≢ guard sh s
unfolding right_guard
home_no_guard left k = omega (arith, k.first)
home_no_guard right k = omega (arith, k.last)

-- the view of the end that is filled, by the empty places beside a cluster
pub data Picks (sh : Shape) (l r : ℕ) : ToFill → Type 0 where
  picks_left : l ≢ 0 → Picks sh l r on_left
  picks_right : l ≡ 0 → r ≢ right_guard sh → Picks sh l r on_right
  picks_neither : l ≡ 0 → r ≡ right_guard sh → Picks sh l r on_neither

module _ (sh : Shape) (l r : ℕ) where
  pub picked : Picks sh l r (which_end sh l r)
  unfolding which_end
  picked = go (eqb l 0) (eqb r (right_guard sh)) refl refl
    where
      go : (a b : Bool) → eqb l 0 ≡ a → eqb r (right_guard sh) ≡ b →
          Picks sh l r (cond a (cond b on_neither on_right) on_left)
      go true true x y = picks_neither (eqb-true l 0 x) (eqb-true r (right_guard sh) y)
      go true false x y = picks_right (eqb-true l 0 x) (eqb-false r (right_guard sh) y)
      go false b x y = picks_left (eqb-false l 0 x)

  -- and it is no other
  pub picked_only : {w : ToFill} → Picks sh l r w → which_end sh l r ≡ w
  unfolding which_end
  picked_only (picks_left n) = rw (ne_eqb l 0 n)
  picked_only (picks_right e n) = rw (eq-eqb l 0 e, ne_eqb r (right_guard sh) n)
  picked_only (picks_neither e f) = rw (eq-eqb l 0 e, eq-eqb r (right_guard sh) f)

-- the rule that looks to a side first, and to the other where it meets the guard
unfoldable pub room_from : Side → Shape → List Bool → ℕ → Room
room_from s sh os h =
    cond (get_or os h false)
    (cond (eqb (gap s os h) (guard sh s))
    (cond (eqb (gap (other s) os h) (guard sh (other s))) full (place (gap (other s) os h)))
    (place (gap s os h)))
    (place h)

-- the paper's rule looks to the left first
pub room_left : (sh : Shape) (os : List Bool) (h : ℕ) → room_for sh os h ≡ room_from left sh os h
unfolding room_for room_beside which_end room_from
room_left sh os h =
    ap (λ (r : Room). cond (get_or os h false) r (place h))
    (go (eqb (left_gap os h) 0) (eqb (right_gap os h) (right_guard sh)))
  where
    go : (a b : Bool) →
        room_at (cond a (cond b on_neither on_right) on_left) (left_gap os h) (right_gap os h)
        ≡ cond a (cond b full (place (right_gap os h))) (place (left_gap os h))
    go true true = refl
    go true false = refl
    go false b = refl

-- the view of the rule: at home, at its first side, at its second, nowhere
pub data Chosen (s : Side) (sh : Shape) (os : List Bool) (h : ℕ) : Room → Type 0 where
  home_at : Free os h → Chosen s sh os h (place h)
  first : Taken os h → gap s os h ≢ guard sh s → Chosen s sh os h (place (gap s os h))
  second :
      Taken os h → gap s os h ≡ guard sh s → gap (other s) os h ≢ guard sh (other s) →
      Chosen s sh os h (place (gap (other s) os h))
  none :
      Taken os h → gap s os h ≡ guard sh s → gap (other s) os h ≡ guard sh (other s) → Chosen s sh os h full

pub chosen : (s : Side) (sh : Shape) (os : List Bool) (h : ℕ) → Chosen s sh os h (room_from s sh os h)
unfolding room_from
chosen s sh os h =
    go
    (get_or os h false)
    (eqb (gap s os h) (guard sh s))
    (eqb (gap (other s) os h) (guard sh (other s)))
    refl
    refl
    refl
  where
    go :
        (a b c : Bool) → get_or os h false ≡ a → eqb (gap s os h) (guard sh s) ≡ b →
        eqb (gap (other s) os h) (guard sh (other s)) ≡ c →
        Chosen s sh os h (cond a (cond b (cond c full (place (gap (other s) os h))) (place (gap s os h))) (place h))
    go false b c x y z = home_at x
    go true false c x y z = first x (eqb-false _ _ y)
    go true true false x y z = second x (eqb-true _ _ y) (eqb-false _ _ z)
    go true true true x y z = none x (eqb-true _ _ y) (eqb-true _ _ z)

-- the rule names one place
pub chosen_only :
    {s : Side} {sh : Shape} {os : List Bool} {h : ℕ} {r : Room} → Chosen s sh os h r → room_from s sh os h ≡ r
unfolding room_from
chosen_only (home_at f) = rw f
chosen_only {s} {sh} {os} {h} (first t n) = rw (t, ne_eqb (gap s os h) (guard sh s) n)
chosen_only {s} {sh} {os} {h} (second t e n) =
    rw (t, eq-eqb (gap s os h) (guard sh s) e, ne_eqb (gap (other s) os h) (guard sh (other s)) n)
chosen_only {s} {sh} {os} {h} (none t e n) =
    rw (t, eq-eqb (gap s os h) (guard sh s) e, eq-eqb (gap (other s) os h) (guard sh (other s)) n)

-- a gap that is not the guard of its side is a home place
pub gap_inside :
    (s : Side) {sh : Shape} {os : List Bool} {h : ℕ} → Guarded sh os → HomePlace sh h → gap s os h ≢ guard sh s →
    HomePlace sh (gap s os h)
unfolding right_guard
gap_inside left {h = h} g k n =
    let x = gap_is left h g in
    record { first = omega arith; last = omega (arith, x.side) }
gap_inside right {sh} {h = h} g k n =
    let x = gap_is right h g in
    let y = gap_first right (right_guard sh) x (omega arith) g.right in
    record { first = omega (arith, x.side); last = omega arith }

-- what every place that the rule names has
pub record Nearest (sh : Shape) (os : List Bool) (h p : ℕ) : Type 0 where
  pub inside : HomePlace sh p
  pub free : Free os p
  -- all occupied from it to the home, on whichever side that is
  pub below : TakenFrom os (suc p) (suc h)
  pub above : TakenFrom os h p

gap_nearest :
    (s : Side) {sh : Shape} {os : List Bool} {h : ℕ} → Guarded sh os → HomePlace sh h → gap s os h ≢ guard sh s →
    Nearest sh os h (gap s os h)
gap_nearest s {h = h} g k n =
    let x = gap_is s h g in
    record { inside = gap_inside s g k n; free = x.free; below = gap_below s x; above = gap_above s x }

pub chosen_nearest :
    {s : Side} {sh : Shape} {os : List Bool} {h p : ℕ} → Guarded sh os → HomePlace sh h →
    Chosen s sh os h (place p) → Nearest sh os h p
chosen_nearest g k (home_at f) =
    record { inside = k; free = f; below = λ q x y. absurd (omega arith); above = λ q x y. absurd (omega arith) }
chosen_nearest {s} g k (first t n) = gap_nearest s g k n
chosen_nearest {s} g k (second t e n) = gap_nearest (other s) g k n

-- the rule names no place exactly where every home place is occupied
abbrev pub AllTaken : Shape → List Bool → Type 0
AllTaken sh os = (q : ℕ) → HomePlace sh q → Taken os q

pub chosen_full :
    {s : Side} {sh : Shape} {os : List Bool} {h : ℕ} → Guarded sh os → Chosen s sh os h full → AllTaken sh os
unfolding right_guard
chosen_full {s} {sh} {os} {h} g (none t e n) q k = go s e n
  where
    between : left_gap os h ≡ 0 → right_gap os h ≡ right_guard sh → (b : Bool) → leb q h ≡ b → Taken os q
    between l r true x = (gap_is left h g).run q (leb-true q h x) (omega arith) (omega (arith, k.first))
    between l r false x =
        let y = leb-false q h x in
        (gap_is right h g).run q (omega arith) (omega (arith, k.last)) (omega (arith, k.last))

    go : (s : Side) → gap s os h ≡ guard sh s → gap (other s) os h ≡ guard sh (other s) → Taken os q
    go left l r = between l r (leb q h) refl
    go right r l = between l r (leb q h) refl

pub full_chosen :
    (s : Side) {sh : Shape} {os : List Bool} {h : ℕ} → Guarded sh os → HomePlace sh h → AllTaken sh os →
    Chosen s sh os h full
unfolding right_guard
full_chosen s {sh} {os} {h} g k t = none (t h k) (at_guard s) (at_guard (other s))
  where
    at_guard : (s : Side) → gap s os h ≡ guard sh s
    at_guard left =
        gap_eq
        left
        g
        (record {
          side = omega arith;
          free = g.left;
          run = λ q x y n. t q (record { first = omega arith; last = omega (arith, k.last) });
        })
    at_guard right =
        gap_eq
        right
        g
        (record {
          side = omega (arith, k.last);
          free = g.right;
          run = λ q x y n. t q (record { first = omega (arith, k.first); last = omega arith });
        })

-- the same of the paper's rule
pub room_chosen : (sh : Shape) (os : List Bool) (h : ℕ) → Chosen left sh os h (room_for sh os h)
room_chosen sh os h = rw room_left (chosen left sh os h)

pub room_full :
    {sh : Shape} {os : List Bool} (h : ℕ) → Guarded sh os → room_for sh os h ≡ full → AllTaken sh os
room_full {sh} {os} h g e = chosen_full g (rw e at (room_chosen sh os h))

pub full_room :
    {sh : Shape} {os : List Bool} {h : ℕ} → Guarded sh os → HomePlace sh h → AllTaken sh os → room_for sh os h ≡ full
full_room {sh} {os} {h} g k t = room_left sh os h ∙ chosen_only (full_chosen left g k t)
