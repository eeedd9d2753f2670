-- What the invariant tells of the words: an unoccupied word is 0 or exactly the lock bit, the guards are void, the
-- stretch that a task reserves has the words laid. (That each record fits: Fitting.)
-- Assumes nothing.
use Rattle.std.specs.Prelude.{ℕ, zero, suc, ◌≤◌, ◌<◌, ◌≡◌, refl, ◌⊎◌, ◌≢◌, Bool, true, false, not, ◌||◌, List, [], ◌∷◌, length, get_or, leb, eqb}
use Rattle.std.proofs.Common.{sym, ap, ◌∙◌, subst, inl, inr, true≢false, arith, leb-true, leb-false, eqb-true, le-leb, lt-ltb, eq-eqb, ne_eqb}
use Rattle.rules.specs.declared.Shape.{Shape}
use Rattle.rules.specs.declared.Task.{Task}
use Rattle.rules.specs.Word.{Word, zero_word, lock_word, is_void}
use Rattle.rules.specs.Shape.{homes, remainders, keys, places, right_guard}
use Rattle.rules.specs.Entry.{Entry}
use Rattle.rules.specs.Table.{at, occupied_places, guards_void}
use Rattle.rules.specs.Lay.{lay}
use Rattle.rules.specs.Record.{home_place_of, within, implies, busy, at_rest, fits_hand, fits_busy, fits, task_at}
use Rattle.table_words.specs.Tests.{inside, between}
use Rattle.theory.specs.Run.{unlock}
use Rattle.theory.specs.Dealt.{and_both, or_left, or_right}
use Rattle.theory.specs.Gaps as gaps
use Rattle.theory.specs.Gaps.{Side, Guarded, other}
use Rattle.theory.specs.Cut.{end}
use Rattle.theory.specs.Places.{occupied_at, occupied_length}
use Rattle.theory.specs.Pairs.{table_lay, unlocked_same}
use Rattle.theory.specs.Putting.{table_guarded}
use Rattle.theory.specs.Building.{State}
use Rattle.together.specs.Frames.{Within, occupied_same}
use Rattle.together.specs.Invariant.{Occupied, Looked, Moving, InPhase, rests, at_home, looks_left, looks_right}
use Rattle.together.specs.Invariant.{owns_left, owns_both, has_read, moving, marking, frees_left, frees_right}
use Rattle.together.specs.Invariant.{Unfinished, Inv}
use Rattle.together.specs.Update.{same_or_not}

-- ---- which task is unfinished at a place, if any
pub in_order : (a b : ℕ) → (a ≤ b) ⊎ (b < a)
in_order a b = go (leb a b) refl
  where
    go : (t : Bool) → leb a b ≡ t → (a ≤ b) ⊎ (b < a)
    go true e = inl (leb-true a b e)
    go false e = inr (leb-false a b e)

unfinished? : (t : Task) (p : ℕ) → Unfinished t p ⊎ (Unfinished t p → ⊥)
unfinished? t p = go (in_order 9 t.phase) (in_order t.phase 10) (in_order t.left p) (in_order p t.right)
  where
    go :
        (9 ≤ t.phase) ⊎ (t.phase < 9) →
        (t.phase ≤ 10) ⊎ (10 < t.phase) →
        (t.left ≤ p) ⊎ (p < t.left) →
        (p ≤ t.right) ⊎ (t.right < p) → Unfinished t p ⊎ (Unfinished t p → ⊥)
    go (inl a) (inl b) (inl c) (inl d) = inl (record { from_9 = a; to_10 = b; inside = (c, d) })
    go (inr a) b c d = inr (λ (u : Unfinished t p). omega (arith, u.from_9))
    go (inl a) (inr b) c d = inr (λ (u : Unfinished t p). omega (arith, u.to_10))
    go (inl a) (inl b) (inr c) d = inr (λ (u : Unfinished t p). omega (arith, u.inside))
    go (inl a) (inl b) (inl c) (inr d) = inr (λ (u : Unfinished t p). omega (arith, u.inside))

-- among the first n tasks
unfinished_among :
    (ts : List Task) (p n : ℕ) →
    ((i : ℕ) × (i < n) × Unfinished (task_at ts i) p) ⊎ ((i : ℕ) → i < n → Unfinished (task_at ts i) p → ⊥)
unfinished_among ts p zero = inr (λ i lt u. omega arith)
unfinished_among ts p (suc n) = go (unfinished_among ts p n) (unfinished? (task_at ts n) p)
  where
    go :
        ((i : ℕ) × (i < n) × Unfinished (task_at ts i) p) ⊎ ((i : ℕ) → i < n → Unfinished (task_at ts i) p → ⊥) →
        Unfinished (task_at ts n) p ⊎ (Unfinished (task_at ts n) p → ⊥) →
        ((i : ℕ) × (i < suc n) × Unfinished (task_at ts i) p) ⊎ ((i : ℕ) → i < suc n → Unfinished (task_at ts i) p → ⊥)
    go (inl x) y = inl (x.0, omega (arith, x.1), x.2)
    go (inr x) (inl y) = inl (n, omega arith, y)
    go (inr x) (inr y) = inr (λ i lt u. last i lt u (same_or_not n i))
      where
        last : (i : ℕ) → i < suc n → Unfinished (task_at ts i) p → (i ≡ n) ⊎ (i ≢ n) → ⊥
        last i lt u (inl e) = y (subst (λ (j : ℕ). Unfinished (task_at ts j) p) e u)
        last i lt u (inr k) = x i (omega arith) u

-- ---- the words laid
lay_void :
    (whole : List Entry) (q : ℕ) (os : List Bool) (es : List Entry) (p : ℕ) →
    get_or os p false ≡ false → at (lay whole q os es) p ≡ zero_word
unfolding lay
lay_void whole q [] es p free = refl
lay_void whole q (false ∷ os) es zero free = refl
lay_void whole q (false ∷ os) es (suc p) free = lay_void whole (suc q) os es p free
lay_void whole q (true ∷ os) es zero free = absurd (true≢false free)
lay_void whole q (true ∷ os) [] (suc p) free = lay_void whole (suc q) os [] p free
lay_void whole q (true ∷ os) (e ∷ es) (suc p) free = lay_void whole (suc q) os es p free

-- an unoccupied place of a plain table is 0
pub plain_void :
    {sh : Shape} {laid : List Word} {shown : List Entry} (p : ℕ) →
    State sh laid shown → remainders sh ≤ 4096 → (at laid p).occupied ≡ false → at laid p ≡ zero_word
plain_void {sh} {laid} {shown} p s low free =
    ap (λ (ws : List Word). at ws p) (sym (unlocked_same laid s.free) ∙ sym (table_lay low s.table))
    ∙ lay_void shown 0 (occupied_places laid) shown p (occupied_at laid p ∙ free)

-- a word that is 0, lock bit aside
pub void_of : (w : Word) → unlock w ≡ zero_word → is_void w ≡ true
unfolding is_void
void_of w e = ap is_void e

-- ---- one task
-- all places strictly between its ends are occupied
pub between_taken :
    {sh : Shape} {ws : List Word} {t : Task} → Looked sh ws t → (q : ℕ) → t.left < q → q < t.right → Occupied ws q
between_taken {sh} {ws} {t} x q low high = go (in_order q (home_place_of sh t))
  where
    go : (q ≤ home_place_of sh t) ⊎ (home_place_of sh t < q) → Occupied ws q
    go (inl le) = x.leftward.taken q low le
    go (inr lt) = x.taken q (omega arith) high

-- a task in phase 9 or 10
pub record Moves (sh : Shape) (ws laid : List Word) (shown : List Entry) (t : Task) : Type 0 where
  pub looked : Looked sh ws t
  pub moving : Moving sh ws laid shown t

pub unfinished_moves :
    {sh : Shape} {ws laid : List Word} {shown : List Entry} {t : Task} →
    9 ≤ t.phase → t.phase ≤ 10 → InPhase sh ws laid shown t → Moves sh ws laid shown t
unfinished_moves a b (rests (inl e)) = absurd (omega arith)
unfinished_moves a b (rests (inr e)) = absurd (omega arith)
unfinished_moves a b (at_home e k) = absurd (omega arith)
unfinished_moves a b (looks_left e k x) = absurd (omega arith)
unfinished_moves a b (looks_right e f k x) = absurd (omega arith)
unfinished_moves a b (owns_left e f k x y) = absurd (omega arith)
unfinished_moves a b (owns_both e k x y z) = absurd (omega arith)
unfinished_moves a b (has_read e k x y z w) = absurd (omega arith)
unfinished_moves a b (moving e k x n y) = record { looked = x; moving = y }
unfinished_moves a b (marking e k x n y) = record { looked = x; moving = y }
unfinished_moves a b (frees_left e k x y) = absurd (omega arith)
unfinished_moves a b (frees_right e k x y) = absurd (omega arith)

module _ {sh : Shape} {ws : List Word} {ts : List Task} {laid : List Word} {shown : List Entry}
    (low : remainders sh ≤ 4096) (inv : Inv sh ws ts laid shown)
  where
    pub words_size : length ws ≡ places sh
    words_size =
        sym (occupied_length ws) ∙ ap length inv.places ∙ occupied_length laid ∙ inv.plain.size

    -- an unoccupied place inside a stretch that is being moved is its unfilled end
    unfinished_free :
        (t : Task) (p : ℕ) →
        Unfinished t p → InPhase sh ws laid shown t → (at ws p).occupied ≡ false → at ws p ≡ lock_word
    unfinished_free t p u stage free = go m m.moving.side refl (same_or_not t.left p) (same_or_not t.right p)
      where
        m : Moves sh ws laid shown t
        m = unfinished_moves u.from_9 u.to_10 stage

        never : (at ws p).occupied ≡ true → at ws p ≡ lock_word
        never taken = absurd (true≢false (sym taken ∙ free))

        go :
            (m : Moves sh ws laid shown t) (side : Side) →
            m.moving.side ≡ side → (p ≡ t.left) ⊎ (p ≢ t.left) → (p ≡ t.right) ⊎ (p ≢ t.right) →
            at ws p ≡ lock_word
        go m side e (inr a) (inr b) =
            never (between_taken m.looked p (omega (arith, u.inside)) (omega (arith, u.inside)))
        go m gaps.left e (inl a) b =
            never
            (ap (λ (q : ℕ). (at ws q).occupied) (a ∙ ap (λ (s : Side). end s t.left t.right) (sym e))
            ∙ m.moving.filled.taken)
        go m gaps.left e (inr a) (inl b) =
            ap (at ws) (b ∙ ap (λ (s : Side). end (other s) t.left t.right) (sym e)) ∙ m.moving.waiting
        go m gaps.right e (inl a) b =
            ap (at ws) (a ∙ ap (λ (s : Side). end (other s) t.left t.right) (sym e)) ∙ m.moving.waiting
        go m gaps.right e (inr a) (inl b) =
            never
            (ap (λ (q : ℕ). (at ws q).occupied) (b ∙ ap (λ (s : Side). end s t.left t.right) (sym e))
            ∙ m.moving.filled.taken)

    -- an unoccupied word is 0, lock bit aside
    pub free_void : (p : ℕ) → (at ws p).occupied ≡ false → unlock (at ws p) ≡ zero_word
    free_void p free = go (unfinished_among ts p (length ts))
      where
        go :
            ((i : ℕ) × (i < length ts) × Unfinished (task_at ts i) p)
            ⊎ ((i : ℕ) → i < length ts → Unfinished (task_at ts i) p → ⊥) →
            unlock (at ws p) ≡ zero_word
        go (inl x) = ap unlock (unfinished_free (task_at ts x.0) p x.2 (inv.stage x.0 x.1) free)
        go (inr none) =
            inv.settled p none ∙ plain_void p inv.plain low (occupied_same laid ws p (sym inv.places) ∙ free)

    pub guards_free_lem : Guarded sh (occupied_places ws)
    guards_free_lem = subst (Guarded sh) (sym inv.places) (table_guarded sh inv.plain.size inv.plain.table)

    pub guards_void_lem : guards_void sh ws ≡ true
    unfolding guards_void
    guards_void_lem =
        and_both
        _
        _
        (void_of _ (free_void 0 (sym (occupied_at ws 0) ∙ guards_free_lem.left)))
        (void_of _ (free_void (right_guard sh) (sym (occupied_at ws (right_guard sh)) ∙ guards_free_lem.right)))

    -- the words that a task reserves and does not move are those laid
    pub reserved_laid :
        (i : ℕ) →
        i < length ts →
        7 ≤ (task_at ts i).phase →
        (task_at ts i).phase ≤ 8 →
        (p : ℕ) → Within (task_at ts i).left (task_at ts i).right p → unlock (at ws p) ≡ at laid p
    reserved_laid i lt from_7 to-8 p near = inv.settled p (λ j l u. none j l u (same_or_not i j))
      where
        none : (j : ℕ) → j < length ts → Unfinished (task_at ts j) p → (j ≡ i) ⊎ (j ≢ i) → ⊥
        none j l u (inl e) =
            let v = subst (λ (k : ℕ). Unfinished (task_at ts k) p) e u in
            omega (arith, v.from_9)
        none j l u (inr n) =
            (inv.apart i j lt l (λ e. n (sym e))).stretches
            (record { from_7 = from_7; to_10 = omega arith })
            (record { from_7 = omega (arith, u.from_9); to_10 = u.to_10 })
            p
            near
            u.inside

-- ---- each record fits
implied : (a b : Bool) → (a ≡ true → b ≡ true) → implies a b ≡ true
implied true b h = h refl
implied false b h = refl

-- what fitting asks, as facts
pub record FitsHand (sh : Shape) (t : Task) : Type 0 where
  pub hand_first : 1 ≤ t.hand
  pub hand_last : t.hand ≤ homes sh
  pub goal_first : 1 ≤ t.goal
  pub goal_last : t.goal ≤ homes sh
  pub hand_left : t.left ≤ t.hand
  pub hand_right : t.hand ≤ t.right
  pub goal_left : t.left ≤ t.goal
  pub goal_right : t.goal ≤ t.right
  pub marks : t.mark ≤ 2
  pub closes : t.mark ≡ 1 → (2 ≤ t.goal) × (t.left < t.goal)

fits_hand_lem : (sh : Shape) (t : Task) → FitsHand sh t → fits_hand sh t ≡ true
unfolding fits_hand
fits_hand_lem sh t f =
    and_both
    _
    _
    (and_both
    _
    _
    (and_both
    _
    _
    (and_both
    _
    _
    (and_both
    _
    _
    (inside 1 (homes sh) t.hand f.hand_first f.hand_last)
    (inside 1 (homes sh) t.goal f.goal_first f.goal_last))
    (inside t.left t.right t.hand f.hand_left f.hand_right))
    (inside t.left t.right t.goal f.goal_left f.goal_right))
    (le-leb t.mark 2 f.marks))
    (implied
    (eqb t.mark 1)
    _
    (λ one.
    let c = f.closes (eqb-true t.mark 1 one) in
    and_both _ _ (le-leb 2 t.goal c.0) (lt-ltb t.left t.goal c.1)))

pub record FitsBusy (sh : Shape) (t : Task) : Type 0 where
  pub first : 1 ≤ t.phase
  pub last : t.phase ≤ 12
  pub key : t.key < keys sh
  pub left : 2 ≤ t.phase → t.left < home_place_of sh t
  pub right : 3 ≤ t.phase → (suc (home_place_of sh t) ≤ t.right) × (t.right ≤ right_guard sh)
  pub hand : 8 ≤ t.phase → t.phase ≤ 10 → FitsHand sh t
  pub at_8 : t.phase ≡ 8 → (t.hand ≡ t.left) ⊎ (t.hand ≡ t.right)
  pub at_9 : t.phase ≡ 9 → t.hand ≢ t.goal
  pub at_10 : t.phase ≡ 10 → t.hand ≡ t.goal

pub fits_busy_lem : (sh : Shape) (t : Task) → FitsBusy sh t → fits sh t ≡ true
unfolding fits busy fits_busy
fits_busy_lem sh t f =
    or_right
    (at_rest t)
    _
    (and_both
    _
    _
    (inside 1 12 t.phase f.first f.last)
    (and_both
    _
    _
    (and_both
    _
    _
    (and_both
    _
    _
    (and_both
    _
    _
    (and_both
    _
    _
    (and_both
    _
    _
    (lt-ltb t.key (keys sh) f.key)
    (implied (leb 2 t.phase) _ (λ h. lt-ltb _ _ (f.left (leb-true 2 t.phase h)))))
    (implied
    (leb 3 t.phase)
    _
    (λ h. let r = f.right (leb-true 3 t.phase h) in inside _ _ t.right r.0 r.1)))
    (implied
    (within 8 10 t.phase)
    _
    (λ h.
    fits_hand_lem
    sh
    t
    (let b = between 8 10 t.phase h in f.hand b.least b.most))))
    (implied (eqb t.phase 8) _ (λ h. either (f.at_8 (eqb-true t.phase 8 h)))))
    (implied (eqb t.phase 9) _ (λ h. ap not (ne_eqb _ _ (f.at_9 (eqb-true t.phase 9 h))))))
    (implied (eqb t.phase 10) _ (λ h. eq-eqb _ _ (f.at_10 (eqb-true t.phase 10 h))))))
  where
    either : (t.hand ≡ t.left) ⊎ (t.hand ≡ t.right) → (eqb t.hand t.left || eqb t.hand t.right) ≡ true
    either (inl e) = or_left _ _ (eq-eqb t.hand t.left e)
    either (inr e) = or_right (eqb t.hand t.left) _ (eq-eqb t.hand t.right e)
