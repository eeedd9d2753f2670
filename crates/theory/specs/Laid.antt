-- A laid run as payloads on sites, and what one more entry and its mark make of both: `recharged` and `rehomed`.
-- Assumes nothing.
use Rattle.std.specs.Prelude.{ℕ, zero, suc, ◌+◌, ◌-◌, ◌≤◌, ◌<◌, ◌≡◌, refl, Bool, true, false, not, cond, ◌||◌, List, [], ◌∷◌, length, replicate, eqb}
use Rattle.std.proofs.Common.{not-suc-le-zero, le_of_suc-le-suc, le_refl, arith, sym, ap, ◌∙◌, true≢false, eqb-true, eq-eqb, ne_eqb}
use Rattle.std.proofs.Math.Bool.{or-true}
use Rattle.std.proofs.lemmas.Bool.{eqb-false}
use Rattle.rules.specs.Lists.{any}
use Rattle.rules.specs.Word.{Word, with_payload}
use Rattle.rules.specs.Entry.{Entry, same_home}
use Rattle.rules.specs.Lay.{has_home, ends_group, lay}
use Rattle.rules.specs.Put.{lay_run}
use Rattle.rules.specs.Phase.{set_change, set_virgin, marked}
use Rattle.theory.specs.Insert.{or_swap}
use Rattle.theory.specs.Payload.{loaded, wedge}
use Rattle.theory.specs.Mark.{Goes, opens, joins, closes, passes}

-- an occupied word
abbrev pub occupied_word : ℕ → Bool → Bool → Word
occupied_word x v c = record { remainder = x; occupied = true; virgin = v; change = c; lock = false }

-- the payloads of entries in a row
abbrev pub payloads : List Entry → List Word
payloads [] = []
payloads (e ∷ es) = occupied_word e.remainder false (ends_group e es) ∷ payloads es

-- so many occupied places from place p on, virgin by a test
abbrev pub sites : (ℕ → Bool) → ℕ → ℕ → List Word
sites virgin p zero = []
sites virgin p (suc n) = occupied_word 0 (virgin p) false ∷ sites virgin (suc p) n

pub length_sites : (virgin : ℕ → Bool) (p n : ℕ) → length (sites virgin p n) ≡ n
length_sites virgin p zero = refl
length_sites virgin p (suc n) = ap suc (length_sites virgin (suc p) n)

pub length_payloads : (es : List Entry) → length (payloads es) ≡ length es
length_payloads [] = refl
length_payloads (e ∷ es) = ap suc (length_payloads es)

lay_loaded :
    (whole : List Entry) (p : ℕ) (es : List Entry) →
    lay whole p (replicate (length es) true) es ≡ loaded (payloads es) (sites (has_home whole) p (length es))
unfolding lay
lay_loaded whole p [] = refl
lay_loaded whole p (e ∷ es) =
    ap
    (λ (r : List Word). occupied_word e.remainder (has_home whole p) (ends_group e es) ∷ r)
    (lay_loaded whole (suc p) es)

pub lay_run_loaded : (p : ℕ) (es : List Entry) → lay_run p es ≡ loaded (payloads es) (sites (has_home es) p (length es))
unfolding lay_run
lay_run_loaded p es = lay_loaded es p es

-- ---- the mark, on payloads and on sites

-- what a mark does to the change bits, and to the virgin bits
abbrev pub recharge : ℕ → ℕ → List Word → List Word
recharge mark goal ls =
    cond (eqb mark 2) (set_change ls goal true)
    (cond (eqb mark 1) (set_change (set_change ls goal true) (goal - 1) false) ls)

abbrev pub rehome : ℕ → ℕ → List Word → List Word
rehome mark home_at ws = cond (eqb mark 2) (set_virgin ws home_at) ws

change_loaded : (ls ws : List Word) (p : ℕ) (b : Bool) → set_change (loaded ls ws) p b ≡ loaded (set_change ls p b) ws
unfolding set_change
change_loaded [] ws p b = refl
change_loaded (l ∷ ls) [] zero b = refl
change_loaded (l ∷ ls) [] (suc p) b = refl
change_loaded (l ∷ ls) (w ∷ ws) zero b = refl
change_loaded (l ∷ ls) (w ∷ ws) (suc p) b = ap (λ (r : List Word). with_payload l w ∷ r) (change_loaded ls ws p b)

virgin_loaded : (ls ws : List Word) (p : ℕ) → set_virgin (loaded ls ws) p ≡ loaded ls (set_virgin ws p)
unfolding set_virgin
virgin_loaded [] ws p = refl
virgin_loaded (l ∷ ls) [] p = refl
virgin_loaded (l ∷ ls) (w ∷ ws) zero = refl
virgin_loaded (l ∷ ls) (w ∷ ws) (suc p) = ap (λ (r : List Word). with_payload l w ∷ r) (virgin_loaded ls ws p)

pub marked_loaded :
    (ls ws : List Word) (mark goal home_at : ℕ) →
    marked (loaded ls ws) mark goal home_at ≡ loaded (recharge mark goal ls) (rehome mark home_at ws)
unfolding marked
marked_loaded ls ws mark goal home_at = go (eqb mark 2) (eqb mark 1)
  where
    go :
        (two one : Bool) →
        cond two (set_virgin (set_change (loaded ls ws) goal true) home_at)
        (cond one (set_change (set_change (loaded ls ws) goal true) (goal - 1) false) (loaded ls ws))
        ≡ loaded
        (cond two (set_change ls goal true) (cond one (set_change (set_change ls goal true) (goal - 1) false) ls))
        (cond two (set_virgin ws home_at) ws)
    go true one = rw (change_loaded, virgin_loaded)
    go false true = rw (change_loaded, change_loaded)
    go false false = refl

-- ---- one more entry: the payloads

same_sym : (e f : Entry) → same_home e f ≡ true → same_home f e ≡ true
unfolding same_home
same_sym e f h = eq-eqb f.home_place e.home_place (sym (eqb-true e.home_place f.home_place h))

ends_alone : (e : Entry) (es : List Entry) → any (same_home e) es ≡ false → ends_group e es ≡ true
unfolding ends_group any
ends_alone e [] h = refl
ends_alone e (f ∷ es) h = go (same_home e f) h
  where
    go : (b : Bool) → (b || any (same_home e) es) ≡ false → not b ≡ true
    go true k = absurd (true≢false k)
    go false k = refl

-- an entry that closes its group is above one
pub closes_above : {d c m t : ℕ} {e : Entry} {es : List Entry} → Goes d c e m t es → m ≡ 1 → 0 < t
closes_above (opens a n) h = omega arith
closes_above (joins p) h = omega arith
closes_above (closes p n) h = omega arith
closes_above (passes p k v) h = omega arith

recharge_past :
    (m t : ℕ) (w : Word) (ls : List Word) → (m ≡ 1 → 0 < t) → recharge m (suc t) (w ∷ ls) ≡ w ∷ recharge m t ls
unfolding set_change
recharge_past m t w ls above = go (eqb m 2) (eqb m 1) refl
  where
    go :
        (b c : Bool) → eqb m 1 ≡ c →
        cond b (w ∷ set_change ls t true) (cond c (set_change (w ∷ set_change ls t true) (suc t - 1) false) (w ∷ ls))
        ≡ w ∷ cond b (set_change ls t true) (cond c (set_change (set_change ls t true) (t - 1) false) ls)
    go true c h = refl
    go false true h =
        let e : suc t - 1 ≡ suc (t - 1) = omega (arith, above (eqb-true m 1 h)) in
        ap (λ (p : ℕ). set_change (w ∷ set_change ls t true) p false) e
    go false false h = refl

-- the key's payload among the others, after the mark
pub recharged :
    {d c : ℕ} {e : Entry} {m t : ℕ} {es : List Entry} → Goes d c e m t es →
    recharge m t (wedge t (occupied_word e.remainder false false) (payloads es)) ≡ payloads (wedge t e es)
unfolding set_change ends_group
recharged {e = e} (opens {es = es} a n) = rw (ends_alone e es n)
recharged (joins p) = rw p
recharged {e = e} (closes {f = f} {es = es} p n) = rw (same_sym e f p, ends_alone e es n)
recharged {e = e} (passes {m = m} {t = t} {f = f} {es = es} p k v) =
    recharge_past m t (occupied_word f.remainder false (ends_group f es))
    (wedge t (occupied_word e.remainder false false) (payloads es))
    (closes_above v)
    ∙ (λ i. occupied_word f.remainder false (sym p i) ∷ recharged v i)

-- ---- one more entry: the sites

sites_same :
    (v u : ℕ → Bool) (p n : ℕ) → ((q : ℕ) → p ≤ q → v q ≡ u q) → sites v p n ≡ sites u p n
sites_same v u p zero h = refl
sites_same v u p (suc n) h =
    λ i. occupied_word 0 (h p (le_refl p) i) false ∷ sites_same v u (suc p) n (λ q k. h q (omega arith)) i

sites_virgin :
    (v : ℕ → Bool) (p n i home_at : ℕ) → p + i ≡ home_at → i < n →
    set_virgin (sites v p n) i ≡ sites (λ q. eqb home_at q || v q) p n
unfolding set_virgin
sites_virgin v p zero i home_at e h = absurd (not-suc-le-zero h)
sites_virgin v p (suc n) zero home_at e h =
    rw
    (eq-eqb home_at p (omega arith))
    (ap
    (λ (ws : List Word). occupied_word 0 true false ∷ ws)
    (sites_same v (λ q. eqb home_at q || v q) (suc p) n (λ q k. rw (ne_eqb home_at q (λ z. omega arith)))))
sites_virgin v p (suc n) (suc i) home_at e h =
    rw
    (ne_eqb home_at p (λ z. omega arith))
    (ap
    (λ (ws : List Word). occupied_word 0 (v p) false ∷ ws)
    (sites_virgin v (suc p) n i home_at (omega arith) (le_of_suc-le-suc h)))

home_wedge :
    (t : ℕ) (e : Entry) (es : List Entry) (q : ℕ) → has_home (wedge t e es) q ≡ (eqb e.home_place q || has_home es q)
unfolding has_home any
home_wedge zero e es q = refl
home_wedge (suc t) e [] q = refl
home_wedge (suc t) e (f ∷ es) q =
    ap (λ (b : Bool). eqb f.home_place q || b) (home_wedge t e es q)
    ∙ or_swap (eqb f.home_place q) (eqb e.home_place q) (has_home es q)

home_kept :
    (t : ℕ) (e : Entry) (es : List Entry) (q : ℕ) →
    has_home es e.home_place ≡ true → has_home es q ≡ has_home (wedge t e es) q
home_kept t e es q h = rw (home_wedge t e es q) (go (eqb e.home_place q) refl)
  where
    go : (b : Bool) → eqb e.home_place q ≡ b → has_home es q ≡ (b || has_home es q)
    go true p = ap (has_home es) (sym (eqb-true e.home_place q p)) ∙ h
    go false p = refl

-- an entry that opens no group finds its home there
home_shared :
    {d c : ℕ} {e : Entry} {m t : ℕ} {es : List Entry} → Goes d c e m t es → (m ≡ 2 → ⊥) → has_home es e.home_place ≡ true
unfolding has_home any same_home
home_shared (opens a n) h = absurd (h refl)
home_shared {e = e} (joins {f = f} p) h = rw (same_sym e f p)
home_shared {e = e} (closes {f = f} p n) h = rw (same_sym e f p)
home_shared {e = e} (passes {f = f} p k v) h = rw (home_shared v h) (or-true (eqb f.home_place e.home_place))

pub rehomed :
    {d c m t : ℕ} {e : Entry} {es : List Entry} → Goes d c e m t es →
    (a n : ℕ) → a ≤ e.home_place → e.home_place < a + n →
    rehome m (e.home_place - a) (sites (has_home es) a n) ≡ sites (has_home (wedge t e es)) a n
rehomed {m = m} {t = t} {e = e} {es = es} v a n h k = go (eqb m 2) refl
  where
    go :
        (b : Bool) → eqb m 2 ≡ b →
        cond b (set_virgin (sites (has_home es) a n) (e.home_place - a)) (sites (has_home es) a n)
        ≡ sites (has_home (wedge t e es)) a n
    go true p =
        sites_virgin (has_home es) a n (e.home_place - a) e.home_place (omega arith) (omega arith)
        ∙ sites_same (λ q. eqb e.home_place q || has_home es q) (has_home (wedge t e es)) a n
        (λ q z. sym (home_wedge t e es q))
    go false p =
        sites_same (has_home es) (has_home (wedge t e es)) a n
        (λ q z. home_kept t e es q (home_shared v (eqb-false m 2 p)))
