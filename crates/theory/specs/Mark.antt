-- The three marks: where a new entry goes among ascending ones, and who of its group is there.
-- Its heart is the view `Goes`, with `goes`: the mark and the number of smaller keys, as the read step gives them.
-- Assumes nothing.
use Rattle.std.specs.Prelude.{ℕ, suc, ◌*◌, ◌≤◌, ◌<◌, ◌≡◌, Bool, cond, ◌&&◌, ◌||◌, List, [], ◌∷◌, ◌++◌, length, eqb}
use Rattle.std.proofs.Common.{arith, sym, ap, ◌∙◌, subst₂, true≢false, length-append}
use Rattle.std.proofs.Math.Path.{refl, subst}
use Rattle.std.proofs.Math.Bool.{true, false, not}
use borrow.Author.Tests.{eqb-true, eqb-false, ne_eqb}
use Rattle.rules.specs.Lists.{any, all}
use Rattle.rules.specs.Entry.{Entry, same_home, precedes}
use Rattle.rules.specs.Lay.{holds, insert, ends_group, smaller, mark_of}
use Rattle.theory.specs.Run.{code, Asc, none, next}
use Rattle.theory.specs.Every as every
use Rattle.theory.specs.Every.{All}
use Rattle.theory.specs.Insert.{Below, inserted, precedes_below, precedes_above}
use Rattle.theory.specs.Payload.{wedge, wedge_front}

-- entry e has mark m and goes to index t of es
pub data Goes (d c : ℕ) (e : Entry) : ℕ → ℕ → List Entry → Type 0 where
  -- below all, and none has its home
  opens : {es : List Entry} → Asc d c (suc (code e)) es → any (same_home e) es ≡ false → Goes d c e 2 0 es
  -- below all, and the first is of its group
  joins : {f : Entry} {es : List Entry} → same_home e f ≡ true → Goes d c e 0 0 (f ∷ es)
  -- above one that is the last of its group
  closes : {f : Entry} {es : List Entry} → same_home e f ≡ true → any (same_home e) es ≡ false → Goes d c e 1 1 (f ∷ es)
  -- above one that ends its group as before
  passes :
      {m t : ℕ} {f : Entry} {es : List Entry} →
      ends_group f (wedge t e es) ≡ ends_group f es → (m ≡ 2 → f.home_place < e.home_place) → Goes d c e m t es →
      Goes d c e m (suc t) (f ∷ es)

-- ---- the read step's values are in the view

-- homes that are all above e's
other_homes :
    {d c b : ℕ} {es : List Entry} (e : Entry) → Asc d c b es → suc e.home_place * 4096 ≤ b → d ≤ 4096 →
    any (same_home e) es ≡ false
unfolding any same_home
other_homes e none h low = refl
other_homes e (next {e = f} p q r s) h low =
    rw (ne_eqb e.home_place f.home_place (λ k. omega arith), other_homes e s (omega arith) low)

-- the two tests of `mark_of`
abbrev shares : Entry → List Entry → Bool
shares e es = any (same_home e) es

abbrev tops : Entry → List Entry → Bool
tops e es = all (λ (f : Entry). not (same_home e f) || precedes f e) es

none_tops : (e : Entry) (es : List Entry) → shares e es ≡ false → tops e es ≡ true
unfolding any all
none_tops e [] h = refl
none_tops e (f ∷ es) h = go (same_home e f) h (none_tops e es)
  where
    go :
        (b : Bool) → (b || shares e es) ≡ false → (shares e es ≡ false → tops e es ≡ true) →
        ((not b || precedes f e) && tops e es) ≡ true
    go true k rest = absurd (true≢false k)
    go false k rest = rest k

-- an entry below e leaves the mark as it is, unless it has the home that e would open
mark_kept :
    {m : ℕ} (e f : Entry) (es : List Entry) →
    (m ≡ 2 → same_home e f ≡ false) → precedes f e ≡ true → mark_of e es ≡ m →
    mark_of e (f ∷ es) ≡ m
unfolding mark_of any all
mark_kept {m} e f es new below h = rw below (go (same_home e f) (shares e es) new h)
  where
    go :
        (b c : Bool) → (m ≡ 2 → b ≡ false) → cond c (cond (tops e es) 1 0) 2 ≡ m →
        cond (b || c) (cond ((not b || true) && tops e es) 1 0) 2 ≡ m
    go true true k l = l
    go true false k l = absurd (true≢false (k (sym l)))
    go false c k l = l

-- a home before e's has none of its group behind e
ends_before :
    {d c : ℕ} {es : List Entry} (e f : Entry) → d ≤ 4096 → f.home_place < e.home_place → Asc d c (suc (code e)) es →
    ends_group f (e ∷ es) ≡ ends_group f es
unfolding ends_group same_home
ends_before e f low h none = rw (ne_eqb f.home_place e.home_place (λ k. omega arith))
ends_before e f low h (next {e = g} p q r s) =
    rw (
      ne_eqb f.home_place e.home_place (λ k. omega arith),
      ne_eqb f.home_place g.home_place
          (λ k. omega arith),
    )

module _
    {d c : ℕ} (low : d ≤ 4096) (e f : Entry) (x : e.remainder < d) (y : f.remainder < d) (l : code f < code e) where
  -- an entry below e that ends its group as before
  goes_past :
      {m t : ℕ} {es : List Entry} →
      ends_group f (wedge t e es) ≡ ends_group f es → (m ≡ 2 → f.home_place < e.home_place) → Goes d c e m t es →
      mark_of e es ≡ m →
      Goes d c e (mark_of e (f ∷ es)) (suc t) (f ∷ es)
  unfolding same_home
  goes_past {t = t} {es = es} p k v h =
      let below : precedes f e ≡ true = precedes_below f e (omega arith) l in
      let kept = mark_kept e f es (λ two. ne_eqb e.home_place f.home_place (λ q. omega (arith, k two))) below h in
      subst (λ (m : ℕ). Goes d c e m (suc t) (f ∷ es)) (sym kept) (passes p k v)

  -- any entry below e
  goes_on :
      {m t : ℕ} {es : List Entry} → Asc d c (suc (code f)) es → Goes d c e m t es → mark_of e es ≡ m →
      Goes d c e (mark_of e (f ∷ es)) (suc t) (f ∷ es)
  unfolding ends_group same_home mark_of any all
  goes_on {es = es} s (opens a n) h = go (same_home e f) refl
    where
      go : (b : Bool) → same_home e f ≡ b → Goes d c e (mark_of e (f ∷ es)) 1 (f ∷ es)
      go true p = rw (p, precedes_below f e (omega arith) l, none_tops e es n) (closes p n)
      go false p =
          let k : f.home_place < e.home_place = omega (arith, eqb-false e.home_place f.home_place p) in
          goes_past (ends_before e f low k a) (λ two. k) (opens a n) h
  goes_on s (joins {f = g} {es = es} p) h =
      goes_past
      (ap (λ (q : ℕ). not (eqb f.home_place q)) (eqb-true e.home_place g.home_place p))
      (λ two. omega arith)
      (joins p)
      h
  goes_on s (closes p n) h = goes_past refl (λ two. omega arith) (closes p n) h
  goes_on (next q z r s) (passes p k v) h = goes_past refl (λ two. omega (arith, k two)) (passes p k v) h

-- above all of a front and below all of a back
goes_between :
    {d c b : ℕ} (e : Entry) (front back : List Entry) →
    d ≤ 4096 → e.remainder < d →
    Asc d c b (front ++ back) → Below (code e) front → All (λ (f : Entry). code e < code f) back →
    Goes d c e (mark_of e (front ++ back)) (length front) (front ++ back)
unfolding same_home mark_of any all
goes_between e [] [] low x s ls ms = opens none refl
goes_between {d} {c} e [] (g ∷ es) low x (next p q r s) ls (every.both l ms) = go (same_home e g) refl
  where
    go : (b : Bool) → same_home e g ≡ b → Goes d c e (mark_of e (g ∷ es)) 0 (g ∷ es)
    go true h = rw (h, precedes_above g e (omega arith) (omega arith)) (joins h)
    go false h =
        let n = other_homes e s (omega (arith, eqb-false e.home_place g.home_place h)) low in
        rw (h, n) (opens (next l q r s) (rw (h, n)))
goes_between {d} {c} {b} e (f ∷ fs) back low x (next p q r s) (every.both l ls) ms =
    goes_on low e f x q l s (goes_between {b = suc (code f)} e fs back low x s ls ms) refl

module _
    {d c b : ℕ} (e : Entry) {es : List Entry}
    (low : d ≤ 4096) (x : e.remainder < d) (s : Asc d c b es) (new : holds e es ≡ false) where
  -- the number of smaller ones is where it goes
  pub insert_wedge : insert e es ≡ wedge (smaller e es) e es
  insert_wedge =
      let i = inserted e low x s new in
      i.joined ∙ sym (wedge_front i.front e i.back) ∙ (λ j. wedge (sym i.rank j) e (sym i.parts j))

  pub smaller_le : smaller e es ≤ length es
  smaller_le =
      let i = inserted e low x s new in
      omega (arith, i.rank, ap length i.parts, length-append i.front i.back)

  pub goes : Goes d c e (mark_of e es) (smaller e es) es
  goes =
      let i = inserted e low x s new in
      let v = goes_between e i.front i.back low x (subst (Asc d c b) i.parts s) i.below i.above in
      subst₂ (λ (fs : List Entry) (t : ℕ). Goes d c e (mark_of e fs) t fs) (sym i.parts) (sym i.rank) v
