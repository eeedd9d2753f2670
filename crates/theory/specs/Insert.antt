-- Sorted insertion: the laws of `precedes`, `insert`, `holds`, `ascend` and `smaller` on ascending lists of entries.
-- Its heart is `asc_unique`: an ascending list is determined by what it holds.
-- `d` is the number of remainders, at most 4096.
-- Assumes nothing.
use Rattle.std.specs.Prelude.{ℕ, suc, ◌*◌, ◌≤◌, ◌<◌, ◌≡◌, refl, ◌≢◌, Bool, true, false, ◌&&◌, ◌||◌, List, [], ◌∷◌, ◌++◌, length, ltb, eqb}
use Rattle.std.proofs.Common.{sym, ap, ◌∙◌, subst, true≢false, le_refl, le_trans, arith, ltb-true, ltb-false, eqb-true, eq-eqb, lt-ltb, le-ltb}
use Rattle.std.proofs.lemmas.Bool.{false≢true}
use Rattle.std.proofs.Math.Bool.{or_assoc, or_self_left}
use Rattle.rules.specs.Lists.{any, count}
use Rattle.rules.specs.Entry.{Entry, same_home, same_entry, precedes}
use Rattle.rules.specs.Lay.{holds, insert, ascend, smaller}
use Rattle.table_words.specs.Tests.{refuted}
use Rattle.theory.specs.Run.{code, Asc, none, next}
use Rattle.theory.specs.Every as every
use Rattle.theory.specs.Every.{All, all_map}

-- ---- the order of two entries

-- an entry precedes another exactly if its code is below, as long as remainders are below 4096
pub precedes_below : (e f : Entry) → f.remainder < 4096 → code e < code f → precedes e f ≡ true
unfolding precedes same_home
precedes_below e f y h = go (ltb e.home_place f.home_place) refl
  where
    go : (b : Bool) → ltb e.home_place f.home_place ≡ b → precedes e f ≡ true
    go true p = rw p
    go false p =
        let k = ltb-false e.home_place f.home_place p in
        rw (p, eq-eqb e.home_place f.home_place (omega arith), lt-ltb e.remainder f.remainder (omega arith))

pub precedes_above : (e f : Entry) → e.remainder < 4096 → code f ≤ code e → precedes e f ≡ false
unfolding precedes same_home
precedes_above e f x h = go (eqb e.home_place f.home_place) refl
  where
    low : ltb e.home_place f.home_place ≡ false
    low = le-ltb e.home_place f.home_place (omega arith)

    go : (b : Bool) → eqb e.home_place f.home_place ≡ b → precedes e f ≡ false
    go true p = rw (low, p, le-ltb e.remainder f.remainder (omega (arith, eqb-true)))
    go false p = rw (low, p)

-- `same_entry` is equality
pub same_refl : (e : Entry) → same_entry e e ≡ true
unfolding same_entry same_home
same_refl e = rw (eq-eqb e.home_place e.home_place refl, eq-eqb e.remainder e.remainder refl)

pub same_eq : (e f : Entry) → same_entry e f ≡ true → e ≡ f
unfolding same_entry same_home
same_eq e f s = go (eqb e.home_place f.home_place) (eqb e.remainder f.remainder) refl refl s
  where
    go :
        (a b : Bool) → eqb e.home_place f.home_place ≡ a → eqb e.remainder f.remainder ≡ b →
        (a && b) ≡ true → e ≡ f
    go true true p q t =
        λ i. record {
          home_place = eqb-true e.home_place f.home_place p i;
          remainder = eqb-true e.remainder
              f.remainder q i;
        }
    go true false p q t = absurd (false≢true t)
    go false b p q t = absurd (false≢true t)

pub code_eq : (e f : Entry) → e.remainder < 4096 → f.remainder < 4096 → code e ≡ code f → e ≡ f
code_eq e f x y h = λ i. record { home_place = home_at i; remainder = remainder i }
  where
    home_at : e.home_place ≡ f.home_place
    home_at = omega arith

    remainder : e.remainder ≡ f.remainder
    remainder = omega arith

pub same_not : (e f : Entry) → code e ≢ code f → same_entry e f ≡ false
same_not e f h = refuted (same_entry e f) (λ s. h (ap code (same_eq e f s)))

-- how two entries stand to each other, with what the tests then say
pub data Compared (e f : Entry) : Type 0 where
  before : code e < code f → precedes e f ≡ true → same_entry e f ≡ false → Compared e f
  same : e ≡ f → precedes e f ≡ false → same_entry e f ≡ true → Compared e f
  after : code f < code e → precedes e f ≡ false → same_entry e f ≡ false → Compared e f

pub compared : (e f : Entry) → e.remainder < 4096 → f.remainder < 4096 → Compared e f
compared e f x y = go (ltb (code e) (code f)) (ltb (code f) (code e)) refl refl
  where
    go : (a b : Bool) → ltb (code e) (code f) ≡ a → ltb (code f) (code e) ≡ b → Compared e f
    go true b p q =
        let l = ltb-true (code e) (code f) p in
        before l (precedes_below e f y l) (same_not e f (omega arith))
    go false true p q =
        let l = ltb-true (code f) (code e) q in
        after l (precedes_above e f x (omega arith)) (same_not e f (omega arith))
    go false false p q =
        let l = ltb-false (code e) (code f) p in
        let h : e ≡ f = code_eq e f x y (omega (arith, ltb-false)) in
        same h (precedes_above e f x l) (ap (same_entry e) (sym h) ∙ same_refl e)

-- ---- what an ascending list holds

-- an entry within the bounds of an ascending list
pub record Within (d c b : ℕ) (e : Entry) : Type 0 where
  pub above : b ≤ code e
  pub low : e.remainder < d
  pub inside : e.home_place < c

pub asc_all : {d c b : ℕ} {es : List Entry} → Asc d c b es → All (Within d c b) es
asc_all none = every.none
asc_all (next p q r s) =
    every.both
    (record { above = p; low = q; inside = r })
    (all_map (λ f w. record { above = omega arith; low = w.low; inside = w.inside }) (asc_all s))

pub asc_weaken :
    {d c c' b b' : ℕ} {es : List Entry} → b' ≤ b → c ≤ c' → Asc d c b es → Asc d c' b' es
asc_weaken h k none = none
asc_weaken h k (next {e = e} p q r s) = next (le_trans h p) q (le_trans r k) (asc_weaken (le_refl (suc (code e))) k s)

-- what all of a list have, an entry that it holds has
pub held_all : {P : Entry → Type 0} {es : List Entry} (e : Entry) → All P es → holds e es ≡ true → P e
unfolding holds any
held_all e every.none h = absurd (false≢true h)
held_all {P} e (every.both {x = f} {xs = es} p ps) h = go (same_entry e f) refl h (held_all e ps)
  where
    go : (b : Bool) → same_entry e f ≡ b → (b || holds e es) ≡ true → (holds e es ≡ true → P e) → P e
    go true s t rest = subst P (sym (same_eq e f s)) p
    go false s t rest = rest t

-- an entry whose code is below an ascending list's bound is not held
pub holds_below :
    {d c b : ℕ} {es : List Entry} (e : Entry) → Asc d c b es → code e < b → holds e es ≡ false
holds_below {es} e s h = refuted (holds e es) (λ t. omega (arith, (held_all e (asc_all s) t).above))

pub holds_head : (e : Entry) (es : List Entry) → holds e (e ∷ es) ≡ true
unfolding holds any
holds_head e es = rw (same_refl e)

pub holds_append : (e : Entry) (xs ys : List Entry) → holds e (xs ++ ys) ≡ (holds e xs || holds e ys)
unfolding holds any
holds_append e [] ys = refl
holds_append e (f ∷ xs) ys =
    ap (λ (b : Bool). same_entry e f || b) (holds_append e xs ys)
    ∙ sym (or_assoc (same_entry e f) (holds e xs) (holds e ys))

-- two ascending lists that hold the same entries are the same list
pub asc_unique :
    {d c c' b b' : ℕ} {es fs : List Entry} → d ≤ 4096 → Asc d c b es → Asc d c' b' fs →
    ((x : Entry) → holds x es ≡ holds x fs) → es ≡ fs
unfolding holds any
asc_unique low none none h = refl
asc_unique low none (next {e = f} {es = fs} p q r s) h = absurd (true≢false (sym (holds_head f fs) ∙ sym (h f)))
asc_unique low (next {e = e} {es = es} p q r s) none h = absurd (true≢false (sym (holds_head e es) ∙ h e))
asc_unique {d} low (next {e = e} {es = es} p q r s) (next {e = f} {es = fs} p' q' r' s') h =
    go (compared e f (omega arith) (omega arith)) (asc_unique low s s')
  where
    tails : e ≡ f → (x : Entry) → holds x es ≡ holds x fs
    tails l x = cases (same_entry x e) refl
      where
        cases : (b : Bool) → same_entry x e ≡ b → holds x es ≡ holds x fs
        cases true t =
            let k : x ≡ e = same_eq x e t in
            holds_below x s (omega (arith, ap code k)) ∙ sym (holds_below x s' (omega (arith, ap code k, ap code l)))
        cases false t = rw t at (h x ∙ ap (λ (g : Entry). same_entry x g || holds x fs) (sym l))

    go : Compared e f → (((x : Entry) → holds x es ≡ holds x fs) → es ≡ fs) → (e ∷ es) ≡ (f ∷ fs)
    go (before l t u) rest =
        absurd (true≢false (sym (holds_head e es) ∙ h e ∙ holds_below e (next l q' r' s') (le_refl (suc (code e)))))
    go (same l t u) rest = λ i. l i ∷ rest (tails l) i
    go (after l t u) rest =
        absurd (true≢false (sym (holds_head f fs) ∙ sym (h f) ∙ holds_below f (next l q r s) (le_refl (suc (code f)))))

-- ---- insertion

pub insert_asc :
    {d c b : ℕ} {es : List Entry} (e : Entry) → d ≤ 4096 → Within d c b e → Asc d c b es → Asc d c b (insert e es)
unfolding insert
insert_asc e low w none = next w.above w.low w.inside none
insert_asc {d} {c} {b} e low w (next {e = f} {es = es} p q r s) =
    go
    (compared e f (omega (arith, w.low)) (omega arith))
    (λ l. insert_asc e low (record { above = l; low = w.low; inside = w.inside }) s)
  where
    go : Compared e f → (code f < code e → Asc d c (suc (code f)) (insert e es)) → Asc d c b (insert e (f ∷ es))
    go (before l t u) rest = rw t (next w.above w.low w.inside (next l q r s))
    go (same l t u) rest = rw (t, u) (next p q r s)
    go (after l t u) rest = rw (t, u) (next p q r (rest l))

pub insert_length : (e : Entry) (es : List Entry) → holds e es ≡ false → length (insert e es) ≡ suc (length es)
unfolding insert holds any
insert_length e [] h = refl
insert_length e (f ∷ es) h = go (precedes e f) (same_entry e f) refl refl h (insert_length e es)
  where
    go :
        (a b : Bool) → precedes e f ≡ a → same_entry e f ≡ b → (b || holds e es) ≡ false →
        (holds e es ≡ false → length (insert e es) ≡ suc (length es)) →
        length (insert e (f ∷ es)) ≡ suc (suc (length es))
    go true b p q t rest = rw p
    go false true p q t rest = absurd (true≢false t)
    go false false p q t rest = rw (p, q) (ap suc (rest t))

pub or_swap : (a b c : Bool) → (a || (b || c)) ≡ (b || (a || c))
or_swap true true c = refl
or_swap true false c = refl
or_swap false true c = refl
or_swap false false c = refl

pub holds_insert : (e f : Entry) (es : List Entry) → holds e (insert f es) ≡ (same_entry e f || holds e es)
unfolding insert holds any
holds_insert e f [] = refl
holds_insert e f (g ∷ es) = go (precedes f g) (same_entry f g) refl refl (holds_insert e f es)
  where
    go :
        (a b : Bool) → precedes f g ≡ a → same_entry f g ≡ b →
        holds e (insert f es) ≡ (same_entry e f || holds e es) →
        holds e (insert f (g ∷ es)) ≡ (same_entry e f || (same_entry e g || holds e es))
    go true b p q rest = rw p
    go false true p q rest = rw (p, q, same_eq f g q) (sym (or_self_left (same_entry e g) (holds e es)))
    go false false p q rest = rw (p, q, rest) (or_swap (same_entry e g) (same_entry e f) (holds e es))

-- an entry that is held is not inserted again
pub insert_held :
    {d c b : ℕ} {es : List Entry} (e : Entry) → d ≤ 4096 → Asc d c b es → holds e es ≡ true → insert e es ≡ es
insert_held {es} e low s h =
    asc_unique
    low
    (insert_asc e low (held_all e (asc_all s) h) s)
    s
    (λ x. holds_insert x e es ∙ go x (same_entry x e) refl)
  where
    go : (x : Entry) (b : Bool) → same_entry x e ≡ b → (same_entry x e || holds x es) ≡ holds x es
    go x true t = rw t (sym h ∙ ap (λ (f : Entry). holds f es) (sym (same_eq x e t)))
    go x false t = rw t

pub insert_comm :
    {d c b : ℕ} {es : List Entry} (e f : Entry) → d ≤ 4096 → Within d c b e → Within d c b f → Asc d c b es →
    insert e (insert f es) ≡ insert f (insert e es)
insert_comm {es} e f low v w s =
    asc_unique
    low
    (insert_asc e low v (insert_asc f low w s))
    (insert_asc f low w (insert_asc e low v s))
    (λ x. simp holds_insert (or_swap (same_entry x e) (same_entry x f) (holds x es)))

-- ---- the distinct entries of a list, ascending

pub ascend_asc : {d c b : ℕ} {es : List Entry} → d ≤ 4096 → All (Within d c b) es → Asc d c b (ascend es)
unfolding ascend
ascend_asc low every.none = none
ascend_asc low (every.both {x = e} w ws) = insert_asc e low w (ascend_asc low ws)

pub holds_ascend : (e : Entry) (es : List Entry) → holds e (ascend es) ≡ holds e es
unfolding ascend holds any
holds_ascend e [] = refl
holds_ascend e (f ∷ es) = holds_insert e f (ascend es) ∙ ap (λ (b : Bool). same_entry e f || b) (holds_ascend e es)

-- the order of the entries does not matter, nor do repeats: only what they hold
pub ascend_same :
    {d c b : ℕ} {es fs : List Entry} → d ≤ 4096 → All (Within d c b) es → All (Within d c b) fs →
    ((x : Entry) → holds x es ≡ holds x fs) → ascend es ≡ ascend fs
ascend_same {es} {fs} low v w h =
    asc_unique low (ascend_asc low v) (ascend_asc low w) (λ x. holds_ascend x es ∙ h x ∙ sym (holds_ascend x fs))

-- ---- ascending lists one after the other

-- all codes below a number
abbrev pub Below : ℕ → List Entry → Type 0
Below b es = All (λ (f : Entry). code f < b) es

-- homes below c: codes below c × 4096
pub asc_below : {d c b : ℕ} {es : List Entry} → d ≤ 4096 → Asc d c b es → Below (c * 4096) es
asc_below low s = all_map (λ f w. omega (arith, w.low, w.inside)) (asc_all s)

pub asc_append :
    {d c b b' : ℕ} {xs ys : List Entry} → b ≤ b' → Asc d c b xs → Below b' xs → Asc d c b' ys → Asc d c b (xs ++ ys)
asc_append h none every.none t = asc_weaken h (le_refl _) t
asc_append h (next p q r s) (every.both k ks) t = next p q r (asc_append k s ks t)

-- an entry below all of the back is inserted into the front, one above all of the front into the back
pub insert_front :
    {d c b : ℕ} (e : Entry) (xs : List Entry) {ys : List Entry} → d ≤ 4096 → Asc d c b ys → code e < b →
    insert e (xs ++ ys) ≡ insert e xs ++ ys
unfolding insert
insert_front e [] low none h = refl
insert_front e [] low (next {e = f} p q r s) h = rw (precedes_below e f (omega arith) (omega arith))
insert_front e (f ∷ xs) {ys} low s h = go (precedes e f) (same_entry e f) refl refl (insert_front e xs low s h)
  where
    go :
        (a b : Bool) → precedes e f ≡ a → same_entry e f ≡ b → insert e (xs ++ ys) ≡ insert e xs ++ ys →
        insert e (f ∷ (xs ++ ys)) ≡ insert e (f ∷ xs) ++ ys
    go true b p q rest = rw p
    go false true p q rest = rw (p, q)
    go false false p q rest = rw (p, q) (ap (λ (zs : List Entry). f ∷ zs) rest)

pub insert_back :
    (e : Entry) {xs : List Entry} (ys : List Entry) → e.remainder < 4096 → Below (code e) xs →
    insert e (xs ++ ys) ≡ xs ++ insert e ys
unfolding insert
insert_back e ys x every.none = refl
insert_back e ys x (every.both {x = f} {xs = xs} h hs) =
    rw
    (precedes_above e f x (omega arith), same_not e f (omega arith))
    (ap (λ (zs : List Entry). f ∷ zs) (insert_back e ys x hs))

-- ---- where an entry goes

-- an entry that is not held goes between a front below it and a back above it; `smaller` counts the front
pub record Inserted (e : Entry) (es : List Entry) : Type 0 where
  pub front : List Entry
  pub back : List Entry
  pub parts : es ≡ front ++ back
  pub joined : insert e es ≡ front ++ e ∷ back
  pub below : Below (code e) front
  pub above : All (λ (f : Entry). code e < code f) back
  pub rank : smaller e es ≡ length front

smaller_none : {d c b : ℕ} {es : List Entry} (e : Entry) → d ≤ 4096 → Asc d c b es → code e < b → smaller e es ≡ 0
unfolding smaller count
smaller_none e low none h = refl
smaller_none e low (next {e = f} p q r s) h =
    rw (precedes_above f e (omega arith) (omega arith), smaller_none e low s (omega arith))

pub inserted :
    {d c b : ℕ} {es : List Entry} (e : Entry) → d ≤ 4096 → e.remainder < d → Asc d c b es → holds e es ≡ false →
    Inserted e es
unfolding insert holds any smaller count
inserted e low x none h =
    record {
      front = [];
      back = [];
      parts = refl;
      joined = refl;
      below = every.none;
      above = every.none;
      rank = refl;
    }
inserted e low x (next {e = f} {es = es} p q r s) h =
    go (compared e f (omega arith) (omega arith)) (same_entry e f) refl h (inserted e low x s)
  where
    go :
        Compared e f → (b : Bool) → same_entry e f ≡ b → (b || holds e es) ≡ false →
        (holds e es ≡ false → Inserted e es) → Inserted e (f ∷ es)
    go (before l t u) b v k rest =
        record {
          front = [];
          back = f ∷ es;
          parts = refl;
          joined = rw t;
          below = every.none;
          above = every.both l (all_map (λ g w. omega (arith, w.above)) (asc_all s));
          rank = smaller_none e low (next l q r s) (le_refl (suc (code e)));
        }
    go (same l t u) true v k rest = absurd (true≢false k)
    go (same l t u) false v k rest = absurd (false≢true (sym v ∙ u))
    go (after l t u) true v k rest = absurd (true≢false k)
    go (after l t u) false v k rest =
        let i = rest k in
        record {
          front = f ∷ i.front;
          back = i.back;
          parts = ap (λ (zs : List Entry). f ∷ zs) i.parts;
          joined = rw (t, u) (ap (λ (zs : List Entry). f ∷ zs) i.joined);
          below = every.both l i.below;
          above = i.above;
          rank = rw (precedes_below f e (omega arith) l) (omega (arith, i.rank));
        }
