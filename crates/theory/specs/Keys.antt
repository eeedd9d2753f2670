-- From entries back to keys: the list of a table ascends, stays below 2^w, and has a key exactly if the table holds
-- its entry.
-- Assumes nothing.
use Rattle.std.specs.Prelude.{ℕ, suc, ◌+◌, ◌-◌, ◌*◌, ◌≤◌, ◌<◌, ◌≡◌, refl, Bool, true, false, ◌||◌, List, [], ◌∷◌, map, length, eqb}
use Rattle.std.proofs.Common.{sym, ap, ap₂, ◌∙◌, subst, true≢false, arith, le_refl, mul-le-mul_right, suc-mul, length-append, eqb-true, eq-eqb, ne_eqb}
use Rattle.std.proofs.lemmas.Bool.{eqb-false}
use Rattle.rules.specs.declared.Shape.{Shape}
use Rattle.rules.specs.Lists.{any}
use Rattle.rules.specs.Word.{Word}
use Rattle.rules.specs.Entry.{Entry, home_of_place, split, join, same_entry}
use Rattle.rules.specs.Shape.{homes, remainders, keys, places, right_guard}
use Rattle.rules.specs.Lay.{holds}
use Rattle.table_words.specs.Split.{InShape, split_in_shape, split_join, join_split, join_below}
use Rattle.theory.specs.Run.{code, Asc, none, next}
use Rattle.theory.specs.Every as every
use Rattle.theory.specs.Every.{All}
use Rattle.theory.specs.Gaps.{HomePlace}
use Rattle.theory.specs.Insert.{Within, asc_all, asc_weaken, asc_append, asc_below, same_eq, same_refl}
use Rattle.theory.specs.Seen.{Right, right_end, right_more, Table, table}

-- ---- every home of a table lies between its guards
right_inside :
    {d p : ℕ} {ws : List Word} {es : List Entry} (n : ℕ) →
    d ≤ 4096 → Right d p ws es → p + length ws ≡ suc n → Asc d n (p * 4096) es
right_inside {d} {p} n s (right_end e f) size = subst (Asc d n (p * 4096)) (sym f) none
right_inside {d} {p} {ws} n s (right_more run g v xs ys r void rest e f) size =
    subst
    (Asc d n (p * 4096))
    (sym f)
    (asc_append
    (omega arith)
    (asc_weaken (le_refl _) (omega (arith, long)) r.asc)
    (asc_below s r.asc)
    (asc_weaken (omega arith) (le_refl _) (right_inside n s rest (omega (arith, long)))))
  where
    long : length ws ≡ length run + suc (length v)
    long = ap length e ∙ length-append run (g ∷ v)

pub table_inside :
    (sh : Shape) {ws : List Word} {es : List Entry} →
    remainders sh ≤ 4096 →
    length ws ≡ places sh → Table (remainders sh) ws es → Asc (remainders sh) (right_guard sh) 4096 es
unfolding places right_guard
table_inside sh s size (table void right) = right_inside (homes sh + 1) s right (omega arith)

pub within_in_shape :
    (sh : Shape) (e : Entry) → remainders sh ≤ 4096 → Within (remainders sh) (right_guard sh) 4096 e → InShape sh e
unfolding right_guard
within_in_shape sh e s w =
    record { home_low = omega (arith, w.above, w.low); home_high = omega (arith, w.inside); remainder_low = w.low }

pub home_place : {sh : Shape} {e : Entry} → InShape sh e → HomePlace sh e.home_place
home_place i = record { first = i.home_low; last = i.home_high }

-- the entry of a key in range is within these bounds
pub split_within : (sh : Shape) (key : ℕ) → key < keys sh → Within (remainders sh) (right_guard sh) 4096 (split sh key)
unfolding right_guard
split_within sh key lt =
    let i = split_in_shape sh key lt in
    record { above = omega (arith, i.home_low); low = i.remainder_low; inside = omega (arith, i.home_high) }

pub asc_in_shape :
    (sh : Shape) {es : List Entry} →
    remainders sh ≤ 4096 → Asc (remainders sh) (right_guard sh) 4096 es → All (InShape sh) es
asc_in_shape sh s up = every.all_map (λ e w. within_in_shape sh e s w) (asc_all up)

-- ---- keys
-- strictly ascending numbers, from b on and below c
pub data Ascending (c : ℕ) : ℕ → List ℕ → Type 0 where
  ascending_none : {b : ℕ} → Ascending c b []
  ascending_next : {b k : ℕ} {ks : List ℕ} → b ≤ k → k < c → Ascending c (suc k) ks → Ascending c b (k ∷ ks)

-- an entry with a larger code has a larger key
join_order :
    (sh : Shape) (e f : Entry) →
    remainders sh ≤ 4096 → InShape sh e → InShape sh f → code e < code f → join sh e < join sh f
unfolding join home_of_place
join_order sh e f s i j lt = go (eqb e.home_place f.home_place) refl
  where
    go :
        (b : Bool) → eqb e.home_place f.home_place ≡ b →
        (e.home_place - 1) * remainders sh + e.remainder < (f.home_place - 1) * remainders sh + f.remainder
    go true k =
        let h = eqb-true e.home_place f.home_place k in
        let same : e.home_place - 1 ≡ f.home_place - 1 = omega arith in
        rw same (omega arith)
    go false k =
        let apart = eqb-false e.home_place f.home_place k in
        let lower : suc (e.home_place - 1) ≤ f.home_place - 1 = omega
        (arith, i.home_low, i.remainder_low, j.remainder_low) in
        let scaled : suc (e.home_place - 1) * remainders sh ≤ (f.home_place - 1) * remainders sh =
        mul-le-mul_right (remainders sh) lower in
        omega (arith, suc-mul (e.home_place - 1) (remainders sh), i.remainder_low)

pub keys_ascend :
    (sh : Shape) {b : ℕ} {es : List Entry} (k : ℕ) →
    remainders sh ≤ 4096 →
    Asc (remainders sh) (right_guard sh) b es →
    All (InShape sh) es →
    ((e : Entry) → InShape sh e → b ≤ code e → k ≤ join sh e) → Ascending (keys sh) k (map (join sh) es)
keys_ascend sh k s none all_in first = ascending_none
keys_ascend sh k s (next {e = e} p q r up) (every.both i is) first =
    ascending_next
    (first e i p)
    (join_below sh e i)
    (keys_ascend sh (suc (join sh e)) s up is (λ f j le. join_order sh e f s i j le))

-- whether a key is in a list
unfoldable pub listed : ℕ → List ℕ → Bool
listed key ks = any (λ (k : ℕ). eqb key k) ks

-- a key is in the list exactly if its entry is held
pub listed_holds :
    (sh : Shape) (key : ℕ) {es : List Entry} →
    key < keys sh → All (InShape sh) es → listed key (map (join sh) es) ≡ holds (split sh key) es
unfolding listed holds any
listed_holds sh key lt every.none = refl
listed_holds sh key lt (every.both {x = e} i is) =
    ap₂ ◌||◌ (go (same_entry (split sh key) e) refl) (listed_holds sh key lt is)
  where
    go : (b : Bool) → same_entry (split sh key) e ≡ b → eqb key (join sh e) ≡ same_entry (split sh key) e
    go true t = eq-eqb key (join sh e) (sym (join_split sh key) ∙ ap (join sh) (same_eq (split sh key) e t)) ∙ sym t
    go false t =
        ne_eqb
        key
        (join sh e)
        (λ (k : key ≡ join sh e).
        true≢false
        (sym (same_refl (split sh key))
        ∙ ap (same_entry (split sh key)) (ap (split sh) k ∙ split_join sh e i)
        ∙ t))
        ∙ sym t
