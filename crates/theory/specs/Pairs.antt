-- The one idea of the theory: a sound unlocked table is its occupied places and its entries. `Tight` says which pairs
-- are those of tables; A (`table_tight`, `table_lay`): a table has a tight pair, and laying the pair gives the table.
-- B (`lay_occupied`; proofs/LayTable): laying a tight pair gives a table with that pair.
-- Assumes nothing.
use Rattle.std.specs.Prelude.{ℕ, zero, suc, ◌+◌, ◌*◌, ◌≤◌, ◌<◌, ◌≡◌, refl, Bool, true, false, ◌||◌, List, [], ◌∷◌, ◌++◌, map, length, replicate}
use Rattle.std.proofs.Common.{sym, ap, ap₂, ◌∙◌, subst, true≢false, arith, le_refl, le_trans, le_of_eq, length-append}
use Rattle.std.proofs.Math.Bool.{or-false}
use Rattle.std.proofs.lemmas.List.{map-append, length-replicate}
use Rattle.rules.specs.Lists.{count, all, any}
use Rattle.rules.specs.Word.{Word, zero_word}
use Rattle.rules.specs.Entry.{Entry}
use Rattle.rules.specs.Table.{occupied_places, locked}
use Rattle.rules.specs.Lay.{has_home, lay}
use Rattle.rules.specs.Put.{lay_run}
use Rattle.theory.specs.Run.{Asc, none, unlock, Run}
use Rattle.theory.specs.Dealt.{is_occupied, and_left, and_right, word_path}
use Rattle.theory.specs.Locks.{void_unlock}
use Rattle.theory.specs.Order.{taken}
use Rattle.theory.specs.Insert.{asc_weaken, asc_append, asc_below}
use Rattle.theory.specs.Joined.{has_home_append, has_home_left, has_home_right, lay_append, lay_whole}
use Rattle.theory.specs.RunLaws.{run_occupied}
use Rattle.theory.specs.Places.{void_free}
use Rattle.theory.specs.Seen.{Right, right_end, right_more, Table, table, right_asc}

-- the places from p on, right of an empty one: each cluster of n places holds n ascending entries, each with its home
-- inside the cluster
pub data TightFrom (d : ℕ) : ℕ → List Bool → List Entry → Type 0 where
  tight_end : {p : ℕ} {os : List Bool} {es : List Entry} → os ≡ [] → es ≡ [] → TightFrom d p os es
  tight_more :
      {p : ℕ} {os : List Bool} {es : List Entry} (rest : List Bool) (xs ys : List Entry) →
      Asc d (p + length xs) (p * 4096) xs →
      TightFrom d (suc (p + length xs)) rest ys →
      os ≡ replicate (length xs) true ++ (false ∷ rest) → es ≡ xs ++ ys → TightFrom d p os es

-- occupied places and entries that a table can have: the guards free, and each entry in one cluster with its home
pub data Tight (d : ℕ) : List Bool → List Entry → Type 0 where
  tight : {os : List Bool} {es : List Entry} → TightFrom d 1 os es → Tight d (false ∷ os) es

-- ---- words
pub all_occupied : (run : List Word) → all is_occupied run ≡ true → occupied_places run ≡ replicate (length run) true
unfolding all occupied_places
all_occupied [] occ = refl
all_occupied (w ∷ run) occ =
    ap₂ ◌∷◌ (and_left w.occupied _ occ) (all_occupied run (and_right w.occupied _ occ))

-- a run and the gap after it, as occupied places
span_occupied :
    {d p : ℕ} {run : List Word} {xs : List Entry} (g : Word) (v : List Word) →
    Run d p run xs →
    g.occupied ≡ false → occupied_places (run ++ (g ∷ v)) ≡ replicate (length xs) true ++ (false ∷ occupied_places v)
unfolding occupied_places
span_occupied {run = run} g v r free =
    map-append is_occupied run (g ∷ v)
    ∙ ap₂
    (λ (us : List Bool) (o : Bool). us ++ (o ∷ occupied_places v))
    (all_occupied run (run_occupied r) ∙ ap (λ (n : ℕ). replicate n true) (sym r.size))
    free

-- ---- A
right_tight : {d p : ℕ} {ws : List Word} {es : List Entry} → Right d p ws es → TightFrom d p (occupied_places ws) es
unfolding occupied_places
right_tight (right_end e f) = tight_end (ap occupied_places e) f
right_tight {d} {p} (right_more run g v xs ys r void rest e f) =
    tight_more
    (occupied_places v)
    xs
    ys
    (subst (λ (n : ℕ). Asc d (p + n) (p * 4096) xs) (sym r.size) r.asc)
    (subst (λ (n : ℕ). TightFrom d (suc (p + n)) (occupied_places v) ys) (sym r.size) (right_tight rest))
    (ap occupied_places e ∙ span_occupied g v r (void_free g void))
    f

-- homes of a part, where they are those of the whole from a place on
abbrev pub HomesFrom : List Entry → ℕ → List Entry → Type 0
HomesFrom whole p es = (x : ℕ) → p ≤ x → has_home whole x ≡ has_home es x

pub homes_here :
    {d c c' p : ℕ} (whole xs ys : List Entry) →
    d ≤ 4096 →
    Asc d c' (suc c * 4096) ys →
    HomesFrom whole p (xs ++ ys) → (x : ℕ) → p ≤ x → x < suc c → has_home whole x ≡ has_home xs x
homes_here whole xs ys s down same x low high =
    same x low
    ∙ has_home_append xs ys x
    ∙ ap (λ (b : Bool). has_home xs x || b) (has_home_left x s down (omega arith))
    ∙ or-false (has_home xs x)

pub homes_after :
    {d c b p : ℕ} (whole xs ys : List Entry) →
    Asc d c b xs → p ≤ suc c → HomesFrom whole p (xs ++ ys) → HomesFrom whole (suc c) ys
homes_after whole xs ys up le same x low =
    same x (le_trans le low)
    ∙ has_home_append xs ys x
    ∙ ap (λ (b : Bool). b || has_home ys x) (has_home_right x up (omega arith))

right_lay :
    {d p : ℕ} {ws : List Word} {es : List Entry} (whole : List Entry) →
    d ≤ 4096 → Right d p ws es → HomesFrom whole p es → lay whole p (occupied_places ws) es ≡ map unlock ws
unfolding occupied_places lay lay_run
right_lay {p = p} whole s (right_end e f) same =
    ap₂ (λ (os : List Bool) (es : List Entry). lay whole p os es) (ap occupied_places e) f ∙ ap (map unlock) (sym e)
right_lay {d} {p} whole s (right_more run g v xs ys r void rest e f) same =
    ap₂
    (λ (os : List Bool) (es : List Entry). lay whole p os es)
    (ap occupied_places e ∙ span_occupied g v r (void_free g void))
    f
    ∙ lay_append
    whole
    p
    (p + length xs)
    (false ∷ occupied_places v)
    s
    r.asc
    (asc_weaken (omega arith) (le_refl _) (right_asc s rest))
    refl
    ∙ ap₂
    ◌++◌
    (lay_whole whole xs p xs here ∙ r.laid)
    (ap₂
    ◌∷◌
    (sym (void_unlock g void))
    (ap (λ (n : ℕ). lay whole (suc (p + n)) (occupied_places v) ys) r.size
    ∙ right_lay whole s rest (homes_after whole xs ys r.asc (omega arith) together)))
    ∙ sym (map-append unlock run (g ∷ v))
    ∙ ap (map unlock) (sym e)
  where
    together : HomesFrom whole p (xs ++ ys)
    together x low = same x low ∙ ap (λ (es : List Entry). has_home es x) f

    here : (i : ℕ) → i < length xs → has_home whole (p + i) ≡ has_home xs (p + i)
    here i lt = homes_here whole xs ys s (right_asc s rest) together (p + i) (omega arith) (omega (arith, r.size))

pub table_tight : {d : ℕ} {ws : List Word} {es : List Entry} → Table d ws es → Tight d (occupied_places ws) es
unfolding occupied_places
table_tight {d} {es = es} (table {g = g} {v = v} void right) =
    subst (λ (o : Bool). Tight d (o ∷ occupied_places v) es) (sym (void_free g void)) (tight (right_tight right))

pub table_lay :
    {d : ℕ} {ws : List Word} {es : List Entry} → d ≤ 4096 → Table d ws es →
    lay es 0 (occupied_places ws) es ≡ map unlock ws
unfolding occupied_places lay
table_lay {es = es} s (table {g = g} {v = v} void right) =
    ap (λ (o : Bool). lay es 0 (o ∷ occupied_places v) es) (void_free g void)
    ∙ ap₂ ◌∷◌ (sym (void_unlock g void)) (right_lay es s right (λ x low. refl))

-- ---- B
-- what is laid is unlocked
lay_unlocked :
    (whole : List Entry) (p : ℕ) (os : List Bool) (es : List Entry) →
    map unlock (lay whole p os es) ≡ lay whole p os es
unfolding lay
lay_unlocked whole p [] es = refl
lay_unlocked whole p (false ∷ os) es = ap (λ (ws : List Word). zero_word ∷ ws) (lay_unlocked whole (suc p) os es)
lay_unlocked whole p (true ∷ os) [] = ap (λ (ws : List Word). zero_word ∷ ws) (lay_unlocked whole (suc p) os [])
lay_unlocked whole p (true ∷ os) (e ∷ es) = ap₂ ◌∷◌ refl (lay_unlocked whole (suc p) os es)

pub lay_length :
    (whole : List Entry) (p : ℕ) (os : List Bool) (es : List Entry) → length (lay whole p os es) ≡ length os
unfolding lay
lay_length whole p [] es = refl
lay_length whole p (false ∷ os) es = ap suc (lay_length whole (suc p) os es)
lay_length whole p (true ∷ os) [] = ap suc (lay_length whole (suc p) os [])
lay_length whole p (true ∷ os) (e ∷ es) = ap suc (lay_length whole (suc p) os es)

pub tight_asc :
    {d p : ℕ} {os : List Bool} {es : List Entry} → d ≤ 4096 → TightFrom d p os es → Asc d (p + length os) (p * 4096) es
tight_asc {d} {p} {os} s (tight_end e f) = subst (Asc d (p + length os) (p * 4096)) (sym f) none
tight_asc {d} {p} {os} s (tight_more rest xs ys up more e f) =
    subst
    (Asc d (p + length os) (p * 4096))
    (sym f)
    (asc_append
    (omega arith)
    (asc_weaken (le_refl _) (omega (arith, long)) up)
    (asc_below s up)
    (asc_weaken (omega arith) (omega (arith, long)) (tight_asc s more)))
  where
    long : length os ≡ length xs + suc (length rest)
    long =
        ap length e
        ∙ length-append (replicate (length xs) true) (false ∷ rest)
        ∙ ap (λ (n : ℕ). n + suc (length rest)) (length-replicate (length xs) true)

-- some entries laid over as many places, as a run
pub lay_run_lem :
    {d p : ℕ} (whole xs : List Entry) →
    Asc d (p + length xs) (p * 4096) xs →
    ((i : ℕ) → i < length xs → has_home whole (p + i) ≡ has_home xs (p + i)) →
    Run d p (lay whole p (replicate (length xs) true) xs) xs
unfolding lay_run
lay_run_lem {d} {p} whole xs up here =
    record {
      size = sym long;
      asc = subst (λ (n : ℕ). Asc d (p + n) (p * 4096) xs) (sym long) up;
      laid = sym (lay_whole whole xs p xs here) ∙ sym (lay_unlocked whole p (replicate (length xs) true) xs);
    }
  where
    long : length (lay whole p (replicate (length xs) true) xs) ≡ length xs
    long = lay_length whole p (replicate (length xs) true) xs ∙ length-replicate (length xs) true

-- as many entries as occupied places
taken_span : (n : ℕ) (os : List Bool) → taken (replicate n true ++ (false ∷ os)) ≡ n + taken os
unfolding count
taken_span zero os = omega arith
taken_span (suc n) os = omega (arith, taken_span n os)

tight_size : {d p : ℕ} {os : List Bool} {es : List Entry} → TightFrom d p os es → taken os ≡ length es
unfolding count
tight_size (tight_end e f) = ap taken e ∙ sym (ap length f)
tight_size (tight_more rest xs ys up more e f) =
    ap taken e
    ∙ taken_span (length xs) rest
    ∙ ap (λ (n : ℕ). length xs + n) (tight_size more)
    ∙ sym (ap length f ∙ length-append xs ys)

pub lay_marks :
    (whole : List Entry) (p : ℕ) (os : List Bool) (es : List Entry) →
    taken os ≤ length es → occupied_places (lay whole p os es) ≡ os
unfolding lay occupied_places count
lay_marks whole p [] es room = refl
lay_marks whole p (false ∷ os) es room =
    ap (λ (us : List Bool). false ∷ us) (lay_marks whole (suc p) os es (omega arith))
lay_marks whole p (true ∷ os) [] room = absurd (omega arith)
lay_marks whole p (true ∷ os) (e ∷ es) room =
    ap (λ (us : List Bool). true ∷ us) (lay_marks whole (suc p) os es (omega arith))

pub tight_taken : {d : ℕ} {os : List Bool} {es : List Entry} → Tight d os es → taken os ≡ length es
unfolding count
tight_taken (tight from) = omega (arith, tight_size from)

pub lay_occupied : {d : ℕ} {os : List Bool} {es : List Entry} → Tight d os es → occupied_places (lay es 0 os es) ≡ os
lay_occupied {os = os} {es} t = lay_marks es 0 os es (le_of_eq (tight_taken t))

-- ---- locks aside
pub unlocked_same : (ws : List Word) → locked ws ≡ false → map unlock ws ≡ ws
unfolding locked any
unlocked_same [] free = refl
unlocked_same (w ∷ ws) free = go w.lock refl free (unlocked_same ws)
  where
    go :
        (b : Bool) →
        w.lock ≡ b → (b || locked ws) ≡ false → (locked ws ≡ false → map unlock ws ≡ ws) →
        unlock w ∷ map unlock ws ≡ w ∷ ws
    go true e t rest = absurd (true≢false t)
    go false e t rest = ap₂ ◌∷◌ (word_path refl refl refl refl (sym e)) (rest t)

pub unlock_locked : (ws : List Word) → locked (map unlock ws) ≡ false
unfolding locked any
unlock_locked [] = refl
unlock_locked (w ∷ ws) = unlock_locked ws

pub lay_free : (whole : List Entry) (p : ℕ) (os : List Bool) (es : List Entry) → locked (lay whole p os es) ≡ false
lay_free whole p os es = ap locked (sym (lay_unlocked whole p os es)) ∙ unlock_locked (lay whole p os es)

-- two unlocked tables with the same places occupied and the same entries are the same, word for word
pub table_unique :
    {d : ℕ} {ws vs : List Word} {es : List Entry} →
    d ≤ 4096 →
    Table d ws es → locked ws ≡ false → Table d vs es → locked vs ≡ false → occupied_places ws ≡ occupied_places vs →
    ws ≡ vs
table_unique {ws = ws} {vs} {es} s t free u also same =
    sym (unlocked_same ws free)
    ∙ sym (table_lay s t)
    ∙ ap (λ (os : List Bool). lay es 0 os es) same
    ∙ table_lay s u
    ∙ unlocked_same vs also
