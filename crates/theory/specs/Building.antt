-- Puts one by one: their order and their repeats do not matter, as long as there is room for all (`puts_ascend`), and
-- what they leave (`puts_state`). Its heart: on tables with room, putting two keys commutes (`put_swap`) and putting
-- one twice is putting it once.
-- Assumes nothing.
use Rattle.std.specs.Prelude.{ℕ, suc, ◌≤◌, ◌<◌, ◌≡◌, Bool, false, cond, ◌||◌, length}
use Rattle.std.proofs.Math.Path.{refl, sym, ap}
use Rattle.std.proofs.Common.{ap₂, ◌∙◌, subst, true≢false, arith, le_refl, le_of_eq, length-set}
use Rattle.std.proofs.Math.Bool.{true, or-false}
use Rattle.std.proofs.lemmas.Bool.{false≢true}
use mathlib.Core.List.{List, [], ◌∷◌}
use Rattle.rules.specs.declared.Shape.{Shape}
use Rattle.rules.specs.Lists.{any}
use Rattle.rules.specs.Word.{Word}
use Rattle.rules.specs.Entry.{Entry, same_entry, precedes}
use Rattle.rules.specs.Shape.{homes, remainders, places, right_guard}
use Rattle.rules.specs.Table.{occupied_places, locked}
use Rattle.rules.specs.Room.{place, full, room_for}
use Rattle.rules.specs.Lay.{holds, insert, ascend}
use Rattle.rules.specs.Put.{add_at, Outcome, put_in, words_after}
use Rattle.rules.specs.Build.{puts}
use Rattle.table_words.specs.Tests.{refuted}
use Rattle.theory.specs.Run.{code, Asc, none, next}
use Rattle.theory.specs.Insert.{Within, Compared, before, same, after, compared, asc_all, asc_weaken, held_all}
use Rattle.theory.specs.Insert.{holds_below, holds_head, same_eq, same_refl, same_not, insert_asc, insert_length}
use Rattle.theory.specs.Insert.{holds_insert, insert_held, insert_comm, holds_ascend}
use Rattle.theory.specs.Dealt.{or_right}
use Rattle.theory.specs.Gaps.{HomePlace}
use Rattle.theory.specs.Keys.{home_place, within_in_shape}
use Rattle.theory.specs.Order.{fill_at, fill_places, fills_commute, taken, room_place}
use Rattle.theory.specs.Seen.{Table, table, right_asc}
use Rattle.theory.specs.Places.{occupied_length}
use Rattle.theory.specs.Pairs.{table_tight, tight_taken, table_unique}
use Rattle.theory.specs.Adding.{Added}
use Rattle.theory.specs.Putting.{Puts, found, inserted, overflow, put_table, table_guarded}

-- ---- an ascending list inside another is no longer
-- every entry of one list is among another
abbrev pub Inside : List Entry → List Entry → Type 0
Inside es us = (x : Entry) → holds x es ≡ true → holds x us ≡ true

-- what is held behind the first entry comes after it
held_behind :
    {d c : ℕ} (e : Entry) {es : List Entry} (x : Entry) → Asc d c (suc (code e)) es → holds x es ≡ true →
    code e < code x
held_behind e x up h = (held_all x (asc_all up) h).above

-- an entry among some that is not the first is among the rest
held_rest : (x u : Entry) (us : List Entry) → same_entry x u ≡ false → holds x (u ∷ us) ≡ true → holds x us ≡ true
unfolding holds any
held_rest x u us apart h = rw apart at h

subset_step :
    {d c b c' : ℕ} (u : Entry) (us es : List Entry) →
    d ≤ 4096 →
    u.remainder < d →
    Asc d c' (suc (code u)) us →
    Asc d c b es →
    Inside es (u ∷ us) →
    ((fs : List Entry) (b : ℕ) → Asc d c b fs → Inside fs us → length fs ≤ length us) → length es ≤ suc (length us)
unfolding holds any
subset_step u us es s low up none inside rest = omega arith
subset_step {d} {c} {b} u us es s low up (next {e = e} {es = fs} p q r more) inside rest =
    go (compared e u (omega arith) (omega arith))
  where
    behind : code u ≤ code e → Inside fs us
    behind le x h =
        held_rest
        x
        u
        us
        (same_not x u (λ (k : code x ≡ code u). omega (arith, held_behind e x more h)))
        (inside x (or_right (same_entry x e) (holds x fs) h))

    go : Compared e u → suc (length fs) ≤ suc (length us)
    go (before l t v) =
        absurd
        (true≢false
        (sym (inside e (holds_head e fs))
        ∙ ap₂ ◌||◌ v (holds_below e up (omega arith))))
    go (same l t v) = let k = ap code l in omega (arith, rest fs (suc (code e)) more (behind (omega arith)))
    go (after l t v) =
        let le : length (e ∷ fs) ≤ length us =
        rest (e ∷ fs) b (next p q r more) (λ x h. held_rest x u us (apart l x h) (inside x h)) in
        omega arith
      where
        apart : code u < code e → (x : Entry) → holds x (e ∷ fs) ≡ true → same_entry x u ≡ false
        apart l x h =
            let w = held_all x (asc_all (next {b = code e} (le_refl _) q r more)) h in
            same_not x u (λ (k : code x ≡ code u). omega (arith, w.above))

pub subset_length :
    {d c c' b' : ℕ} (us : List Entry) →
    d ≤ 4096 → Asc d c' b' us → (es : List Entry) (b : ℕ) → Asc d c b es → Inside es us → length es ≤ length us
unfolding holds any
subset_length [] s up [] b asc inside = omega arith
subset_length [] s up (e ∷ es) b asc inside = absurd (false≢true (inside e (holds_head e es)))
subset_length {d} {c} {c'} {b'} (u ∷ us) s (next p q r up) es b asc inside =
    subset_step u us es s q up asc inside (subset_length {b' = suc (code u)} us s up)

-- ---- a table with room
-- entries that a table of the shape can hold, no more than it has homes
pub record Roomy (sh : Shape) (us : List Entry) : Type 0 where
  pub low : remainders sh ≤ 4096
  pub asc : Asc (remainders sh) (right_guard sh) 4096 us
  pub few : length us ≤ homes sh

-- a table of the shape, unlocked, with the entries it shows
pub record State (sh : Shape) (ws : List Word) (es : List Entry) : Type 0 where
  pub table : Table (remainders sh) ws es
  pub free : locked ws ≡ false
  pub size : length ws ≡ places sh

pub table_asc : {d : ℕ} {ws : List Word} {es : List Entry} → d ≤ 4096 → Table d ws es → Asc d (length ws) 4096 es
table_asc s (table void right) = asc_weaken (le_refl _) (omega arith) (right_asc s right)

-- an entry of those has its home place and its remainder in the shape
pub in_home : {sh : Shape} {us : List Entry} (e : Entry) → Roomy sh us → holds e us ≡ true → HomePlace sh e.home_place
in_home e u h = home_place (within_in_shape _ e u.low (held_all e (asc_all u.asc) h))

pub in_low : {sh : Shape} {us : List Entry} (e : Entry) → Roomy sh us → holds e us ≡ true → e.remainder < remainders sh
in_low e u h = (held_all e (asc_all u.asc) h).low

-- the table after a put
abbrev pub after_put : Shape → List Word → Entry → List Word
after_put sh ws e = words_after ws (put_in sh ws e)

-- the occupied places after a put
abbrev filled_for : Shape → List Bool → Entry → Bool → List Bool
filled_for sh os e true = os
filled_for sh os e false = fill_places sh os e.home_place

pub record Put (sh : Shape) (ws : List Word) (es : List Entry) (e : Entry) (vs : List Word) : Type 0 where
  pub state : State sh vs (insert e es)
  pub places : occupied_places vs ≡ filled_for sh (occupied_places ws) e (holds e es)

pub place≢full : {p : ℕ} → place p ≡ full → ⊥
place≢full e = let z : ◌≡◌ {A = ℕ} 0 1 = cc in omega arith

-- an inserted entry is among those that the table has room for
pub inside_insert : (us es : List Entry) (e : Entry) → Inside es us → holds e us ≡ true → Inside (insert e es) us
inside_insert us es e inside here x h = go (same_entry x e) refl (sym (holds_insert x e es) ∙ h)
  where
    go : (b : Bool) → same_entry x e ≡ b → (same_entry x e || holds x es) ≡ true → holds x us ≡ true
    go true t k = ap (λ (f : Entry). holds f us) (same_eq x e t) ∙ here
    go false t k = inside x (rw t at k)

-- the table after an entry was added
pub added_state :
    {sh : Shape} {ws : List Word} {es : List Entry} {e : Entry} {p : ℕ} {vs : List Word} →
    State sh ws es → Added (remainders sh) ws es e p vs → State sh vs (insert e es)
added_state {sh} {ws} {es} {e} {p} {vs} t added =
    record {
      table = added.table;
      free = added.free t.free;
      size =
          sym (occupied_length vs)
          ∙ ap length added.places
          ∙ length-set (occupied_places ws) p true
          ∙ occupied_length ws
          ∙ t.size;
    }

-- with room for one more, a put leaves the entry inserted
module _ {sh : Shape} {us : List Entry} {ws : List Word} {es : List Entry} (e : Entry) (u : Roomy sh us)
    (t : State sh ws es)
  where
    es_asc : Asc (remainders sh) (length ws) 4096 es
    es_asc = table_asc u.low t.table

    put_found : holds e es ≡ true → Put sh ws es e ws
    put_found h =
        record {
          state = subst (State sh ws) (sym (insert_held e u.low es_asc h)) t;
          places = ap (filled_for sh (occupied_places ws) e) (sym h);
        }

    put_inserted :
        (p : ℕ) →
        holds e es ≡ false →
        room_for sh (occupied_places ws) e.home_place ≡ place p →
        Added (remainders sh) ws es e p (add_at ws e p) → Put sh ws es e (add_at ws e p)
    unfolding fill_places
    put_inserted p h room added =
        record {
          state = added_state t added;
          places = added.places ∙ ap (fill_at (occupied_places ws)) (sym room)
              ∙ ap (filled_for sh (occupied_places ws) e) (sym h);
        }

    -- there is room
    pub put_not_full :
        Inside es us → holds e us ≡ true → holds e es ≡ false → room_for sh (occupied_places ws) e.home_place ≡ full → ⊥
    unfolding places right_guard
    put_not_full inside here h room =
        place≢full (sym (room_place e.home_place (table_guarded sh t.size t.table) fewer).1 ∙ room)
      where
        wide : Asc (remainders sh) (places sh) 4096 (insert e es)
        wide =
            insert_asc
            e
            u.low
            (record {
              above = (held_all e (asc_all u.asc) here).above;
              low = in_low e u here;
              inside = omega (arith, (in_home e u here).last);
            })
            (asc_weaken (le_refl _) (le_of_eq t.size) es_asc)

        fewer : taken (occupied_places ws) < homes sh
        fewer =
            omega (
              arith,
              tight_taken (table_tight t.table),
              insert_length e es h,
              subset_length us u.low u.asc (insert e es) 4096 wide (inside_insert us es e inside here),
              u.few,
            )

pub put_room :
    {sh : Shape} {us : List Entry} {ws : List Word} {es : List Entry} (e : Entry) →
    Roomy sh us → State sh ws es → Inside es us → holds e us ≡ true → Put sh ws es e (after_put sh ws e)
put_room {sh} {us} {ws} {es} e u t inside here =
    go (put_in sh ws e) (put_table sh e u.low t.size (in_home e u here) (in_low e u here) t.table t.free)
  where
    go : (o : Outcome) → Puts sh ws es e o → Put sh ws es e (words_after ws o)
    go o (found h) = put_found e u t h
    go o (inserted p h room added) = put_inserted e u t p h room added
    go o (overflow h room) = absurd (put_not_full e u t inside here h room)

-- ---- two puts
-- tables with the same places and the same entries are one
pub state_unique :
    {sh : Shape} {ws vs : List Word} {es : List Entry} →
    remainders sh ≤ 4096 → State sh ws es → State sh vs es → occupied_places ws ≡ occupied_places vs → ws ≡ vs
state_unique s t u alike = table_unique s t.table t.free u.table u.free alike

module _ {sh : Shape} {us : List Entry} (u : Roomy sh us) where
  -- a key that is there already changes nothing
  put_held :
      {ws : List Word} {es : List Entry} (e : Entry) →
      State sh ws es → Inside es us → holds e us ≡ true → holds e es ≡ true → after_put sh ws e ≡ ws
  put_held {ws} {es} e t inside here h =
      state_unique
      u.low
      p.state
      (put_found e u t h).state
      (p.places ∙ ap (filled_for sh (occupied_places ws) e) h)
    where
      p : Put sh ws es e (after_put sh ws e)
      p = put_room e u t inside here

  -- a key put twice is put once
  put_twice :
      {ws : List Word} {es : List Entry} (e : Entry) →
      State sh ws es → Inside es us → holds e us ≡ true → after_put sh (after_put sh ws e) e ≡ after_put sh ws e
  put_twice {ws} {es} e t inside here =
      put_held
      e
      (put_room e u t inside here).state
      (inside_insert us es e inside here)
      here
      (holds_insert e e es ∙ ap (λ (b : Bool). b || holds e es) (same_refl e))

  within_us :
      (e : Entry) (ws : List Word) → length ws ≡ places sh → holds e us ≡ true →
      Within (remainders sh) (length ws) 4096 e
  unfolding places
  within_us e ws size here =
      record {
        above = (held_all e (asc_all u.asc) here).above;
        low = in_low e u here;
        inside = omega (arith, (in_home e u here).last);
      }

  -- two new keys
  put_new :
      {ws : List Word} {es : List Entry} (e f : Entry) →
      State sh ws es →
      Inside es us →
      holds e us ≡ true →
      holds f us ≡ true →
      holds e es ≡ false →
      holds f es ≡ false →
      same_entry e f ≡ false → same_entry f e ≡ false →
      after_put sh (after_put sh ws e) f ≡ after_put sh (after_put sh ws f) e
  put_new {ws} {es} e f t inside e-in f-in e-new f-new apart apart' =
      state_unique
      u.low
      ef.state
      (subst
      (State sh _)
      (insert_comm
      e
      f
      u.low
      (within_us e ws t.size e-in)
      (within_us f ws t.size f-in)
      (table_asc u.low t.table))
      fe.state)
      (ef.places
      ∙ ap₂
      (λ (os : List Bool) (b : Bool). filled_for sh os f b)
      (pe.places ∙ ap (filled_for sh (occupied_places ws) e) e-new)
      (holds_insert f e es ∙ ap₂ ◌||◌ apart' f-new)
      ∙ fills_commute (table_guarded sh t.size t.table) (in_home e u e-in) (in_home f u f-in)
      ∙ sym
      (fe.places
      ∙ ap₂
      (λ (os : List Bool) (b : Bool). filled_for sh os e b)
      (pf.places ∙ ap (filled_for sh (occupied_places ws) f) f-new)
      (holds_insert e f es ∙ ap₂ ◌||◌ apart e-new)))
    where
      pe : Put sh ws es e (after_put sh ws e)
      pe = put_room e u t inside e-in

      pf : Put sh ws es f (after_put sh ws f)
      pf = put_room f u t inside f-in

      ef : Put sh (after_put sh ws e) (insert e es) f (after_put sh (after_put sh ws e) f)
      ef = put_room f u pe.state (inside_insert us es e inside e-in) f-in

      fe : Put sh (after_put sh ws f) (insert f es) e (after_put sh (after_put sh ws f) e)
      fe = put_room e u pf.state (inside_insert us es f inside f-in) e-in

  -- two keys, in either order
  pub put_swap :
      {ws : List Word} {es : List Entry} (e f : Entry) →
      State sh ws es →
      Inside es us →
      holds e us ≡ true →
      holds f us ≡ true → after_put sh (after_put sh ws e) f ≡ after_put sh (after_put sh ws f) e
  put_swap {ws} {es} e f t inside e-in f-in = go (holds e es) (holds f es) (same_entry e f) refl refl refl
    where
      -- one of them is there already
      held :
          (e f : Entry) →
          holds e us ≡ true →
          holds f us ≡ true →
          holds e es ≡ true → after_put sh (after_put sh ws e) f ≡ after_put sh (after_put sh ws f) e
      held e f e-in f-in h =
          ap (λ (vs : List Word). after_put sh vs f) (put_held e t inside e-in h)
          ∙ sym
          (put_held
          e
          (put_room f u t inside f-in).state
          (inside_insert us es f inside f-in)
          e-in
          (holds_insert e f es ∙ or_right (same_entry e f) (holds e es) h))

      turned : same_entry e f ≡ false → same_entry f e ≡ false
      turned apart =
          refuted
          (same_entry f e)
          (λ k. true≢false (sym (same_refl f) ∙ ap (λ (x : Entry). same_entry x f) (same_eq f e k) ∙ apart))

      go :
          (a b c : Bool) →
          holds e es ≡ a →
          holds f es ≡ b → same_entry e f ≡ c → after_put sh (after_put sh ws e) f ≡ after_put sh (after_put sh ws f) e
      go true b c x y z = held e f e-in f-in x
      go false true c x y z = sym (held f e f-in e-in y)
      go false false true x y z =
          let k : e ≡ f = same_eq e f z in
          ap₂ (λ (g h : Entry). after_put sh (after_put sh ws g) h) k (sym k)
      go false false false x y z = put_new e f t inside e-in f-in x y z (turned z)

  -- ---- any number of keys
  -- a key put first or in its place among ascending ones
  puts_insert :
      (k : Entry) (js : List Entry) (ws : List Word) (es : List Entry) →
      State sh ws es →
      Inside es us → holds k us ≡ true → Inside js us → puts sh (after_put sh ws k) js ≡ puts sh ws (insert k js)
  unfolding puts insert holds any
  puts_insert k [] ws es t inside k_in js_in = refl
  puts_insert k (j ∷ js) ws es t inside k_in js_in =
      go (precedes k j) (same_entry k j) refl refl
      (puts_insert
      k
      js
      (after_put sh ws j)
      (insert j es)
      (put_room j u t inside j_in).state
      (inside_insert us es j inside j_in)
      k_in
      (λ x h. js_in x (or_right (same_entry x j) (holds x js) h)))
    where
      j_in : holds j us ≡ true
      j_in = js_in j (holds_head j js)

      go :
          (a b : Bool) →
          precedes k j ≡ a →
          same_entry k j ≡ b →
          puts sh (after_put sh (after_put sh ws j) k) js ≡ puts sh (after_put sh ws j) (insert k js) →
          puts sh (after_put sh (after_put sh ws k) j) js
          ≡ puts sh ws (cond a (k ∷ j ∷ js) (cond b (j ∷ js) (j ∷ insert k js)))
      go true b x y rest = refl
      go false true x y rest =
          let l : k ≡ j = same_eq k j y in
          ap
          (λ (vs : List Word). puts sh vs js)
          (ap (λ (i : Entry). after_put sh (after_put sh ws i) j) l ∙ put_twice j t inside j_in)
      go false false x y rest = ap (λ (vs : List Word). puts sh vs js) (put_swap k j t inside k_in j_in) ∙ rest

  -- puts in the given order are puts in ascending order, each key once
  pub puts_ascend :
      (ks : List Entry) (ws : List Word) (es : List Entry) →
      State sh ws es → Inside es us → Inside ks us → puts sh ws ks ≡ puts sh ws (ascend ks)
  unfolding puts ascend holds any
  puts_ascend [] ws es t inside ks_in = refl
  puts_ascend (k ∷ ks) ws es t inside ks_in =
      puts_ascend
      ks
      (after_put sh ws k)
      (insert k es)
      (put_room k u t inside k_in).state
      (inside_insert us es k inside k_in)
      rest_in
      ∙ puts_insert k (ascend ks) ws es t inside k_in (λ x h. rest_in x (sym (holds_ascend x ks) ∙ h))
    where
      k_in : holds k us ≡ true
      k_in = ks_in k (holds_head k ks)

      rest_in : Inside ks us
      rest_in x h = ks_in x (or_right (same_entry x k) (holds x ks) h)

  -- what puts leave: a table that shows the old entries and the put ones
  pub record Left (ks : List Entry) (es : List Entry) (vs : List Word) : Type 0 where
    pub shown : List Entry
    pub state : State sh vs shown
    pub inside : Inside shown us
    pub held : (x : Entry) → holds x shown ≡ (holds x es || holds x ks)

  pub puts_state :
      (ks : List Entry) (ws : List Word) (es : List Entry) →
      State sh ws es → Inside es us → Inside ks us → Left ks es (puts sh ws ks)
  unfolding puts holds any
  puts_state [] ws es t inside ks_in =
      record { shown = es; state = t; inside = inside; held = λ x. sym (or-false (holds x es)) }
  puts_state (k ∷ ks) ws es t inside ks_in =
      further
      (puts_state
      ks
      (after_put sh ws k)
      (insert k es)
      (put_room k u t inside k_in).state
      (inside_insert us es k inside k_in)
      (λ x h. ks_in x (or_right (same_entry x k) (holds x ks) h)))
    where
      k_in : holds k us ≡ true
      k_in = ks_in k (holds_head k ks)

      regroup : (a b c : Bool) → ((a || b) || c) ≡ (b || (a || c))
      regroup true true c = refl
      regroup true false c = refl
      regroup false b c = refl

      further :
          Left ks (insert k es) (puts sh (after_put sh ws k) ks) → Left (k ∷ ks) es (puts sh (after_put sh ws k) ks)
      further l =
          record {
            shown = l.shown;
            state = l.state;
            inside = l.inside;
            held = λ x.
                l.held x
                ∙ ap (λ (b : Bool). b || holds x ks) (holds_insert x k es)
                ∙ regroup (same_entry x k) (holds x es) (holds x ks);
          }
