-- Keys put one by one until one finds no room, as build does it: `fill_all`. From the table that is all zero one finds
-- no room exactly where there are too many distinct keys, and else the puts are those of the rule: `fill_zeros`.
-- Assumes nothing.
use Rattle.std.specs.Prelude.{ℕ, ◌≤◌, ◌<◌, ◌≡◌, refl, Bool, true, false, cond, ◌||◌, List, [], ◌∷◌, length, ltb, eqb, Result, is_ok, IfErr, Ok, Err}
use Rattle.std.proofs.Common.{sym, ◌∙◌, ap, subst, arith, ltb-true, ltb-false}
use Rattle.rules.specs.declared.Shape.{Shape}
use Rattle.rules.specs.declared.Refusal.{Refusal}
use Rattle.rules.specs.declared.Refusal.TheVariants.{BadShape, BadKey, BadTask, Busy, AtRest, Unsound, Locked, Full}
use Rattle.rules.specs.declared.Refusal.TheVariants.{TooFewSlots}
use Rattle.rules.specs.declared.PutAnswer.{PutAnswer}
use Rattle.rules.specs.Lists.{any}
use Rattle.rules.specs.Word.{Word}
use Rattle.rules.specs.Shape.{homes, remainders, right_guard, keys}
use Rattle.rules.specs.Entry.{Entry, same_entry, split}
use Rattle.rules.specs.Lay.{holds, insert, ascend}
use Rattle.rules.specs.Table.{occupied_places, cluster_entries}
use Rattle.rules.specs.Room.{Room, place, full, room_for}
use Rattle.rules.specs.Answer.{says, Leaves, leaves, number_of_refusal, put_says}
use Rattle.rules.specs.Put.{Outcome, keeps, add_to, put_in, words_after}
use Rattle.rules.specs.Build.{zeros, puts, too_many}
use Rattle.theory.specs.Dealt.{or_left, or_right}
use Rattle.theory.specs.Every.{All, none, both}
use Rattle.theory.specs.Insert.{Within, ascend_asc, holds_ascend, holds_insert, holds_head, same_eq, same_refl}
use Rattle.theory.specs.Order.{taken_homes}
use Rattle.theory.specs.Finding.{surroundings, around_free}
use Rattle.table_words.specs.Range.{remainders_high}
use Rattle.table_words.specs.declared.key.Parts.{Parts}
use Rattle.table_words.specs.declared.shape.GoodShape.{GoodShape}
use Rattle.table_read.specs.Read.{entry}
use Rattle.table_find.specs.Around.{Open}
use Rattle.theory.specs.Keys.{home_place, within_in_shape, split_within}
use Rattle.theory.specs.Pairs.{table_tight, tight_taken}
use Rattle.theory.specs.Putting.{Puts, found, inserted, overflow, put_table, table_guarded}
use Rattle.theory.specs.Building.{Roomy, State, Inside, subset_length, table_asc, added_state, in_home, in_low}
use Rattle.theory.specs.Building.{put_room, put_not_full, inside_insert, after_put}
use Rattle.demands.specs.Proof3.{zeros_state, inside_ascend, nothing_inside}
use Rattle.table_put.specs.Putting.{words_left}

-- a table that was filled, or a key without room
pub data Filled : Type 0 where
  overflows : Filled
  filled : List Word → Filled

-- what a put makes: it is refused where there is no room
abbrev pub filled_by : Leaves (List Word) → Filled
filled_by (leaves a ws) = cond (eqb a.number 0) (filled ws) overflows

-- what the code's answer says
abbrev pub filled_if : Bool → List Word → Filled
filled_if b ws = cond b (filled ws) overflows

refusal_number : (n : Refusal) → eqb (number_of_refusal n) 0 ≡ false
refusal_number BadShape = refl
refusal_number BadKey = refl
refusal_number BadTask = refl
refusal_number Busy = refl
refusal_number AtRest = refl
refusal_number Unsound = refl
refusal_number Locked = refl
refusal_number Full = refl
refusal_number TooFewSlots = refl

pub room_told :
    (a : Result PutAnswer Refusal) (vs : List Word) (o : Leaves (List Word)) → leaves (put_says a) vs ≡ o →
    filled_if (is_ok a) vs ≡ filled_by o
room_told (Ok _) vs o e = ap filled_by e
room_told (Err n) vs o e = sym (rw (refusal_number n)) ∙ ap filled_by e

-- a key more, as long as there was room
abbrev pub fill_with : Shape → Filled → Entry → Filled
fill_with sh overflows e = overflows
fill_with sh (filled ws) e = filled_by (words_left ws (put_in sh ws e))

unfoldable pub fill_all : Shape → Filled → List Entry → Filled
fill_all sh f [] = f
fill_all sh f (e ∷ es) = fill_all sh (fill_with sh f e) es

pub fill_stops : (sh : Shape) (es : List Entry) → fill_all sh overflows es ≡ overflows
unfolding fill_all
fill_stops sh [] = refl
fill_stops sh (e ∷ es) = fill_stops sh es

-- ---- with room for all of them
few_fill :
    {sh : Shape} {us : List Entry} → Roomy sh us → (es : List Entry) (ws : List Word) (shown : List Entry) →
    State sh ws shown → Inside shown us → Inside es us → fill_all sh (filled ws) es ≡ filled (puts sh ws es)
unfolding fill_all puts holds any
few_fill u [] ws shown t old new = refl
few_fill {sh} {us} u (e ∷ es) ws shown t old new =
    ap (λ (f : Filled). fill_all sh f es) (go (put_in sh ws e) cases)
    ∙ few_fill
    u
    es
    (after_put sh ws e)
    (insert e shown)
    (put_room e u t old here).state
    (inside_insert us shown e old here)
    (λ x h. new x (or_right (same_entry x e) (holds x es) h))
  where
    here : holds e us ≡ true
    here = new e (holds_head e es)

    cases : Puts sh ws shown e (put_in sh ws e)
    cases = put_table sh e u.low t.size (in_home e u here) (in_low e u here) t.table t.free

    go : (o : Outcome) → Puts sh ws shown e o → filled_by (words_left ws o) ≡ filled (words_after ws o)
    go o (found h) = refl
    go o (inserted p h room added) = refl
    go o (overflow h room) = absurd (put_not_full e u t old here h room)

-- ---- what a filled table shows
record Shown (sh : Shape) (vs : List Word) (old es : List Entry) : Type 0 where
  shown : List Entry
  state : State sh vs shown
  kept : Inside old shown
  put : Inside es shown

fill_shows :
    {sh : Shape} {es : List Entry} → remainders sh ≤ 4096 → All (Within (remainders sh) (right_guard sh) 4096) es →
    (ws : List Word) (old : List Entry) → State sh ws old → (vs : List Word) → fill_all sh (filled ws) es ≡ filled vs →
    Shown sh vs old es
unfolding fill_all holds any
fill_shows {sh} s none ws old t vs e =
    let same : ws ≡ vs = cc in
    record {
      shown = old;
      state = subst (λ (us : List Word). State sh us old) same t;
      kept = λ x h. h;
      put = nothing_inside old;
    }
fill_shows {sh} s (both {x = e} {xs = es} w rest) ws old t vs made =
    go
    (put_in sh ws e)
    (put_table sh e s t.size (home_place (within_in_shape sh e s w)) w.low t.table t.free)
    (λ us now u m. fill_shows s rest us now u vs m)
    made
  where
    -- the entry itself is shown, and the rest
    among : (now : List Entry) → holds e now ≡ true → Inside es now → Inside (e ∷ es) now
    among now here more x h = pick (same_entry x e) refl h
      where
        pick : (b : Bool) → same_entry x e ≡ b → (b || holds x es) ≡ true → holds x now ≡ true
        pick true k h = ap (λ (f : Entry). holds f now) (same_eq x e k) ∙ here
        pick false k h = more x h

    go :
        (o : Outcome) → Puts sh ws old e o →
        ((us : List Word) (now : List Entry) →
        State sh us now → fill_all sh (filled us) es ≡ filled vs → Shown sh vs now es) →
        fill_all sh (filled_by (words_left ws o)) es ≡ filled vs → Shown sh vs old (e ∷ es)
    go o (found h) further m =
        let r = further ws old t m in
        record { shown = r.shown; state = r.state; kept = r.kept; put = among r.shown (r.kept e h) r.put }
    go o (inserted p h room added) further m =
        let r = further _ (insert e old) (added_state t added) m in
        let here = holds_insert e e old ∙ or_left (same_entry e e) (holds e old) (same_refl e) in
        record {
          shown = r.shown;
          state = r.state;
          kept = λ x k. r.kept x (holds_insert x e old ∙ or_right (same_entry x e) (holds x old) k);
          put = among r.shown (r.kept e here) r.put;
        }
    go o (overflow h room) further m =
        let z : overflows ≡ filled vs = sym (fill_stops sh es) ∙ m in
        let never : ◌≡◌ {A = ℕ} 0 1 = cc in
        absurd (omega arith)

-- a filled table has room for as many entries as it has homes
many_overflow :
    (sh : Shape) {es : List Entry} → remainders sh ≤ 4096 → All (Within (remainders sh) (right_guard sh) 4096) es →
    homes sh < length (ascend es) → fill_all sh (filled (zeros sh)) es ≡ overflows
many_overflow sh {es} s w many = go (fill_all sh (filled (zeros sh)) es) refl
  where
    go : (f : Filled) → fill_all sh (filled (zeros sh)) es ≡ f → f ≡ overflows
    go overflows e = refl
    go (filled vs) e = absurd (omega (arith, room, long))
      where
        r : Shown sh vs [] es
        r = fill_shows s w (zeros sh) [] (zeros_state sh) vs e

        room : length r.shown ≤ homes sh
        room =
            omega (
              arith,
              tight_taken (table_tight r.state.table),
              taken_homes (table_guarded sh r.state.size r.state.table),
            )

        long : length (ascend es) ≤ length r.shown
        long =
            subset_length
            r.shown
            s
            (table_asc s r.state.table)
            (ascend es)
            4096
            (ascend_asc s w)
            (λ x h. r.put x (sym (holds_ascend x es) ∙ h))

pub fill_zeros :
    (sh : Shape) {es : List Entry} → remainders sh ≤ 4096 → All (Within (remainders sh) (right_guard sh) 4096) es →
    fill_all sh (filled (zeros sh)) es ≡ cond (too_many sh es) overflows (filled (puts sh (zeros sh) es))
unfolding too_many
fill_zeros sh {es} s w = go (ltb (homes sh) (length (ascend es))) refl
  where
    go :
        (b : Bool) → ltb (homes sh) (length (ascend es)) ≡ b →
        fill_all sh (filled (zeros sh)) es ≡ cond b overflows (filled (puts sh (zeros sh) es))
    go true t = many_overflow sh s w (ltb-true _ _ t)
    go false t =
        few_fill
        (record { low = s; asc = ascend_asc s w; few = ltb-false _ _ t })
        es
        (zeros sh)
        []
        (zeros_state sh)
        (nothing_inside _)
        (inside_ascend es)

-- ---- a table that is sound and unlocked, as build has it between two puts
pub record Clean (sh : Shape) (ws : List Word) : Type 0 where
  pub shown : List Entry
  pub state : State sh ws shown

pub zeros_clean : (sh : Shape) → Clean sh (zeros sh)
zeros_clean sh = record { shown = []; state = zeros_state sh }

pub still_clean :
    (sh : Shape) (ws vs : List Word) (e : Entry) → remainders sh ≤ 4096 →
    Within (remainders sh) (right_guard sh) 4096 e → Clean sh ws →
    filled vs ≡ fill_with sh (filled ws) e → Clean sh vs
unfolding fill_all
still_clean sh ws vs e low w c made =
    let r = fill_shows low (both w none) ws c.shown c.state vs (sym made) in
    record { shown = r.shown; state = r.state }

pub key_clean :
    (sh : GoodShape) (ws vs : List Word) (key : ℕ) → key < keys sh.shape → Clean sh.shape ws →
    filled vs ≡ fill_with sh.shape (filled ws) (split sh.shape key) → Clean sh.shape vs
key_clean sh ws vs key low c made =
    still_clean
    sh.shape
    ws
    vs
    (split sh.shape key)
    (remainders_high sh.shape sh.in_range)
    (split_within sh.shape key low)
    c
    made

-- so the surroundings of a home are sound and unlocked
pub clean_open : (k : Parts) (ws : List Word) → Clean k.sh.shape ws → Open k.sh.shape ws k.home.0
clean_open k ws c =
    record {
      sound =
          (surroundings k.sh.shape (entry k.home.0 k.remainder) (remainders_high k.sh.shape k.sh.in_range) c.state.size
          (home_place k.in_shape)
          k.in_shape.remainder_low
          c.state.table
          ).sound;
      free = around_free ws k.home.0 c.state.free;
    }

-- and a key is refused for want of room alone
full_number : (n : Refusal) → number_of_refusal n ≡ 8 → n ≡ Full
full_number BadShape e = absurd (omega arith)
full_number BadKey e = absurd (omega arith)
full_number BadTask e = absurd (omega arith)
full_number Busy e = absurd (omega arith)
full_number AtRest e = absurd (omega arith)
full_number Unsound e = absurd (omega arith)
full_number Locked e = absurd (omega arith)
full_number Full e = refl
full_number TooFewSlots e = absurd (omega arith)

pub open_full :
    (sh : Shape) (ws : List Word) (e : Entry) → Open sh ws e.home_place →
    (r : Result PutAnswer Refusal) (vs : List Word) → leaves (put_says r) vs ≡ words_left ws (put_in sh ws e) →
    IfErr r (λ n. n ≡ Full)
unfolding put_in
open_full sh ws e o r vs made =
    go (holds e (cluster_entries ws e.home_place)) (room_for sh (occupied_places ws) e.home_place) r
    (rw (o.sound, o.free) at made)
  where
    value : Leaves (List Word) → ℕ
    value (leaves a us) = a.value

    number : Leaves (List Word) → ℕ
    number (leaves a us) = a.number

    go :
        (h : Bool) (room : Room) (r : Result PutAnswer Refusal) →
        leaves (put_says r) vs ≡ words_left ws (cond h (keeps (says 1)) (add_to ws e room)) → IfErr r (λ n. n ≡ Full)
    go h room (Ok a) made = tt
    go true room (Err n) made = let never : ◌≡◌ {A = ℕ} 0 1 = ap value made in absurd (omega arith)
    go false (place p) (Err n) made = let never : ◌≡◌ {A = ℕ} 0 2 = ap value made in absurd (omega arith)
    go false full (Err n) made = full_number n (ap number made)
