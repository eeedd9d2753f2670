-- Lock bits are aside: nothing that the rules say of a run or a table, nor what it shows, depends on them.
-- `void_unlock`: a void word without its lock bit is 0. `locked_append`: lists joined are locked where one of them is.
-- Assumes nothing.
use Rattle.std.specs.Prelude.{ℕ, zero, suc, ◌+◌, ◌-◌, ◌≡◌, refl, Bool, true, false, not, cond, ◌&&◌, ◌||◌, List, [], ◌∷◌, ◌++◌, map, get_or, take, drop, ltb, eqb}
use Rattle.std.proofs.Common.{sym, ap, ap₂, ◌∙◌, eqb-true}
use Rattle.std.proofs.Math.Bool.{or_assoc}
use Rattle.std.proofs.Math.ListN.{get_or-map}
use Rattle.std.proofs.lemmas.Bool.{not-true}
use Rattle.rules.specs.declared.Shape.{Shape}
use Rattle.rules.specs.Lists.{bit_of, count, all, any}
use Rattle.rules.specs.Word.{Word, zero_word, is_void}
use Rattle.rules.specs.Entry.{Entry, join}
use Rattle.rules.specs.Shape.{remainders, right_guard}
use Rattle.rules.specs.Table.{at, occupied_places, left_gap, right_gap, between, cluster, ends_in_change, rising, sound_run}
use Rattle.rules.specs.Table.{virgin_places, front, due, deal, entries_between, cluster_entries, entry_at, entries_from}
use Rattle.rules.specs.Table.{entries, list, sound_at, sound_from, sound, locked}
use Rattle.theory.specs.Run.{unlock}
use Rattle.theory.specs.Dealt.{is_change, is_virgin, is_low, and_left, and_right, word_path}

-- ---- words
pub void_unlock : (g : Word) → is_void g ≡ true → unlock g ≡ zero_word
unfolding is_void
void_unlock g void = word_path remainder occ virgin change refl
  where
    bits : (not g.occupied && (not g.virgin && not g.change)) ≡ true
    bits = and_right (eqb g.remainder 0) _ void

    remainder : g.remainder ≡ 0
    remainder = eqb-true g.remainder 0 (and_left (eqb g.remainder 0) _ void)

    occ : g.occupied ≡ false
    occ = not-true _ (and_left (not g.occupied) _ bits)

    virgin : g.virgin ≡ false
    virgin = not-true _ (and_left (not g.virgin) _ (and_right (not g.occupied) _ bits))

    change : g.change ≡ false
    change = not-true _ (and_right (not g.virgin) _ (and_right (not g.occupied) _ bits))

pub locked_append : (u v : List Word) → locked (u ++ v) ≡ (locked u || locked v)
unfolding locked any
locked_append [] v = refl
locked_append (w ∷ u) v =
    ap (λ (b : Bool). w.lock || b) (locked_append u v) ∙ sym (or_assoc w.lock (locked u) (locked v))

-- ---- runs

pub count_unlock :
    (f : Word → Bool) → ((w : Word) → f (unlock w) ≡ f w) → (ws : List Word) → count f (map unlock ws) ≡ count f ws
unfolding count
count_unlock f same [] = refl
count_unlock f same (w ∷ ws) = ap₂ (λ (b : Bool) (n : ℕ). bit_of b + n) (same w) (count_unlock f same ws)

pub all_unlock :
    (f : Word → Bool) → ((w : Word) → f (unlock w) ≡ f w) → (ws : List Word) → all f (map unlock ws) ≡ all f ws
unfolding all
all_unlock f same [] = refl
all_unlock f same (w ∷ ws) = ap₂ ◌&&◌ (same w) (all_unlock f same ws)

ends_unlock : (ws : List Word) → ends_in_change (map unlock ws) ≡ ends_in_change ws
unfolding ends_in_change
ends_unlock [] = refl
ends_unlock (w ∷ []) = refl
ends_unlock (w ∷ v ∷ ws) = ends_unlock (v ∷ ws)

rising_unlock : (ws : List Word) → rising (map unlock ws) ≡ rising ws
unfolding rising
rising_unlock [] = refl
rising_unlock (w ∷ []) = refl
rising_unlock (w ∷ v ∷ ws) =
    ap (λ (b : Bool). (w.change || ltb w.remainder v.remainder) && b) (rising_unlock (v ∷ ws))

pub sound_run_unlock : (sh : Shape) (ws : List Word) → sound_run sh (map unlock ws) ≡ sound_run sh ws
unfolding sound_run
sound_run_unlock sh ws =
    ap₂
    ◌&&◌
    (ap₂
    ◌&&◌
    (ap₂ eqb (count_unlock is_virgin (λ w. refl) ws) (count_unlock is_change (λ w. refl) ws))
    (ends_unlock ws))
    (ap₂ ◌&&◌ (all_unlock (is_low (remainders sh)) (λ w. refl) ws) (rising_unlock ws))

pub virgin_unlock : (p : ℕ) (ws : List Word) → virgin_places p (map unlock ws) ≡ virgin_places p ws
unfolding virgin_places
virgin_unlock p [] = refl
virgin_unlock p (w ∷ ws) = ap (λ (hs : List ℕ). cond w.virgin (p ∷ hs) hs) (virgin_unlock (suc p) ws)

pub deal_unlock : (hs : List ℕ) (ws : List Word) → deal hs (map unlock ws) ≡ deal hs ws
unfolding deal
deal_unlock hs [] = refl
deal_unlock hs (w ∷ ws) =
    ap
    (λ (es : List Entry). record { home_place = front hs; remainder = w.remainder } ∷ es)
    (deal_unlock (due w.change hs) ws)

-- ---- whole tables
pub occupied_unlock : (ws : List Word) → occupied_places (map unlock ws) ≡ occupied_places ws
unfolding occupied_places
occupied_unlock [] = refl
occupied_unlock (w ∷ ws) = ap (λ (os : List Bool). w.occupied ∷ os) (occupied_unlock ws)

pub at_unlock : (ws : List Word) (p : ℕ) → at (map unlock ws) p ≡ unlock (at ws p)
at_unlock ws p = get_or-map unlock ws p zero_word

take_map : (n : ℕ) (ws : List Word) → take n (map unlock ws) ≡ map unlock (take n ws)
take_map zero ws = refl
take_map (suc n) [] = refl
take_map (suc n) (w ∷ ws) = ap (λ (vs : List Word). unlock w ∷ vs) (take_map n ws)

drop_map : (n : ℕ) (ws : List Word) → drop n (map unlock ws) ≡ map unlock (drop n ws)
drop_map zero ws = refl
drop_map (suc n) [] = refl
drop_map (suc n) (w ∷ ws) = drop_map n ws

pub between_unlock : (ws : List Word) (l r : ℕ) → between (map unlock ws) l r ≡ map unlock (between ws l r)
between_unlock ws l r = ap (drop (suc l)) (take_map r ws) ∙ drop_map (suc l) (take r ws)

cluster_unlock : (ws : List Word) (p : ℕ) → cluster (map unlock ws) p ≡ map unlock (cluster ws p)
unfolding cluster
cluster_unlock ws p =
    ap (λ (os : List Bool). between (map unlock ws) (left_gap os p) (right_gap os p)) (occupied_unlock ws)
    ∙ between_unlock ws (left_gap (occupied_places ws) p) (right_gap (occupied_places ws) p)

void_aside : (w : Word) → is_void (unlock w) ≡ is_void w
unfolding is_void
void_aside w = refl

sound_from_unlock :
    (sh : Shape) (ws : List Word) (p : ℕ) (rest : List Word) →
    sound_from sh (map unlock ws) p (map unlock rest) ≡ sound_from sh ws p rest
unfolding sound_from sound_at
sound_from_unlock sh ws p [] = refl
sound_from_unlock sh ws p (w ∷ rest) =
    ap₂
    ◌&&◌
    (ap₂
    (cond w.occupied)
    (ap (sound_run sh) (cluster_unlock ws p) ∙ sound_run_unlock sh (cluster ws p))
    (void_aside w))
    (sound_from_unlock sh ws (suc p) rest)

-- a table is sound whatever its lock bits
pub sound_unlock : (sh : Shape) (ws : List Word) → sound sh (map unlock ws) ≡ sound sh ws
unfolding sound
sound_unlock sh ws =
    ap₂
    (λ (v w : Word). not v.occupied && not w.occupied && sound_from sh (map unlock ws) 0 (map unlock ws))
    (at_unlock ws 0)
    (at_unlock ws (right_guard sh))
    ∙ ap
    (λ (b : Bool). not (at ws 0).occupied && not (at ws (right_guard sh)).occupied && b)
    (sound_from_unlock sh ws 0 ws)

entry_unlock : (ws : List Word) (p : ℕ) → entry_at (map unlock ws) p ≡ entry_at ws p
unfolding entry_at cluster_entries entries_between
entry_unlock ws p =
    ap
    (λ (os : List Bool).
    get_or
    (entries_between (map unlock ws) (left_gap os p) (right_gap os p))
    (p - suc (left_gap os p))
    (record { home_place = 0; remainder = 0 }))
    (occupied_unlock ws)
    ∙ ap
    (λ (es : List Entry). get_or es (p - suc (left_gap (occupied_places ws) p)) (record { home_place = 0; remainder = 0 }))
    (ap
    (λ (vs : List Word). deal (virgin_places (suc (left_gap (occupied_places ws) p)) vs) vs)
    (between_unlock ws (left_gap (occupied_places ws) p) (right_gap (occupied_places ws) p))
    ∙ ap (λ (hs : List ℕ). deal hs (map unlock run)) (virgin_unlock (suc (left_gap (occupied_places ws) p)) run)
    ∙ deal_unlock (virgin_places (suc (left_gap (occupied_places ws) p)) run) run)
  where
    run : List Word
    run = between ws (left_gap (occupied_places ws) p) (right_gap (occupied_places ws) p)

entries_from_unlock :
    (ws : List Word) (p : ℕ) (rest : List Word) →
    entries_from (map unlock ws) p (map unlock rest) ≡ entries_from ws p rest
unfolding entries_from
entries_from_unlock ws p [] = refl
entries_from_unlock ws p (w ∷ rest) =
    ap₂
    (λ (e : Entry) (es : List Entry). cond w.occupied (e ∷ es) es)
    (entry_unlock ws p)
    (entries_from_unlock ws (suc p) rest)

-- and shows the same list
pub list_unlock : (sh : Shape) (ws : List Word) → list sh (map unlock ws) ≡ list sh ws
unfolding list entries
list_unlock sh ws = ap (map (join sh)) (entries_from_unlock ws 0 ws)
