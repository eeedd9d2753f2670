-- The entries of a table by one queue of all its homes: `deal_occupied`. `table_queue` says that they are the table's
-- entries, since at every gap as many groups have ended as homes have passed; `keys_counted` says how many they are.
-- Assumes nothing.
use Rattle.std.specs.Prelude.{ℕ, suc, ◌+◌, ◌≤◌, ◌≡◌, refl, Bool, true, false, cond, ◌&&◌, List, [], ◌∷◌, ◌++◌, length, eqb}
use Rattle.std.proofs.Common.{sym, ap, ap₂, ◌∙◌, arith, eqb-true}
use Rattle.std.proofs.lemmas.List.{length-map}
use Rattle.rules.specs.declared.Shape.{Shape}
use Rattle.rules.specs.Lists.{bit_of, count, all}
use Rattle.rules.specs.Word.{Word, is_void}
use Rattle.rules.specs.Entry.{Entry, join}
use Rattle.rules.specs.Shape.{remainders, places}
use Rattle.rules.specs.Table.{ends_in_change, sound_run, virgin_places, front, due, deal, entries, list, sound}
use Rattle.theory.specs.Dealt.{is_change, is_virgin, is_occupied, is_low, and_left, and_right, entry_path, Dealt}
use Rattle.theory.specs.Dealt.{dealt_none, dealt_ends, dealt_goes, dealt}
use Rattle.theory.specs.RunLaws.{virgin_count, virgins_append, run_is_sound, run_occupied, run_entries}
use Rattle.theory.specs.Places.{void_free}
use Rattle.theory.specs.Locks.{void_unlock}
use Rattle.theory.specs.SoundTable.{sound_is_table}
use Rattle.theory.specs.Seen.{Right, right_end, right_more, Table, table}

-- homes dealt to the groups of all the occupied words
unfoldable pub deal_occupied : List ℕ → List Word → List Entry
deal_occupied hs [] = []
deal_occupied hs (w ∷ ws) =
    cond w.occupied
    (record { home_place = front hs; remainder = w.remainder } ∷ deal_occupied (due w.change hs) ws)
    (deal_occupied hs ws)

-- one entry for each occupied word
queue_length : (hs : List ℕ) (ws : List Word) → length (deal_occupied hs ws) ≡ count is_occupied ws
unfolding deal_occupied count
queue_length hs [] = refl
queue_length hs (w ∷ ws) = go w.occupied (queue_length hs ws) (queue_length (due w.change hs) ws)
  where
    go :
        (b : Bool) →
        length (deal_occupied hs ws) ≡ count is_occupied ws →
        length (deal_occupied (due w.change hs) ws) ≡ count is_occupied ws →
        length
        (cond
        b
        (record { home_place = front hs; remainder = w.remainder } ∷ deal_occupied (due w.change hs) ws)
        (deal_occupied hs ws))
        ≡ bit_of b + count is_occupied ws
    go true e f = omega arith
    go false e f = omega arith

-- an occupied word has the home that is due, an unoccupied one is passed over
pub queue_taken :
    (hs : List ℕ) (w : Word) (ws : List Word) →
    w.occupied ≡ true →
    deal_occupied hs (w ∷ ws)
    ≡ record { home_place = front hs; remainder = w.remainder } ∷ deal_occupied (due w.change hs) ws
unfolding deal_occupied
queue_taken hs w ws e = rw e

pub queue_free :
    (hs : List ℕ) (w : Word) (ws : List Word) → w.occupied ≡ false → deal_occupied hs (w ∷ ws) ≡ deal_occupied hs ws
unfolding deal_occupied
queue_free hs w ws e = rw e

-- ---- a run takes its own homes and leaves the others
queue_run :
    {d : ℕ} {hs : List ℕ} {run : List Word} {xs : List Entry} (gs : List ℕ) (vs : List Word) →
    Dealt d hs run xs →
    all is_occupied run ≡ true → deal_occupied (hs ++ gs) (run ++ vs) ≡ xs ++ deal_occupied gs vs
unfolding all
queue_run gs vs dealt_none occ = refl
queue_run gs vs (dealt_ends {h = h} {hs = hs} {w = w} {ws = ws} c l p q rest) occ =
    queue_taken (h ∷ (hs ++ gs)) w (ws ++ vs) (and_left w.occupied _ occ)
    ∙ ap₂
    ◌∷◌
    (entry_path (sym p) (sym q))
    (ap (λ (b : Bool). deal_occupied (due b (h ∷ (hs ++ gs))) (ws ++ vs)) c
    ∙ queue_run gs vs rest (and_right w.occupied _ occ))
queue_run gs vs (dealt_goes {h = h} {hs = hs} {w = w} {v = v} {ws = ws} c l r p q rest) occ =
    queue_taken (h ∷ (hs ++ gs)) w (v ∷ (ws ++ vs)) (and_left w.occupied _ occ)
    ∙ ap₂
    ◌∷◌
    (entry_path (sym p) (sym q))
    (ap (λ (b : Bool). deal_occupied (due b (h ∷ (hs ++ gs))) (v ∷ (ws ++ vs))) c
    ∙ queue_run gs vs rest (and_right w.occupied _ occ))

sound_dealt :
    (sh : Shape) (a : ℕ) (run : List Word) →
    sound_run sh run ≡ true → Dealt (remainders sh) (virgin_places a run) run (deal (virgin_places a run) run)
unfolding sound_run
sound_dealt sh a run snd =
    let even = eqb (count is_virgin run) (count is_change run) in
    let ended = and_left (even && ends_in_change run) _ snd in
    let low = and_right (even && ends_in_change run) _ snd in
    dealt (remainders sh) run
    (and_right even _ ended)
    (and_left (all (is_low (remainders sh)) run) _ low)
    (and_right (all (is_low (remainders sh)) run) _ low)
    (virgin_places a run)
    (virgin_count a run ∙ eqb-true _ _ (and_left even _ ended))

-- ---- a table
-- a void word is no home and has no entry
void_home : (p : ℕ) (g : Word) (v : List Word) → is_void g ≡ true → virgin_places p (g ∷ v) ≡ virgin_places (suc p) v
unfolding virgin_places
void_home p g v void = rw (ap is_virgin (void_unlock g void))

right_queue :
    (sh : Shape) {p : ℕ} {ws : List Word} {es : List Entry} →
    remainders sh ≤ 4096 → Right (remainders sh) p ws es → deal_occupied (virgin_places p ws) ws ≡ es
unfolding virgin_places deal_occupied
right_queue sh {p} s (right_end e f) = ap (λ (ws : List Word). deal_occupied (virgin_places p ws) ws) e ∙ sym f
right_queue sh {p} s (right_more run g v xs ys r void rest e f) =
    ap (λ (ws : List Word). deal_occupied (virgin_places p ws) ws) e
    ∙ ap
    (λ (hs : List ℕ). deal_occupied hs (run ++ (g ∷ v)))
    (virgins_append p run (g ∷ v)
    ∙ ap (λ (hs : List ℕ). virgin_places p run ++ hs) (void_home (p + length run) g v void))
    ∙ queue_run
    (virgin_places (suc (p + length run)) v)
    (g ∷ v)
    (sound_dealt sh p run (run_is_sound sh s r))
    (run_occupied r)
    ∙ ap₂
    ◌++◌
    (run_entries s r)
    (queue_free (virgin_places (suc (p + length run)) v) g v (void_free g void) ∙ right_queue sh s rest)
    ∙ sym f

pub table_queue :
    (sh : Shape) {ws : List Word} {es : List Entry} →
    remainders sh ≤ 4096 → Table (remainders sh) ws es → deal_occupied (virgin_places 0 ws) ws ≡ es
table_queue sh s (table {g = g} {v = v} void right) =
    ap (λ (hs : List ℕ). deal_occupied hs (g ∷ v)) (void_home 0 g v void)
    ∙ queue_free (virgin_places 1 v) g v (void_free g void)
    ∙ right_queue sh s right

-- so a sound table has as many keys as occupied words
pub keys_counted :
    (sh : Shape) (ws : List Word) →
    remainders sh ≤ 4096 →
    length ws ≡ places sh → sound sh ws ≡ true → count is_occupied ws ≡ length (list sh ws)
unfolding list
keys_counted sh ws s size snd =
    sym (queue_length (virgin_places 0 ws) ws)
    ∙ ap length (table_queue sh s (sound_is_table sh ws s size snd))
    ∙ sym (length-map (entries ws) (join sh))
