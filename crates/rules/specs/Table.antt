-- Clusters, groups, soundness and the list of a table (01, Shape and layout), by place number.
-- `cluster`, `sound_run`, `sound`: what is sound. `deal`, `entry_at`, `list`: what a table shows. `locked`: a lock
-- anywhere.
-- Assumes nothing.
use Rattle.std.specs.Prelude.{ℕ, zero, suc, ◌+◌, ◌-◌, Bool, true, false, not, cond, ◌&&◌, ◌||◌, List, [], ◌∷◌, map, get_or, drop, ltb, eqb}
use Rattle.std.proofs.Math.Seq.{slice}
use Rattle.rules.specs.declared.Shape.{Shape}
use Rattle.rules.specs.Lists.{count, all, any}
use Rattle.rules.specs.Word.{Word, zero_word, is_void}
use Rattle.rules.specs.Shape.{remainders, right_guard}
use Rattle.rules.specs.Entry.{Entry, join}

-- the word at a place
abbrev pub at : List Word → ℕ → Word
at ws p = get_or ws p zero_word

-- which places are occupied, from place 0 on
unfoldable pub occupied_places : List Word → List Bool
occupied_places ws = map (λ (w : Word). w.occupied) ws

-- the first unoccupied place at or left of a place, from the occupied places alone
unfoldable pub left_gap : List Bool → ℕ → ℕ
left_gap os zero = zero
left_gap os (suc p) = cond (get_or os (suc p) false) (left_gap os p) (suc p)

-- how many occupied places stand in front
unfoldable pub lead : List Bool → ℕ
lead [] = 0
lead (o ∷ os) = cond o (suc (lead os)) 0

-- the first unoccupied place at or right of a place
unfoldable pub right_gap : List Bool → ℕ → ℕ
right_gap os p = p + lead (drop p os)

-- the words strictly between two places
abbrev pub between : List Word → ℕ → ℕ → List Word
between ws l r = slice (suc l) r ws

-- a cluster, the maximal run of occupied places about a place: the words between its gaps
unfoldable pub cluster : List Word → ℕ → List Word
cluster ws p = between ws (left_gap (occupied_places ws) p) (right_gap (occupied_places ws) p)

-- the last place has change
unfoldable pub ends_in_change : List Word → Bool
ends_in_change [] = true
ends_in_change (w ∷ []) = w.change
ends_in_change (w ∷ v ∷ ws) = ends_in_change (v ∷ ws)

-- remainders rise strictly within a group: where a place lacks change, its remainder is below the next one's
unfoldable pub rising : List Word → Bool
rising [] = true
rising (w ∷ []) = true
rising (w ∷ v ∷ ws) = (w.change || ltb w.remainder v.remainder) && rising (v ∷ ws)

-- a cluster is sound, lock bits aside: as many virgin as change bits, change at its end, remainders low and rising
unfoldable pub sound_run : Shape → List Word → Bool
sound_run sh run =
    eqb (count (λ (w : Word). w.virgin) run) (count (λ (w : Word). w.change) run)
    && ends_in_change run
    && (all (λ (w : Word). ltb w.remainder (remainders sh)) run && rising run)

-- the places of the virgin bits of a run that begins at place p: the homes of its groups, from the left
unfoldable pub virgin_places : ℕ → List Word → List ℕ
virgin_places p [] = []
virgin_places p (w ∷ ws) = cond w.virgin (p ∷ virgin_places (suc p) ws) (virgin_places (suc p) ws)

-- the first of some places; in a sound table there is always one, and 0 is no home's place
abbrev pub front : List ℕ → ℕ
front [] = 0
front (h ∷ hs) = h

-- after a change bit the next home is due
abbrev pub due : Bool → List ℕ → List ℕ
due false hs = hs
due true [] = []
due true (h ∷ hs) = hs

-- groups are the runs ended by a change bit: the first belongs to the first home, the second to the next, and so on
unfoldable pub deal : List ℕ → List Word → List Entry
deal hs [] = []
deal hs (w ∷ ws) = record { home_place = front hs; remainder = w.remainder } ∷ deal (due w.change hs) ws

-- the keys between two places, as entries
unfoldable pub entries_between : List Word → ℕ → ℕ → List Entry
entries_between ws l r = deal (virgin_places (suc l) (between ws l r)) (between ws l r)

-- the entries of the cluster about a place, and the one at the place itself
unfoldable pub cluster_entries : List Word → ℕ → List Entry
cluster_entries ws p = entries_between ws (left_gap (occupied_places ws) p) (right_gap (occupied_places ws) p)

unfoldable pub entry_at : List Word → ℕ → Entry
entry_at ws p = get_or (cluster_entries ws p) (p - suc (left_gap (occupied_places ws) p))
    (record { home_place = 0; remainder = 0 })

-- the entries at the occupied places, from left to right; `rest` are the words from place p on
unfoldable pub entries_from : List Word → ℕ → List Word → List Entry
entries_from ws p [] = []
entries_from ws p (w ∷ rest) =
    cond w.occupied (entry_at ws p ∷ entries_from ws (suc p) rest) (entries_from ws (suc p) rest)

unfoldable pub entries : List Word → List Entry
entries ws = entries_from ws 0 ws

-- the list of a table: every key from left to right
unfoldable pub list : Shape → List Word → List ℕ
list sh ws = map (join sh) (entries ws)

-- a place is sound if its cluster is, or if it is unoccupied and 0, lock bit aside
unfoldable pub sound_at : Shape → List Word → ℕ → Word → Bool
sound_at sh ws p w = cond w.occupied (sound_run sh (cluster ws p)) (is_void w)

-- and so of the words `rest`, from place p on
unfoldable pub sound_from : Shape → List Word → ℕ → List Word → Bool
sound_from sh ws p [] = true
sound_from sh ws p (w ∷ rest) = sound_at sh ws p w && sound_from sh ws (suc p) rest

-- both guards unoccupied, and sound
unfoldable pub guards_void : Shape → List Word → Bool
guards_void sh ws = is_void (at ws 0) && is_void (at ws (right_guard sh))

unfoldable pub sound : Shape → List Word → Bool
sound sh ws =
    not (at ws 0).occupied && not (at ws (right_guard sh)).occupied && sound_from sh ws 0 ws

-- a lock bit anywhere among some words
unfoldable pub locked : List Word → Bool
locked ws = any (λ (w : Word). w.lock) ws
