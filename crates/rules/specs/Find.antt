-- Find (01, Answers and their numbers): the two guards and the key's surroundings are looked at, then its cluster's
-- keys. `sound_around`, `locked_around` are put's too.
-- Assumes nothing.
use Rattle.std.specs.Prelude.{ℕ, suc, Bool, cond, ◌&&◌, List, length, ltb}
use Rattle.std.proofs.Math.Seq.{slice}
use Rattle.rules.specs.declared.Shape.{Shape}
use Rattle.rules.specs.Lists.{bit_of}
use Rattle.rules.specs.Word.{Word, is_void}
use Rattle.rules.specs.Bytes.{words_of}
use Rattle.rules.specs.Shape.{keys, good_table}
use Rattle.rules.specs.Entry.{Entry, split}
use Rattle.rules.specs.Table.{at, occupied_places, left_gap, right_gap, cluster, sound_run, cluster_entries}
use Rattle.rules.specs.Table.{guards_void, locked}
use Rattle.rules.specs.Lay.{holds}
use Rattle.rules.specs.Answer.{Answer, says, refuses}

-- the home place alone if unoccupied, else its cluster and the empty place at each end:
-- an unoccupied home is its own gap on both sides, with no cluster between
unfoldable pub around : List Word → ℕ → List Word
around ws home_at = slice (left_gap (occupied_places ws) home_at) (suc (right_gap (occupied_places ws) home_at)) ws

-- nothing unsound among the guards and the surroundings, and no guard occupied
unfoldable pub sound_around : Shape → List Word → ℕ → Bool
sound_around sh ws home_at =
    guards_void sh ws
    && (is_void (at ws (left_gap (occupied_places ws) home_at)) && is_void (at ws (right_gap (occupied_places ws) home_at)))
    && sound_run sh (cluster ws home_at)

unfoldable pub locked_around : List Word → ℕ → Bool
locked_around ws home_at = locked (around ws home_at)

unfoldable pub find_in : Shape → List Word → Entry → Answer
find_in sh ws e =
    cond (sound_around sh ws e.home_place)
    (cond (locked_around ws e.home_place) (refuses 7) (says (bit_of (holds e (cluster_entries ws e.home_place)))))
    (refuses 6)

-- find (the shape, the lent table, key)
unfoldable pub find : Shape → List ℕ → ℕ → Answer
find sh bytes key =
    cond (good_table sh (length bytes))
    (cond (ltb key (keys sh))
    (find_in sh (words_of bytes) (split sh key))
    (refuses 2))
    (refuses 1)
