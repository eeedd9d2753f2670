-- Put (01, Answers and their numbers; Where a new key goes): the cluster's keys and the new one stand in ascending
-- order over the cluster enlarged by the place that the rule names.
-- Assumes nothing.
use Rattle.std.specs.Prelude.{ℕ, suc, min, true, cond, List, length, replicate, ltb}
use Rattle.std.proofs.lemmas.List.Edits.{sets}
use Rattle.rules.specs.declared.Shape.{Shape}
use Rattle.rules.specs.Word.{Word}
use Rattle.rules.specs.Bytes.{words_of, bytes_of}
use Rattle.rules.specs.Shape.{keys, good_table}
use Rattle.rules.specs.Entry.{Entry, split}
use Rattle.rules.specs.Table.{occupied_places, left_gap, cluster_entries}
use Rattle.rules.specs.Room.{Room, place, full, room_for}
use Rattle.rules.specs.Lay.{holds, insert, lay}
use Rattle.rules.specs.Answer.{Answer, says, refuses, Leaves, leaves}
use Rattle.rules.specs.Find.{sound_around, locked_around}

-- entries laid into as many places from place p on
unfoldable pub lay_run : ℕ → List Entry → List Word
lay_run p es = lay es p (replicate (length es) true) es

-- the first place of the enlarged cluster: the filled place, or the cluster's own first where the fill is at its right
unfoldable pub enlarged_from : List Word → ℕ → ℕ → ℕ
enlarged_from ws home_at p = min p (suc (left_gap (occupied_places ws) home_at))

-- the table with an absent entry added, its place to fill being p
unfoldable pub add_at : List Word → Entry → ℕ → List Word
add_at ws e p =
    sets
    ws
    (enlarged_from ws e.home_place p)
    (lay_run (enlarged_from ws e.home_place p) (insert e (cluster_entries ws e.home_place)))

-- an answer with the table unchanged, or with another table
pub data Outcome : Type 0 where
  keeps : Answer → Outcome
  writes : Answer → List Word → Outcome

abbrev pub add_to : List Word → Entry → Room → Outcome
add_to ws e (place p) = writes (says 2) (add_at ws e p)
add_to ws e full = keeps (refuses 8)

unfoldable pub put_in : Shape → List Word → Entry → Outcome
put_in sh ws e =
    cond (sound_around sh ws e.home_place)
    (cond (locked_around ws e.home_place)
    (keeps (refuses 7))
    (cond (holds e (cluster_entries ws e.home_place)) (keeps (says 1))
    (add_to ws e (room_for sh (occupied_places ws) e.home_place))))
    (keeps (refuses 6))

-- the words, and the bytes, that an outcome leaves
abbrev pub words_after : List Word → Outcome → List Word
words_after ws (keeps a) = ws
words_after ws (writes a vs) = vs

abbrev pub bytes_after : List ℕ → Outcome → Leaves (List ℕ)
bytes_after bytes (keeps a) = leaves a bytes
bytes_after bytes (writes a ws) = leaves a (bytes_of ws)

-- put (the shape, the lent table, key), with the table as it is left
unfoldable pub put : Shape → List ℕ → ℕ → Leaves (List ℕ)
put sh bytes key =
    cond (good_table sh (length bytes))
    (cond (ltb key (keys sh))
    (bytes_after bytes (put_in sh (words_of bytes) (split sh key)))
    (leaves (refuses 2) bytes))
    (leaves (refuses 1) bytes)
