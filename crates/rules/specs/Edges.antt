-- Rows beside the paper's examples, where the rules are easy to get wrong: its examples that are only to be run,
-- unsound tables that differ from a sound one in one rule, and a lone task. One claim, as in Examples.
-- Assumes nothing.
use Rattle.std.specs.Prelude.{ℕ, zero, suc, ◌≡◌, refl, List, [], ◌∷◌, map}
use Rattle.rules.specs.declared.Task.{Task}
use Rattle.rules.specs.Lists.{count, all, any, at_front}
use Rattle.rules.specs.Word.{word_of, number_of, is_void, is_zero, is_lock}
use Rattle.rules.specs.Bytes.{words_of, bytes_of}
use Rattle.rules.specs.Shape.{in_range, homes, remainders, keys, places, right_guard, fits_length, good_table}
use Rattle.rules.specs.Entry.{place_of_home, home_of_place, home_of, remainder_of, split, join, same_home, same_entry}
use Rattle.rules.specs.Entry.{precedes}
use Rattle.rules.specs.Table.{occupied_places, left_gap, lead, right_gap, cluster, ends_in_change, rising, sound_run}
use Rattle.rules.specs.Table.{virgin_places, deal, entries_between, cluster_entries, entry_at, entries_from, entries}
use Rattle.rules.specs.Table.{list, sound_at, sound_from, guards_void, sound, locked}
use Rattle.rules.specs.Room.{which_end, room_beside, room_for}
use Rattle.rules.specs.Lay.{holds, insert, ascend, has_home, ends_group, lay, smaller, mark_of}
use Rattle.rules.specs.Answer.{says, refuses, Leaves, leaves}
use Rattle.rules.specs.Find.{around, sound_around, locked_around, find_in, find}
use Rattle.rules.specs.Put.{lay_run, enlarged_from, add_at, put_in, put}
use Rattle.rules.specs.Build.{zeros, puts, too_many, build_in, build}
use Rattle.rules.specs.Listing.{list_in, listing}
use Rattle.rules.specs.Fill.{figure, fill}
use Rattle.rules.specs.Record.{home_place_of, busy, at_rest, fits_hand, fits_busy, fits, task_at, good_task}
use Rattle.rules.specs.Give.{given}
use Rattle.rules.specs.Phase as phase
use Rattle.rules.specs.Step.{of_phase, step_of, Lent, step}
use Rattle.rules.specs.Examples.{shape34, shape11, Row, table_of, evening}

-- 35 alone in a table of shape 3, 4
abbrev alone : List ℕ
alone = table_of (0 ∷ 0 ∷ 0 ∷ 0 ∷ 0x7005 ∷ 0 ∷ 0 ∷ 0 ∷ 0 ∷ 0 ∷ [])

abbrev lent : Leaves Lent → Lent
lent (leaves a l) = l

-- so many steps of a lone task
unfoldable pub stepped : ℕ → Lent → Lent
stepped zero l = l
stepped (suc n) l = stepped n (lent (step shape34 l.table l.tasks 0))

-- the answer in the record and the bytes, after so many steps of a lone task with a key, 35 in the table
unfoldable pub lone : ℕ → ℕ → Leaves (List ℕ)
lone key n =
    let l = stepped n (record { table = alone; tasks = given key ∷ [] }) in
    leaves (says (task_at l.tasks 0).answer) l.table

-- the phase in the record and the bytes, after one step of a task with 31 that is in a phase, its left 3 and its
-- right 5
unfoldable pub after : ℕ → List ℕ → Leaves (List ℕ)
after n ns =
    let t : Task = record { key = 0x31; phase = n; left = 3; right = 5; hand = 0; goal = 0; mark = 0; answer = 0 } in
    let l = stepped 1 (record { table = table_of ns; tasks = t ∷ [] }) in
    leaves (says (task_at l.tasks 0).phase) l.table

-- what list says of a table of shape 1, 1
abbrev shown : List ℕ → Leaves (List ℕ)
shown ns = listing shape11 (table_of ns) (7 ∷ 7 ∷ [])

abbrev unsound : Leaves (List ℕ)
unsound = leaves (refuses 6) (7 ∷ 7 ∷ [])

abbrev pub edges : List Row
edges =
    record { call = leaves (fill shape34 (table_of evening)) []; paper = leaves (says 400) [] }
    ∷ record { call = leaves (find shape34 (table_of evening) 0x80) []; paper = leaves (refuses 2) [] }
    ∷ record { call = shown (0x0000 ∷ 0x8000 ∷ 0x0000 ∷ 0x0000 ∷ []); paper = leaves (refuses 7) (7 ∷ 7 ∷ []) }
    ∷ record { call = shown (0x0000 ∷ 0x3000 ∷ 0x5001 ∷ []); paper = leaves (refuses 1) (7 ∷ 7 ∷ []) }
    -- one virgin bit and two change bits
    ∷ record { call = shown (0x0000 ∷ 0x7000 ∷ 0x5001 ∷ 0x0000 ∷ []); paper = unsound }
    -- as many of each, but the last word has no change bit
    ∷ record { call = shown (0x0000 ∷ 0x7000 ∷ 0x1001 ∷ 0x0000 ∷ []); paper = unsound }
    -- an occupied guard, whose word alone would be sound
    ∷ record { call = shown (0x7000 ∷ 0x0000 ∷ 0x0000 ∷ 0x0000 ∷ []); paper = unsound }
    ∷ record { call = shown (0x0000 ∷ 0x0000 ∷ 0x0000 ∷ 0x7000 ∷ []); paper = unsound }
    -- the paper's lone task: both ends locked, the left end filled, done
    ∷ record {
      call = lone 0x31 5;
      paper = leaves (says 0) (table_of (0 ∷ 0 ∷ 0 ∷ 0x8000 ∷ 0x7005 ∷ 0x8000 ∷ 0 ∷ 0 ∷ 0 ∷ 0 ∷ []));
    }
    ∷ record {
      call = lone 0x31 7;
      paper = leaves (says 0) (table_of (0 ∷ 0 ∷ 0 ∷ 0x9001 ∷ 0x7005 ∷ 0x8000 ∷ 0 ∷ 0 ∷ 0 ∷ 0 ∷ []));
    }
    ∷ record {
      call = lone 0x31 10;
      paper = leaves (says 2) (table_of (0 ∷ 0 ∷ 0 ∷ 0x1001 ∷ 0x7005 ∷ 0 ∷ 0 ∷ 0 ∷ 0 ∷ 0 ∷ []));
    }
    -- a left end that another task has locked is not taken: back to the home
    ∷ record {
      call = after 4 (0 ∷ 0 ∷ 0 ∷ 0x8000 ∷ 0x7005 ∷ 0 ∷ 0 ∷ 0 ∷ 0 ∷ 0 ∷ []);
      paper = leaves (says 1) (table_of (0 ∷ 0 ∷ 0 ∷ 0x8000 ∷ 0x7005 ∷ 0 ∷ 0 ∷ 0 ∷ 0 ∷ 0 ∷ []));
    }
    -- backing off leaves the left end unlocked
    ∷ record {
      call = after 6 (0 ∷ 0 ∷ 0 ∷ 0x8000 ∷ 0x7005 ∷ 0x8000 ∷ 0 ∷ 0 ∷ 0 ∷ 0 ∷ []);
      paper = leaves (says 1) (table_of (0 ∷ 0 ∷ 0 ∷ 0 ∷ 0x7005 ∷ 0x8000 ∷ 0 ∷ 0 ∷ 0 ∷ 0 ∷ []));
    }
    -- a new last key of the group: it moves past 35, virgin stays, and the old change bit goes
    ∷ record {
      call = lone 0x36 11;
      paper = leaves (says 2) (table_of (0 ∷ 0 ∷ 0 ∷ 0x1005 ∷ 0x7006 ∷ 0 ∷ 0 ∷ 0 ∷ 0 ∷ 0 ∷ []));
    }
    ∷ record {
      call = put shape34 alone 0x36;
      paper = leaves (says 2) (table_of (0 ∷ 0 ∷ 0 ∷ 0x1005 ∷ 0x7006 ∷ 0 ∷ 0 ∷ 0 ∷ 0 ∷ 0 ∷ []));
    }
    ∷ []

pub edges_hold : map (λ (row : Row). row.call) edges ≡ map (λ (row : Row). row.paper) edges
unfolding table_of count all any word_of number_of is_void is_zero is_lock words_of bytes_of in_range homes remainders keys
    places right_guard fits_length good_table place_of_home home_of_place home_of remainder_of split join same_home
    same_entry precedes occupied_places left_gap lead right_gap cluster ends_in_change rising sound_run virgin_places deal
    entries_between cluster_entries entry_at entries_from entries list sound_at sound_from guards_void sound locked
    which_end room_beside room_for holds insert ascend has_home ends_group lay around sound_around locked_around find_in find
    lay_run enlarged_from add_at put_in put zeros puts too_many build_in build at_front list_in listing figure fill
    home_place_of busy at_rest fits_hand fits_busy fits given good_task of_phase step_of step stepped lone after
    phase.home phase.look_left phase.look_right phase.lock_left phase.lock_right phase.back_off phase.read
    phase.fill_hand phase.move phase.readable smaller mark_of
    phase.read_entries phase.mark phase.free_left phase.free_right phase.moves_on phase.neighbour phase.exchange
    phase.set_change phase.set_virgin phase.marked
edges_hold = refl
