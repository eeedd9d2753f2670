-- The examples of document 01 that are marked P, as rows of one table, and the one claim that each call gives what
-- the paper says.
-- Assumes nothing.
use Rattle.std.specs.Prelude.{ℕ, ◌%◌, ◌/◌, ◌≡◌, refl, List, [], ◌∷◌, map, replicate}
use Rattle.rules.specs.declared.Shape.{Shape}
use Rattle.rules.specs.Lists.{count, all, any, at_front}
use Rattle.rules.specs.Word.{word_of, number_of, is_void}
use Rattle.rules.specs.Bytes.{words_of, bytes_of}
use Rattle.rules.specs.Shape.{shape_of, in_range, homes, remainders, keys, places, right_guard, fits_length}
use Rattle.rules.specs.Shape.{good_table}
use Rattle.rules.specs.Entry.{place_of_home, home_of_place, home_of, remainder_of, split, join, same_home, same_entry}
use Rattle.rules.specs.Entry.{precedes}
use Rattle.rules.specs.Table.{occupied_places, left_gap, lead, right_gap, cluster, ends_in_change, rising, sound_run}
use Rattle.rules.specs.Table.{virgin_places, deal, entries_between, cluster_entries, entry_at, entries_from, entries}
use Rattle.rules.specs.Table.{list, sound_at, sound_from, guards_void, sound, locked}
use Rattle.rules.specs.Room.{which_end, room_beside, room_for}
use Rattle.rules.specs.Lay.{holds, insert, ascend, has_home, ends_group, lay}
use Rattle.rules.specs.Answer.{says, refuses, Leaves, leaves}
use Rattle.rules.specs.Find.{around, sound_around, locked_around, find_in, find}
use Rattle.rules.specs.Put.{lay_run, enlarged_from, add_at, put_in, put}
use Rattle.rules.specs.Build.{zeros, puts, too_many, build_in, build}
use Rattle.rules.specs.Listing.{list_in, listing}

-- the two shapes of the examples
abbrev pub shape34 : Shape
shape34 = shape_of 3 4

abbrev pub shape11 : Shape
shape11 = shape_of 1 1

-- what a call gives by the definitions, and what the paper says
pub record Row : Type 0 where
  pub call : Leaves (List ℕ)
  pub paper : Leaves (List ℕ)

-- a table from its words as the paper writes them: the low byte comes first
unfoldable pub table_of : List ℕ → List ℕ
table_of [] = []
table_of (n ∷ ns) = n % 256 ∷ n / 256 ∷ table_of ns

-- a table full of ones, of some words: build ignores what the table held
abbrev stale : ℕ → List ℕ
stale n = table_of (replicate n 0xFFFF)

-- the two built tables that further rows start from
abbrev pub evening : List ℕ
evening = 0x0000 ∷ 0x0000 ∷ 0x1001 ∷ 0x1005 ∷ 0x7008 ∷ 0x700C ∷ 0x0000 ∷ 0x0000 ∷ 0x0000 ∷ 0x0000 ∷ []

abbrev smallest : List ℕ
smallest = 0x0000 ∷ 0x3000 ∷ 0x5001 ∷ 0x0000 ∷ []

abbrev pub rows : List Row
rows =
    record {
      call = build shape34 (stale 10) (0x35 ∷ 0x31 ∷ 0x4C ∷ 0x38 ∷ []);
      paper = leaves (says 0) (table_of evening);
    }
    ∷ record {
      call = build shape34 (stale 10) (0x38 ∷ 0x4C ∷ 0x31 ∷ 0x35 ∷ []);
      paper = leaves (says 0) (table_of evening);
    }
    ∷ record {
      call = listing shape34 (table_of evening) (7 ∷ 7 ∷ 7 ∷ 7 ∷ 7 ∷ []);
      paper = leaves (says 4) (0x31 ∷ 0x35 ∷ 0x38 ∷ 0x4C ∷ 7 ∷ []);
    }
    ∷ record { call = leaves (find shape34 (table_of evening) 0x34) []; paper = leaves (says 0) [] }
    ∷ record { call = leaves (find shape34 (table_of evening) 0x38) []; paper = leaves (says 1) [] }
    ∷ record {
      call = build shape34 (stale 10) (0x7F ∷ 0x7E ∷ []);
      paper = leaves (says 0) (table_of (0 ∷ 0 ∷ 0 ∷ 0 ∷ 0 ∷ 0 ∷ 0 ∷ 0x100E ∷ 0x700F ∷ 0 ∷ []));
    }
    ∷ record { call = build shape34 (stale 10) []; paper = leaves (says 0) (table_of (replicate 10 0)) }
    ∷ record { call = build shape11 (stale 4) (0 ∷ 1 ∷ []); paper = leaves (says 0) (table_of smallest) }
    ∷ record { call = put shape11 (table_of smallest) 2; paper = leaves (refuses 8) (table_of smallest) }
    ∷ record { call = put shape11 (table_of smallest) 1; paper = leaves (says 1) (table_of smallest) }
    ∷ record {
      call = build shape11 (stale 4) (3 ∷ 2 ∷ []);
      paper = leaves (says 0) (table_of (0x0000 ∷ 0x1000 ∷ 0x7001 ∷ 0x0000 ∷ []));
    }
    ∷ record {
      call = listing shape11 (table_of (0x0000 ∷ 0x3000 ∷ 0x5000 ∷ 0x0000 ∷ [])) (7 ∷ 7 ∷ []);
      paper = leaves (refuses 6) (7 ∷ 7 ∷ []);
    }
    ∷ record {
      call = listing shape11 (table_of (0x0000 ∷ 0x2000 ∷ 0x0000 ∷ 0x0000 ∷ [])) (7 ∷ 7 ∷ []);
      paper = leaves (refuses 6) (7 ∷ 7 ∷ []);
    }
    ∷ []

pub rows_hold : map (λ (row : Row). row.call) rows ≡ map (λ (row : Row). row.paper) rows
unfolding table_of count all any word_of number_of is_void words_of bytes_of in_range homes remainders keys places right_guard
    fits_length good_table place_of_home home_of_place home_of remainder_of split join same_home same_entry precedes
    occupied_places left_gap lead right_gap cluster ends_in_change rising sound_run virgin_places deal entries_between
    cluster_entries entry_at entries_from entries list sound_at sound_from guards_void sound locked which_end room_beside
    room_for holds insert ascend has_home ends_group lay around sound_around locked_around find_in find lay_run
    enlarged_from add_at put_in put zeros puts too_many build_in build at_front list_in listing
rows_hold = refl
