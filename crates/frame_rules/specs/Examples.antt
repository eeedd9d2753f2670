-- Document 01's example of the frame program, and small inputs worked out from its text, as rows of one table, and the
-- one claim that the definitions print what the paper says: the whole output of each input. `first_lines`,
-- `table_lines`: a first line and a table's line, read by themselves.
-- Assumes nothing.
use Rattle.std.specs.Prelude.{ℕ, ◌≡◌, refl, true, false, List, [], ◌∷◌, map, replicate, None, Some}
use Prim.Native.Char.{code}
use Prim.Native.String as string
use Prim.Native.String.{String}
use Rattle.rules.specs.Lists.{count, all, any}
use Rattle.rules.specs.Word.{word_of, number_of, is_void, is_zero, is_lock}
use Rattle.rules.specs.Bytes.{words_of, bytes_of}
use Rattle.rules.specs.Shape.{shape_of, in_range, homes, remainders, keys, places, right_guard, fits_length, good_table}
use Rattle.rules.specs.Entry.{place_of_home, home_of_place, home_of, remainder_of, split, same_home, same_entry, precedes}
use Rattle.rules.specs.Table.{ends_in_change, rising, sound_run, virgin_places, deal, entries_between, guards_void}
use Rattle.rules.specs.Room.{which_end}
use Rattle.rules.specs.Lay.{holds, smaller, mark_of}
use Rattle.rules.specs.Record.{home_place_of, busy, at_rest, fits_hand, fits_busy, fits, good_task}
use Rattle.rules.specs.Phase.{home, look_left, look_right, lock_left, lock_right, back_off, readable, read_entries, read}
use Rattle.rules.specs.Phase.{moves_on, fill_hand, neighbour, exchange, move, set_change, set_virgin, marked, mark}
use Rattle.rules.specs.Phase.{free_left, free_right}
use Rattle.rules.specs.Step.{of_phase, step_of, step}
use Rattle.rules.specs.Give.{given, give_to, give}
use Rattle.frame_rules.specs.Digits.{is_digit, worth, number_after, number, glyph, digits_of, word_digits}
use Rattle.frame_rules.specs.Lines.{lines_after, lines_of, first_of, shape_in_limits, tasks_in_limits, in_limits, first}
use Rattle.frame_rules.specs.Lines.{good_first, read_first, first_keys, keys_of, good_line}
use Rattle.frame_rules.specs.TableLine.{good_table_line, first_words, table_of_line, TableRead, table_read, read_table}
use Rattle.frame_rules.specs.Rounds.{start, turn, turns, round, all_answered, rounds, limit, play}
use Rattle.frame_rules.specs.Frame.{dawn, used, first_line, played_line, frame_line, line_in, at_end, output_from}
use Rattle.frame_rules.specs.Frame.{output}

-- a text's bytes
abbrev pub bytes : String → List ℕ
bytes string.[] = []
bytes (string.◌∷◌ c cs) = code c ∷ bytes cs

pub record Row : Type 0 where
  pub input : List ℕ
  pub paper : List ℕ

-- an input's text, and the text that the paper has printed for it
abbrev row : String → String → Row
row input paper = record { input = bytes input; paper = bytes paper }

abbrev pub rows : List Row
rows =
    -- document 01's example
    row
    "030402\n0000003500000031\n0000004C0000003800000035\n"
    "0202\n020201\n00000000100110057008700C0000000000000000\n"
    -- a full table, and a key found in it
    ∷ row "010101\n00000000000000010000000200000001\n" "02020301\n0000300050010000\n"
    -- the answers stand in key order: key 3 is answered first, while key 0 takes eight steps to be found
    ∷ row "010102\n00000000\n0000000000000003\n" "02\n0102\n0000700070010000\n"
    -- a turn takes a key or makes a step, not both: else key 2 would be put and key 1 find the table full
    ∷ row "010103\n0000000000000000000000010000000000000002\n" "0201020103\n0000300050010000\n"
    -- 101 rounds: the limit of 98 is for each key
    ∷ row
    "010101\n000000000000000000000000000000000000000000000000000000000000000000000000000000000000000000000000\n"
    "020101010101010101010101\n0000700000000000\n"
    -- every digit, in either letter case; capitals are printed
    ∷ row
    "030c01\n0000012300001456000027890000300A00004BCD00005EFa00006bcd00007ef0\n"
    "0202020202020202\n0000712374567789700A7BCD7EFA7BCD7EF00000\n"
    -- the characters beside the digits
    ∷ row
    "010101\n0000000/\n0000000:\n0000000@\n0000000G\n0000000`\n0000000g\n"
    "EE\nEE\nEE\nEE\nEE\nEE\n0000000000000000\n"
    -- the last line may lack its line feed
    ∷ row "010101\n00000000" "02\n0000700000000000\n"
    ∷ row "010101" "0000000000000000\n"
    -- an empty line gives an empty line; behind the last line feed there is none
    ∷ row "010101\n\n00000003\n\n" "\n02\n\n0000000070010000\n"
    -- passed over: a carriage return, a length that is no multiple of 8, a key out of range
    ∷ row "010101\n00000000\r\n00000001\n" "EE\n02\n0000700100000000\n"
    ∷ row "010101\n0000000\n000000000\n" "EE\nEE\n0000000000000000\n"
    ∷ row "010101\n00000004\n0000000000000004\n" "EE\nEE\n0000000000000000\n"
    -- a missing first line, and bad ones: the run has ended
    ∷ row "" "EE\n"
    ∷ row "\n010101\n" "EE\n"
    ∷ row "01010\n010101\n" "EE\n"
    ∷ row "0101010\n00000000\n" "EE\n"
    ∷ row "01010G\n00000000\n" "EE\n"
    ∷ row "010101\r\n00000000\n" "EE\n"
    -- m 1 to 14, r 1 to 12, 1 to 16 tasks
    ∷ row "000101\n00000000\n" "EE\n"
    ∷ row "0F0101\n00000000\n" "EE\n"
    ∷ row "010001\n00000000\n" "EE\n"
    ∷ row "010D01\n00000000\n" "EE\n"
    ∷ row "010100\n00000000\n" "EE\n"
    ∷ row "010111\n00000000\n" "EE\n"
    ∷ row "010C10\n00001FFF\n" "02\n000000007FFF0000\n"
    ∷ []

pub rows_hold : map (λ (r : Row). output r.input) rows ≡ map (λ (r : Row). r.paper) rows
unfolding count all any word_of number_of is_void is_zero is_lock words_of bytes_of in_range homes remainders keys places
    right_guard fits_length good_table place_of_home home_of_place home_of remainder_of split same_home same_entry precedes
    ends_in_change rising sound_run virgin_places deal entries_between guards_void holds home_place_of busy at_rest fits_hand
    fits_busy fits home look_left look_right lock_left lock_right back_off readable smaller mark_of which_end
    read_entries read moves_on fill_hand neighbour exchange move set_change set_virgin marked mark free_left free_right
    of_phase step_of step given good_task give_to give is_digit worth number_after number glyph digits_of word_digits
    lines_after lines_of first_of shape_in_limits tasks_in_limits in_limits good_first first_keys keys_of good_line start turn
    turns round all_answered rounds limit play dawn used first_line played_line frame_line line_in at_end output_from output
rows_hold = refl

-- first lines, read by themselves
pub first_lines :
    map (λ (text : String). read_first (bytes text)) ("030402" ∷ "0e0C10" ∷ "0F0C10" ∷ "0304020" ∷ "03040G" ∷ "" ∷ [])
    ≡ Some (first 3 4 2) ∷ Some (first 14 12 16) ∷ None ∷ None ∷ None ∷ None ∷ []
unfolding all is_digit worth number_after number first_of shape_in_limits tasks_in_limits in_limits good_first read_first
first_lines = refl

-- a table's line, shape 1, 1, read over n bytes of 1; and what a bad line leaves of them
abbrev read_over : ℕ → String → TableRead
read_over n text = read_table (shape_of 1 1) (bytes text) (replicate n 1)

abbrev unread : ℕ → TableRead
unread n = table_read false (replicate n 1)

-- either letter case; a digit too few, one too many, no digit; and tables of another length
pub table_lines :
    read_over 8 "00001aBc7001FFFF"
    ∷ read_over 8 "00001aBc7001FFF"
    ∷ read_over 8 "00001aBc7001FFFF0"
    ∷ read_over 8 "00001aBc7001FFFG"
    ∷ read_over 10 "00001aBc7001FFFF"
    ∷ read_over 6 "00001aBc7001"
    ∷ []
    ≡ table_read true (0 ∷ 0 ∷ 188 ∷ 26 ∷ 1 ∷ 112 ∷ 255 ∷ 255 ∷ [])
    ∷ unread 8
    ∷ unread 8
    ∷ unread 8
    ∷ unread 10
    ∷ unread 6
    ∷ []
unfolding all in_range homes places fits_length good_table is_digit worth number_after number first_words table_of_line
    good_table_line read_table
table_lines = refl

-- 512 keys are a line, and 513 are not (a run of 512 keys is too long to compute here)
pub longest_line : map (λ (n : ℕ). good_line (shape_of 1 1) (replicate n 48)) (4096 ∷ 4104 ∷ []) ≡ true ∷ false ∷ []
unfolding all keys is_digit worth number_after number first_keys keys_of good_line
longest_line = refl
