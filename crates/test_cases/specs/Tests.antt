-- Demand 2 computed over the small cases. Each test is a Boolean function, the demand's words above it; each theorem
-- says that every case passes. Those by-hand compare a call with ByHand, on sound and unsound tables alike.
-- Assumes nothing.
use Rattle.std.specs.Prelude.{ℕ, zero, suc, ◌+◌, ◌*◌, ◌^◌, ◌%◌, ◌≡◌, refl, Bool, true, false, not, cond, ◌&&◌, ◌||◌, ltb, leb, eqb, length, replicate, set}
use Rattle.std.specs.Bool.{beq}
use mathlib.Core.List.{List, [], ◌∷◌, ◌++◌, map, flat_map}
use Rattle.test_cases.specs.Tables.{in_bytes, Small, words_in, tables_over, small_tables, lists_over, sublists}
use Rattle.test_cases.specs.Tables.{plain_tables}
use Rattle.test_cases.specs.ByHand.{among, taken_among, sound_by_hand, keys_by_hand, find_by_hand, put_by_hand, list_by_hand}
use Rattle.test_cases.specs.ByHand.{fill_by_hand}
use Rattle.rules.specs.declared.Shape.{Shape}
use Rattle.rules.specs.Lists.{bit_of, count, all, any, at_front}
use Rattle.rules.specs.Word.{Word, word_of, number_of, is_void}
use Rattle.rules.specs.Bytes.{words_of, bytes_of}
use Rattle.rules.specs.Shape.{shape_of, in_range, homes, remainders, keys, places, right_guard, fits_length, good_table}
use Rattle.rules.specs.Entry.{place_of_home, home_of_place, home_of, remainder_of, split, join, same_home, same_entry, precedes}
use Rattle.rules.specs.Table.{occupied_places, left_gap, lead, right_gap, cluster, ends_in_change, rising, sound_run}
use Rattle.rules.specs.Table.{virgin_places, deal, entries_between, cluster_entries, entry_at, entries_from, entries, list}
use Rattle.rules.specs.Table.{sound_at, sound_from, guards_void, sound, locked}
use Rattle.rules.specs.Room.{Room, place, full, which_end, room_beside, room_for}
use Rattle.rules.specs.Lay.{holds, insert, ascend, has_home, ends_group, lay}
use Rattle.rules.specs.Answer.{Answer, says, refuses, Leaves, leaves}
use Rattle.rules.specs.Find.{around, sound_around, locked_around, find_in, find}
use Rattle.rules.specs.Put.{lay_run, enlarged_from, add_at, put_in, put}
use Rattle.rules.specs.Build.{zeros, puts, too_many, build_in, build}
use Rattle.rules.specs.Listing.{list_in, listing}
use Rattle.rules.specs.Fill.{figure, fill}

-- all that is shut, opened at once
unfoldable pub opened : Bool
unfolding count all any word_of number_of is_void words_of bytes_of in_range homes remainders keys places right_guard
    fits_length good_table place_of_home home_of_place home_of remainder_of split join same_home same_entry precedes
    occupied_places left_gap lead right_gap cluster ends_in_change rising sound_run virgin_places deal entries_between
    cluster_entries entry_at entries_from entries list sound_at sound_from guards_void sound locked which_end room_beside
    room_for holds insert ascend has_home ends_group lay around sound_around locked_around find_in find lay_run
    enlarged_from add_at put_in put zeros puts too_many build_in build at_front list_in listing figure fill
    flat_map tables_over small_tables lists_over sublists plain_tables
opened = true

-- ---- what the tests are made of

module _ {A : Type 0} where
  abbrev pub every : (A → Bool) → List A → Bool
  every f [] = true
  every f (x ∷ xs) = f x && every f xs

  abbrev pub those : (A → Bool) → List A → List A
  those f [] = []
  those f (x ∷ xs) = cond (f x) (x ∷ those f xs) (those f xs)

abbrev implies : Bool → Bool → Bool
implies a b = not a || b

abbrev pub same_list : List ℕ → List ℕ → Bool
same_list [] [] = true
same_list [] (n ∷ ns) = false
same_list (k ∷ ks) [] = false
same_list (k ∷ ks) (n ∷ ns) = eqb k n && same_list ks ns

abbrev same_places : List Bool → List Bool → Bool
same_places os qs = same_list (map bit_of os) (map bit_of qs)

abbrev same_answer : Answer → Answer → Bool
same_answer a b = eqb a.number b.number && eqb a.value b.value

abbrev same : Leaves (List ℕ) → Leaves (List ℕ) → Bool
same (leaves a ks) (leaves b ns) = same_answer a b && same_list ks ns

abbrev left : Leaves (List ℕ) → List ℕ
left (leaves a ns) = ns

abbrev pub up_to : ℕ → List ℕ
up_to zero = []
up_to (suc n) = up_to n ++ n ∷ []

-- the keys of a shape, and the distinct ones of some keys, ascending
abbrev pub all_keys : Shape → List ℕ
all_keys sh = up_to (2 ^ (sh.m + sh.r))

abbrev distinct : Shape → List ℕ → List ℕ
distinct sh ks = those (λ (k : ℕ). among k ks) (all_keys sh)

-- a table given by its words as numbers: as the rules see it, whether it is sound, and sound and unlocked
abbrev pub table_of : List ℕ → List Word
table_of ns = words_of (in_bytes ns)

abbrev list_of : Shape → List ℕ → List ℕ
list_of sh ns = list sh (table_of ns)

abbrev pub is_sound : Shape → List ℕ → Bool
is_sound sh ns = sound sh (table_of ns)

abbrev pub is_open : Shape → List ℕ → Bool
is_open sh ns = is_sound sh ns && not (locked (table_of ns))

-- the two shapes and their tables
abbrev pub small : Shape
small = shape_of 1 1

abbrev pub plain : Shape
plain = shape_of 2 1

abbrev pub small_words : List (List ℕ)
small_words = map words_in small_tables

-- ---- "Bits of a word: 0 to 11 remainder, 12 occupied, 13 virgin, 14 change, 15 lock"

abbrev has_fields : ℕ → ℕ → List ℕ → Bool
has_fields n x bits =
    eqb (word_of n).remainder x
    && same_list
    (map bit_of ((word_of n).occupied ∷ (word_of n).virgin ∷ (word_of n).change ∷ (word_of n).lock ∷ []))
    bits
    && eqb (number_of (word_of n)) n

abbrev bits_of_word : Bool
bits_of_word =
    every (λ (k : ℕ). has_fields (2 ^ k) (2 ^ k) (0 ∷ 0 ∷ 0 ∷ 0 ∷ [])) (up_to 12)
    && has_fields 0x1FFF 0x0FFF (1 ∷ 0 ∷ 0 ∷ 0 ∷ [])
    && has_fields 0x2000 0x0000 (0 ∷ 1 ∷ 0 ∷ 0 ∷ [])
    && has_fields 0x4FFF 0x0FFF (0 ∷ 0 ∷ 1 ∷ 0 ∷ [])
    && has_fields 0x8000 0x0000 (0 ∷ 0 ∷ 0 ∷ 1 ∷ [])
    && has_fields 0xFFFF 0x0FFF (1 ∷ 1 ∷ 1 ∷ 1 ∷ [])

pub bits_of_word_lem : bits_of_word ≡ true
unfolding opened
bits_of_word_lem = refl

-- ---- shape (1, 1) against ByHand

abbrev sound_as_by_hand : Small → Bool
sound_as_by_hand t =
    beq (is_sound small (words_in t)) (sound_by_hand t)
    && implies (sound_by_hand t) (same_list (list_of small (words_in t)) (keys_by_hand t))

pub sound_by_hand_lem : every sound_as_by_hand small_tables ≡ true
unfolding opened
sound_by_hand_lem = refl

-- into none, one, two and three slots
abbrev list_as_by_hand : Small → Bool
list_as_by_hand t =
    every
    (λ (slots : List ℕ). same (listing small (in_bytes (words_in t)) slots) (list_by_hand t slots))
    ([] ∷ (9 ∷ []) ∷ (9 ∷ 8 ∷ []) ∷ (9 ∷ 8 ∷ 7 ∷ []) ∷ [])

pub list_by_hand_lem : every list_as_by_hand small_tables ≡ true
unfolding opened
list_by_hand_lem = refl

abbrev find_as_by_hand : Small → Bool
find_as_by_hand t =
    every
    (λ (key : ℕ). same_answer (find small (in_bytes (words_in t)) key) (find_by_hand t key))
    (all_keys small)

pub find_by_hand_lem : every find_as_by_hand small_tables ≡ true
unfolding opened
find_by_hand_lem = refl

abbrev put_as_by_hand : Small → Bool
put_as_by_hand t =
    every (λ (key : ℕ). same (put small (in_bytes (words_in t)) key) (put_by_hand t key)) (all_keys small)

pub put_by_hand_lem : every put_as_by_hand small_tables ≡ true
unfolding opened
put_by_hand_lem = refl

abbrev fill_as_by_hand : Small → Bool
fill_as_by_hand t = same_answer (fill small (in_bytes (words_in t))) (fill_by_hand t)

pub fill_by_hand_lem : every fill_as_by_hand small_tables ≡ true
unfolding opened
fill_by_hand_lem = refl

-- ---- "A sound table shows one ascending list of keys"

abbrev ascends_within : ℕ → ℕ → List ℕ → Bool
ascends_within low high [] = true
ascends_within low high (k ∷ ks) = leb low k && ltb k high && ascends_within (suc k) high ks

abbrev list_ascends : Shape → List ℕ → Bool
list_ascends sh ns = ascends_within 0 (2 ^ (sh.m + sh.r)) (list_of sh ns)

pub list_ascends_lem : every (list_ascends small) (those (is_sound small) small_words) ≡ true
unfolding opened
list_ascends_lem = refl

-- soundness and the list are the same without the lock bits
abbrev locks_aside : Shape → List ℕ → Bool
locks_aside sh ns =
    beq (is_sound sh ns) (is_sound sh (map (λ (n : ℕ). n % 0x8000) ns))
    && same_list (list_of sh ns) (list_of sh (map (λ (n : ℕ). n % 0x8000) ns))

pub locks_aside_lem : every (locks_aside small) small_words ≡ true
unfolding opened
locks_aside_lem = refl

-- ---- "and no other sound unlocked table with the same places occupied shows that list"

abbrev unless_other : Shape → List ℕ → List ℕ → Bool
unless_other sh ns vs =
    implies
    (same_places (occupied_places (table_of ns)) (occupied_places (table_of vs)) && same_list (list_of sh ns) (list_of sh vs))
    (same_list ns vs)

abbrev no_other : Shape → List (List ℕ) → Bool
no_other sh tables = every (λ (ns : List ℕ). every (unless_other sh ns) tables) tables

pub no_other_small : no_other small (those (is_open small) small_words) ≡ true
unfolding opened
no_other_small = refl

-- ---- "Find on a sound unlocked table says present exactly for listed keys"

abbrev finds_listed : Shape → List ℕ → Bool
finds_listed sh ns =
    every
    (λ (key : ℕ). same_answer (find sh (in_bytes ns) key) (says (bit_of (among key (list_of sh ns)))))
    (all_keys sh)

pub find_small : every (finds_listed small) (those (is_open small) small_words) ≡ true
unfolding opened
find_small = refl

-- ---- "Put finds a listed key, says full exactly when the key is absent and every place but the guards is occupied,
-- and otherwise adds its key alone, at the place the rules name"

abbrev with_key : ℕ → List ℕ → List ℕ
with_key key [] = key ∷ []
with_key key (k ∷ ks) = cond (ltb key k) (key ∷ k ∷ ks) (k ∷ with_key key ks)

abbrev with_place : Room → List Bool → List Bool
with_place (place p) os = set os p true
with_place full os = []

abbrev adds : Shape → List ℕ → ℕ → Leaves (List ℕ) → Bool
adds sh ns key (leaves a bytes) =
    same_answer a (says 2)
    && sound sh (words_of bytes)
    && not (locked (words_of bytes))
    && same_list (list sh (words_of bytes)) (with_key key (list_of sh ns))
    && same_places
    (occupied_places (words_of bytes))
    (with_place (room_for sh (occupied_places (table_of ns)) (split sh key).home_place) (occupied_places (table_of ns)))

abbrev put_as_demanded : Shape → List ℕ → ℕ → Leaves (List ℕ) → Bool
put_as_demanded sh ns key result =
    cond (among key (list_of sh ns))
    (same result (leaves (says 1) (in_bytes ns)))
    (cond (eqb (taken_among ns) (2 ^ sh.m))
    (same result (leaves (refuses 8) (in_bytes ns)))
    (adds sh ns key result))

abbrev puts_as_demanded : Shape → List ℕ → Bool
puts_as_demanded sh ns =
    every (λ (key : ℕ). put_as_demanded sh ns key (put sh (in_bytes ns) key)) (all_keys sh)

pub put_small : every (puts_as_demanded small) (those (is_open small) small_words) ≡ true
unfolding opened
put_small = refl

-- ---- two puts in either order, where the table's keys and the two are at most 2^m

abbrev after : Shape → List ℕ → ℕ → List ℕ
after sh bytes key = left (put sh bytes key)

abbrev either_order : Shape → List ℕ → ℕ → ℕ → Bool
either_order sh ns j k =
    implies
    (leb (length (distinct sh (j ∷ k ∷ list_of sh ns))) (2 ^ sh.m))
    (same_list (after sh (after sh (in_bytes ns) j) k) (after sh (after sh (in_bytes ns) k) j))

abbrev puts_commute : Shape → List ℕ → Bool
puts_commute sh ns = every (λ (j : ℕ). every (either_order sh ns j) (up_to j)) (all_keys sh)

pub puts_commute_small : every (puts_commute small) (those (is_open small) small_words) ≡ true
unfolding opened
puts_commute_small = refl

-- ---- "Building, listing and building again gives the same bytes", and the bytes depend on the distinct keys alone

abbrev size : Shape → ℕ
size sh = 2 * (2 ^ sh.m + 2)

abbrev build_over : Shape → List ℕ → Leaves (List ℕ)
build_over sh ks = build sh (replicate (size sh) 0xFF) ks

abbrev lists_and_builds : Shape → List ℕ → Leaves (List ℕ) → Bool
lists_and_builds sh ds (leaves a bytes) =
    same_answer a (says 0)
    && same (listing sh bytes (replicate (length ds) 0)) (leaves (says (length ds)) ds)
    && same (build_over sh ds) (leaves (says 0) bytes)

abbrev builds_again : Shape → List ℕ → Bool
builds_again sh ks =
    cond (leb (length (distinct sh ks)) (2 ^ sh.m))
    (lists_and_builds sh (distinct sh ks) (build_over sh ks))
    (same (build_over sh ks) (leaves (refuses 8) (replicate (size sh) 0)))

pub build_small : every (builds_again small) (flat_map (lists_over (all_keys small)) (up_to 5)) ≡ true
unfolding opened
build_small = refl

-- ---- "A refusal returns its number .. nothing lent changes": 1 and 2

-- a shape, and how many bytes are lent
record Call : Type 0 where
  shape : Shape
  size : ℕ

abbrev lent : ℕ → ℕ → ℕ → Call
lent m r n = record { shape = shape_of m r; size = n }

-- m and r out of range on either side, and lengths that are not 2 × (2^m + 2)
abbrev badly_lent : List Call
badly_lent =
    lent 0 1 6 ∷ lent 21 1 8 ∷ lent 1 0 8 ∷ lent 1 13 8 ∷ lent 1 1 0 ∷ lent 1 1 6 ∷ lent 1 1 7 ∷ lent 1 1 9
    ∷ lent 1 1 10 ∷ lent 2 1 8 ∷ []

-- every call, with a key in range and with one that is not: 1 goes before 2, and before 6 on a table full of ones
abbrev refuses1 : Shape → List ℕ → ℕ → Bool
refuses1 sh bytes key =
    same_answer (find sh bytes key) (refuses 1)
    && same (put sh bytes key) (leaves (refuses 1) bytes)
    && same (build sh bytes (key ∷ [])) (leaves (refuses 1) bytes)
    && same (listing sh bytes (9 ∷ [])) (leaves (refuses 1) (9 ∷ []))
    && same_answer (fill sh bytes) (refuses 1)

abbrev refuses_badly_lent : Call → Bool
refuses_badly_lent l =
    every
    (refuses1 l.shape (replicate l.size 0xFF))
    (0 ∷ 2 ^ (l.shape.m + l.shape.r) ∷ [])

pub refuses_1 : every refuses_badly_lent badly_lent ≡ true
unfolding opened
refuses_1 = refl

-- the least and the largest m and r are not refused, and the next m is, whatever the length
abbrev good_lent : Call → Bool
good_lent l = good_table l.shape l.size

abbrev well_lent : List Call
well_lent = lent 1 1 8 ∷ lent 1 12 8 ∷ lent 20 1 2097156 ∷ lent 20 12 2097156 ∷ []

pub largest_good : (every good_lent well_lent && not (good_lent (lent 21 1 4194308))) ≡ true
unfolding opened
largest_good = refl

-- a key of 2^w or more, the first or the second of those built, on any table
abbrev refuses2 : Small → Bool
refuses2 t =
    every
    (λ (key : ℕ).
    same_answer (find small (in_bytes (words_in t)) key) (refuses 2)
    && same (put small (in_bytes (words_in t)) key) (leaves (refuses 2) (in_bytes (words_in t)))
    && same (build small (in_bytes (words_in t)) (key ∷ 0 ∷ [])) (leaves (refuses 2) (in_bytes (words_in t)))
    && same (build small (in_bytes (words_in t)) (0 ∷ key ∷ [])) (leaves (refuses 2) (in_bytes (words_in t))))
    (4 ∷ 8 ∷ [])

pub refuses_2 : every refuses2 small_tables ≡ true
unfolding opened
refuses_2 = refl

-- ---- the same for every sound plain table of shape (2, 1)

-- a sound unlocked table is what laying its keys over its occupied places gives, so no other is like it
abbrev laid_again : List ℕ → Bool
laid_again ns =
    same_list (in_bytes ns) (bytes_of (lay (entries (table_of ns)) 0 (occupied_places (table_of ns)) (entries (table_of ns))))

abbrev as_demanded : Shape → List ℕ → Bool
as_demanded sh ns = list_ascends sh ns && laid_again ns && finds_listed sh ns && puts_as_demanded sh ns

-- and there are so many
abbrev all_of : ℕ → List (List ℕ) → Bool
all_of n tables = eqb (length tables) n && every (as_demanded plain) tables

-- 173: a cluster of n places shows any n of its 2n keys, 2, 6, 20 or 70 ways, over all sets of occupied places
pub plain_as_demanded : all_of 173 (those (is_open plain) plain_tables) ≡ true
unfolding opened
plain_as_demanded = refl

-- with more than two keys in the table, one of the two put is there already
abbrev has_room_for_two : List ℕ → Bool
has_room_for_two ns = leb (taken_among ns) 2

pub puts_commute_plain :
    every (puts_commute plain) (those (λ (ns : List ℕ). has_room_for_two ns && is_open plain ns) plain_tables) ≡ true
unfolding opened
puts_commute_plain = refl

-- every set of keys, in an order that does not ascend
pub build_plain : every (builds_again plain) (sublists (6 ∷ 1 ∷ 4 ∷ 7 ∷ 0 ∷ 3 ∷ 2 ∷ 5 ∷ [])) ≡ true
unfolding opened
build_plain = refl
