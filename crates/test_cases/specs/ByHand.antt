-- Shape (1, 1) worked out by hand from document 01, without the definitions of the crate rules: what each call answers
-- and leaves on any four words. Keys 0 and 1 have their home at the first place, keys 2 and 3 at the second.
-- Assumes nothing.
use Rattle.std.specs.Prelude.{ℕ, ◌+◌, ◌*◌, ◌/◌, ◌%◌, Bool, false, cond, ◌&&◌, ◌||◌, List, [], ◌∷◌, ◌++◌, length, drop, leb, ltb, eqb}
use Rattle.test_cases.specs.Tables.{Small, words_in, in_bytes}
use Rattle.rules.specs.Answer.{Answer, says, refuses, Leaves, leaves}

-- a word without its lock bit; the lock bit; the occupied bit
abbrev bare : ℕ → ℕ
bare n = n % 0x8000

abbrev is_locked : ℕ → Bool
is_locked n = leb 0x8000 n

abbrev taken : ℕ → Bool
taken n = eqb (n / 0x1000 % 2) 1

abbrev any_locked : List ℕ → Bool
any_locked [] = false
any_locked (n ∷ ns) = is_locked n || any_locked ns

abbrev pub among : ℕ → List ℕ → Bool
among k [] = false
among k (n ∷ ns) = eqb k n || among k ns

-- the two words between the guards, lock bits aside, and the keys that they show
record Shown : Type 0 where
  first : ℕ
  second : ℕ
  shows : List ℕ

abbrev shown : ℕ → ℕ → List ℕ → Shown
shown a b ks = record { first = a; second = b; shows = ks }

-- all that are sound: no key, one key at home, one group of two at either home, two groups of one
abbrev sound_ones : List Shown
sound_ones =
    shown 0x0000 0x0000 []
    ∷ shown 0x7000 0x0000 (0 ∷ [])
    ∷ shown 0x7001 0x0000 (1 ∷ [])
    ∷ shown 0x0000 0x7000 (2 ∷ [])
    ∷ shown 0x0000 0x7001 (3 ∷ [])
    ∷ shown 0x3000 0x5001 (0 ∷ 1 ∷ [])
    ∷ shown 0x1000 0x7001 (2 ∷ 3 ∷ [])
    ∷ shown 0x7000 0x7000 (0 ∷ 2 ∷ [])
    ∷ shown 0x7000 0x7001 (0 ∷ 3 ∷ [])
    ∷ shown 0x7001 0x7000 (1 ∷ 2 ∷ [])
    ∷ shown 0x7001 0x7001 (1 ∷ 3 ∷ [])
    ∷ []

abbrev is_shown : ℕ → ℕ → List Shown → Bool
is_shown a b [] = false
is_shown a b (s ∷ ss) = eqb s.first a && eqb s.second b || is_shown a b ss

abbrev keys_among : ℕ → ℕ → List Shown → List ℕ
keys_among a b [] = []
keys_among a b (s ∷ ss) = cond (eqb s.first a && eqb s.second b) s.shows (keys_among a b ss)

abbrev pair_sound : ℕ → ℕ → Bool
pair_sound a b = is_shown (bare a) (bare b) sound_ones

abbrev guards_free : Small → Bool
guards_free t = eqb (bare t.left_guard) 0 && eqb (bare t.right_guard) 0

abbrev pub sound_by_hand : Small → Bool
sound_by_hand t = guards_free t && pair_sound t.first t.second

-- the keys that a sound table shows
abbrev pub keys_by_hand : Small → List ℕ
keys_by_hand t = keys_among (bare t.first) (bare t.second) sound_ones

-- find and put: 6, 7, or 0 where neither is due, once the guards are free
abbrev judged : Bool → List ℕ → ℕ
judged fine ns = cond fine (cond (any_locked ns) 7 0) 6

-- the home's word, the guard beside it, and the other place's word with the guard beyond it
abbrev judged_at : Bool → ℕ → ℕ → ℕ → ℕ → ℕ
judged_at fine near home_at other far =
    cond (taken home_at)
    (cond (taken other)
    (judged fine (near ∷ home_at ∷ other ∷ far ∷ []))
    (judged (eqb (bare other) 0 && among (bare home_at) (0x7000 ∷ 0x7001 ∷ [])) (near ∷ home_at ∷ other ∷ [])))
    (judged (eqb (bare home_at) 0) (home_at ∷ []))

abbrev at_first : ℕ → Bool
at_first key = ltb key 2

abbrev refused_at : Small → ℕ → ℕ
refused_at t key =
    cond (guards_free t)
    (cond (at_first key)
    (judged_at (pair_sound t.first t.second) t.left_guard t.first t.second t.right_guard)
    (judged_at (pair_sound t.first t.second) t.right_guard t.second t.first t.left_guard))
    6

-- what is answered where nothing is refused: 0 absent with room, 1 present, 8 absent and both places occupied
abbrev stands_at : Small → ℕ → ℕ → ℕ → ℕ
stands_at t key home_at other =
    cond (taken home_at)
    (cond (taken other)
    (cond (among key (keys_by_hand t)) 1 8)
    (cond (eqb (bare home_at) (0x7000 + key % 2)) 1 0))
    0

abbrev stands : Small → ℕ → ℕ
stands t key = cond (at_first key) (stands_at t key t.first t.second) (stands_at t key t.second t.first)

abbrev or_refused : ℕ → Answer → Answer
or_refused n a = cond (eqb n 0) a (refuses n)

abbrev pub find_by_hand : Small → ℕ → Answer
find_by_hand t key = or_refused (refused_at t key) (says (cond (eqb (stands t key) 1) 1 0))

-- where there is room: an empty home takes the key; else a group of two goes over both places, the filled one being
-- left of the second or, since the left guard is met, right of the first
abbrev filled : Small → ℕ → List ℕ
filled t key =
    cond (at_first key)
    (cond (taken t.first)
    (t.left_guard ∷ 0x3000 ∷ 0x5001 ∷ t.right_guard ∷ [])
    (t.left_guard ∷ (0x7000 + key % 2) ∷ t.second ∷ t.right_guard ∷ []))
    (cond (taken t.second)
    (t.left_guard ∷ 0x1000 ∷ 0x7001 ∷ t.right_guard ∷ [])
    (t.left_guard ∷ t.first ∷ (0x7000 + key % 2) ∷ t.right_guard ∷ []))

abbrev put_standing : Small → ℕ → ℕ → Leaves (List ℕ)
put_standing t key n =
    cond (eqb n 0)
    (leaves (says 2) (in_bytes (filled t key)))
    (leaves (cond (eqb n 1) (says 1) (refuses 8)) (in_bytes (words_in t)))

abbrev pub put_by_hand : Small → ℕ → Leaves (List ℕ)
put_by_hand t key =
    cond (eqb (refused_at t key) 0)
    (put_standing t key (stands t key))
    (leaves (refuses (refused_at t key)) (in_bytes (words_in t)))

-- list, into some slots
abbrev pub list_by_hand : Small → List ℕ → Leaves (List ℕ)
list_by_hand t slots =
    cond (sound_by_hand t)
    (cond (any_locked (words_in t))
    (leaves (refuses 7) slots)
    (cond (leb (length (keys_by_hand t)) (length slots))
    (leaves (says (length (keys_by_hand t))) (keys_by_hand t ++ drop (length (keys_by_hand t)) slots))
    (leaves (refuses 9) slots)))
    (leaves (refuses 6) slots)

-- the fill figure: a thousand over four words, for each that is occupied
abbrev pub taken_among : List ℕ → ℕ
taken_among [] = 0
taken_among (n ∷ ns) = cond (taken n) 1 0 + taken_among ns

abbrev pub fill_by_hand : Small → Answer
fill_by_hand t = says (250 * taken_among (words_in t))
