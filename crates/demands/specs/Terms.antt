-- The terms in which Demand2 speaks: sound and plain tables in lent bytes, their list, keys in range, how many are
-- distinct, puts one by one, and what a put that adds and a build that is accepted leave. (`listed`, `Ascending`: the
-- theory's Keys.)
-- Assumes nothing.
use Rattle.std.specs.Prelude.{ℕ, ◌<◌, ◌≡◌, true, false, ◌||◌, List, [], ◌∷◌, map, length, get_or, set, eqb, ltb}
use Rattle.rules.specs.declared.Shape.{Shape}
use Rattle.rules.specs.Lists.{all}
use Rattle.rules.specs.Bytes.{words_of}
use Rattle.rules.specs.Shape.{keys, good_table}
use Rattle.rules.specs.Entry.{Entry, split, join}
use Rattle.rules.specs.Table.{occupied_places, list, sound, locked}
use Rattle.rules.specs.Room.{place, room_for}
use Rattle.rules.specs.Lay.{ascend}
use Rattle.rules.specs.Answer.{says, Leaves, leaves}
use Rattle.rules.specs.Put.{put}
use Rattle.rules.specs.Build.{build}
use Rattle.theory.specs.Keys.{listed}

-- lent bytes that are a sound table of a shape
pub record SoundTable (sh : Shape) (bytes : List ℕ) : Type 0 where
  pub good : good_table sh (length bytes) ≡ true
  pub small : (i : ℕ) → get_or bytes i 0 < 256
  pub sound_words : sound sh (words_of bytes) ≡ true

-- sound, and without a lock
pub record PlainTable (sh : Shape) (bytes : List ℕ) : Type 0 where
  pub whole : SoundTable sh bytes
  pub unlocked : locked (words_of bytes) ≡ false

-- the list that it shows
abbrev pub list_of : Shape → List ℕ → List ℕ
list_of sh bytes = list sh (words_of bytes)

-- keys in range
abbrev pub InKeys : Shape → List ℕ → Type 0
InKeys sh ks = all (λ (key : ℕ). ltb key (keys sh)) ks ≡ true

abbrev pub entries_of : Shape → List ℕ → List Entry
entries_of sh ks = map (split sh) ks

-- how many distinct keys there are
unfoldable pub distinct : Shape → List ℕ → ℕ
distinct sh ks = length (ascend (entries_of sh ks))

-- what a call leaves of what it was lent
abbrev pub left_by : {A : Type 0} → Leaves A → A
left_by (leaves a x) = x

-- puts one by one
unfoldable pub put_all : Shape → List ℕ → List ℕ → List ℕ
put_all sh bytes [] = bytes
put_all sh bytes (key ∷ ks) = put_all sh (left_by (put sh bytes key)) ks

-- a put that adds: where, what it answers, and what it leaves
pub record Adds (sh : Shape) (bytes : List ℕ) (key : ℕ) : Type 0 where
  pub after : List ℕ
  pub filled : ℕ
  pub named : room_for sh (occupied_places (words_of bytes)) (split sh key).home_place ≡ place filled
  pub answer : put sh bytes key ≡ leaves (says 2) after
  pub table : PlainTable sh after
  pub places_after : occupied_places (words_of after) ≡ set (occupied_places (words_of bytes)) filled true
  pub listed_after :
      (x : ℕ) → x < keys sh → listed x (list_of sh after) ≡ (eqb x key || listed x (list_of sh bytes))

-- a build that is accepted
pub record Builds (sh : Shape) (bytes ks : List ℕ) : Type 0 where
  pub after : List ℕ
  pub answer : build sh bytes ks ≡ leaves (says 0) after
  pub table : PlainTable sh after
  pub list_after : list_of sh after ≡ map (join sh) (ascend (entries_of sh ks))
  pub listed_after : (x : ℕ) → x < keys sh → listed x (list_of sh after) ≡ listed x ks
