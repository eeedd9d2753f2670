-- Demand 2 about the definitions of document 01, sentence by sentence, for every shape in range and every lent table,
-- key and list of keys. The terms are in Terms; every proof is elsewhere (Proof2, Proof3). "Each step of a task does
-- what the step list says" is what the contracts of the tasks say.
-- Assumes nothing.
use Rattle.std.specs.Prelude.{ℕ, ◌≤◌, ◌<◌, ◌≡◌, true, false, List, ◌++◌, map, length, replicate}
use Rattle.rules.specs.declared.Shape.{Shape}
use Rattle.rules.specs.Lists.{bit_of}
use Rattle.rules.specs.Word.{Word}
use Rattle.rules.specs.Bytes.{words_of}
use Rattle.rules.specs.Shape.{homes, keys, good_table}
use Rattle.rules.specs.Table.{occupied_places, list, sound}
use Rattle.rules.specs.Answer.{says, refuses, leaves}
use Rattle.rules.specs.Find.{find}
use Rattle.rules.specs.Put.{put}
use Rattle.rules.specs.Build.{build}
use Rattle.table_words.specs.Range.{good_table_lem}
use Rattle.theory.specs.Run.{unlock}
use Rattle.theory.specs.Locks.{sound_unlock, list_unlock}
use Rattle.theory.specs.Gaps.{AllTaken}
use Rattle.theory.specs.Keys.{Ascending, listed}
use Rattle.demands.specs.Terms.{SoundTable, PlainTable, list_of, InKeys, distinct, put_all, Adds, Builds}
use Rattle.demands.specs.Proof2 as proof
use Rattle.demands.specs.Proof3 as proof_many

-- "A sound table shows one ascending list of keys": strictly ascending, each below 2^w
pub list_ascends_lem :
    {sh : Shape} {bytes : List ℕ} → SoundTable sh bytes → Ascending (keys sh) 0 (list_of sh bytes)
list_ascends_lem t = proof.ascending_list t

-- which, with soundness itself, does not depend on lock bits
pub sound_locks_aside : (sh : Shape) (ws : List Word) → sound sh (map unlock ws) ≡ sound sh ws
sound_locks_aside = sound_unlock

pub list_locks_aside : (sh : Shape) (ws : List Word) → list sh (map unlock ws) ≡ list sh ws
list_locks_aside = list_unlock

-- "and no other sound unlocked table with the same places occupied shows that list."
pub no_other_table :
    {sh : Shape} {bytes others : List ℕ} →
    PlainTable sh bytes →
    PlainTable sh others →
    occupied_places (words_of bytes) ≡ occupied_places (words_of others) → list_of sh bytes ≡ list_of sh others →
    bytes ≡ others
no_other_table t u places_same List-same = proof.one_table t u places_same List-same

-- "Find on a sound unlocked table says present exactly for listed keys."
pub find_listed :
    {sh : Shape} {bytes : List ℕ} →
    PlainTable sh bytes →
    (key : ℕ) → key < keys sh → find sh bytes key ≡ says (bit_of (listed key (list_of sh bytes)))
find_listed t key lt = proof.find_says_lem t key lt

module _ {sh : Shape} {bytes : List ℕ} (t : PlainTable sh bytes) (key : ℕ) (lt : key < keys sh) where
  -- "Put finds a listed key,"
  pub put_listed : listed key (list_of sh bytes) ≡ true → put sh bytes key ≡ leaves (says 1) bytes
  put_listed there = proof.put_finds t key lt there

  -- "says full exactly when the key is absent and every place but the guards is occupied,"
  pub put_full :
      listed key (list_of sh bytes) ≡ false →
      AllTaken sh (occupied_places (words_of bytes)) → put sh bytes key ≡ leaves (refuses 8) bytes
  put_full absent every = proof.put_full t key lt absent every

  -- "and otherwise adds its key alone, at the place the rules name."
  pub put_absent :
      listed key (list_of sh bytes) ≡ false →
      (AllTaken sh (occupied_places (words_of bytes)) → ⊥) → Adds sh bytes key
  put_absent absent some = proof.put_adds t key lt absent some

-- from any sound unlocked table, where its keys and those put make at most 2^m distinct keys, putting the same keys
-- in any order, with any repeats, gives the same bytes
pub puts_any_order :
    {sh : Shape} {bytes : List ℕ} (ks js : List ℕ) →
    PlainTable sh bytes →
    InKeys sh ks →
    InKeys sh js →
    ((x : ℕ) → x < keys sh → listed x ks ≡ listed x js) →
    distinct sh (list_of sh bytes ++ ks) ≤ homes sh → put_all sh bytes ks ≡ put_all sh bytes js
puts_any_order ks js t h k alike few = proof_many.puts_order ks js t h k alike few

module _ (sh : Shape) (bytes : List ℕ) (good : good_table sh (length bytes) ≡ true) where
  -- build: at most 2^m distinct keys give a plain table whose list is the ascending list of the distinct keys
  pub build_lists :
      (ks : List ℕ) →
      InKeys sh ks → distinct sh ks ≤ homes sh → Builds sh bytes ks
  build_lists ks h few =
      proof_many.builds sh (good_table_lem sh (length bytes) good).0 ks h few bytes good

  -- and gives what puts one by one from all zero give
  pub build_puts :
      (ks : List ℕ) →
      InKeys sh ks →
      distinct sh ks ≤ homes sh →
      build sh bytes ks ≡ leaves (says 0) (put_all sh (replicate (length bytes) 0) ks)
  build_puts ks h few = proof_many.build_puts sh bytes ks good h few

  -- more are refused, and leave all zero
  pub build_too_many :
      (ks : List ℕ) →
      InKeys sh ks →
      homes sh < distinct sh ks →
      build sh bytes ks ≡ leaves (refuses 8) (replicate (length bytes) 0)
  build_too_many ks h many = proof_many.build_many sh bytes ks good h many

  -- any order and any repeats of the same keys give the same answer and bytes
  pub build_any_order :
      (ks js : List ℕ) →
      InKeys sh ks →
      InKeys sh js →
      ((x : ℕ) → x < keys sh → listed x ks ≡ listed x js) → build sh bytes ks ≡ build sh bytes js
  build_any_order ks js h k alike = proof_many.build_order sh bytes ks js good h k alike

  -- "Building, listing and building again gives the same bytes."
  pub build_list_build :
      (others ks : List ℕ) →
      length bytes ≡ length others →
      InKeys sh ks →
      (b : Builds sh bytes ks) → build sh others (list_of sh b.after) ≡ leaves (says 0) b.after
  build_list_build others ks long h b = proof_many.build_again sh bytes others ks long good h b
