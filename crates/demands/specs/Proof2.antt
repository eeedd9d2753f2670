-- The proofs of Demand2: each carries a law of the theory from words and entries to lent bytes and keys.
-- Assumes nothing.
use Rattle.std.specs.Prelude.{ℕ, ◌*◌, ◌<◌, ◌≡◌, refl, Bool, true, false, ◌||◌, List, ◌∷◌, map, length, eqb}
use Rattle.std.proofs.Common.{sym, ap₂, ◌∙◌, subst, true≢false, arith}
use Rattle.std.proofs.Math.Path.{ap}
use borrow.Author.Tests.{lt-ltb, eqb-true, eqb-false}
use Rattle.rules.specs.declared.Shape.{Shape}
use Rattle.rules.specs.Lists.{bit_of}
use Rattle.rules.specs.Word.{Word}
use Rattle.rules.specs.Bytes.{words_of, bytes_of}
use Rattle.rules.specs.Shape.{remainders, keys, places}
use Rattle.rules.specs.Entry.{Entry, split, join, same_entry}
use Rattle.rules.specs.Table.{occupied_places, entries, list}
use Rattle.rules.specs.Room.{place, room_for}
use Rattle.rules.specs.Lay.{holds, insert}
use Rattle.rules.specs.Answer.{says, refuses, leaves}
use Rattle.rules.specs.Find.{find}
use Rattle.rules.specs.Put.{add_at, Outcome, writes, put_in, bytes_after, put}
use Rattle.table_words.specs.Range.{InRange, good_table_lem}
use Rattle.table_words.specs.Split.{InShape, split_in_shape, join_split, split_join}
use Rattle.table_words.specs.Layout.{same_bytes}
use Rattle.table_words.specs.Tests.{refuted}
use Rattle.theory.specs.Every as every
use Rattle.theory.specs.Every.{All}
use Rattle.theory.specs.Gaps.{HomePlace, AllTaken, room_full, full_room}
use Rattle.theory.specs.Finding.{find_table}
use Rattle.theory.specs.Putting.{Puts, found, inserted, overflow, put_table, table_guarded}
use Rattle.theory.specs.Insert.{same_eq, same_refl, holds_insert}
use Rattle.theory.specs.Building.{State, state_unique, place≢full, added_state}
use Rattle.theory.specs.Adding.{Added}
use Rattle.theory.specs.Keys.{home_place, table_inside, asc_in_shape, keys_ascend, Ascending, listed, listed_holds}
use Rattle.demands.specs.Terms.{SoundTable, PlainTable, list_of, Adds}
use Rattle.demands.specs.Tables.{in_range_of, low_of, size_of, table_of, state_of, words_back, plain_of}
use Rattle.demands.specs.Tables.{entries_back}

pub home_of_key : (sh : Shape) (key : ℕ) → key < keys sh → HomePlace sh (split sh key).home_place
home_of_key sh key lt = home_place (split_in_shape sh key lt)

-- the entries are the keys of the list, split
pub split_keys : (sh : Shape) {es : List Entry} → All (InShape sh) es → map (split sh) (map (join sh) es) ≡ es
split_keys sh every.none = refl
split_keys sh (every.both {x = e} i is) = ap₂ ◌∷◌ (split_join sh e i) (split_keys sh is)

module _ {sh : Shape} {bytes : List ℕ} where
  pub in_shape : SoundTable sh bytes → All (InShape sh) (entries (words_of bytes))
  in_shape t = asc_in_shape sh (low_of t) (table_inside sh (low_of t) (size_of t) (table_of t))

  pub ascending_list : SoundTable sh bytes → Ascending (keys sh) 0 (list_of sh bytes)
  unfolding list
  ascending_list t =
      keys_ascend
      sh
      0
      (low_of t)
      (table_inside sh (low_of t) (size_of t) (table_of t))
      (in_shape t)
      (λ e i le. omega arith)

  -- a key is listed exactly if its entry is held
  pub listed_here :
      SoundTable sh bytes →
      (key : ℕ) →
      key < keys sh →
      listed key (list_of sh bytes) ≡ holds (split sh key) (entries (words_of bytes))
  unfolding list
  listed_here t key lt = listed_holds sh key lt (in_shape t)

  pub find_says_lem :
      PlainTable sh bytes →
      (key : ℕ) →
      key < keys sh → find sh bytes key ≡ says (bit_of (listed key (list_of sh bytes)))
  unfolding find
  find_says_lem t key lt =
      rw (t.whole.good, lt-ltb key (keys sh) lt)
      (find_table
      sh
      (split sh key)
      (low_of t.whole)
      (size_of t.whole)
      (home_of_key sh key lt)
      (split_in_shape sh key lt).remainder_low
      (table_of t.whole)
      t.unlocked
      ∙ ap (λ (b : Bool). says (bit_of b)) (sym (listed_here t.whole key lt)))

pub one_table :
    {sh : Shape} {bytes others : List ℕ} →
    PlainTable sh bytes →
    PlainTable sh others →
    occupied_places (words_of bytes) ≡ occupied_places (words_of others) → list_of sh bytes ≡ list_of sh others →
    bytes ≡ others
unfolding list
one_table {sh} {bytes} {others} t u places_same List-same =
    same_bytes
    bytes
    others
    (places sh)
    (length_of t)
    (length_of u)
    t.whole.small
    u.whole.small
    (state_unique
    (low_of t.whole)
    (state_of t)
    (subst (State sh (words_of others)) (sym entries_same) (state_of u))
    places_same)
  where
    length_of : {bs : List ℕ} → PlainTable sh bs → length bs ≡ 2 * places sh
    length_of {bs} v = (good_table_lem sh (length bs) v.whole.good).1

    entries_same : entries (words_of bytes) ≡ entries (words_of others)
    entries_same =
        sym (split_keys sh (in_shape t.whole))
        ∙ ap (map (split sh)) List-same
        ∙ split_keys sh (in_shape u.whole)

-- keys are the same exactly if their entries are
pub same_split : (sh : Shape) (x key : ℕ) → same_entry (split sh x) (split sh key) ≡ eqb x key
same_split sh x key = go (eqb x key) refl
  where
    go : (b : Bool) → eqb x key ≡ b → same_entry (split sh x) (split sh key) ≡ b
    go true e = ap (λ (k : ℕ). same_entry (split sh x) (split sh k)) (sym (eqb-true x key e)) ∙ same_refl (split sh x)
    go false e =
        refuted
        (same_entry (split sh x) (split sh key))
        (λ s.
        eqb-false
        x
        key
        e
        (sym (join_split sh x) ∙ ap (join sh) (same_eq (split sh x) (split sh key) s) ∙ join_split sh key))

-- ---- put
module _ {sh : Shape} {bytes : List ℕ} (t : PlainTable sh bytes) (key : ℕ) (lt : key < keys sh) where
  pub cases :
      Puts
      sh
      (words_of bytes)
      (entries (words_of bytes))
      (split sh key)
      (put_in sh (words_of bytes) (split sh key))
  cases =
      put_table
      sh
      (split sh key)
      (low_of t.whole)
      (size_of t.whole)
      (home_of_key sh key lt)
      (split_in_shape sh key lt).remainder_low
      (table_of t.whole)
      t.unlocked

  pub put_by :
      {o : Outcome} → put_in sh (words_of bytes) (split sh key) ≡ o →
      put sh bytes key ≡ bytes_after bytes o
  unfolding put
  put_by e = rw (t.whole.good, lt-ltb key (keys sh) lt, e)

  here : listed key (list_of sh bytes) ≡ holds (split sh key) (entries (words_of bytes))
  here = listed_here t.whole key lt

  pub put_finds : listed key (list_of sh bytes) ≡ true → put sh bytes key ≡ leaves (says 1) bytes
  put_finds h = go (put_in sh (words_of bytes) (split sh key)) refl cases
    where
      go :
          (o : Outcome) →
          put_in sh (words_of bytes) (split sh key) ≡ o →
          Puts sh (words_of bytes) (entries (words_of bytes)) (split sh key) o →
          put sh bytes key ≡ leaves (says 1) bytes
      go o e (found k) = put_by e
      go o e (inserted p k room added) = absurd (true≢false (sym h ∙ here ∙ k))
      go o e (overflow k room) = absurd (true≢false (sym h ∙ here ∙ k))

  pub put_full :
      listed key (list_of sh bytes) ≡ false →
      AllTaken sh (occupied_places (words_of bytes)) → put sh bytes key ≡ leaves (refuses 8) bytes
  put_full h every = go (put_in sh (words_of bytes) (split sh key)) refl cases
    where
      go :
          (o : Outcome) →
          put_in sh (words_of bytes) (split sh key) ≡ o →
          Puts sh (words_of bytes) (entries (words_of bytes)) (split sh key) o →
          put sh bytes key ≡ leaves (refuses 8) bytes
      go o e (found k) = absurd (true≢false (sym k ∙ sym here ∙ h))
      go o e (inserted p k room added) =
          absurd
          (place≢full
          (sym room
          ∙ full_room
          (table_guarded sh (size_of t.whole) (table_of t.whole))
          (home_of_key sh key lt)
          every))
      go o e (overflow k room) = put_by e

  added_adds :
      (p : ℕ) →
      room_for sh (occupied_places (words_of bytes)) (split sh key).home_place ≡ place p →
      Added
      (remainders sh)
      (words_of bytes)
      (entries (words_of bytes))
      (split sh key)
      p
      (add_at (words_of bytes) (split sh key) p) →
      put_in sh (words_of bytes) (split sh key)
      ≡ writes (says 2) (add_at (words_of bytes) (split sh key) p) →
      Adds sh bytes key
  added_adds p room added e =
      record {
        after = bytes_of vs;
        filled = p;
        named = room;
        answer = put_by e;
        table = plain;
        places_after = ap occupied_places (words_back sh range state) ∙ added.places;
        listed_after = λ x small.
            listed_here plain.whole x small
            ∙ ap (holds (split sh x)) (entries_back sh range state)
            ∙ holds_insert (split sh x) (split sh key) (entries (words_of bytes))
            ∙ ap₂ ◌||◌ (same_split sh x key) (sym (listed_here t.whole x small));
      }
    where
      vs : List Word
      vs = add_at (words_of bytes) (split sh key) p

      range : InRange sh
      range = in_range_of t.whole

      state : State sh vs (insert (split sh key) (entries (words_of bytes)))
      state = added_state (state_of t) added

      plain : PlainTable sh (bytes_of vs)
      plain = plain_of sh range state

  pub put_adds :
      listed key (list_of sh bytes) ≡ false →
      (AllTaken sh (occupied_places (words_of bytes)) → ⊥) → Adds sh bytes key
  put_adds h some = go (put_in sh (words_of bytes) (split sh key)) refl cases
    where
      go :
          (o : Outcome) →
          put_in sh (words_of bytes) (split sh key) ≡ o →
          Puts sh (words_of bytes) (entries (words_of bytes)) (split sh key) o → Adds sh bytes key
      go o e (found k) = absurd (true≢false (sym k ∙ sym here ∙ h))
      go o e (inserted p k room added) = added_adds p room added e
      go o e (overflow k room) =
          absurd
          (some
          (room_full
          (split sh key).home_place
          (table_guarded sh (size_of t.whole) (table_of t.whole))
          room))
