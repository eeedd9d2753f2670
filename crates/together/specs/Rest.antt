-- A fair history when every task is idle or done: the words are those laid, each give has been answered, and where
-- there was room the bytes are those of puts. The statements are in Demand3.
-- Assumes nothing.
use Rattle.std.specs.Prelude.{ℕ, ◌+◌, ◌*◌, ◌≤◌, ◌<◌, ◌≡◌, refl, ◌⊎◌, ◌≢◌, Bool, false, not, ◌&&◌, ◌||◌, length, eqb, ltb}
use Rattle.std.proofs.Math.Path.{sym, ap}
use Rattle.std.proofs.Common.{ap₂, ◌∙◌, subst, inl, inr, true≢false, eqb-true, lt-ltb, ltb-true}
use Rattle.std.proofs.Math.Bool.{true}
use Rattle.std.proofs.lemmas.Bool.{false≢true}
use mathlib.Core.List.{List, [], ◌∷◌, ◌++◌, map}
use native.Mathlib.Omega.{arith}
use Rattle.rules.specs.declared.Shape.{Shape}
use Rattle.rules.specs.Lists.{bit_of, count, all, any}
use Rattle.rules.specs.Word.{Word}
use Rattle.rules.specs.Bytes.{words_of, bytes_of}
use Rattle.rules.specs.Shape.{homes, remainders, keys, places}
use Rattle.rules.specs.Entry.{Entry, split, join, same_entry}
use Rattle.rules.specs.Table.{at, entries, list}
use Rattle.rules.specs.Lay.{holds, ascend}
use Rattle.rules.specs.Build.{puts}
use Rattle.rules.specs.Record.{at_rest, task_at}
use Rattle.table_words.specs.Range.{InRange, good_table_lem, remainders_high}
use Rattle.table_words.specs.Layout.{bytes_are, same_bytes, same_words}
use Rattle.theory.specs.Run.{unlock}
use Rattle.theory.specs.Every as every
use Rattle.theory.specs.Every.{All}
use Rattle.theory.specs.Insert.{same_refl, ascend_asc, holds_ascend, holds_append}
use Rattle.theory.specs.Dealt.{word_path, and_left, and_right, and_both, or_left, or_right}
use Rattle.theory.specs.SoundTable.{table_entries}
use Rattle.theory.specs.Keys.{listed}
use Rattle.theory.specs.Building.{Inside, subset_length}
use Rattle.demands.specs.Terms.{SoundTable, PlainTable, InKeys, entries_of, list_of, distinct, put_all}
use Rattle.demands.specs.Tables.{plain_of}
use Rattle.demands.specs.Proof2.{split_keys, in_shape, listed_here, ascending_list}
use Rattle.demands.specs.Proof3.{listed_split, held_key, keys_roomy, all_both, map_both, put_all_plain, ascending_keys}
use Rattle.demands.specs.Proof3.{all_within}
use Rattle.demands.specs.Demand2.{puts_any_order}
use Rattle.together.specs.Invariant.{Unfinished}
use Rattle.together.specs.Facts.{words_size, in_order}
use Rattle.together.specs.Machine.{Said, World, times_given, times_said, times_inserted}
use Rattle.together.specs.History.{quiet_counts}
use Rattle.together.specs.Fair.{Means, means_full, means_shown, Spacious, Fair, rest_at, rest_owns}

-- an unlocked word is its unlocked form
unlock_free : (w : Word) → w.lock ≡ false → unlock w ≡ w
unlock_free w free = word_path refl refl refl refl (sym free)

-- a key in a list occurs there
listed_times : (key : ℕ) (ks : List ℕ) → listed key ks ≡ true → 1 ≤ times_given key ks
unfolding listed any times_given count
listed_times key [] h = absurd (false≢true h)
listed_times key (k ∷ ks) h = go (eqb key k) h (listed_times key ks)
  where
    go :
        (b : Bool) → (b || listed key ks) ≡ true → (listed key ks ≡ true → 1 ≤ times_given key ks) →
        1 ≤ bit_of b + times_given key ks
    go true h more = omega arith
    go false h more = omega (arith, more h)

-- and a key that occurs is in the list
times_listed : (key : ℕ) (ks : List ℕ) → 1 ≤ times_given key ks → listed key ks ≡ true
unfolding listed any times_given count
times_listed key [] h = absurd (omega arith)
times_listed key (k ∷ ks) h = go (eqb key k) h (times_listed key ks)
  where
    go :
        (b : Bool) → 1 ≤ bit_of b + times_given key ks → (1 ≤ times_given key ks → listed key ks ≡ true) →
        (b || listed key ks) ≡ true
    go true h more = refl
    go false h more = more (omega arith)

-- a key of a list of keys in range is in range
listed_in_keys : (sh : Shape) (key : ℕ) (ks : List ℕ) → InKeys sh ks → listed key ks ≡ true → key < keys sh
unfolding listed any all
listed_in_keys sh key [] h k = absurd (false≢true k)
listed_in_keys sh key (j ∷ ks) h k =
    go (eqb key j) refl k (listed_in_keys sh key ks (and_right (ltb j (keys sh)) _ h))
  where
    go :
        (b : Bool) → eqb key j ≡ b → (b || listed key ks) ≡ true → (listed key ks ≡ true → key < keys sh) →
        key < keys sh
    go true e k more =
        omega (arith, eqb-true key j e, ltb-true j (keys sh) (and_left (ltb j (keys sh)) _ h))
    go false e k more = more k

-- answers inserted are answers
inserted_said : (key : ℕ) (ss : List Said) → times_inserted key ss ≤ times_said key ss
unfolding times_inserted times_said count
inserted_said key [] = omega arith
inserted_said key (s ∷ ss) = omega (arith, inserted_said key ss, fewer (eqb s.key key) (eqb s.answer 2))
  where
    fewer : (a b : Bool) → bit_of (a && b) ≤ bit_of a
    fewer true true = omega arith
    fewer true false = omega arith
    fewer false b = omega arith

-- a key that was answered, and not full, is shown
said_shown :
    {sh : Shape} {shown : List Entry} (key : ℕ) (ss : List Said) →
    All (Means sh shown) ss →
    All (λ (s : Said). s.answer ≢ 3) ss → 1 ≤ times_said key ss → holds (split sh key) shown ≡ true
unfolding times_said count
said_shown key [] ms ns le = absurd (omega arith)
said_shown {sh} {shown} key (s ∷ ss) (every.both x ms) (every.both n ns) le =
    go (eqb s.key key) refl le (said_shown key ss ms ns)
  where
    here : Means sh shown s → s.key ≡ key → holds (split sh key) shown ≡ true
    here (means_full e) same = absurd (n e)
    here (means_shown e h) same = ap (λ (k : ℕ). holds (split sh k) shown) (sym same) ∙ h

    go :
        (b : Bool) →
        eqb s.key key ≡ b →
        1 ≤ bit_of b + times_said key ss →
        (1 ≤ times_said key ss → holds (split sh key) shown ≡ true) → holds (split sh key) shown ≡ true
    go true e l more = here x (eqb-true s.key key e)
    go false e l more = more (omega arith)

-- entries that are those of keys in range, as keys and back
back_again :
    (sh : Shape) (es : List Entry) →
    ((x : Entry) → holds x es ≡ true → (split sh (join sh x) ≡ x) × (join sh x < keys sh)) →
    (entries_of sh (map (join sh) es) ≡ es) × InKeys sh (map (join sh) es)
unfolding all holds any
back_again sh [] h = (refl, refl)
back_again sh (e ∷ es) h =
    let more = back_again sh es (λ x k. h x (or_right (same_entry x e) _ k)) in
    let here = h e (or_left _ _ (same_refl e)) in
    (ap₂ ◌∷◌ here.0 more.0, and_both _ _ (lt-ltb (join sh e) (keys sh) here.1) more.1)

module _ {sh : Shape} {start : List ℕ} {w : World} (t : PlainTable sh start) (f : Fair sh start w)
    (rest : all at_rest w.tasks ≡ true)
  where
    range : InRange sh
    range = (good_table_lem sh (length w.table) f.good).0

    low : remainders sh ≤ 4096
    low = remainders_high sh range

    free_at : (p : ℕ) → (at (words_of w.table) p).lock ≡ false
    free_at p = go (at (words_of w.table) p).lock refl
      where
        go : (b : Bool) → (at (words_of w.table) p).lock ≡ b → b ≡ false
        go true e =
            let (i, lt, o) =
            f.inv.owner p e in absurd (rest_owns (task_at w.tasks i) p (rest_at w.tasks i lt rest) o)
        go false e = refl

    finished_at : (p : ℕ) (i : ℕ) → i < length w.tasks → Unfinished (task_at w.tasks i) p → ⊥
    finished_at p i lt u = go (rest_at w.tasks i lt rest)
      where
        go : ((task_at w.tasks i).phase ≡ 0) ⊎ ((task_at w.tasks i).phase ≡ 13) → ⊥
        go (inl e) = omega (arith, u.from_9)
        go (inr e) = omega (arith, u.to_10)

    -- the words are those laid
    words_laid : words_of w.table ≡ f.laid
    words_laid =
        same_words
        (words_of w.table)
        f.laid
        (words_size low f.inv ∙ sym f.inv.plain.size)
        (λ p. sym (unlock_free (at (words_of w.table) p) (free_at p)) ∙ f.inv.settled p (finished_at p))

    even : length w.table ≡ 2 * places sh
    even = (good_table_lem sh (length w.table) f.good).1

    table_laid : w.table ≡ bytes_of f.laid
    table_laid = bytes_are w.table (places sh) f.laid even f.small words_laid

    pub rest_plain : PlainTable sh w.table
    rest_plain = subst (PlainTable sh) (sym table_laid) (plain_of sh range f.inv.plain)

    shows : entries (words_of w.table) ≡ f.shown
    shows = ap entries words_laid ∙ table_entries sh low f.inv.plain.table

    pub rest_answers : (x : ℕ) → times_said x w.said ≡ times_given x w.given
    rest_answers x = omega (arith, f.answers x, (quiet_counts x w.tasks rest).1)

    inside_tally :
        (x : ℕ) →
        x < keys sh →
        bit_of (listed x (list_of sh start)) + times_inserted x w.said ≡ bit_of (listed x (list_of sh w.table))
    inside_tally x lt =
        omega (
          arith,
          f.tally x,
          (quiet_counts x w.tasks rest).0,
          ap bit_of (listed_here t.whole x lt),
          ap bit_of (listed_here rest_plain.whole x lt ∙ ap (holds (split sh x)) shows),
        )

    unlisted :
        {bytes : List ℕ} (x : ℕ) → SoundTable sh bytes → keys sh ≤ x → listed x (list_of sh bytes) ≡ false
    unlisted {bytes} x u le = go (listed x (list_of sh bytes)) refl
      where
        go : (b : Bool) → listed x (list_of sh bytes) ≡ b → b ≡ false
        go true e =
            absurd
            (omega (
              arith,
              listed_in_keys sh x (list_of sh bytes) (ascending_keys sh (ascending_list u)) e,
            ))
        go false e = refl

    never_inserted : (x : ℕ) → keys sh ≤ x → times_inserted x w.said ≡ 0
    never_inserted x le = go (listed x w.given) refl
      where
        go : (b : Bool) → listed x w.given ≡ b → times_inserted x w.said ≡ 0
        go true e = absurd (omega (arith, listed_in_keys sh x w.given f.in_keys e))
        go false e = none (in_order (times_given x w.given) 0)
          where
            none : (times_given x w.given ≤ 0) ⊎ (0 < times_given x w.given) → times_inserted x w.said ≡ 0
            none (inl z) = omega (arith, inserted_said x w.said, rest_answers x)
            none (inr z) = absurd (true≢false (sym (times_listed x w.given (omega arith)) ∙ e))

    -- a key is listed once for each reason: it was there, or it was answered inserted
    pub rest_tally :
        (x : ℕ) →
        bit_of (listed x (list_of sh start)) + times_inserted x w.said ≡ bit_of (listed x (list_of sh w.table))
    rest_tally x = go (in_order (keys sh) x)
      where
        go :
            (keys sh ≤ x) ⊎ (x < keys sh) →
            bit_of (listed x (list_of sh start)) + times_inserted x w.said ≡ bit_of (listed x (list_of sh w.table))
        go (inl le) =
            omega (
              arith,
              ap bit_of (unlisted x t.whole le),
              ap bit_of (unlisted x rest_plain.whole le),
              never_inserted x le,
            )
        go (inr lt) = inside_tally x lt

    -- ---- with room for all
    module _ (few : distinct sh (list_of sh start ++ w.given) ≤ homes sh) where
      us : List Entry
      us = ascend (entries_of sh (list_of sh start ++ w.given))

      in_list : InKeys sh (list_of sh start)
      in_list = ascending_keys sh (ascending_list t.whole)

      among :
          (x : Entry) → holds x us ≡ (holds x (entries (words_of start)) || holds x (entries_of sh w.given))
      unfolding us list
      among x =
          holds_ascend x (entries_of sh (list_of sh start ++ w.given))
          ∙ ap (holds x) (map_both sh (list_of sh start) w.given)
          ∙ holds_append x (entries_of sh (list_of sh start)) (entries_of sh w.given)
          ∙ ap
          (λ (fs : List Entry). holds x fs || holds x (entries_of sh w.given))
          (split_keys sh (in_shape t.whole))

      space : Spacious sh start w.given us
      unfolding us
      space =
          record {
            room =
                keys_roomy
                sh
                (list_of sh start ++ w.given)
                low
                (all_both sh (list_of sh start) w.given in_list f.in_keys)
                few;
            starts = λ x h. among x ∙ or_left (holds x (entries (words_of start))) _ h;
            gives = λ x h. among x ∙ or_right (holds x (entries (words_of start))) _ h;
          }

      pub rest_none_full : All (λ (s : Said). s.answer ≢ 3) w.said
      rest_none_full = (f.none_full us space).of_said

      -- each given key is shown
      given_shown : (x : ℕ) → listed x w.given ≡ true → holds (split sh x) f.shown ≡ true
      given_shown x h =
          said_shown
          x
          w.said
          f.meaning
          rest_none_full
          (omega (arith, rest_answers x, listed_times x w.given h))

      pub rest_listed : (x : ℕ) → listed x w.given ≡ true → listed x (list_of sh w.table) ≡ true
      rest_listed x h =
          let lt = listed_in_keys sh x w.given f.in_keys h in
          listed_here rest_plain.whole x lt ∙ ap (holds (split sh x)) shows ∙ given_shown x h

      pub rest_found_or_inserted : All (λ (s : Said). (s.answer ≡ 1) ⊎ (s.answer ≡ 2)) w.said
      rest_found_or_inserted = go w.said f.meaning rest_none_full
        where
          one : (s : Said) → Means sh f.shown s → s.answer ≢ 3 → (s.answer ≡ 1) ⊎ (s.answer ≡ 2)
          one s (means_full e) n = absurd (n e)
          one s (means_shown e h) n = e

          go :
              (ss : List Said) →
              All (Means sh f.shown) ss →
              All (λ (s : Said). s.answer ≢ 3) ss → All (λ (s : Said). (s.answer ≡ 1) ⊎ (s.answer ≡ 2)) ss
          go [] ms ns = every.none
          go (s ∷ ss) (every.both x ms) (every.both n ns) = every.both (one s x n) (go ss ms ns)

      -- ---- the bytes
      -- the keys put, in the order in which they were
      js : List ℕ
      js = map (join sh) f.put

      put_inside :
          (x : Entry) → holds x f.put ≡ true →
          (split sh (join sh x) ≡ x) × (join sh x < keys sh)
      put_inside x h = held_key sh w.given x low f.in_keys (f.put_given x h)

      put_back : (entries_of sh js ≡ f.put) × InKeys sh js
      unfolding js
      put_back = back_again sh f.put put_inside

      -- the keys put are those given that were not there at the start
      new_keys :
          (x : ℕ) → x < keys sh → (listed x w.given && not (listed x (list_of sh start))) ≡ listed x js
      new_keys x lt =
          go (holds e f.put) (listed x w.given) (listed x (list_of sh start)) refl refl refl
          ∙ ap (holds e) (sym put_back.0)
          ∙ sym (listed_split sh x js)
        where
          e : Entry
          e = split sh x

          started : listed x (list_of sh start) ≡ holds e (entries (words_of start))
          started = listed_here t.whole x lt

          old : holds e f.put ≡ false → listed x w.given ≡ true → listed x (list_of sh start) ≡ true
          old p g =
              started
              ∙ or_absent
              (holds e (entries (words_of start)))
              (holds e f.put)
              p
              (sym (f.shown_is e) ∙ given_shown x g)
            where
              or_absent : (a b : Bool) → b ≡ false → (a || b) ≡ true → a ≡ true
              or_absent true b n h = refl
              or_absent false b n h = absurd (true≢false (sym h ∙ n))

          go :
              (p g s : Bool) →
              holds e f.put ≡ p →
              listed x w.given ≡ g →
              listed x (list_of sh start) ≡ s →
              (listed x w.given && not (listed x (list_of sh start))) ≡ holds e f.put
          go true g s k l n =
              ap₂
              (λ (a b : Bool). a && not b)
              (listed_split sh x w.given ∙ f.put_given e k)
              (started ∙ f.put_new e k)
              ∙ sym k
          go false true s k l n = ap₂ (λ (a b : Bool). a && not b) l (old k l) ∙ sym k
          go false false s k l n = ap (λ (a : Bool). a && not (listed x (list_of sh start))) l ∙ sym k

      module _ (ks : List ℕ) (h : InKeys sh ks)
          (new :
          (x : ℕ) → x < keys sh → listed x ks ≡ (listed x w.given && not (listed x (list_of sh start))))
        where
          -- the starting keys and the new ones are no more than the starting keys and the given ones
          new_inside : Inside (ascend (entries_of sh (list_of sh start ++ ks))) us
          unfolding us list
          new_inside x k =
              go
              (held_key
              sh
              (list_of sh start ++ ks)
              x
              low
              (all_both sh (list_of sh start) ks in_list h)
              plain)
            where
              plain : holds x (entries_of sh (list_of sh start ++ ks)) ≡ true
              plain = sym (holds_ascend x (entries_of sh (list_of sh start ++ ks))) ∙ k

              parted :
                  (holds x (entries_of sh (list_of sh start)) || holds x (entries_of sh ks)) ≡ true
              parted =
                  sym (holds_append x (entries_of sh (list_of sh start)) (entries_of sh ks))
                  ∙ ap (holds x) (sym (map_both sh (list_of sh start) ks))
                  ∙ plain

              go :
                  (split sh (join sh x) ≡ x) × (join sh x < keys sh) →
                  holds x us ≡ true
              go (back, lt) = either (holds x (entries_of sh (list_of sh start))) refl parted
                where
                  key : ℕ
                  key = join sh x

                  either :
                      (b : Bool) →
                      holds x (entries_of sh (list_of sh start)) ≡ b →
                      (b || holds x (entries_of sh ks)) ≡ true → holds x us ≡ true
                  either true y z =
                      space.starts x (ap (holds x) (sym (split_keys sh (in_shape t.whole))) ∙ y)
                  either false y z =
                      space.gives
                      x
                      (ap (λ (e : Entry). holds e (entries_of sh w.given)) (sym back)
                      ∙ sym (listed_split sh key w.given)
                      ∙ and_left
                      (listed key w.given)
                      _
                      (sym (new key lt)
                      ∙ listed_split sh key ks
                      ∙ ap (λ (e : Entry). holds e (entries_of sh ks)) back
                      ∙ z))

          new_few : distinct sh (list_of sh start ++ ks) ≤ homes sh
          unfolding distinct us
          new_few =
              omega (
                arith,
                subset_length
                    us
                    low
                    space.room.asc
                    (ascend (entries_of sh (list_of sh start ++ ks)))
                    4096
                    (ascend_asc
                    low
                    (all_within
                    sh
                    (list_of sh start ++ ks)
                    (all_both sh (list_of sh start) ks in_list h)))
                    new_inside,
                few,
              )

          pub rest_bytes : put_all sh start ks ≡ w.table
          rest_bytes =
              puts_any_order ks js t h put_back.1 (λ x lt. new x lt ∙ new_keys x lt) new_few
              ∙ same_bytes
              (put_all sh start js)
              w.table
              (places sh)
              (good_table_lem sh (length (put_all sh start js)) done.0.whole.good).1
              even
              done.0.whole.small
              f.small
              (done.1
              ∙ ap (puts sh (words_of start)) put_back.0
              ∙ sym f.chain
              ∙ sym words_laid)
            where
              done :
                  PlainTable sh (put_all sh start js)
                  × (words_of (put_all sh start js)
                  ≡ puts sh (words_of start) (entries_of sh js))
              done = put_all_plain js t put_back.1
