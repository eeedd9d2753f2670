-- The proofs of Demand2 about many keys: puts in any order, and build.
-- Assumes nothing.
use Rattle.std.specs.Prelude.{ℕ, zero, suc, ◌+◌, ◌*◌, ◌≤◌, ◌<◌, ◌≡◌, refl, Bool, true, false, cond, ◌||◌, length, replicate, ltb}
use Rattle.std.proofs.Math.Path.{sym, ap}
use Rattle.std.proofs.Common.{ap₂, ◌∙◌, subst, true≢false, arith, ltb-true, ltb-false, lt-ltb, le-ltb}
use mathlib.Core.List.{List, [], ◌∷◌, ◌++◌, map, map-append}
use Rattle.std.proofs.lemmas.List.{length-replicate}
use Rattle.rules.specs.declared.Shape.{Shape}
use Rattle.rules.specs.Lists.{all, any}
use Rattle.rules.specs.Word.{Word, zero_word, is_void, number_of}
use Rattle.rules.specs.Bytes.{words_of, bytes_of}
use Rattle.rules.specs.Shape.{homes, remainders, keys, places, right_guard, good_table}
use Rattle.rules.specs.Entry.{Entry, split, join}
use Rattle.rules.specs.Table.{entries, list, locked}
use Rattle.rules.specs.Lay.{holds, ascend, lay}
use Rattle.rules.specs.Answer.{Answer, says, refuses, Leaves, leaves}
use Rattle.rules.specs.Put.{lay_run, Outcome, keeps, put_in, words_after, put}
use Rattle.rules.specs.Build.{zeros, puts, too_many, build_in, build}
use Rattle.table_words.specs.Range.{InRange, good_table_lem, remainders_high}
use Rattle.table_words.specs.All.{all_append}
use Rattle.table_words.specs.Split.{InShape, split_join, join_below}
use Rattle.table_words.specs.Layout.{same_bytes, bytes_are}
use Rattle.theory.specs.Run.{none}
use Rattle.theory.specs.Dealt.{and_left, and_right, and_both, or_left, or_right}
use Rattle.theory.specs.Every as every
use Rattle.theory.specs.Every.{All}
use Rattle.theory.specs.Insert.{Within, ascend_asc, ascend_same, holds_ascend, holds_append, asc_unique, held_all}
use Rattle.theory.specs.Seen.{Right, right_end, right_more, Table, table}
use Rattle.theory.specs.Putting.{Puts, found, inserted, overflow}
use Rattle.theory.specs.Building.{Roomy, State, Inside, after_put, added_state, puts_ascend, Left, puts_state}
use Rattle.theory.specs.Keys.{table_inside, within_in_shape, split_within, Ascending, ascending_none, ascending_next}
use Rattle.theory.specs.Keys.{listed}
use Rattle.demands.specs.Terms.{PlainTable, list_of, InKeys, entries_of, distinct, put_all, left_by, Builds}
use Rattle.demands.specs.Tables.{in_range_of, low_of, state_of, words_back, plain_of, entries_back}
use Rattle.demands.specs.Proof2.{split_keys, same_split, in_shape, ascending_list, listed_here, cases, put_by}

-- ---- the table that is all zero
right_zeros : (d p n : ℕ) → Right d p (replicate n zero_word) []
unfolding lay_run lay is_void
right_zeros d p zero = right_end refl refl
right_zeros d p (suc n) =
    right_more
    []
    zero_word
    (replicate n zero_word)
    []
    []
    (record { size = refl; asc = none; laid = refl })
    refl
    (right_zeros d (suc (p + 0)) n)
    refl
    refl

zeros_unlocked : (n : ℕ) → locked (replicate n zero_word) ≡ false
unfolding locked any
zeros_unlocked zero = refl
zeros_unlocked (suc n) = zeros_unlocked n

pub zeros_state : (sh : Shape) → State sh (zeros sh) []
unfolding zeros places is_void
zeros_state sh =
    record {
      table =
          subst
          (λ (n : ℕ). Table (remainders sh) (replicate n zero_word) [])
          far
          (table refl (right_zeros (remainders sh) 1 (homes sh + 1)));
      free = zeros_unlocked (homes sh + 2);
      size = length-replicate (homes sh + 2) zero_word;
    }
  where
    far : suc (homes sh + 1) ≡ homes sh + 2
    far = omega arith

-- ---- keys and their entries
pub all_within :
    (sh : Shape) (ks : List ℕ) → InKeys sh ks → All (Within (remainders sh) (right_guard sh) 4096) (entries_of sh ks)
unfolding all
all_within sh [] h = every.none
all_within sh (k ∷ ks) h =
    every.both
    (split_within sh k (ltb-true k (keys sh) (and_left (ltb k (keys sh)) _ h)))
    (all_within sh ks (and_right (ltb k (keys sh)) _ h))

-- a key is among some exactly if its entry is among theirs
pub listed_split : (sh : Shape) (key : ℕ) (ks : List ℕ) → listed key ks ≡ holds (split sh key) (entries_of sh ks)
unfolding listed holds any
listed_split sh key [] = refl
listed_split sh key (k ∷ ks) = ap₂ ◌||◌ (sym (same_split sh key k)) (listed_split sh key ks)

-- an entry that some keys have is the entry of a key in range
pub held_key :
    (sh : Shape) (ks : List ℕ) (x : Entry) →
    remainders sh ≤ 4096 →
    InKeys sh ks → holds x (entries_of sh ks) ≡ true → (split sh (join sh x) ≡ x) × (join sh x < keys sh)
held_key sh ks x s h t = (split_join sh x i, join_below sh x i)
  where
    w : Within (remainders sh) (right_guard sh) 4096 x
    w = held_all x (all_within sh ks h) t

    i : InShape sh x
    i = within_in_shape sh x s w

-- the same keys have the same entries
same_entries :
    (sh : Shape) (ks js : List ℕ) →
    remainders sh ≤ 4096 →
    InKeys sh ks →
    InKeys sh js →
    ((x : ℕ) → x < keys sh → listed x ks ≡ listed x js) →
    (x : Entry) → holds x (entries_of sh ks) ≡ holds x (entries_of sh js)
same_entries sh ks js s h k alike x = go (holds x (entries_of sh ks)) (holds x (entries_of sh js)) refl refl
  where
    carried :
        (ls : List ℕ) → InKeys sh ls → holds x (entries_of sh ls) ≡ true →
        holds x (entries_of sh ks) ≡ holds x (entries_of sh js)
    carried ls l t =
        let (back, lt) = held_key sh ls x s l t in
        ap (λ (e : Entry). holds e (entries_of sh ks)) (sym back)
        ∙ sym (listed_split sh (join sh x) ks)
        ∙ alike (join sh x) lt
        ∙ listed_split sh (join sh x) js
        ∙ ap (λ (e : Entry). holds e (entries_of sh js)) back

    go :
        (a b : Bool) →
        holds x (entries_of sh ks) ≡ a → holds x (entries_of sh js) ≡ b →
        holds x (entries_of sh ks) ≡ holds x (entries_of sh js)
    go true b t u = carried ks h t
    go false true t u = carried js k u
    go false false t u = t ∙ sym u

ascend_keys :
    (sh : Shape) (ks js : List ℕ) →
    remainders sh ≤ 4096 →
    InKeys sh ks →
    InKeys sh js →
    ((x : ℕ) → x < keys sh → listed x ks ≡ listed x js) → ascend (entries_of sh ks) ≡ ascend (entries_of sh js)
ascend_keys sh ks js s h k alike =
    ascend_same s (all_within sh ks h) (all_within sh js k) (same_entries sh ks js s h k alike)

-- ---- build
-- at most as many distinct keys as homes: a table has room for them
pub keys_roomy :
    (sh : Shape) (ks : List ℕ) → remainders sh ≤ 4096 → InKeys sh ks → distinct sh ks ≤ homes sh →
    Roomy sh (ascend (entries_of sh ks))
unfolding distinct
keys_roomy sh ks s h few = record { low = s; asc = ascend_asc s (all_within sh ks h); few = few }

pub inside_ascend : (es : List Entry) → Inside es (ascend es)
inside_ascend es x h = holds_ascend x es ∙ h

pub nothing_inside : (us : List Entry) → Inside [] us
unfolding holds any
nothing_inside us x h = absurd (true≢false (sym h))

-- a build's checks, passed
build_by :
    (sh : Shape) (bytes ks : List ℕ) →
    good_table sh (length bytes) ≡ true →
    InKeys sh ks → build sh bytes ks ≡ build_in sh bytes (entries_of sh ks)
unfolding build
build_by sh bytes ks good h = rw (good, h)

build_few :
    (sh : Shape) (bytes ks : List ℕ) →
    good_table sh (length bytes) ≡ true →
    InKeys sh ks →
    distinct sh ks ≤ homes sh →
    build sh bytes ks
    ≡ leaves (says 0) (bytes_of (puts sh (zeros sh) (entries_of sh ks)))
unfolding build_in too_many distinct
build_few sh bytes ks good h few =
    build_by sh bytes ks good h
    ∙ rw (le-ltb (homes sh) (length (ascend (entries_of sh ks))) few)

pub build_many :
    (sh : Shape) (bytes ks : List ℕ) →
    good_table sh (length bytes) ≡ true →
    InKeys sh ks →
    homes sh < distinct sh ks →
    build sh bytes ks ≡ leaves (refuses 8) (replicate (length bytes) 0)
unfolding build_in too_many distinct
build_many sh bytes ks good h many =
    build_by sh bytes ks good h
    ∙ rw (lt-ltb (homes sh) (length (ascend (entries_of sh ks))) many)

module _ (sh : Shape) (range : InRange sh) (ks : List ℕ) (h : InKeys sh ks)
    (few : distinct sh ks ≤ homes sh)
  where
    low : remainders sh ≤ 4096
    low = remainders_high sh range

    room : Roomy sh (ascend (entries_of sh ks))
    room = keys_roomy sh ks low h few

    built : List Word
    built = puts sh (zeros sh) (entries_of sh ks)

    left : Left room (entries_of sh ks) [] built
    unfolding built
    left =
        puts_state
        room
        (entries_of sh ks)
        (zeros sh)
        []
        (zeros_state sh)
        (nothing_inside _)
        (inside_ascend (entries_of sh ks))

    -- it shows the distinct entries, ascending
    shown_is : left.shown ≡ ascend (entries_of sh ks)
    unfolding holds any
    shown_is =
        asc_unique
        low
        (table_inside sh low left.state.size left.state.table)
        room.asc
        (λ x. left.held x ∙ sym (holds_ascend x (entries_of sh ks)))

    -- in ascending order, each key once: the same table
    built_ascend : built ≡ puts sh (zeros sh) (ascend (entries_of sh ks))
    unfolding built
    built_ascend =
        puts_ascend
        room
        (entries_of sh ks)
        (zeros sh)
        []
        (zeros_state sh)
        (nothing_inside _)
        (inside_ascend (entries_of sh ks))

    pub builds : (bytes : List ℕ) → good_table sh (length bytes) ≡ true → Builds sh bytes ks
    unfolding list built
    builds bytes good =
        record {
          after = bytes_of built;
          answer = build_few sh bytes ks good h few;
          table = plain_of sh range left.state;
          list_after = ap (map (join sh)) (entries_back sh range left.state ∙ shown_is);
          listed_after = λ x small.
              listed_here (plain_of sh range left.state).whole x small
              ∙ ap (holds (split sh x)) (entries_back sh range left.state ∙ shown_is)
              ∙ holds_ascend (split sh x) (entries_of sh ks)
              ∙ sym (listed_split sh x ks);
        }

-- any order and any repeats of the same keys give the same
pub build_order :
    (sh : Shape) (bytes ks js : List ℕ) →
    good_table sh (length bytes) ≡ true →
    InKeys sh ks →
    InKeys sh js →
    ((x : ℕ) → x < keys sh → listed x ks ≡ listed x js) → build sh bytes ks ≡ build sh bytes js
unfolding distinct built
build_order sh bytes ks js good h k alike = go (ltb (homes sh) (distinct sh ks)) refl
  where
    range : InRange sh
    range = (good_table_lem sh (length bytes) good).0

    same : ascend (entries_of sh ks) ≡ ascend (entries_of sh js)
    same = ascend_keys sh ks js (remainders_high sh range) h k alike

    go :
        (b : Bool) → ltb (homes sh) (distinct sh ks) ≡ b →
        build sh bytes ks ≡ build sh bytes js
    go true t =
        let many = ltb-true (homes sh) (distinct sh ks) t in
        build_many sh bytes ks good h many
        ∙ sym (build_many sh bytes js good k (subst (λ (n : ℕ). homes sh < n) (ap length same) many))
    go false t =
        let few = ltb-false (homes sh) (distinct sh ks) t in
        let also : distinct sh js ≤ homes sh =
        subst (λ (n : ℕ). n ≤ homes sh) (ap length same) few in
        build_few sh bytes ks good h few
        ∙ ap
        (λ (ws : List Word). leaves (says 0) (bytes_of ws))
        (built_ascend sh range ks h few
        ∙ ap (puts sh (zeros sh)) same
        ∙ sym (built_ascend sh range js k also))
        ∙ sym (build_few sh bytes js good k also)

-- what a build ignores: two tables of one length give the same
pub build_ignores :
    (sh : Shape) (bytes others ks : List ℕ) → length bytes ≡ length others →
    good_table sh (length bytes) ≡ true → InKeys sh ks →
    build sh bytes ks ≡ build sh others ks
unfolding build_in
build_ignores sh bytes others ks long good h =
    build_by sh bytes ks good h
    ∙ ap
    (λ (n : ℕ).
    cond (too_many sh (entries_of sh ks))
    (leaves (refuses 8) (replicate n 0))
    (leaves (says 0) (bytes_of (puts sh (zeros sh) (entries_of sh ks)))))
    long
    ∙ sym (build_by sh others ks (sym (ap (good_table sh) long) ∙ good) h)

-- a list's keys are in range
pub ascending_keys : (sh : Shape) {b : ℕ} {ks : List ℕ} → Ascending (keys sh) b ks → InKeys sh ks
unfolding all
ascending_keys sh ascending_none = refl
ascending_keys sh (ascending_next {k = k} a lt up) = and_both _ _ (lt-ltb k (keys sh) lt) (ascending_keys sh up)

-- building, listing and building again
pub build_again :
    (sh : Shape) (bytes others ks : List ℕ) →
    length bytes ≡ length others →
    good_table sh (length bytes) ≡ true →
    InKeys sh ks →
    (b : Builds sh bytes ks) → build sh others (list_of sh b.after) ≡ leaves (says 0) b.after
build_again sh bytes others ks long good h b =
    sym (build_ignores sh bytes others (list_of sh b.after) long good in_list)
    ∙ build_order sh bytes (list_of sh b.after) ks good in_list h (λ x small. b.listed_after x small)
    ∙ b.answer
  where
    in_list : InKeys sh (list_of sh b.after)
    in_list = ascending_keys sh (ascending_list b.table.whole)

-- ---- puts of bytes, one by one
-- a put leaves a plain table with the words that the definition names
record Leaves-plain (sh : Shape) (bytes : List ℕ) (key : ℕ) : Type 0 where
  table : PlainTable sh (left_by (put sh bytes key))
  words : words_of (left_by (put sh bytes key)) ≡ after_put sh (words_of bytes) (split sh key)

put_plain :
    {sh : Shape} {bytes : List ℕ} →
    PlainTable sh bytes → (key : ℕ) → key < keys sh → Leaves-plain sh bytes key
put_plain {sh} {bytes} t key lt =
    go (put_in sh (words_of bytes) (split sh key)) refl (cases t key lt)
  where
    range : InRange sh
    range = in_range_of t.whole

    kept :
        (a : Answer) → put_in sh (words_of bytes) (split sh key) ≡ keeps a →
        Leaves-plain sh bytes key
    kept a e =
        record {
          table = subst (PlainTable sh) (sym (ap left_by (put_by t key lt e))) t;
          words =
              ap (λ (x : Leaves (List ℕ)). words_of (left_by x)) (put_by t key lt e)
              ∙ sym (ap (words_after (words_of bytes)) e);
        }

    go :
        (o : Outcome) →
        put_in sh (words_of bytes) (split sh key) ≡ o →
        Puts sh (words_of bytes) (entries (words_of bytes)) (split sh key) o →
        Leaves-plain sh bytes key
    go o e (found k) = kept (says 1) e
    go o e (overflow k room) = kept (refuses 8) e
    go o e (inserted p k room added) =
        let state = added_state (state_of t) added in
        record {
          table = subst (PlainTable sh) (sym (ap left_by (put_by t key lt e))) (plain_of sh range state);
          words =
              ap (λ (x : Leaves (List ℕ)). words_of (left_by x)) (put_by t key lt e)
              ∙ words_back sh range state
              ∙ sym (ap (words_after (words_of bytes)) e);
        }

pub put_all_plain :
    {sh : Shape} {bytes : List ℕ} (ks : List ℕ) →
    PlainTable sh bytes →
    InKeys sh ks →
    PlainTable sh (put_all sh bytes ks)
    × (words_of (put_all sh bytes ks) ≡ puts sh (words_of bytes) (entries_of sh ks))
unfolding put_all puts all
put_all_plain [] t h = (t, refl)
put_all_plain {sh} {bytes} (key ∷ ks) t h =
    let lt = ltb-true key (keys sh) (and_left (ltb key (keys sh)) _ h) in
    let one = put_plain t key lt in
    let rest = put_all_plain {bytes = left_by (put sh bytes key)} ks one.table (and_right (ltb key (keys sh)) _ h) in
    (rest.0, rest.1 ∙ ap (λ (ws : List Word). puts sh ws (entries_of sh ks)) one.words)

-- ---- puts in any order
pub map_both : (sh : Shape) (ks js : List ℕ) → entries_of sh (ks ++ js) ≡ entries_of sh ks ++ entries_of sh js
map_both sh ks js = map-append (split sh) ks js

pub all_both : (sh : Shape) (ks js : List ℕ) → InKeys sh ks → InKeys sh js → InKeys sh (ks ++ js)
all_both sh ks js h k = all_append (λ (key : ℕ). ltb key (keys sh)) ks js ∙ and_both _ _ h k

pub puts_order :
    {sh : Shape} {bytes : List ℕ} (ks js : List ℕ) →
    PlainTable sh bytes →
    InKeys sh ks →
    InKeys sh js →
    ((x : ℕ) → x < keys sh → listed x ks ≡ listed x js) →
    distinct sh (list_of sh bytes ++ ks) ≤ homes sh → put_all sh bytes ks ≡ put_all sh bytes js
unfolding list
puts_order {sh} {bytes} ks js t h k alike few =
    same_bytes
    (put_all sh bytes ks)
    (put_all sh bytes js)
    (places sh)
    (long first.0)
    (long second.0)
    first.0.whole.small
    second.0.whole.small
    (first.1
    ∙ puts_ascend room (entries_of sh ks) (words_of bytes) es (state_of t) old_in ks_in
    ∙ ap (puts sh (words_of bytes)) (ascend_keys sh ks js (low_of t.whole) h k alike)
    ∙ sym (puts_ascend room (entries_of sh js) (words_of bytes) es (state_of t) old_in js_in)
    ∙ sym second.1)
  where
    es : List Entry
    es = entries (words_of bytes)

    in_list : InKeys sh (list_of sh bytes)
    in_list = ascending_keys sh (ascending_list t.whole)

    us : List Entry
    us = ascend (entries_of sh (list_of sh bytes ++ ks))

    room : Roomy sh us
    room = keys_roomy sh (list_of sh bytes ++ ks) (low_of t.whole) (all_both sh (list_of sh bytes) ks in_list h) few

    among : (x : Entry) → holds x us ≡ (holds x es || holds x (entries_of sh ks))
    among x =
        holds_ascend x (entries_of sh (list_of sh bytes ++ ks))
        ∙ ap (holds x) (map_both sh (list_of sh bytes) ks)
        ∙ holds_append x (entries_of sh (list_of sh bytes)) (entries_of sh ks)
        ∙ ap (λ (fs : List Entry). holds x fs || holds x (entries_of sh ks)) (split_keys sh (in_shape t.whole))

    old_in : Inside es us
    old_in x y = among x ∙ or_left (holds x es) (holds x (entries_of sh ks)) y

    ks_in : Inside (entries_of sh ks) us
    ks_in x y = among x ∙ or_right (holds x es) (holds x (entries_of sh ks)) y

    js_in : Inside (entries_of sh js) us
    js_in x y = ks_in x (same_entries sh ks js (low_of t.whole) h k alike x ∙ y)

    first :
        PlainTable sh (put_all sh bytes ks)
        × (words_of (put_all sh bytes ks) ≡ puts sh (words_of bytes) (entries_of sh ks))
    first = put_all_plain ks t h

    second :
        PlainTable sh (put_all sh bytes js)
        × (words_of (put_all sh bytes js) ≡ puts sh (words_of bytes) (entries_of sh js))
    second = put_all_plain js t k

    long : {bs : List ℕ} → PlainTable sh bs → length bs ≡ 2 * places sh
    long {bs} v = (good_table_lem sh (length bs) v.whole.good).1

-- ---- build is puts from zero bytes
zero_bytes : (n : ℕ) → bytes_of (replicate n zero_word) ≡ replicate (2 * n) 0
unfolding bytes_of number_of
zero_bytes zero = refl
zero_bytes (suc n) = ap (λ (bs : List ℕ). 0 ∷ 0 ∷ bs) (zero_bytes n) ∙ ap (λ (k : ℕ). replicate k 0) far
  where
    far : suc (suc (2 * n)) ≡ 2 * suc n
    far = omega arith

pub build_puts :
    (sh : Shape) (bytes ks : List ℕ) →
    good_table sh (length bytes) ≡ true →
    InKeys sh ks →
    distinct sh ks ≤ homes sh →
    build sh bytes ks ≡ leaves (says 0) (put_all sh (replicate (length bytes) 0) ks)
unfolding zeros places
build_puts sh bytes ks good h few =
    build_few sh bytes ks good h few
    ∙ ap
    (leaves (says 0))
    (sym same
    ∙ ap
    (λ (bs : List ℕ). put_all sh bs ks)
    (zero_bytes (places sh) ∙ ap (λ (n : ℕ). replicate n 0) (sym long)))
  where
    range : InRange sh
    range = (good_table_lem sh (length bytes) good).0

    long : length bytes ≡ 2 * places sh
    long = (good_table_lem sh (length bytes) good).1

    done :
        PlainTable sh (put_all sh (bytes_of (zeros sh)) ks)
        × (words_of (put_all sh (bytes_of (zeros sh)) ks) ≡ puts sh (words_of (bytes_of (zeros sh))) (entries_of sh ks))
    done = put_all_plain ks (plain_of sh range (zeros_state sh)) h

    same : put_all sh (bytes_of (zeros sh)) ks ≡ bytes_of (puts sh (zeros sh) (entries_of sh ks))
    same =
        bytes_are
        (put_all sh (bytes_of (zeros sh)) ks)
        (places sh)
        (puts sh (zeros sh) (entries_of sh ks))
        (good_table_lem sh (length (put_all sh (bytes_of (zeros sh)) ks)) done.0.whole.good).1
        done.0.whole.small
        (done.1 ∙ ap (λ (ws : List Word). puts sh ws (entries_of sh ks)) (words_back sh range (zeros_state sh)))
