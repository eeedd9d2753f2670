-- The search for the next place whose word is so, `first_from`: an occupied one, `key_from`, or a home, `home_from`.
-- One turn of the listing: the next occupied word has the next entry, `next_entry`, and the others stay, `next_left`.
-- Assumes nothing.
use Rattle.std.specs.Prelude.{ℕ, zero, suc, ◌+◌, ◌-◌, ◌*◌, ◌≤◌, ◌<◌, ◌≡◌, refl, Bool, true, false, cond, List, [], ◌∷◌, length, ltb}
use Rattle.std.proofs.Common.{sym, ap, ◌∙◌, add-zero, arith, take_all, ltb-true, ltb-false}
use Rattle.std.proofs.Math.Numerals.{add-one}
use Rattle.std.proofs.Math.Seq.{slice, length-slice}
use Rattle.rules.specs.Lists.{bit_of}
use Rattle.rules.specs.Word.{Word, word_of}
use Rattle.rules.specs.Bytes.{words_of}
use Rattle.rules.specs.Entry.{Entry}
use Rattle.rules.specs.Table.{at, virgin_places, front, due}
use Rattle.table_words.specs.Layout.{words_length}
use Rattle.theory.specs.Dealt.{is_occupied, is_virgin, entry_path}
use Rattle.table_cluster.specs.Run.{run_step, run_end}
use Rattle.table_cluster.specs.Scan.{words_count}
use Rattle.table_cluster.specs.Homes.{homes_from, first_of, home_end, Due, due_home}
use Rattle.table_list.specs.Queue.{deal_occupied, queue_taken, queue_free}

-- all the words of a table
pub whole_table : (bs : List ℕ) (r n : ℕ) → length bs ≡ 2 * n → r ≡ n → slice 0 r (words_of bs) ≡ words_of bs
whole_table bs r n size end = take_all r (words_of bs) (omega (arith, words_length bs n size))

-- ---- the next one
-- the first place from place p on whose word is so, where ws are the words from there on: the end if there is none
unfoldable pub next_that : (Word → Bool) → ℕ → List Word → ℕ
next_that is p [] = p
next_that is p (w ∷ ws) = cond (is w) p (next_that is (suc p) ws)

abbrev pub that_from : (Word → Bool) → List Word → ℕ → ℕ → ℕ
that_from is ws r p = next_that is p (slice p r ws)

module _ (is : Word → Bool) (bs : List ℕ) (i r : ℕ) where
  that_passed :
      i < r → 2 * r ≤ length bs → is (at (words_of bs) i) ≡ false →
      that_from is (words_of bs) r (i + 1) ≡ that_from is (words_of bs) r i
  unfolding next_that
  that_passed lt within e = rw (run_step bs i r lt within, e, add-one i)

  that_met : i < r → 2 * r ≤ length bs → is (at (words_of bs) i) ≡ true → that_from is (words_of bs) r i ≡ i
  unfolding next_that
  that_met lt within e = rw (run_step bs i r lt within, e)

  that_end : r ≤ i → that_from is (words_of bs) r i ≡ i
  unfolding next_that
  that_end h = rw (run_end bs i r h)

-- ---- the search in a whole table, for a place that there is
abbrev pub first_from : (Word → Bool) → List Word → ℕ → ℕ
first_from is ws p = that_from is ws (length ws) p

-- the tests, which are of numbers, tell of each word whether it is so
abbrev pub Tells : (ℕ → Bool → Type 0) → (Word → Bool) → Type 0
Tells test is = (w : ℕ) (b : Bool) → w < 65536 → test w b → b ≡ is (word_of w)

-- what is tested is found from place p on
pub record Found (test : ℕ → Bool → Type 0) (ws : List Word) (p : ℕ) : Type 0 where
  pub is : Word → Bool
  pub told : Tells test is
  pub ahead : first_from is ws p < length ws

-- what is found from place i on is what is found from place p on
abbrev pub SameFound : (ℕ → Bool → Type 0) → List ℕ → ℕ → ℕ → Type 0
SameFound test bs i p =
    (is : Word → Bool) → Tells test is → first_from is (words_of bs) i ≡ first_from is (words_of bs) p

module _ (is : Word → Bool) (bs : List ℕ) (i : ℕ) where
  abbrev all_words : ℕ
  all_words = length (words_of bs)

  within : 2 * all_words ≤ length bs
  within = omega (arith, words_count bs)

  -- a place from which one is found is inside the table
  pub first_ahead : first_from is (words_of bs) i < all_words → i < all_words
  first_ahead some = go (ltb i all_words) refl
    where
      go : (b : Bool) → ltb i all_words ≡ b → i < all_words
      go true e = ltb-true i all_words e
      go false e =
          let end = ltb-false i all_words e in
          absurd (omega (arith, that_end is bs i all_words end))

  pub first_passed :
      i < all_words → is (at (words_of bs) i) ≡ false →
      first_from is (words_of bs) (i + 1) ≡ first_from is (words_of bs) i
  first_passed inside e = that_passed is bs i all_words inside within e

  pub first_met : i < all_words → is (at (words_of bs) i) ≡ true → first_from is (words_of bs) i ≡ i
  first_met inside e = that_met is bs i all_words inside within e

module _ (test : ℕ → Bool → Type 0) (bs : List ℕ) (i p : ℕ) (same : SameFound test bs i p) where
  pub found_inside : Found test (words_of bs) p → i < length (words_of bs)
  found_inside found = first_ahead found.is bs i (omega (arith, same found.is found.told, found.ahead))

  -- the word w at place i is tested
  module _ (inside : i < length (words_of bs)) (w : ℕ) (low : w < 65536) (word : word_of w ≡ at (words_of bs) i) where
    pub found_passed : test w false → SameFound test bs (i + 1) p
    found_passed failed =
        λ is told. first_passed is bs i inside (rw word at (sym (told w false low failed))) ∙ same is told

    pub found_met : test w true → (is : Word → Bool) → Tells test is → i ≡ first_from is (words_of bs) p
    found_met held =
        λ is told. sym (first_met is bs i inside (rw word at (sym (told w true low held)))) ∙ same is told

-- the next occupied place, and the next home
abbrev pub key_from : List Word → ℕ → ℕ
key_from ws p = first_from is_occupied ws p

abbrev pub home_from : List Word → ℕ → ℕ
home_from ws p = first_of (length ws) (homes_from ws (length ws) p)

-- the first of the homes is the first place with a virgin bit
first_home : (r p : ℕ) (ws : List Word) → p + length ws ≡ r → first_of r (virgin_places p ws) ≡ next_that is_virgin p ws
unfolding next_that virgin_places
first_home r p [] size = omega arith
first_home r p (w ∷ ws) size = go w.virgin (first_home r (suc p) ws (omega arith))
  where
    go :
        (b : Bool) → first_of r (virgin_places (suc p) ws) ≡ next_that is_virgin (suc p) ws →
        first_of r (cond b (p ∷ virgin_places (suc p) ws) (virgin_places (suc p) ws))
        ≡ cond b p (next_that is_virgin (suc p) ws)
    go true rest = refl
    go false rest = rest

pub home_is :
    (bs : List ℕ) (p : ℕ) → home_from (words_of bs) p < length (words_of bs) →
    first_from is_virgin (words_of bs) p ≡ home_from (words_of bs) p
home_is bs p some = go (ltb p (length (words_of bs))) refl
  where
    go : (b : Bool) → ltb p (length (words_of bs)) ≡ b → first_from is_virgin (words_of bs) p ≡ home_from (words_of bs) p
    go true e =
        let r = length (words_of bs) in
        let lt = ltb-true p r e in
        sym (first_home r p (slice p r (words_of bs)) (omega (arith, length-slice p r (words_of bs) (omega arith))))
    go false e =
        let r = length (words_of bs) in
        absurd (omega (arith, ap (first_of r) (home_end bs p r (ltb-false p r e))))

-- h is the home of the group that the word w is in, and where w ends it there is a next home
pub record Homed (bs : List ℕ) (h w : ℕ) : Type 0 where
  pub ahead : home_from (words_of bs) (h + bit_of (word_of w).change) < length (words_of bs)
  pub here : (word_of w).change ≡ false → home_from (words_of bs) h ≡ h

-- where entries are left there is a next occupied word, and the words up to it have none
record Met (bs : List ℕ) (r : ℕ) (hs : List ℕ) (i q : ℕ) : Type 0 where
  inside : q < r
  taken : (at (words_of bs) q).occupied ≡ true
  same : deal_occupied hs (slice q r (words_of bs)) ≡ deal_occupied hs (slice i r (words_of bs))

met :
    (bs : List ℕ) (r : ℕ) (hs : List ℕ) (i : ℕ) →
    2 * r ≤ length bs →
    0 < length (deal_occupied hs (slice i r (words_of bs))) → Met bs r hs i (that_from is_occupied (words_of bs) r i)
unfolding deal_occupied
met bs r hs i within = go (r - i) i refl
  where
    here :
        (i : ℕ) → i < r → (b : Bool) → (at (words_of bs) i).occupied ≡ b →
        (0 < length (deal_occupied hs (slice (i + 1) r (words_of bs))) →
        Met bs r hs (i + 1) (that_from is_occupied (words_of bs) r (i + 1))) →
        0 < length (deal_occupied hs (slice i r (words_of bs))) → Met bs r hs i (that_from is_occupied (words_of bs) r i)
    here i lt true e rest some =
        rw (that_met is_occupied bs i r lt within e) (record { inside = lt; taken = e; same = refl })
    here i lt false e rest some =
        let passed = ap (deal_occupied hs) (run_step bs i r lt within)
        ∙ queue_free hs (at (words_of bs) i) (slice (i + 1) r (words_of bs)) e in
        let later = rest (rw passed at some) in
        rw (← that_passed is_occupied bs i r lt within e)
        (record { inside = later.inside; taken = later.taken; same = later.same ∙ sym passed })

    go :
        (n i : ℕ) → r - i ≡ n →
        0 < length (deal_occupied hs (slice i r (words_of bs))) → Met bs r hs i (that_from is_occupied (words_of bs) r i)
    go zero i e some = absurd (omega (arith, rw (run_end bs i r (omega arith)) at some))
    go (suc n) i e some = here i (omega arith) (at (words_of bs) i).occupied refl (go n (i + 1) (omega arith)) some

-- ---- one turn
module _ (bs : List ℕ) (r v i : ℕ) (e : Entry) (es : List Entry)
    (inside : 2 * r ≤ length bs)
    (left : deal_occupied (homes_from (words_of bs) r v) (slice i r (words_of bs)) ≡ e ∷ es)
    (housed : 1 ≤ e.home_place)
  where
    abbrev hs : List ℕ
    hs = homes_from (words_of bs) r v

    abbrev q : ℕ
    q = that_from is_occupied (words_of bs) r i

    abbrev u : Word
    u = at (words_of bs) q

    next_word : Met bs r hs i q
    next_word = met bs r hs i inside (rw left (omega arith))

    pub word_inside : q < r
    word_inside = next_word.inside

    -- the next word's entry is the next one
    cards :
        record { home_place = front hs; remainder = u.remainder }
        ∷ deal_occupied (due u.change hs) (slice (q + 1) r (words_of bs))
        ≡ e ∷ es
    cards =
        sym (queue_taken hs u (slice (q + 1) r (words_of bs)) next_word.taken)
        ∙ ap (deal_occupied hs) (sym (run_step bs q r next_word.inside inside))
        ∙ next_word.same
        ∙ left

    -- the entry has a home, so one is left
    pub turn : Due bs r hs
    turn =
        let dealt : record { home_place = front hs; remainder = u.remainder } ≡ e = cc cards in
        due_home bs v r inside (some hs (ap (λ (f : Entry). f.home_place) dealt))
      where
        some : (gs : List ℕ) → front gs ≡ e.home_place → 0 < length gs
        some [] p = absurd (omega arith)
        some (g ∷ gs) p = omega arith

    pub next_entry : record { home_place = first_of r hs; remainder = u.remainder } ≡ e
    next_entry =
        let dealt : record { home_place = front hs; remainder = u.remainder } ≡ e = cc cards in
        entry_path (sym (ap front turn.first)) refl ∙ dealt

    pub next_left :
        deal_occupied (homes_from (words_of bs) r (first_of r hs + bit_of u.change)) (slice (q + 1) r (words_of bs)) ≡ es
    next_left =
        let dealt : deal_occupied (due u.change hs) (slice (q + 1) r (words_of bs)) ≡ es = cc cards in
        rw (go u.change) dealt
      where
        go : (b : Bool) → homes_from (words_of bs) r (first_of r hs + bit_of b) ≡ due b hs
        go true = sym (ap (due true) turn.first)
        go false = rw add-zero turn.same
