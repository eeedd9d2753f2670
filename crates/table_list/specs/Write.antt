-- The keys written to the front of the slots, one a turn. `Writing` is the loop's invariant: the first k keys are
-- written, and what is left of the table has the others. `write_begins`, `write_on`, `write_ends` are its laws.
-- Assumes nothing.
use Rattle.std.specs.Prelude.{ℕ, zero, suc, ◌+◌, ◌*◌, ◌≤◌, ◌<◌, ◌≡◌, refl, false, take}
use Rattle.std.proofs.Math.Path.{sym, ap, ap₂}
use Rattle.std.proofs.Common.{◌∙◌, true≢false, add-one, arith, take-suc, drop-cons, length-take-le, drop_of_length-le, append-nil}
use Rattle.std.proofs.Math.Bool.{true}
use mathlib.Core.List.{List, [], ◌∷◌, ◌++◌, append_assoc}
use Rattle.std.proofs.Math.ListN.{length, get_or, set, drop, length-map, length-set, get_or-map}
use Rattle.std.proofs.Math.Seq.{slice, take-length}
use Rattle.std.proofs.lemmas.List.{set_at}
use Rattle.rules.specs.declared.Shape.{Shape}
use Rattle.rules.specs.Lists.{bit_of, at_front}
use Rattle.rules.specs.Word.{Word, word_of, is_void}
use Rattle.rules.specs.Bytes.{words_of}
use Rattle.rules.specs.Entry.{Entry, join}
use Rattle.rules.specs.Shape.{remainders, places}
use Rattle.rules.specs.Table.{at, entries, list, guards_void, sound}
use Rattle.table_words.specs.Range.{InRange, remainders_high}
use Rattle.table_words.specs.Split.{InShape}
use Rattle.table_words.specs.Layout.{words_length}
use Rattle.theory.specs.Every.{All}
use Rattle.theory.specs.Every as every
use Rattle.theory.specs.Seen.{Table}
use Rattle.theory.specs.SoundTable.{sound_is_table, table_guards}
use Rattle.theory.specs.Dealt.{is_virgin, and_left, entry_path}
use Rattle.theory.specs.Places.{void_free}
use Rattle.theory.specs.Locks.{void_unlock}
use Rattle.theory.specs.Keys.{table_inside, asc_in_shape}
use Rattle.table_cluster.specs.Run.{run_step}
use Rattle.table_cluster.specs.Homes.{homes_from, first_of, home_passed, Due}
use Rattle.table_list.specs.Queue.{deal_occupied, queue_free, table_queue}
use Rattle.table_list.specs.Scan.{whole_table, key_from, home_from, Homed, word_inside, turn, next_entry, next_left}

-- what holds of all holds of the k-th
all_get_d :
    {A : Type 0} {P : A → Type 0} {xs : List A} (k : ℕ) (d : A) → All P xs → k < length xs → P (get_or xs k d)
all_get_d k d every.none lt = absurd (omega arith)
all_get_d zero d (every.both p ps) lt = p
all_get_d (suc k) d (every.both p ps) lt = all_get_d k d ps (omega arith)

-- the next of some keys written after the first k
front_step :
    (ks ts : List ℕ) (k z : ℕ) →
    k < length ks →
    k < length ts → set (take k ks ++ drop k ts) k (get_or ks k z) ≡ take (k + 1) ks ++ drop (k + 1) ts
front_step ks ts k z here room =
    rw (add-one k, drop-cons ts k z room, take-suc ks k z here)
    (set_at (take k ks) (get_or ts k z) (drop (suc k) ts) (get_or ks k z) k (length-take-le k ks (omega arith))
    ∙ sym (append_assoc (take k ks) (get_or ks k z ∷ []) (drop (suc k) ts)))

abbrev no_entry : Entry
no_entry = record { home_place = 0; remainder = 0 }

-- k keys are written; h is the home and p the place of the last of them, w the word there
pub record Writing (sh : Shape) (bs : List ℕ) (slots₀ : List ℕ) (h p w k : ℕ) (slots : List ℕ) : Type 0 where
  pub reached : k ≤ length (list sh (words_of bs))
  pub size : length slots ≡ length slots₀
  pub written : slots ≡ take k (list sh (words_of bs)) ++ drop k slots₀
  pub left :
      deal_occupied
      (homes_from (words_of bs) (length (words_of bs)) (h + bit_of (word_of w).change))
      (slice (p + 1) (length (words_of bs)) (words_of bs))
      ≡ drop k (entries (words_of bs))
  pub here : (word_of w).change ≡ false → home_from (words_of bs) h ≡ h

-- what the writing starts from: a sound table with its n keys, and room for them
pub record Listable (sh : Shape) (bs : List ℕ) (n : ℕ) (slots : List ℕ) : Type 0 where
  pub range : InRange sh
  pub size : length bs ≡ 2 * places sh
  pub snd : sound sh (words_of bs) ≡ true
  pub keys : n ≡ length (list sh (words_of bs))
  pub room : n ≤ length slots

module _ {sh : Shape} {bs : List ℕ} {n : ℕ} {slots₀ : List ℕ} (given : Listable sh bs n slots₀) where
  abbrev r : ℕ
  r = length (words_of bs)

  -- the slots that are written
  abbrev ts : List ℕ
  ts = take n slots₀

  ts_length : length ts ≡ n
  ts_length = length-take-le n slots₀ given.room

  low : remainders sh ≤ 4096
  low = remainders_high sh given.range

  sized : r ≡ places sh
  sized = words_length bs (places sh) given.size

  within : 2 * r ≤ length bs
  within = omega (arith, sized, given.size)

  whole : Table (remainders sh) (words_of bs) (entries (words_of bs))
  whole = sound_is_table sh (words_of bs) low sized given.snd

  inside : All (InShape sh) (entries (words_of bs))
  inside = asc_in_shape sh low (table_inside sh low sized whole)

  -- the left guard is void: the homes and the occupied words begin after it
  after_guard : deal_occupied (homes_from (words_of bs) r 1) (slice 1 r (words_of bs)) ≡ entries (words_of bs)
  unfolding places guards_void
  after_guard =
      let void : is_void (at (words_of bs) 0) ≡ true =
      and_left (is_void (at (words_of bs) 0)) _ (table_guards sh sized whole) in
      let some : 0 < r = omega (arith, sized) in
      sym
      (ap (λ (ws : List Word). deal_occupied (homes_from (words_of bs) r 1) ws) (run_step bs 0 r some within)
      ∙ queue_free _ _ _ (void_free _ void))
      ∙ ap
      (λ (hs : List ℕ). deal_occupied hs (slice 0 r (words_of bs)))
      (home_passed bs 0 r some within (ap is_virgin (void_unlock _ void)))
      ∙ rw (whole_table bs r (places sh) given.size sized) (table_queue sh low whole)

  pub write_begins : (w : ℕ) → (word_of w).change ≡ true → Writing sh bs ts 0 0 w 0 ts
  write_begins w ends =
      record {
        reached = omega arith;
        size = refl;
        written = refl;
        left = rw ends after_guard;
        here = λ goes. absurd (true≢false (sym ends ∙ goes));
      }

  -- each of the first n slots is written
  pub write_ends :
      {h p w k : ℕ} {slots : List ℕ} →
      Writing sh bs ts h p w k slots → length ts ≤ k →
      slots ++ drop n slots₀ ≡ at_front (list sh (words_of bs)) slots₀
  unfolding at_front
  write_ends {k = k} s done =
      let all_keys : k ≡ length (list sh (words_of bs)) = omega (arith, s.reached, ts_length) in
      ap₂ ◌++◌
      (s.written
      ∙ rw (drop_of_length-le ts done, all_keys, take-length (list sh (words_of bs)), append-nil))
      (ap (λ (m : ℕ). drop m slots₀) given.keys)

  module _ {h p w k : ℕ} {slots : List ℕ} (s : Writing sh bs ts h p w k slots) (more : k < length ts) where
    -- the entry that is next, and those after it
    abbrev e : Entry
    e = get_or (entries (words_of bs)) k no_entry

    abbrev es : List Entry
    es = drop (suc k) (entries (words_of bs))

    abbrev v : ℕ
    v = h + bit_of (word_of w).change

    among : k < length (entries (words_of bs))
    unfolding list
    among = omega (arith, length-map (entries (words_of bs)) (join sh), ts_length)

    left : deal_occupied (homes_from (words_of bs) r v) (slice (p + 1) r (words_of bs)) ≡ e ∷ es
    left = s.left ∙ drop-cons (entries (words_of bs)) k no_entry among

    shaped : InShape sh e
    shaped = all_get_d k no_entry inside among

    home_due : Due bs r (homes_from (words_of bs) r v)
    home_due = turn bs r v (p + 1) e es within left shaped.home_low

    pub homed : Homed bs h w
    homed = record { ahead = home_due.inside; here = s.here }

    pub key_inside : key_from (words_of bs) (p + 1) < length (words_of bs)
    key_inside = word_inside bs r v (p + 1) e es within left shaped.home_low

    module _ (g q x y : ℕ)
        (home_at : g ≡ home_from (words_of bs) (h + bit_of (word_of w).change))
        (found : q ≡ key_from (words_of bs) (p + 1))
        (word : word_of x ≡ at (words_of bs) q)
        (remainder : y ≡ (word_of x).remainder)
      where
        there : word_of x ≡ at (words_of bs) (key_from (words_of bs) (p + 1))
        there = word ∙ ap (at (words_of bs)) found

        same_entry_lem : record { home_place = g; remainder = y } ≡ e
        same_entry_lem =
            entry_path home_at (remainder ∙ ap (λ (u : Word). u.remainder) there)
            ∙ next_entry bs r v (p + 1) e es within left shaped.home_low

        pub entry_shaped : InShape sh (record { home_place = g; remainder = y })
        entry_shaped = rw same_entry_lem shaped

        pub write_on :
            (key : ℕ) →
            key ≡ join sh (record { home_place = g; remainder = y }) →
            Writing sh bs ts g q x (k + 1) (set slots k key)
        unfolding list
        write_on key joined =
            record {
              reached = omega (arith, ts_length);
              size = length-set slots k key ∙ s.size;
              written =
                  ap₂ (λ (t : List ℕ) (n : ℕ). set t k n) s.written key_is
                  ∙ front_step (list sh (words_of bs)) ts k (join sh no_entry) (omega (arith, ts_length)) more;
              left =
                  rw (home_at, found, there) (next_left bs r v (p + 1) e es within left shaped.home_low)
                  ∙ ap (λ (n : ℕ). drop n (entries (words_of bs))) (sym (add-one k));
              here = λ goes. rw home_at (ap (first_of r) home_due.same);
            }
          where
            key_is : key ≡ get_or (list sh (words_of bs)) k (join sh no_entry)
            key_is =
                joined
                ∙ ap (join sh) same_entry_lem
                ∙ sym (get_or-map (join sh) (entries (words_of bs)) k no_entry)
