-- A read of a home's cluster from its left end, `Beside`: where its group begins, counted from the home (`start_right`,
-- `start_left`, `begins`), and what is read there, `read_from`. `read_from_lem`: where the cluster has a home for each of
-- its groups, that is the rule's read of its keys, wherever it ends.
-- Assumes nothing.
use Rattle.std.specs.Prelude.{ℕ, suc, ◌+◌, ◌-◌, ◌*◌, ◌≤◌, ◌<◌, ◌≡◌, Bool, List, [], ◌∷◌, ◌++◌, take, drop}
use Rattle.std.proofs.Math.Path.{refl, ap}
use Rattle.std.proofs.Common.{sym, ◌∙◌, ap₂, add-one, drop-drop}
use Rattle.std.proofs.Math.Bool.{true, false, cond}
use native.Mathlib.Omega.{arith}
use Rattle.std.proofs.Math.ListN.{length}
use Rattle.std.proofs.Math.Seq.{slice, length-slice}
use Rattle.rules.specs.Lists.{bit_of, count}
use Rattle.rules.specs.Word.{Word, word_of}
use Rattle.rules.specs.Bytes.{words_of}
use Rattle.rules.specs.Entry.{Entry}
use Rattle.rules.specs.Table.{at, between, virgin_places, deal, entries_between}
use Rattle.table_words.specs.Counts.{count_append}
use Rattle.theory.specs.Dealt.{is_change, is_virgin}
use Rattle.theory.specs.RunLaws.{virgin_count, virgins_append}
use Rattle.table_cluster.specs.Scan.{words_count}
use Rattle.table_cluster.specs.Run.{run_step, run_end, run_last}
use Rattle.table_cluster.specs.Homes.{homes_from, home_passed, home_met, Housed, Owed, housed_owed}
use Rattle.table_read.specs.Read.{read_of, after, unseen, read_whole}
use Rattle.table_read.specs.Group.{places_of, words_from, passed, more, read_seen, group_read, Below, Above, Passed}
use Rattle.table_read.specs.Group.{virgins_below, virgins_above, pass_groups, pass_later, read_group, split_run}
use Rattle.table_read.specs.Group.{passed_front, passed_beyond, passed_left, group_front, group_there}
use Rattle.table_read.specs.declared.mark.Mark.TheVariants.{NewGroup}
use Rattle.table_read.specs.declared.read.Read.{Read}
use Rattle.table_cluster.specs.declared.gaps.End.{End}

-- how many words the groups of a run have, all but the last k
abbrev pub all_but : ℕ → List Word → ℕ
all_but k ws = passed ws (count is_change ws - k)

-- ---- groups passed over to the left, from place to place: the word at place i - 1 is looked at
module _ (bs : List ℕ) (a i : ℕ) (from : a < i) (within : 2 * i ≤ length bs) where
  abbrev us : List Word
  us = slice a (i - 1) (words_of bs)

  one_more : slice a i (words_of bs) ≡ us ++ (at (words_of bs) (i - 1) ∷ [])
  one_more = let here : i - 1 + 1 ≡ i = omega arith in rw here at (run_last bs a (i - 1) (omega arith) (omega arith))

  module _ (w x k : ℕ) (word : word_of w ≡ at (words_of bs) (i - 1)) (bit : x ≡ bit_of (word_of w).change) where
    one_counted : count is_change (slice a i (words_of bs)) ≡ count is_change us + x
    unfolding count
    one_counted =
        ap (count is_change) one_more
        ∙ count_append is_change us (at (words_of bs) (i - 1) ∷ [])
        ∙ rw (← word) (omega (arith, bit))

    pub back_on :
        (j : ℕ) → j + x ≡ k → k ≤ count is_change (slice a i (words_of bs)) →
        (j ≤ count is_change us) × (all_but j us ≡ all_but k (slice a i (words_of bs)))
    back_on j few left =
        let same : count is_change (slice a i (words_of bs)) - k ≡ count is_change us - j =
        omega (arith, one_counted) in (
          omega (arith, one_counted),
          sym
              (ap₂ passed one_more same
              ∙ passed_front us (at (words_of bs) (i - 1) ∷ []) (count is_change us - j) (omega arith)),
        )

    pub back_stop : k < x → i ≡ a + all_but k (slice a i (words_of bs))
    unfolding passed
    back_stop less = go (word_of w).change refl
      where
        size : a + length us ≡ i - 1
        size = omega (arith, length-slice a (i - 1) (words_of bs) (omega (arith, words_count bs)))

        go : (b : Bool) → (word_of w).change ≡ b → i ≡ a + all_but k (slice a i (words_of bs))
        go false c = absurd (omega (arith, bit, ap bit_of c))
        go true c =
            let one : x ≡ 1 = bit ∙ ap bit_of c in
            let all : count is_change (slice a i (words_of bs)) - k ≡ count is_change us + 1 =
            omega (arith, one, one_counted) in
            let ended : passed (at (words_of bs) (i - 1) ∷ []) 1 ≡ 1 = refl in
            omega (
              arith,
              size,
              ended,
              ap₂ passed one_more all,
              passed_beyond us (at (words_of bs) (i - 1) ∷ []) 1 (count is_change us + 1) (omega arith) refl,
            )

pub back_end : (bs : List ℕ) (a i k : ℕ) → i ≤ a → all_but k (slice a i (words_of bs)) ≡ 0
unfolding passed
back_end bs a i k low = rw (run_end bs a i low) refl

-- ---- the group of a home
-- a left end, its bits counted up to the home, and a word for each group that is passed over or read
pub record LeftCounted (bs : List ℕ) (l : End) (home_at : ℕ) : Type 0 where
  pub before : l.gap.0 < home_at
  pub within : 2 * home_at + 1 < length bs
  pub small : home_at < 4294967295
  pub virgins : l.virgins ≡ count is_virgin (slice (l.gap.0 + 1) home_at (words_of bs))
  pub changes : l.changes ≡ count is_change (slice (l.gap.0 + 1) home_at (words_of bs))
  pub few : l.virgins ≤ count is_change (words_from bs (l.gap.0 + 1))
  pub next :
      (at (words_of bs) home_at).virgin ≡ true → l.virgins + 1 ≤ count is_change (words_from bs (l.gap.0 + 1))

-- how many words stand before the home's group: those of the groups of the homes left of it
abbrev pub group_start : List ℕ → ℕ → ℕ → ℕ
group_start bs l home_at = passed (words_from bs (l + 1)) (count is_virgin (slice (l + 1) home_at (words_of bs)))

-- the home's group begins at place p, or would; if the home is one, the group's end is in the table
pub record Begins (bs : List ℕ) (l p home_at : ℕ) : Type 0 where
  pub within : 2 * home_at + 1 < length bs
  pub place : p ≡ l + 1 + group_start bs l home_at
  pub ends : (at (words_of bs) home_at).virgin ≡ true → 1 ≤ count is_change (words_from bs p)

module _ {bs : List ℕ} {l : End} {home_at : ℕ} (b : LeftCounted bs l home_at) where
  abbrev first : ℕ
  first = l.gap.0 + 1

  parts : words_from bs first ≡ slice first home_at (words_of bs) ++ words_from bs home_at
  parts =
      split_run bs (places_of bs) (omega arith) (home_at - first) first home_at refl (omega (arith, b.before))
      (omega (arith, b.within, b.small))

  pub right_few : l.changes < l.virgins → l.virgins - l.changes ≤ count is_change (words_from bs home_at)
  right_few more-homes =
      omega (
        arith,
        b.few,
        b.changes,
        ap (count is_change) parts,
        count_append is_change (slice first home_at (words_of bs)) (words_from bs home_at),
      )

  pub start_right :
      l.changes < l.virgins →
      home_at + passed (words_from bs home_at) (l.virgins - l.changes) ≡ first + passed (words_from bs first) l.virgins
  start_right more-homes =
      omega (
        arith,
        b.before,
        length-slice first home_at (words_of bs) (omega (arith, b.within, words_count bs)),
        ap (λ (ws : List Word). passed ws l.virgins) parts,
        passed_beyond (slice first home_at (words_of bs)) (words_from bs home_at) (l.virgins - l.changes) l.virgins
            (omega arith)
            (omega (arith, b.changes)),
      )

  pub left_few : l.changes - l.virgins ≤ count is_change (slice first home_at (words_of bs))
  left_few = omega (arith, b.changes)

  pub start_left :
      l.virgins ≤ l.changes →
      first + all_but (l.changes - l.virgins) (slice first home_at (words_of bs))
      ≡ first + passed (words_from bs first) l.virgins
  start_left more-groups =
      let all : count is_change (slice first home_at (words_of bs)) - (l.changes - l.virgins) ≡ l.virgins =
      omega (arith, b.changes) in
      omega (
        arith,
        ap (passed (slice first home_at (words_of bs))) all,
        ap (λ (ws : List Word). passed ws l.virgins) parts,
        passed_front (slice first home_at (words_of bs)) (words_from bs home_at) l.virgins (omega (arith, b.changes)),
      )

  -- the groups of the homes left of it, as they are counted
  pub start_is : first + passed (words_from bs first) l.virgins ≡ first + group_start bs l.gap.0 home_at
  start_is = ap (λ (k : ℕ). first + passed (words_from bs first) k) b.virgins

  -- there the home's group begins, if the home is one
  pub begins : (p : ℕ) → p ≡ first + group_start bs l.gap.0 home_at → Begins bs l.gap.0 p home_at
  begins p place =
      record {
        within = b.within;
        place = place;
        ends =
            λ (virgin : (at (words_of bs) home_at).virgin ≡ true).
            rw
            (place ∙ sym start_is, sym (drop-drop n first (take (places_of bs) (words_of bs))))
            (omega (arith, b.next virgin, passed_left (words_from bs first) l.virgins b.few));
      }
    where
      n : ℕ
      n = passed (words_from bs first) l.virgins

-- ---- what is read
unfoldable pub read_from : List ℕ → ℕ → Entry → Read
read_from bs l e =
    cond (at (words_of bs) e.home_place).virgin
    (group_read e (more (group_start bs l e.home_place) unseen) (words_from bs (l + 1 + group_start bs l e.home_place)))
    (read_seen (more (group_start bs l e.home_place) unseen))

-- as the code has it, with so many words before the place p
module _ {bs : List ℕ} {l p : ℕ} (e : Entry) (b : Begins bs l p e.home_place) (n : ℕ) (way : n ≡ p - (l + 1)) where
  words_before : n ≡ group_start bs l e.home_place
  words_before = omega (arith, b.place, way)

  pub read_own :
      (at (words_of bs) e.home_place).virgin ≡ true → group_read e (more n unseen) (words_from bs p) ≡ read_from bs l e
  unfolding read_from
  read_own virgin =
      rw virgin (ap₂ (λ (k i : ℕ). group_read e (more k unseen) (words_from bs i)) words_before b.place)

  pub read_new :
      (at (words_of bs) e.home_place).virgin ≡ false →
      record { held = false; smaller = n; mark = NewGroup } ≡ read_from bs l e
  unfolding read_from
  read_new none =
      let all : n ≡ 0 + group_start bs l e.home_place = omega (arith, words_before) in
      rw none (ap (λ (k : ℕ). record { held = false; smaller = k; mark = NewGroup }) all)

module _ (e : Entry) (bs : List ℕ) (l r : ℕ) (after_l : l < e.home_place) (before_r : e.home_place < r)
    (within : 2 * r ≤ length bs) (small : r ≤ 4294967295) (housed : Housed (between (words_of bs) l r))
  where
    -- the run, the words left of the home, the homes among them, and the words of their groups
    abbrev run : List Word
    run = slice (l + 1) r (words_of bs)

    abbrev left : List Word
    left = slice (l + 1) e.home_place (words_of bs)

    abbrev homes : ℕ
    homes = count is_virgin left

    abbrev words : ℕ
    words = passed run homes

    cut : run ≡ left ++ slice e.home_place r (words_of bs)
    cut = split_run bs r within (e.home_place - (l + 1)) (l + 1) e.home_place refl (omega arith) (omega arith)

    -- the words to the end of the table begin with the run
    beyond : (a : ℕ) → a ≤ r → words_from bs a ≡ slice a r (words_of bs) ++ words_from bs r
    beyond a low = split_run bs (places_of bs) (omega arith) (r - a) a r refl low (omega arith)

    owed : Owed (virgin_places (l + 1) run) run
    owed = rw add-one (housed_owed (suc l) (between (words_of bs) l r) housed)

    split_homes : virgin_places (l + 1) run ≡ virgin_places (l + 1) left ++ homes_from (words_of bs) r e.home_place
    split_homes =
        let size : l + 1 + length left ≡ e.home_place =
        omega (arith, length-slice (l + 1) e.home_place (words_of bs) (omega (arith, words_count bs))) in
        ap (virgin_places (l + 1)) cut
        ∙ virgins_append (l + 1) left (slice e.home_place r (words_of bs))
        ∙ ap (λ (n : ℕ). virgin_places (l + 1) left ++ virgin_places n (slice e.home_place r (words_of bs))) size

    low : Below e.home_place (virgin_places (l + 1) left)
    low =
        virgins_below
        e.home_place
        (l + 1)
        left
        (omega (arith, length-slice (l + 1) e.home_place (words_of bs) (omega (arith, words_count bs))))

    high : Above e.home_place (homes_from (words_of bs) r (e.home_place + 1))
    high = virgins_above e.home_place (e.home_place + 1) (slice (e.home_place + 1) r (words_of bs)) (omega arith)

    past : Passed e unseen words (virgin_places (l + 1) left) (homes_from (words_of bs) r e.home_place) run
    past =
        rw
        (← virgin_count (l + 1) left)
        (pass_groups
        e
        (homes_from (words_of bs) r e.home_place)
        run
        unseen
        (virgin_places (l + 1) left)
        low
        (rw split_homes at owed))

    rest :
        after e (more words unseen) (deal (homes_from (words_of bs) r e.home_place) (drop words run))
        ≡ read_of e (entries_between (words_of bs) l r)
    rest =
        sym past.same
        ∙ ap (λ (hs : List ℕ). after e unseen (deal hs run)) (sym split_homes)
        ∙ read_whole e bs r l

    -- there are as many groups in the run as homes
    all_homes : count is_virgin run ≡ count is_change run
    all_homes = rw add-one housed.as_many

    run_homes : count is_virgin run ≡ homes + count is_virgin (slice e.home_place r (words_of bs))
    run_homes = ap (count is_virgin) cut ∙ count_append is_virgin left (slice e.home_place r (words_of bs))

    same_start : group_start bs l e.home_place ≡ words
    same_start =
        ap (λ (ws : List Word). passed ws homes) (beyond (l + 1) (omega arith))
        ∙ passed_front run (words_from bs r) homes (omega (arith, all_homes, run_homes))

    new_read :
        (at (words_of bs) e.home_place).virgin ≡ false →
        read_seen (more words unseen) ≡ read_of e (entries_between (words_of bs) l r)
    new_read none =
        sym
        (pass_later
        e
        (more words unseen)
        _
        _
        (rw (← home_passed bs e.home_place r before_r within none) high)
        past.owed)
        ∙ rest

    module _ (virgin : (at (words_of bs) e.home_place).virgin ≡ true) where
      first_home : homes_from (words_of bs) r e.home_place ≡ e.home_place ∷ homes_from (words_of bs) r (e.home_place + 1)
      first_home = home_met bs e.home_place r before_r within virgin

      from_here_lem : drop words run ≡ slice (l + 1 + words) r (words_of bs)
      from_here_lem = drop-drop words (l + 1) (take r (words_of bs))

      group_there_is : 1 ≤ count is_change (slice (l + 1 + words) r (words_of bs))
      group_there_is =
          rw (← from_here_lem) (omega (arith, past.owed.homes, ap length first_home))

      own_read :
          group_read e (more words unseen) (words_from bs (l + 1 + words)) ≡ read_of e (entries_between (words_of bs) l r)
      own_read =
          let inside = group_there bs (l + 1 + words) r 1 (omega arith) group_there_is in
          ap (group_read e (more words unseen)) (beyond (l + 1 + words) (omega (arith, inside)))
          ∙ group_front e (slice (l + 1 + words) r (words_of bs)) (words_from bs r) (more words unseen) group_there_is
          ∙ ap (group_read e (more words unseen)) (sym from_here_lem)
          ∙ sym (read_group e (homes_from (words_of bs) r (e.home_place + 1)) _ (more words unseen) high
          (rw first_home at past.owed))
          ∙ ap (λ (gs : List ℕ). after e (more words unseen) (deal gs (drop words run))) (sym first_home)
          ∙ rest

    pub read_from_lem : read_from bs l e ≡ read_of e (entries_between (words_of bs) l r)
    unfolding read_from
    read_from_lem = rw same_start (go (at (words_of bs) e.home_place).virgin refl)
      where
        go :
            (b : Bool) → (at (words_of bs) e.home_place).virgin ≡ b →
            cond b
            (group_read e (more words unseen) (words_from bs (l + 1 + words)))
            (read_seen (more words unseen))
            ≡ read_of e (entries_between (words_of bs) l r)
        go true v = own_read v
        go false v = new_read v

    -- so a left end with its bits counted is one to read from
    pub housed_beside :
        (end : End) → end.gap.0 ≡ l → end.virgins ≡ homes → end.changes ≡ count is_change left →
        LeftCounted bs end e.home_place
    unfolding count
    housed_beside end here virgins-are changes-are =
        let all = ap (count is_change) (beyond (l + 1) (omega arith)) ∙ count_append is_change run (words_from bs r) in
        record {
          before = omega (arith, here);
          within = omega arith;
          small = omega arith;
          virgins = rw here virgins-are;
          changes = rw here changes-are;
          few = rw here (omega (arith, all, all_homes, run_homes, virgins-are));
          next =
              λ (v : (at (words_of bs) e.home_place).virgin ≡ true).
              rw here
              (omega (
                arith,
                all,
                all_homes,
                run_homes,
                virgins-are,
                ap (count is_virgin) (run_step bs e.home_place r before_r within),
                ap bit_of v,
              ));
        }
