-- A read by the groups: the groups of earlier homes are passed over by their change bits, `passed`; then the key's own
-- group is read, `group_read`; later ones say nothing of the key. No step looks beyond the words that it needs.
-- Assumes nothing.
use Prim.Native.Nat.{ℕ, zero, suc, ◌+◌, ◌-◌, ◌*◌, ◌/◌, ◌≤◌, ◌<◌, min}
use Rattle.std.specs.Prelude.{◌≡◌, Bool, cond, List, [], ◌∷◌, ◌++◌, length, drop}
use Rattle.std.proofs.Math.Path.{refl}
use Rattle.std.proofs.Common.{sym, ◌∙◌, ap, ap₂, add-zero}
use Rattle.std.proofs.Math.Bool.{true, false}
use native.Mathlib.Omega.{arith}
use Rattle.std.proofs.Math.Seq.{slice}
use Rattle.std.proofs.Math.Dec.{ltb}
use borrow.Author.Tests.{ltb-true, ltb-false}
use Rattle.rules.specs.Lists.{bit_of, count}
use Rattle.rules.specs.Word.{Word, word_of}
use Rattle.rules.specs.Bytes.{words_of}
use Rattle.rules.specs.Entry.{Entry}
use Rattle.rules.specs.Table.{at, virgin_places, due, deal}
use Rattle.theory.specs.Dealt.{is_change, ends_counted}
use Rattle.table_cluster.specs.Run.{run_step, run_end}
use Rattle.table_cluster.specs.Homes.{Owed, owed_next}
use Rattle.table_read.specs.Mark.{kind}
use Rattle.table_read.specs.Read.{entry, look, look_before, look_beyond, after, after_step_lem, after_end}
use Rattle.table_read.specs.declared.read.Read.{Read}
use Rattle.table_read.specs.declared.read.Seen.{Seen}

-- how many words the first k groups have
abbrev past_one : Bool → ℕ → (ℕ → ℕ) → ℕ
past_one b zero rest = 0
past_one b (suc k) rest = suc (rest (cond b k (suc k)))

unfoldable pub passed : List Word → ℕ → ℕ
passed [] k = 0
passed (w ∷ ws) k = past_one w.change k (λ (j : ℕ). passed ws j)

-- n keys more were seen, all of earlier homes
abbrev pub more : ℕ → Seen → Seen
more n s = record { held = s.held; smaller = s.smaller + n; grouped = s.grouped; largest = s.largest }

-- what was seen, as a read
abbrev pub read_seen : Seen → Read
read_seen s = record { held = s.held; smaller = s.smaller; mark = kind s.grouped s.largest }

-- the words in front are the key's own group
unfoldable pub group_read : Entry → Seen → List Word → Read
group_read e s [] = read_seen s
group_read e s (w ∷ ws) =
    cond w.change
    (read_seen (look e (entry e.home_place w.remainder) s))
    (group_read e (look e (entry e.home_place w.remainder) s) ws)

-- ---- homes before a place, homes after it
pub data Below (c : ℕ) : List ℕ → Type 0 where
  below_none : Below c []
  below_next : {h : ℕ} {hs : List ℕ} → h < c → Below c hs → Below c (h ∷ hs)

pub data Above (c : ℕ) : List ℕ → Type 0 where
  above_none : Above c []
  above_next : {h : ℕ} {hs : List ℕ} → c < h → Above c hs → Above c (h ∷ hs)

pub virgins_below : (c a : ℕ) (us : List Word) → a + length us ≤ c → Below c (virgin_places a us)
unfolding virgin_places
virgins_below c a [] h = below_none
virgins_below c a (w ∷ us) h = go w.virgin (virgins_below c (suc a) us (omega arith))
  where
    go :
        (b : Bool) → Below c (virgin_places (suc a) us) →
        Below c (cond b (a ∷ virgin_places (suc a) us) (virgin_places (suc a) us))
    go true rest = let low : a < c = omega arith in below_next low rest
    go false rest = rest

pub virgins_above : (c b : ℕ) (vs : List Word) → c < b → Above c (virgin_places b vs)
unfolding virgin_places
virgins_above c b [] h = above_none
virgins_above c b (w ∷ vs) h = go w.virgin (virgins_above c (suc b) vs (omega arith))
  where
    go :
        (t : Bool) → Above c (virgin_places (suc b) vs) →
        Above c (cond t (b ∷ virgin_places (suc b) vs) (virgin_places (suc b) vs))
    go true rest = above_next h rest
    go false rest = rest

-- ---- groups of earlier homes
passed_none : (ws : List Word) → passed ws 0 ≡ 0
unfolding passed
passed_none [] = refl
passed_none (w ∷ ws) = refl

pub record Passed (e : Entry) (s : Seen) (n : ℕ) (hs gs : List ℕ) (ws : List Word) : Type 0 where
  pub same : after e s (deal (hs ++ gs) ws) ≡ after e (more n s) (deal gs (drop n ws))
  pub owed : Owed gs (drop n ws)

more_none : (s : Seen) → more 0 s ≡ s
more_none s = rw (add-zero s.smaller)

more_one : (n : ℕ) (s : Seen) → more n (more 1 s) ≡ more (suc n) s
more_one n s =
    ap
    (λ (k : ℕ). record { held = s.held; smaller = k; grouped = s.grouped; largest = s.largest })
    (next s.smaller n)
  where
    next : (k n : ℕ) → k + 1 + n ≡ k + suc n
    next k n = omega arith

pass_none : (e : Entry) (s : Seen) (gs : List ℕ) (ws : List Word) → Owed gs ws → Passed e s 0 [] gs ws
pass_none e s gs ws o =
    record { same = ap (λ (t : Seen). after e t (deal gs ws)) (sym (more_none s)); owed = o }

-- a word of a group whose home is earlier
pass_word :
    (e : Entry) (s : Seen) (n h : ℕ) (hs gs ks : List ℕ) (w : Word) (ws : List Word) → h < e.home_place →
    due w.change (h ∷ (hs ++ gs)) ≡ ks ++ gs → Passed e (more 1 s) n ks gs ws →
    Passed e s (suc n) (h ∷ hs) gs (w ∷ ws)
unfolding deal
pass_word e s n h hs gs ks w ws lt homes rest =
    record {
      same =
          sym (after_step_lem e (entry h w.remainder) s _)
          ∙ ap₂
          (λ (t : Seen) (js : List ℕ). after e t (deal js ws))
          (look_before e (entry h w.remainder) s lt)
          homes
          ∙ rest.same
          ∙ ap (λ (t : Seen). after e t (deal gs (drop n ws))) (more_one n s);
      owed = rest.owed;
    }

pub pass_groups :
    (e : Entry) (gs : List ℕ) (ws : List Word) (s : Seen) (hs : List ℕ) → Below e.home_place hs → Owed (hs ++ gs) ws →
    Passed e s (passed ws (length hs)) hs gs ws
unfolding passed count
pass_groups e gs [] s [] low o = pass_none e s gs [] o
pass_groups e gs [] s (h ∷ hs) low o = absurd (omega (arith, o.homes))
pass_groups e gs (w ∷ ws) s [] low o = pass_none e s gs (w ∷ ws) o
pass_groups e gs (w ∷ ws) s (h ∷ hs) (below_next lt low) o =
    go
    w.change
    refl
    (owed_next (h ∷ (hs ++ gs)) w ws o)
    (λ (ks : List ℕ) (b : Below e.home_place ks) (next : Owed (ks ++ gs) ws). pass_groups e gs ws
    (more 1 s) ks b next)
  where
    go :
        (b : Bool) → w.change ≡ b → Owed (due b (h ∷ (hs ++ gs))) ws →
        ((ks : List ℕ) → Below e.home_place ks → Owed (ks ++ gs) ws →
        Passed e (more 1 s) (passed ws (length ks)) ks gs ws) →
        Passed e s (past_one b (suc (length hs)) (λ (j : ℕ). passed ws j)) (h ∷ hs) gs (w ∷ ws)
    go true c next rest =
        pass_word e s _ h hs gs hs w ws lt (ap (λ (t : Bool). due t (h ∷ (hs ++ gs))) c) (rest hs low next)
    go false c next rest =
        pass_word
        e
        s
        _
        h
        hs
        gs
        (h ∷ hs)
        w
        ws
        lt
        (ap (λ (t : Bool). due t (h ∷ (hs ++ gs))) c)
        (rest (h ∷ hs) (below_next lt low) next)

-- ---- groups of later homes, and the key's own
pub pass_later :
    (e : Entry) (s : Seen) (ws : List Word) (hs : List ℕ) → Above e.home_place hs → Owed hs ws →
    after e s (deal hs ws) ≡ read_seen s
unfolding count deal
pass_later e s [] hs high o = after_end e s
pass_later e s (w ∷ ws) [] high o = absurd (omega (arith, o.homes, ends_counted w ws o.ended))
pass_later e s (w ∷ ws) (h ∷ hs) (above_next lt high) o =
    sym (after_step_lem e (entry h w.remainder) s _)
    ∙ ap (λ (t : Seen). after e t (deal (due w.change (h ∷ hs)) ws)) (look_beyond e (entry h w.remainder) s lt)
    ∙ pass_later e s ws (due w.change (h ∷ hs)) (still w.change) (owed_next (h ∷ hs) w ws o)
  where
    still : (b : Bool) → Above e.home_place (due b (h ∷ hs))
    still true = high
    still false = above_next lt high

pub read_group :
    (e : Entry) (hs : List ℕ) (ws : List Word) (s : Seen) → Above e.home_place hs → Owed (e.home_place ∷ hs) ws →
    after e s (deal (e.home_place ∷ hs) ws) ≡ group_read e s ws
unfolding group_read deal
read_group e hs [] s high o = after_end e s
read_group e hs (w ∷ ws) s high o =
    sym (after_step_lem e (entry e.home_place w.remainder) s _)
    ∙ go
    w.change
    (owed_next (e.home_place ∷ hs) w ws o)
    (λ (next : Owed (e.home_place ∷ hs) ws). read_group e hs ws
    (look e (entry e.home_place w.remainder) s) high next)
  where
    now_seen : Seen
    now_seen = look e (entry e.home_place w.remainder) s

    go :
        (b : Bool) → Owed (due b (e.home_place ∷ hs)) ws →
        (Owed (e.home_place ∷ hs) ws → after e now_seen (deal (e.home_place ∷ hs) ws) ≡ group_read e now_seen ws) →
        after e now_seen (deal (due b (e.home_place ∷ hs)) ws) ≡ cond b (read_seen now_seen) (group_read e now_seen ws)
    go true next rest = pass_later e now_seen ws hs high next
    go false next rest = rest next

-- ---- the loops: groups passed over, the key's own group read
module _ (bs : List ℕ) (i r : ℕ) where
  -- where k groups are to be passed over, there is a word
  pub group_there : (k : ℕ) → 0 < k → k ≤ count is_change (slice i r (words_of bs)) → i < r
  unfolding count
  group_there k some few = go (ltb i r) refl
    where
      go : (b : Bool) → ltb i r ≡ b → i < r
      go true e = ltb-true i r e
      go false e = absurd (omega (arith, rw (run_end bs i r (ltb-false i r e)) at few))

  module _ (lt : i < r) (within : 2 * r ≤ length bs) (w : ℕ) (word : word_of w ≡ at (words_of bs) i) where
    pub word_past :
        (k x : ℕ) → 0 < k → x ≡ bit_of (word_of w).change →
        i + 1 + passed (slice (i + 1) r (words_of bs)) (k - x) ≡ i + passed (slice i r (words_of bs)) k
    unfolding passed
    word_past k x some bit = rw (run_step bs i r lt within, ← word, bit) (go (word_of w).change k some)
      where
        go :
            (b : Bool) (k : ℕ) → 0 < k →
            i + 1 + passed (slice (i + 1) r (words_of bs)) (k - bit_of b)
            ≡ i + past_one b k (λ (j : ℕ). passed (slice (i + 1) r (words_of bs)) j)
        go b zero h = absurd (omega arith)
        go true (suc k) h = let all : suc k - 1 ≡ k = omega arith in rw all (omega arith)
        go false (suc k) h = let all : suc k - 0 ≡ suc k = omega arith in rw all (omega arith)

    pub fewer_groups :
        (k x : ℕ) → x ≡ bit_of (word_of w).change → k ≤ count is_change (slice i r (words_of bs)) →
        k - x ≤ count is_change (slice (i + 1) r (words_of bs))
    unfolding count
    fewer_groups k x bit few = omega (arith, bit, rw (run_step bs i r lt within, ← word) at few)

    module _ (e : Entry) (s : Seen) (y : ℕ) (remainder_is : y ≡ (word_of w).remainder) where
      pub group_goes :
          (word_of w).change ≡ false →
          group_read e (look e (entry e.home_place y) s) (slice (i + 1) r (words_of bs))
          ≡ group_read e s (slice i r (words_of bs))
      unfolding group_read
      group_goes c = rw (run_step bs i r lt within, ← word, c, remainder_is)

      pub group_ends :
          (word_of w).change ≡ true →
          read_seen (look e (entry e.home_place y) s) ≡ group_read e s (slice i r (words_of bs))
      unfolding group_read
      group_ends c = rw (run_step bs i r lt within, ← word, c, remainder_is)

pub passed_all : (i : ℕ) (ws : List Word) → i + passed ws 0 ≡ i
passed_all i ws = rw (passed_none ws) (add-zero i)

-- ---- the run of a table between l and r
pub split_run :
    (bs : List ℕ) (r : ℕ) → 2 * r ≤ length bs → (n a q : ℕ) → q - a ≡ n → a ≤ q → q ≤ r →
    slice a r (words_of bs) ≡ slice a q (words_of bs) ++ slice q r (words_of bs)
split_run bs r within zero a q n h k =
    let same : a ≡ q = omega arith in
    rw (run_end bs a q (omega arith)) (ap (λ (i : ℕ). slice i r (words_of bs)) same)
split_run bs r within (suc n) a q e h k =
    rw
    (run_step bs a r (omega arith) within, run_step bs a q (omega arith) (omega arith))
    (ap (λ (ws : List Word). at (words_of bs) a ∷ ws) (split_run bs r within n (a + 1) q (omega arith) (omega arith) k))

-- ---- a pass over groups does not look beyond them, so it need not know where the run ends
-- where a table's places end, or at least those that have a number
abbrev pub places_of : List ℕ → ℕ
places_of bs = min (length bs / 2) 4294967295

-- the words of a table from place a on
abbrev pub words_from : List ℕ → ℕ → List Word
words_from bs a = slice a (places_of bs) (words_of bs)

pub passed_front : (us vs : List Word) (k : ℕ) → k ≤ count is_change us → passed (us ++ vs) k ≡ passed us k
unfolding passed count
passed_front [] vs zero few = passed_none vs
passed_front [] vs (suc k) few = absurd (omega arith)
passed_front (u ∷ us) vs zero few = refl
passed_front (u ∷ us) vs (suc k) few =
    go u.change few (λ (j : ℕ) (h : j ≤ count is_change us). passed_front us vs j h)
  where
    go :
        (b : Bool) → suc k ≤ bit_of b + count is_change us →
        ((j : ℕ) → j ≤ count is_change us → passed (us ++ vs) j ≡ passed us j) →
        past_one b (suc k) (λ (j : ℕ). passed (us ++ vs) j) ≡ past_one b (suc k) (λ (j : ℕ). passed us j)
    go true h rest = ap suc (rest k (omega arith))
    go false h rest = ap suc (rest (suc k) (omega arith))

-- more groups than end in us: us is passed over
pub passed_beyond :
    (us vs : List Word) (j k : ℕ) → 0 < j → k ≡ count is_change us + j → passed (us ++ vs) k ≡ length us + passed vs j
unfolding passed count
passed_beyond [] vs j k some e =
    let same : k ≡ j = omega arith in
    let none : passed vs j ≡ 0 + passed vs j = omega arith in
    rw same none
passed_beyond (u ∷ us) vs j zero some e = absurd (omega arith)
passed_beyond (u ∷ us) vs j (suc k) some e =
    go u.change e (λ (i : ℕ) (h : i ≡ count is_change us + j). passed_beyond us vs j i some h)
  where
    go :
        (b : Bool) → suc k ≡ bit_of b + count is_change us + j →
        ((i : ℕ) → i ≡ count is_change us + j → passed (us ++ vs) i ≡ length us + passed vs j) →
        past_one b (suc k) (λ (i : ℕ). passed (us ++ vs) i) ≡ suc (length us) + passed vs j
    go true h rest = omega (arith, rest k (omega arith))
    go false h rest = omega (arith, rest (suc k) (omega arith))

-- the groups that are left
pub passed_left :
    (ws : List Word) (k : ℕ) → k ≤ count is_change ws → k + count is_change (drop (passed ws k) ws) ≡ count is_change ws
unfolding passed count
passed_left [] zero few = refl
passed_left [] (suc k) few = absurd (omega arith)
passed_left (w ∷ ws) zero few = omega arith
passed_left (w ∷ ws) (suc k) few =
    go w.change few
    (λ (j : ℕ) (h : j ≤ count is_change ws). passed_left ws j h)
  where
    go :
        (b : Bool) → suc k ≤ bit_of b + count is_change ws →
        ((j : ℕ) → j ≤ count is_change ws → j + count is_change (drop (passed ws j) ws) ≡ count is_change ws) →
        suc k + count is_change (drop (past_one b (suc k) (λ (j : ℕ). passed ws j)) (w ∷ ws))
        ≡ bit_of b + count is_change ws
    go true h rest = omega (arith, rest k (omega arith))
    go false h rest = omega (arith, rest (suc k) (omega arith))

-- a group that ends in us is read there
pub group_front :
    (e : Entry) (us vs : List Word) (s : Seen) → 1 ≤ count is_change us → group_read e s (us ++ vs) ≡ group_read e s us
unfolding group_read count
group_front e [] vs s some = absurd (omega arith)
group_front e (u ∷ us) vs s some =
    go u.change some (λ (h : 1 ≤ count is_change us). group_front e us vs next h)
  where
    next : Seen
    next = look e (entry e.home_place u.remainder) s

    go :
        (b : Bool) → 1 ≤ bit_of b + count is_change us →
        (1 ≤ count is_change us → group_read e next (us ++ vs) ≡ group_read e next us) →
        cond b (read_seen next) (group_read e next (us ++ vs)) ≡ cond b (read_seen next) (group_read e next us)
    go true h rest = refl
    go false h rest = rest (omega arith)

-- a group that ends from place i on has a word there, and goes on after a word that does not end it
module _ (bs : List ℕ) (i : ℕ) (ends : 1 ≤ count is_change (words_from bs i)) where
  pub ends_there : i < places_of bs
  ends_there = group_there bs i (places_of bs) 1 (omega arith) ends

  pub ends_later :
      (w : ℕ) → word_of w ≡ at (words_of bs) i → (word_of w).change ≡ false → 1 ≤ count is_change (words_from bs (i + 1))
  ends_later w word goes =
      fewer_groups bs i (places_of bs) ends_there (omega arith) w word 1 0 (sym (ap bit_of goes)) ends
