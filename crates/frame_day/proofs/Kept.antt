-- What holds of a run Among its lines, with its history so far: `Kept`. The zero table begins so (`zeros_kept`), and a
-- line whose keys are all answered keeps it (`kept_line`). Where there was room, the table is the build of its keys.
-- Assumes nothing.
use Rattle.std.specs.Prelude.{ℕ, ◌+◌, ◌*◌, ◌≤◌, ◌≡◌, refl, ◌≢◌, Bool, true, false, cond, ◌&&◌, ◌||◌, drop, replicate, leb}
use Rattle.std.proofs.Common.{sym, ◌∙◌, subst, arith, leb-true, leb-false}
use Rattle.std.proofs.Math.Path.{ap}
use Rattle.std.proofs.lemmas.Bool.{false≢true}
use mathlib.Core.List.{List, [], ◌∷◌, ◌++◌, map-append}
use Rattle.std.proofs.Math.ListN.{length}
use Rattle.std.proofs.Math.Seq.{take_at}
use Rattle.std.proofs.Math.Dec.{eqb}
use Rattle.rules.specs.declared.Shape.{Shape}
use Rattle.rules.specs.Lists.{bit_of, count, all, any}
use Rattle.rules.specs.Shape.{homes, places, good_table}
use Rattle.rules.specs.Answer.{says, leaves}
use Rattle.rules.specs.Put.{put}
use Rattle.rules.specs.Build.{build}
use Rattle.table_words.specs.Range.{good_table_lem}
use Rattle.table_words.specs.Counts.{count_append}
use Rattle.theory.specs.Every as every
use Rattle.theory.specs.Every.{All}
use Rattle.theory.specs.Dealt.{or_left, or_right}
use Rattle.theory.specs.Keys.{listed}
use Rattle.demands.specs.Terms.{PlainTable, InKeys, list_of, distinct, left_by, put_all}
use Rattle.demands.specs.Tables.{low_of}
use Rattle.demands.specs.Proof2.{ascending_list}
use Rattle.demands.specs.Proof3.{all_both, ascending_keys}
use Rattle.demands.specs.Demand2.{build_puts, build_any_order}
use Rattle.frame_rules.specs.declared.First.{First}
use Rattle.frame_rules.specs.Lines.{in_limits}
use Rattle.frame_rules.specs.Rounds.{Floor, all_answered}
use Rattle.frame_rules.specs.Frame.{used, used_part, with_used}
use Rattle.together.specs.Machine.{Said, times_inserted}
use Rattle.together.specs.Demand3.{was_inserted}
use Rattle.frame_day.specs.Terms.{paired, keys_in, inserted_in, Follows}
use Rattle.frame_day.specs.Counting.{paired_parts}
use Rattle.frame_day.proofs.Line.{line_plain, line_known, line_lists, line_once, line_new}
use Rattle.frame_day.proofs.Room.{listed_append, distinct_fewer, inserted_listed, line_none_full}
use Rattle.frame_day.proofs.Room.{line_every_listed, line_bytes, inserted_times, inserted_in_lem}
use Rattle.frame_first.specs.Limits.{InLimits, in_limits_lem}
use Rattle.frame_day.specs.Zero.{zeros_plain, zeros_list, used_zeros}

-- a table that had room for every accepted key
pub record Roomed (f : First) (table : List ℕ) (past : List Said) : Type 0 where
  pub none_full : All (λ (s : Said). s.answer ≢ 3) past
  pub every_listed :
      (x : ℕ) → listed x (keys_in past) ≡ true → listed x (list_of f.shape (used_part f table)) ≡ true
  pub bytes : put_all f.shape (replicate (used f) 0) (inserted_in past) ≡ used_part f table

-- Among the lines: the first line's numbers, the used part of the table, and the history so far
pub record Kept (f : First) (table : List ℕ) (past : List Said) : Type 0 where
  pub limits : in_limits f ≡ true
  pub plain : PlainTable f.shape (used_part f table)
  -- a key was answered inserted as often as the table lists it
  pub tally : (x : ℕ) → times_inserted x past ≡ bit_of (listed x (list_of f.shape (used_part f table)))
  pub known : All (λ (s : Said). (1 ≤ s.answer) × (s.answer ≤ 3)) past
  pub in_keys : InKeys f.shape (keys_in past)
  -- there was room if these keys, and any that are still to come, are few enough
  pub roomed :
      (us : List ℕ) →
      InKeys f.shape us →
      distinct f.shape us ≤ homes f.shape →
      ((x : ℕ) → listed x (keys_in past) ≡ true → listed x us ≡ true) → Roomed f table past

-- ---- the zero table
pub zeros_kept : (f : First) → in_limits f ≡ true → Kept f (replicate 32772 0) []
unfolding used times_inserted count listed any all inserted_in put_all
zeros_kept f h =
    record {
      limits = h;
      plain = subst (PlainTable f.shape) (sym part) (zeros_plain f.shape l.range);
      tally = λ x.
          sym
          (ap (λ (bs : List ℕ). bit_of (listed x (list_of f.shape bs))) part
          ∙ ap (λ (ks : List ℕ). bit_of (listed x ks)) (zeros_list f.shape l.range));
      known = every.none;
      in_keys = refl;
      roomed = λ us k few in_us.
          record {
            none_full = every.none;
            every_listed = λ x there. absurd (false≢true there);
            bytes = sym part;
          };
    }
  where
    l : InLimits f
    l = in_limits_lem f h

    part : used_part f (replicate 32772 0) ≡ replicate (2 * places f.shape) 0
    part = used_zeros f l

-- ---- a line of keys, all answered
all_append : {A : Type 0} {P : A → Type 0} {xs ys : List A} → All P xs → All P ys → All P (xs ++ ys)
all_append every.none qs = qs
all_append (every.both p ps) qs = every.both p (all_append ps qs)

-- keys put one by one, in two parts
puts_append :
    (sh : Shape) (bytes ks js : List ℕ) → put_all sh bytes (ks ++ js) ≡ put_all sh (put_all sh bytes ks) js
unfolding put_all
puts_append sh bytes [] js = refl
puts_append sh bytes (k ∷ ks) js = puts_append sh (left_by (put sh bytes k)) ks js

inserted_append : (past now : List Said) → inserted_in (past ++ now) ≡ inserted_in past ++ inserted_in now
unfolding inserted_in
inserted_append [] now = refl
inserted_append (s ∷ past) now = go (eqb s.answer 2) (inserted_append past now)
  where
    go :
        (b : Bool) →
        inserted_in (past ++ now) ≡ inserted_in past ++ inserted_in now →
        cond b (s.key ∷ inserted_in (past ++ now)) (inserted_in (past ++ now))
        ≡ cond b (s.key ∷ inserted_in past) (inserted_in past) ++ inserted_in now
    go true e = ap (λ (ks : List ℕ). s.key ∷ ks) e
    go false e = e

-- a key listed afterwards was listed before, or inserted once since
tally_of : (a b : Bool) (n : ℕ) → a ≡ (b || leb 1 n) → n ≤ 1 → (b ≡ true → n ≡ 0) → bit_of b + n ≡ bit_of a
tally_of a true n e le new = omega (arith, new refl, ap bit_of e)
tally_of true false n e le new = omega (arith, leb-true 1 n (sym e))
tally_of false false n e le new = omega (arith, leb-false 1 n (sym e))

module _ {f : First} {table : List ℕ} {past : List Said} (k : Kept f table past) {ks : List ℕ} {p : Floor}
    (h : InKeys f.shape ks) (run : Follows f (used_part f table) ks p)
    (complete : all_answered ks p ≡ true)
  where
    abbrev sh : Shape
    sh = f.shape

    abbrev now : List Said
    now = paired ks p.answers

    abbrev before : List ℕ
    before = list_of f.shape (used_part f table)

    crew : f.tasks ≤ 16
    crew = (in_limits_lem f k.limits).tasks_high

    line_after : PlainTable f.shape p.table
    line_after = line_plain f k.plain crew run complete

    -- what the line left is the table's used part
    part : used_part f (with_used f p.table table) ≡ p.table
    unfolding used
    part =
        take_at
        p.table
        (drop (used f) table)
        (used f)
        (good_table_lem sh (length p.table) line_after.whole.good).1

    now_keys : keys_in now ≡ ks
    now_keys = (paired_parts ks p.answers run.as_many).0

    keys_both : keys_in (past ++ now) ≡ keys_in past ++ ks
    keys_both =
        map-append (λ (s : Said). s.key) past now ∙ ap (λ (js : List ℕ). keys_in past ++ js) now_keys

    tally_after :
        (x : ℕ) →
        times_inserted x (past ++ now)
        ≡ bit_of (listed x (list_of f.shape (used_part f (with_used f p.table table))))
    unfolding times_inserted was_inserted
    tally_after x =
        count_append (λ (s : Said). eqb s.key x && eqb s.answer 2) past now
        ∙ ap (λ (c : ℕ). c + times_inserted x now) (k.tally x)
        ∙ tally_of
        (listed x (list_of f.shape p.table))
        (listed x (list_of f.shape (used_part f table)))
        (times_inserted x now)
        (line_lists f k.plain crew run complete x)
        (line_once f k.plain crew run complete x)
        (line_new f k.plain crew run complete x)
        ∙ ap (λ (bs : List ℕ). bit_of (listed x (list_of f.shape bs))) (sym part)

    listed_both : (x : ℕ) → listed x (keys_in (past ++ now)) ≡ (listed x (keys_in past) || listed x ks)
    listed_both x = ap (listed x) keys_both ∙ listed_append x (keys_in past) ks

    -- with room for all keys
    module _ (us : List ℕ) (in_range_lem : InKeys sh us) (room : distinct sh us ≤ homes sh)
        (in_us : (x : ℕ) → listed x (keys_in (past ++ now)) ≡ true → listed x us ≡ true)
      where
        of_past : (x : ℕ) → listed x (keys_in past) ≡ true → listed x us ≡ true
        of_past x e = in_us x (listed_both x ∙ or_left _ (listed x ks) e)

        either : (x : ℕ) → listed x (before ++ ks) ≡ true → listed x us ≡ true
        either x e = go (listed x before) refl (sym (listed_append x before ks) ∙ e)
          where
            go : (b : Bool) → listed x before ≡ b → (b || listed x ks) ≡ true → listed x us ≡ true
            go true there z = of_past x (inserted_listed x past (omega (arith, k.tally x, ap bit_of there)))
            go false there z = in_us x (listed_both x ∙ or_right (listed x (keys_in past)) _ z)

        -- the line fits, since all that it meets is Among those keys
        fits : distinct sh (before ++ ks) ≤ homes sh
        fits =
            omega (
              arith,
              room,
              distinct_fewer
                  sh
                  (before ++ ks)
                  us
                  (low_of k.plain.whole)
                  (all_both sh before ks (ascending_keys sh (ascending_list k.plain.whole)) h)
                  in_range_lem
                  either,
            )

        so_far : Roomed f table past
        so_far = k.roomed us in_range_lem room of_past

        still_listed : (x : ℕ) → listed x before ≡ true → listed x (list_of f.shape p.table) ≡ true
        still_listed x e =
            line_lists f k.plain crew run complete x ∙ or_left _ (was_inserted x now) e

        every_after :
            (x : ℕ) → listed x (keys_in (past ++ now)) ≡ true → listed x (list_of f.shape p.table) ≡ true
        every_after x e = go (listed x (keys_in past)) refl (sym (listed_both x) ∙ e)
          where
            go :
                (b : Bool) → listed x (keys_in past) ≡ b → (b || listed x ks) ≡ true →
                listed x (list_of f.shape p.table) ≡ true
            go true there z = still_listed x (so_far.every_listed x there)
            go false there z = line_every_listed f k.plain crew run complete h fits x z

        roomed_after : Roomed f (with_used f p.table table) (past ++ now)
        roomed_after =
            record {
              none_full =
                  all_append
                  so_far.none_full
                  (line_none_full f k.plain crew run complete h fits);
              every_listed = λ x there.
                  ap (λ (bs : List ℕ). listed x (list_of f.shape bs)) part ∙ every_after x there;
              bytes =
                  ap (put_all f.shape (replicate (used f) 0)) (inserted_append past now)
                  ∙ puts_append f.shape (replicate (used f) 0) (inserted_in past) (inserted_in now)
                  ∙ ap (λ (bs : List ℕ). put_all f.shape bs (inserted_in now)) so_far.bytes
                  ∙ line_bytes f k.plain crew run complete h fits
                  ∙ sym part;
            }

    pub kept_line : Kept f (with_used f p.table table) (past ++ now)
    kept_line =
        record {
          limits = k.limits;
          plain = subst (PlainTable f.shape) (sym part) line_after;
          tally = tally_after;
          known = all_append k.known (line_known f k.plain crew run complete);
          in_keys =
              subst (λ (js : List ℕ). InKeys sh js) (sym keys_both) (all_both sh (keys_in past) ks k.in_keys h);
          roomed = roomed_after;
        }

-- ---- with room for every accepted key
module _ {f : First} {table : List ℕ} {past : List Said} (k : Kept f table past)
    (few : distinct f.shape (keys_in past) ≤ homes f.shape)
  where
    pub has_room : Roomed f table past
    has_room = k.roomed (keys_in past) k.in_keys few (λ x there. there)

    pub accepted_once : (x : ℕ) → listed x (keys_in past) ≡ true → times_inserted x past ≡ 1
    accepted_once x there = k.tally x ∙ ap bit_of (has_room.every_listed x there)

    inserted_all : (x : ℕ) → listed x (keys_in past) ≡ listed x (inserted_in past)
    inserted_all x = go (listed x (keys_in past)) refl ∙ sym (inserted_times x past)
      where
        go : (b : Bool) → listed x (keys_in past) ≡ b → b ≡ leb 1 (times_inserted x past)
        go true e = sym (ap (leb 1) (accepted_once x e))
        go false e = unasked (leb 1 (times_inserted x past)) refl
          where
            unasked : (c : Bool) → leb 1 (times_inserted x past) ≡ c → false ≡ c
            unasked true d = sym e ∙ inserted_listed x past (leb-true 1 _ d)
            unasked false d = refl

    -- the table is the build of the accepted keys
    pub kept_built :
        (bytes : List ℕ) →
        good_table f.shape (length bytes) ≡ true →
        build f.shape bytes (keys_in past) ≡ leaves (says 0) (used_part f table)
    unfolding used
    kept_built bytes good =
        build_any_order
        f.shape
        bytes
        good
        (keys_in past)
        (inserted_in past)
        k.in_keys
        inserted_keys
        (λ x lt. inserted_all x)
        ∙ build_puts f.shape bytes good (inserted_in past) inserted_keys fewer
        ∙ ap
        (leaves (says 0))
        (ap (λ (n : ℕ). put_all f.shape (replicate n 0) (inserted_in past)) long ∙ has_room.bytes)
      where
        long : length bytes ≡ used f
        long = (good_table_lem f.shape (length bytes) good).1

        inserted_keys : InKeys f.shape (inserted_in past)
        inserted_keys = inserted_in_lem f.shape past k.in_keys

        fewer : distinct f.shape (inserted_in past) ≤ homes f.shape
        fewer =
            omega (
              arith,
              few,
              distinct_fewer
                  f.shape
                  (inserted_in past)
                  (keys_in past)
                  (low_of k.plain.whole)
                  inserted_keys
                  k.in_keys
                  (λ x there. inserted_all x ∙ there),
            )
