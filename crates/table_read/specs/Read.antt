-- What a read gives, `read_of`, by the rules' `holds` and `smaller` and by `mark_kind`; and the same key by key:
-- `look` takes one key, `after` is what a read gives after some were seen.
-- Assumes nothing.
use Rattle.std.specs.Prelude.{ℕ, ◌+◌, ◌≤◌, ◌<◌, ◌≡◌, true, false, not, ◌&&◌, ◌||◌, List, [], ◌∷◌}
use Rattle.std.proofs.Math.Bool.{or-false, and-true, or_assoc, and_assoc, or_comm, and_comm}
use Rattle.std.proofs.Math.Numerals.{add-one}
use Rattle.std.proofs.Common.{zero-add, add_assoc, arith}
use Rattle.std.proofs.Math.Nat.{add-zero}
use Rattle.std.proofs.Math.Seq.{slice}
use borrow.Author.Tests.{lt-ltb, le-ltb, eq-eqb, ne_eqb}
use Rattle.rules.specs.Lists.{bit_of, count, all, any}
use Rattle.rules.specs.Bytes.{words_of}
use Rattle.rules.specs.Entry.{Entry, same_home, same_entry, precedes}
use Rattle.rules.specs.Table.{deal, entries_between}
use Rattle.rules.specs.Lay.{holds, smaller}
use Rattle.table_words.specs.Number.{bit_small}
use Rattle.table_cluster.specs.Homes.{homes_from}
use Rattle.table_read.specs.Mark.{kind, mark_kind}
use Rattle.table_read.specs.declared.read.Read.{Read}
use Rattle.table_read.specs.declared.read.Seen.{Seen}

unfoldable pub read_of : Entry → List Entry → Read
read_of e es = record { held = holds e es; smaller = smaller e es; mark = mark_kind e es }

abbrev pub entry : ℕ → ℕ → Entry
entry home_at remainder = record { home_place = home_at; remainder = remainder }

-- the entry f is seen, where e is looked for
unfoldable pub look : Entry → Entry → Seen → Seen
look e f s =
    record {
      held = same_entry e f || s.held;
      smaller = s.smaller + bit_of (precedes f e);
      grouped = same_home e f || s.grouped;
      largest = (not (same_home e f) || precedes f e) && s.largest;
    }

-- ---- where f has an earlier home, a later one, or the same with a smaller, a larger or an equal remainder
module _ (e f : Entry) (s : Seen) where
  pub look_before :
      f.home_place < e.home_place →
      look e f s
      ≡ record { held = s.held; smaller = s.smaller + 1; grouped = s.grouped; largest = s.largest }
  unfolding look same_entry same_home precedes
  look_before h = rw (lt-ltb f.home_place e.home_place h, ne_eqb e.home_place f.home_place (λ q. omega arith))

  pub look_beyond : e.home_place < f.home_place → look e f s ≡ s
  unfolding look same_entry same_home precedes
  look_beyond h =
      rw (
        le-ltb f.home_place e.home_place (omega arith),
        ne_eqb f.home_place e.home_place (λ q. omega arith),
        ne_eqb e.home_place f.home_place (λ q. omega arith),
        add-zero s.smaller,
      )

  module _ (above : e.home_place ≤ f.home_place) (below : f.home_place ≤ e.home_place) where
    same : (f.home_place ≡ e.home_place) × (e.home_place ≡ f.home_place)
    same = (omega arith, omega arith)

    pub look_below :
        f.remainder < e.remainder →
        look e f s ≡ record { held = s.held; smaller = s.smaller + 1; grouped = true; largest = s.largest }
    unfolding look same_entry same_home precedes
    look_below h =
        rw (
          le-ltb f.home_place e.home_place above,
          eq-eqb f.home_place e.home_place same.0,
          eq-eqb e.home_place f.home_place same.1,
          lt-ltb f.remainder e.remainder h,
          ne_eqb e.remainder f.remainder (λ q. omega arith),
        )

    pub look_above :
        e.remainder < f.remainder →
        look e f s ≡ record { held = s.held; smaller = s.smaller; grouped = true; largest = false }
    unfolding look same_entry same_home precedes
    look_above h =
        rw (
          le-ltb f.home_place e.home_place above,
          eq-eqb f.home_place e.home_place same.0,
          eq-eqb e.home_place f.home_place same.1,
          le-ltb f.remainder e.remainder (omega arith),
          ne_eqb e.remainder f.remainder (λ q. omega arith),
          add-zero s.smaller,
        )

    pub look_equal :
        e.remainder ≤ f.remainder → f.remainder ≤ e.remainder →
        look e f s ≡ record { held = true; smaller = s.smaller; grouped = true; largest = false }
    unfolding look same_entry same_home precedes
    look_equal h k =
        rw (
          le-ltb f.home_place e.home_place above,
          eq-eqb f.home_place e.home_place same.0,
          eq-eqb e.home_place f.home_place same.1,
          le-ltb f.remainder e.remainder h,
          eq-eqb e.remainder f.remainder (omega arith),
          add-zero s.smaller,
        )

-- one key more is at most one smaller key more
pub look_counts : (e f : Entry) (s : Seen) → (look e f s).smaller ≤ s.smaller + 1
unfolding look
look_counts e f s = omega (arith, bit_small (precedes f e))

-- ---- some seen, some to come
-- what a read gives where s was seen before the entries es
unfoldable pub after : Entry → Seen → List Entry → Read
after e s es =
    record {
      held = s.held || holds e es;
      smaller = s.smaller + smaller e es;
      mark =
          kind (s.grouped || any (same_home e) es)
          (s.largest && all (λ (f : Entry). not (same_home e f) || precedes f e) es);
    }

-- nothing was seen
abbrev pub unseen : Seen
unseen = record { held = false; smaller = 0; grouped = false; largest = true }

after_start : (e : Entry) (es : List Entry) → after e unseen es ≡ read_of e es
unfolding after read_of mark_kind
after_start e es = rw (zero-add (smaller e es))

pub after_step_lem : (e f : Entry) (s : Seen) (es : List Entry) → after e (look e f s) es ≡ after e s (f ∷ es)
unfolding after look holds smaller any all count
after_step_lem e f s es =
    rw (
      or_comm (same_entry e f) s.held,
      or_assoc s.held (same_entry e f) (holds e es),
      add_assoc s.smaller (bit_of (precedes f e)) (smaller e es),
      or_comm (same_home e f) s.grouped,
      or_assoc s.grouped (same_home e f) (any (same_home e) es),
      and_comm (not (same_home e f) || precedes f e) s.largest,
      and_assoc
          s.largest
          (not (same_home e f) || precedes f e)
          (all (λ (g : Entry). not (same_home e g) || precedes g e) es),
    )

pub after_end :
    (e : Entry) (s : Seen) →
    after e s []
    ≡ record { held = s.held; smaller = s.smaller; mark = kind s.grouped s.largest }
unfolding after holds smaller any all count
after_end e s = rw (or-false s.held, add-zero s.smaller, or-false s.grouped, and-true s.largest)

-- ---- the read of a run, in one pass
-- what it gives where s was seen, and the homes from v on and the words from i on are to come
abbrev pub up_to : Entry → List ℕ → ℕ → Seen → ℕ → ℕ → Read
up_to e bs r s v i = after e s (deal (homes_from (words_of bs) r v) (slice i r (words_of bs)))

module _ (e : Entry) (bs : List ℕ) (r : ℕ) where
  -- what the whole read gives, before the first place after l
  pub read_whole : (l : ℕ) → up_to e bs r unseen (l + 1) (l + 1) ≡ read_of e (entries_between (words_of bs) l r)
  unfolding entries_between
  read_whole l = rw add-one (after_start e _)
