-- How lent bytes that are a sound table, and the theory's tables, stand for each other.
-- Assumes nothing.
use Rattle.std.specs.Prelude.{ℕ, zero, suc, ◌*◌, ◌≤◌, ◌<◌, ◌≡◌, Bool, true, false, List, [], ◌∷◌, length, get_or}
use Rattle.std.proofs.Math.Path.{ap}
use Rattle.std.proofs.Common.{◌∙◌, subst, arith, eq-eqb}
use Rattle.rules.specs.declared.Shape.{Shape}
use Rattle.rules.specs.Word.{Word}
use Rattle.rules.specs.Bytes.{words_of, bytes_of}
use Rattle.rules.specs.Shape.{remainders, places, fits_length, good_table}
use Rattle.rules.specs.Entry.{Entry}
use Rattle.rules.specs.Table.{at, occupied_places, entries, sound, locked}
use Rattle.rules.specs.Lay.{lay}
use Rattle.table_words.specs.Range.{InRange, good_table_lem, range_in, remainders_high}
use Rattle.table_words.specs.Number.{number_small}
use Rattle.table_words.specs.Layout.{words_length, bytes_length, words_of_bytes}
use Rattle.theory.specs.Every as every
use Rattle.theory.specs.Every.{All}
use Rattle.theory.specs.Insert.{asc_all}
use Rattle.theory.specs.Dealt.{and_both}
use Rattle.theory.specs.Locks.{at_unlock}
use Rattle.theory.specs.Seen.{Table}
use Rattle.theory.specs.SoundTable.{sound_is_table, table_is_sound, table_entries}
use Rattle.theory.specs.Pairs.{table_lay}
use Rattle.theory.specs.Building.{State, table_asc}
use Rattle.demands.specs.Terms.{SoundTable, PlainTable}

pub in_range_of : {sh : Shape} {bytes : List ℕ} → SoundTable sh bytes → InRange sh
in_range_of {sh} {bytes} t = (good_table_lem sh (length bytes) t.good).0

pub low_of : {sh : Shape} {bytes : List ℕ} → SoundTable sh bytes → remainders sh ≤ 4096
low_of {sh} t = remainders_high sh (in_range_of t)

pub size_of : {sh : Shape} {bytes : List ℕ} → SoundTable sh bytes → length (words_of bytes) ≡ places sh
size_of {sh} {bytes} t =
    words_length bytes (places sh) (good_table_lem sh (length bytes) t.good).1

-- ---- from bytes to the theory's tables
pub table_of :
    {sh : Shape} {bytes : List ℕ} →
    SoundTable sh bytes → Table (remainders sh) (words_of bytes) (entries (words_of bytes))
table_of {sh} {bytes} t =
    sound_is_table sh (words_of bytes) (low_of t) (size_of t) t.sound_words

pub state_of :
    {sh : Shape} {bytes : List ℕ} →
    PlainTable sh bytes → State sh (words_of bytes) (entries (words_of bytes))
state_of t = record { table = table_of t.whole; free = t.unlocked; size = size_of t.whole }

-- ---- and back
lay_small :
    (whole : List Entry) (q : ℕ) (os : List Bool) {es : List Entry} (p : ℕ) →
    All (λ (e : Entry). e.remainder < 4096) es → (at (lay whole q os es) p).remainder < 4096
unfolding lay
lay_small whole q [] p low = omega arith
lay_small whole q (false ∷ os) zero low = omega arith
lay_small whole q (false ∷ os) (suc p) low = lay_small whole (suc q) os p low
lay_small whole q (true ∷ os) zero every.none = omega arith
lay_small whole q (true ∷ os) (suc p) every.none = lay_small whole (suc q) os p every.none
lay_small whole q (true ∷ os) zero (every.both l ls) = l
lay_small whole q (true ∷ os) (suc p) (every.both l ls) = lay_small whole (suc q) os p ls

-- a table's remainders are below 4096
pub table_small :
    {d : ℕ} {ws : List Word} {es : List Entry} → d ≤ 4096 → Table d ws es → (p : ℕ) → (at ws p).remainder < 4096
table_small {ws = ws} {es} s t p =
    subst
    (λ (x : ℕ). x < 4096)
    (ap (λ (vs : List Word). (at vs p).remainder) (table_lay s t) ∙ ap (λ (w : Word). w.remainder) (at_unlock ws p))
    (lay_small es 0 (occupied_places ws) p (every.all_map (λ e w. omega (arith, w.low)) (asc_all (table_asc s t))))

pub bytes_small : (ws : List Word) → ((p : ℕ) → (at ws p).remainder < 4096) → (i : ℕ) → get_or (bytes_of ws) i 0 < 256
unfolding bytes_of
bytes_small [] small i = omega arith
bytes_small (w ∷ ws) small zero = omega arith
bytes_small (w ∷ ws) small (suc zero) = omega (arith, number_small w (small 0))
bytes_small (w ∷ ws) small (suc (suc i)) = bytes_small ws (λ p. small (suc p)) i

module _ (sh : Shape) (range : InRange sh) {ws : List Word} {es : List Entry}
    (t : State sh ws es)
  where
    pub words_back : words_of (bytes_of ws) ≡ ws
    words_back = words_of_bytes ws (table_small (remainders_high sh range) t.table)

    -- the bytes of an unlocked table are a plain table that shows the table's entries
    pub plain_of : PlainTable sh (bytes_of ws)
    unfolding good_table fits_length
    plain_of =
        record {
          whole =
              record {
                good =
                    and_both
                    _
                    _
                    (range_in sh range)
                    (eq-eqb _ _ (bytes_length ws ∙ ap (λ (n : ℕ). 2 * n) t.size));
                small = bytes_small ws (table_small (remainders_high sh range) t.table);
                sound_words =
                    ap (sound sh) words_back
                    ∙ table_is_sound sh (remainders_high sh range) t.size t.table;
              };
          unlocked = ap locked words_back ∙ t.free;
        }

    pub entries_back : entries (words_of (bytes_of ws)) ≡ es
    entries_back = ap entries words_back ∙ table_entries sh (remainders_high sh range) t.table
