-- What a run of occupied words is, seen from its entries: ascending, each home inside the run, and the words what
-- laying them gives. Lock bits are aside. `d` is the number of remainders, at most 4096; `a` the place of the run's
-- first word.
-- Assumes nothing.
use Rattle.std.specs.Prelude.{ℕ, suc, ◌+◌, ◌*◌, ◌≤◌, ◌<◌, ◌≡◌, false, List, [], ◌∷◌, map, length}
use Rattle.rules.specs.Word.{Word, with_lock}
use Rattle.rules.specs.Entry.{Entry}
use Rattle.rules.specs.Put.{lay_run}

-- an entry as one number: by home, then by remainder, since remainders are below 4096
abbrev pub code : Entry → ℕ
code e = e.home_place * 4096 + e.remainder

-- strictly ascending entries, none with a code below b, remainders below d, homes below c
pub data Asc (d c : ℕ) : ℕ → List Entry → Type 0 where
  none : {b : ℕ} → Asc d c b []
  next :
      {b : ℕ} {e : Entry} {es : List Entry} →
      b ≤ code e → e.remainder < d → e.home_place < c → Asc d c (suc (code e)) es → Asc d c b (e ∷ es)

abbrev pub unlock : Word → Word
unlock w = with_lock false w

pub record Run (d a : ℕ) (run : List Word) (es : List Entry) : Type 0 where
  pub size : length es ≡ length run
  pub asc : Asc d (a + length run) (a * 4096) es
  pub laid : lay_run a es ≡ map unlock run
