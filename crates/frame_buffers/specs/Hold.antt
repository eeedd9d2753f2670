-- The bytes of a line that is begun: how many are held, and the buffer that holds them.
-- Assumes nothing.
use Rattle.std.specs.Prelude.{ℕ, List}

pub record Holding : Type 0 where
  pub held : ℕ
  pub line : List ℕ

abbrev pub holding : ℕ → List ℕ → Holding
holding n line = record { held = n; line = line }
