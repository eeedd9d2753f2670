-- A step as code takes it: the turn that is answered, and the words that are left.
-- Assumes nothing.
use Rattle.std.specs.Prelude.{ℕ, ◌≡◌, Bool, List, Err, Ok, Result}
use Rattle.rules.specs.declared.Refusal.{Refusal}
use Rattle.rules.specs.declared.Shape.{Shape}
use Rattle.rules.specs.declared.Task.{Task}
use Rattle.rules.specs.declared.Refusal.TheVariants.{Unsound}
use Rattle.rules.specs.Word.{Word}
use Rattle.rules.specs.Bytes.{words_of}
use Rattle.rules.specs.Phase.{Step, to, unsound}

-- a turn with the words that it leaves
pub data Taken : Type 0 where
  taken : Result Task Refusal → List Word → Taken

-- what a step of the rules is, taken on some words: a refusal leaves them as they were
abbrev pub takes : List Word → Step → Taken
takes ws (to t vs) = taken (Ok t) vs
takes ws unsound = taken (Err Unsound) ws

-- code that is lent some bytes and leaves others takes the step that the rules define
abbrev pub Follows : (Shape → List Word → Task → Step) → Shape → Task → List ℕ → Result Task Refusal → List ℕ → Type 0
Follows step sh t before turn after = taken turn (words_of after) ≡ takes (words_of before) (step sh (words_of before) t)

-- what a test of the word at a place tells
pub tells : (f : Word → Bool) {w v : Word} {b d : Bool} → b ≡ f w → w ≡ v → b ≡ d → f v ≡ d
tells f e word e' = cc
