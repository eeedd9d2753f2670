-- The fill figure (01, Answers and their numbers): occupied words × 1,000 / number of words, rounded down.
-- Assumes nothing.
use Rattle.std.specs.Prelude.{ℕ, ◌*◌, ◌/◌, cond, List, length}
use Rattle.rules.specs.declared.Shape.{Shape}
use Rattle.rules.specs.Lists.{count}
use Rattle.rules.specs.Word.{Word}
use Rattle.rules.specs.Bytes.{words_of}
use Rattle.rules.specs.Shape.{places, good_table}
use Rattle.rules.specs.Answer.{Answer, says, refuses}

unfoldable pub figure : Shape → List Word → ℕ
figure sh ws = count (λ (w : Word). w.occupied) ws * 1000 / places sh

-- the fill figure (the shape, the lent table)
unfoldable pub fill : Shape → List ℕ → Answer
fill sh bytes =
    cond (good_table sh (length bytes)) (says (figure sh (words_of bytes))) (refuses 1)
