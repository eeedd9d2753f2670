-- List (01, Answers and their numbers): the whole table is checked, then the keys are written to the front of the
-- slots.
-- Assumes nothing.
use Rattle.std.specs.Prelude.{ℕ, cond, List, length, leb}
use Rattle.rules.specs.declared.Shape.{Shape}
use Rattle.rules.specs.Lists.{at_front}
use Rattle.rules.specs.Word.{Word}
use Rattle.rules.specs.Bytes.{words_of}
use Rattle.rules.specs.Shape.{good_table}
use Rattle.rules.specs.Table.{list, sound, locked}
use Rattle.rules.specs.Answer.{says, refuses, Leaves, leaves}

unfoldable pub list_in : Shape → List Word → List ℕ → Leaves (List ℕ)
list_in sh ws slots =
    cond (sound sh ws)
    (cond (locked ws)
    (leaves (refuses 7) slots)
    (cond (leb (length (list sh ws)) (length slots))
    (leaves (says (length (list sh ws))) (at_front (list sh ws) slots))
    (leaves (refuses 9) slots)))
    (leaves (refuses 6) slots)

-- list (the shape, the lent table, the lent slots), with the slots as they are left
unfoldable pub listing : Shape → List ℕ → List ℕ → Leaves (List ℕ)
listing sh bytes slots =
    cond
    (good_table sh (length bytes))
    (list_in sh (words_of bytes) slots)
    (leaves (refuses 1) slots)
