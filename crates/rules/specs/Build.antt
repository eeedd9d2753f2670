-- Build (01, Answers and their numbers): puts from all zero, in any order, repeats allowed; too many keys leave all
-- zero.
-- Assumes nothing.
use Rattle.std.specs.Prelude.{ℕ, Bool, cond, List, [], ◌∷◌, map, length, replicate, ltb}
use Rattle.rules.specs.declared.Shape.{Shape}
use Rattle.rules.specs.Lists.{all}
use Rattle.rules.specs.Word.{Word, zero_word}
use Rattle.rules.specs.Bytes.{bytes_of}
use Rattle.rules.specs.Shape.{keys, homes, places, good_table}
use Rattle.rules.specs.Entry.{Entry, split}
use Rattle.rules.specs.Lay.{ascend}
use Rattle.rules.specs.Answer.{says, refuses, Leaves, leaves}
use Rattle.rules.specs.Put.{put_in, words_after}

-- the table of a shape that is all zero
unfoldable pub zeros : Shape → List Word
zeros sh = replicate (places sh) zero_word

-- entries put one by one
unfoldable pub puts : Shape → List Word → List Entry → List Word
puts sh ws [] = ws
puts sh ws (e ∷ es) = puts sh (words_after ws (put_in sh ws e)) es

-- more distinct keys than homes
unfoldable pub too_many : Shape → List Entry → Bool
too_many sh es = ltb (homes sh) (length (ascend es))

unfoldable pub build_in : Shape → List ℕ → List Entry → Leaves (List ℕ)
build_in sh bytes es =
    cond
    (too_many sh es)
    (leaves (refuses 8) (replicate (length bytes) 0))
    (leaves (says 0) (bytes_of (puts sh (zeros sh) es)))

-- build (the shape, the lent table, keys), with the table as it is left
unfoldable pub build : Shape → List ℕ → List ℕ → Leaves (List ℕ)
build sh bytes ks =
    cond (good_table sh (length bytes))
    (cond (all (λ (key : ℕ). ltb key (keys sh)) ks)
    (build_in sh bytes (map (split sh) ks))
    (leaves (refuses 2) bytes))
    (leaves (refuses 1) bytes)
