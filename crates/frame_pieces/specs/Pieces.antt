-- The input may come in any pieces: a caller that feeds them one after the other, and finishes. The theorem about what
-- it has in the end, `any_pieces`, stands in proofs/Pieces.
-- Assumes nothing.
use Prim.Native.Nat.{ℕ, zero, suc}
use Rattle.std.specs.Prelude.{cond, length, take}
use mathlib.Core.List.{List, [], ◌∷◌, ◌++◌}
use Rattle.std.proofs.Math.Dec.{ltb}
use Rattle.frame_rules.specs.declared.Run.{Run}
use Rattle.frame_rules.specs.declared.Stage.TheVariants.{AtFirst}
use Rattle.frame_rules.specs.Feed.{Buffers, run_of, Feeding, feeds, refused, feed, Finishing, finishes}
use Rattle.frame_rules.specs.Feed.{refused_too, finish}

-- where a caller is: it goes on, with the run, the buffers and all that was printed so far; or a call was refused; or
-- it was no further after as many calls as there are bytes
pub data Caller : Type 0 where
  goes : Run → Buffers → List ℕ → Caller
  stopped : ℕ → Caller
  astray : Caller

-- after a call of feed: what it printed is kept, and the caller goes on from the point reached
abbrev pub onward : (Run → ℕ → Buffers → List ℕ → Caller) → List ℕ → Feeding → Caller
onward next text (feeds run at wrote b) = next run at b (text ++ take wrote b.out)
onward next text (refused n b) = stopped n

-- a piece is fed from a point on, and again from the point reached, until that is its end; n calls at most
unfoldable pub feed_from : ℕ → List ℕ → Run → ℕ → Buffers → List ℕ → Caller
feed_from zero piece run at b text = cond (ltb at (length piece)) astray (goes run b text)
feed_from (suc n) piece run at b text =
    cond (ltb at (length piece)) (onward (feed_from n piece) text (feed run piece at b)) (goes run b text)

abbrev pub feed_piece : List ℕ → Caller → Caller
feed_piece piece (goes run b text) = feed_from (length piece) piece run 0 b text
feed_piece piece (stopped n) = stopped n
feed_piece piece astray = astray

unfoldable pub feed_all : List (List ℕ) → Caller → Caller
feed_all [] c = c
feed_all (piece ∷ pieces) c = feed_all pieces (feed_piece piece c)

-- what the caller has in the end: all that was printed; or less, for one of the two reasons above
pub data Written : Type 0 where
  written : List ℕ → Written
  short : Written

abbrev pub at_last : List ℕ → Finishing → Written
at_last text (finishes wrote b) = written (text ++ take wrote b.out)
at_last text (refused_too n b) = short

abbrev pub finish_all : Caller → Written
finish_all (goes run b text) = at_last text (finish run b)
finish_all (stopped n) = short
finish_all astray = short

-- all of it: from the first line on, nothing of a line held and nothing printed
unfoldable pub fed_and_finished : List (List ℕ) → Buffers → Written
fed_and_finished pieces b = finish_all (feed_all pieces (goes (run_of AtFirst) b []))
