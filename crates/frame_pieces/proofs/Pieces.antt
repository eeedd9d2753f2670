-- The input may come in any pieces: a caller that feeds them one after the other and finishes has been given, all in
-- all, the output that the crate frame_rules defines for the whole input (`any_pieces`), and no call was refused.
-- Assumes nothing.
use Prim.Native.Nat.{ℕ, zero, suc, ◌+◌, ◌≤◌, ◌<◌}
use Rattle.std.specs.Prelude.{◌≡◌, Bool, cond, length, take, drop, replicate}
use Rattle.std.proofs.Math.Path.{refl}
use Rattle.std.proofs.Common.{sym, ap, ◌∙◌, arith, length-drop, take_all, take-add}
use Rattle.std.proofs.Math.Bool.{true, false}
use mathlib.Core.List.{List, [], ◌∷◌, ◌++◌, flatten, append_assoc, append-nil}
use Rattle.std.proofs.Math.Dec.{ltb}
use borrow.Author.Tests.{ltb-true, ltb-false}
use Rattle.frame_rules.specs.declared.Run.{Run}
use Rattle.frame_rules.specs.declared.Stage.TheVariants.{AtFirst}
use Rattle.frame_rules.specs.Lines.{lines_of}
use Rattle.frame_rules.specs.Frame.{dawn, output}
use Rattle.frame_rules.specs.Feed.{Buffers, lent_buffers, run_of, feed, Finishing}
use Rattle.frame_pieces.specs.Limits.{dawn_fits}
use Rattle.frame_pieces.specs.Reading.{from_here}
use Rattle.frame_pieces.specs.Held.{none_held}
use Rattle.frame_pieces.specs.Feeding.{today, Stands, Fed, feed_prints, Done, finish_prints}
use Rattle.frame_pieces.specs.Pieces.{Caller, goes, astray, onward, feed_from, feed_piece, feed_all, written}
use Rattle.frame_pieces.specs.Pieces.{at_last, finish_all, fed_and_finished}

-- a caller that has fed some input is right: of any input that begins so, the whole output is the text that it has,
-- and then what is printed from here
data Right (input : List ℕ) : Caller → Type 0 where
  right :
      {run : Run} {b : Buffers} {text : List ℕ} (l : List ℕ) → Stands l run b →
      ((more : List ℕ) → output (input ++ more) ≡ text ++ from_here (today run b) l more) →
      Right input (goes run b text)

-- right at a point of a piece, with calls enough for the rest of it
abbrev FromPoint : List ℕ → List ℕ → ℕ → Type 0
FromPoint input piece n =
    (run : Run) (at : ℕ) (b : Buffers) (text l : List ℕ) → length piece ≤ at + n → Stands l run b →
    ((more : List ℕ) → output (input ++ take at piece ++ more) ≡ text ++ from_here (today run b) l more) →
    Right (input ++ piece) (feed_from n piece run at b text)

module _ (input piece : List ℕ) where
  at_end_lem :
      (run : Run) (at : ℕ) (b : Buffers) (text l : List ℕ) → length piece ≤ at → Stands l run b →
      ((more : List ℕ) → output (input ++ take at piece ++ more) ≡ text ++ from_here (today run b) l more) →
      Right (input ++ piece) (goes run b text)
  at_end_lem run at b text l h s same = right l s (rw (take_all at piece h) at same)

  -- one more call: what it took stands behind what was fed, and what it printed behind what was printed
  one_call :
      (n : ℕ) → FromPoint input piece n → (run : Run) (at : ℕ) (b : Buffers) (text l : List ℕ) →
      length piece ≤ at + suc n → at < length piece → Stands l run b →
      ((more : List ℕ) → output (input ++ take at piece ++ more) ≡ text ++ from_here (today run b) l more) →
      Right (input ++ piece) (onward (feed_from n piece) text (feed run piece at b))
  one_call n next run at b text l few h s same =
      let x : Fed l run (drop at piece) at b (feed run piece at b) = feed_prints l run piece at b s in
      let size = length-drop at piece in
      let moved : 0 < x.eaten = x.moves (omega arith) in
      let reached : x.point ≡ at + x.eaten = x.reached in
      rw x.is
      (next x.run' x.point x.b' (text ++ take x.wrote x.b'.out) x.l' (omega arith) x.stands
      (λ more. longer x more))
    where
      longer :
          (x : Fed l run (drop at piece) at b (feed run piece at b)) (more : List ℕ) →
          output (input ++ take x.point piece ++ more)
          ≡ text ++ take x.wrote x.b'.out ++ from_here (today x.run' x.b') x.l' more
      longer x more =
          let taken = take x.eaten (drop at piece) in
          let cut : take x.point piece ≡ take at piece ++ taken =
          ap (λ (n : ℕ). take n piece) x.reached ∙ take-add at x.eaten piece in
          ap (λ (front : List ℕ). output (input ++ front ++ more)) cut
          ∙ ap (λ (all : List ℕ). output (all ++ more)) (sym (append_assoc input (take at piece) taken))
          ∙ ap (λ (all : List ℕ). output all) (append_assoc (input ++ take at piece) taken more)
          ∙ same (taken ++ more)
          ∙ ap (λ (rest : List ℕ). text ++ rest) (x.prints more)
          ∙ sym (append_assoc text (take x.wrote x.b'.out) (from_here (today x.run' x.b') x.l' more))

  from_point : (n : ℕ) → FromPoint input piece n
  unfolding feed_from
  from_point zero run at b text l few s same = go (ltb at (length piece)) refl
    where
      go : (more : Bool) → ltb at (length piece) ≡ more → Right (input ++ piece) (cond more astray (goes run b text))
      go true e = let h = ltb-true at (length piece) e in absurd (omega arith)
      go false e = at_end_lem run at b text l (ltb-false at (length piece) e) s same
  from_point (suc n) run at b text l few s same = go (ltb at (length piece)) refl (from_point n)
    where
      go :
          (more : Bool) → ltb at (length piece) ≡ more → FromPoint input piece n →
          Right (input ++ piece)
          (cond more (onward (feed_from n piece) text (feed run piece at b)) (goes run b text))
      go true e next = one_call n next run at b text l few (ltb-true at (length piece) e) s same
      go false e next = at_end_lem run at b text l (ltb-false at (length piece) e) s same

piece_right :
    {input : List ℕ} {c : Caller} (piece : List ℕ) → Right input c →
    Right (input ++ piece) (feed_piece piece c)
piece_right {input} piece (right {run} {b} {text} l s same) =
    from_point input piece (length piece) run 0 b text l (omega arith) s (rw (append-nil input) same)

all_right :
    {input : List ℕ} {c : Caller} (pieces : List (List ℕ)) → Right input c →
    Right (input ++ flatten pieces) (feed_all pieces c)
unfolding feed_all flatten
all_right {input} [] r = rw (append-nil input) r
all_right {input} (piece ∷ pieces) r =
    rw (← append_assoc input piece (flatten pieces)) (all_right {input = input ++ piece} pieces (piece_right piece r))

whole_right : {input : List ℕ} {c : Caller} → Right input c → finish_all c ≡ written (output input)
whole_right {input} (right {run} {b} {text} l s same) =
    let x : Done l run b = finish_prints l run b s in
    ap (λ (f : Finishing). at_last text f) x.is
    ∙ ap (λ (rest : List ℕ). written (text ++ rest)) (sym x.prints)
    ∙ ap written (sym (same []))
    ∙ ap (λ (all : List ℕ). written (output all)) (append-nil input)

-- a caller that begins has fed nothing
begins :
    (line out : List ℕ) → 4096 ≤ length line → 66570 ≤ length out →
    Right [] (goes (run_of AtFirst) (lent_buffers line (replicate 32772 0) out) [])
unfolding output lines_of dawn from_here
begins line out held room =
    right []
    (record {
      ready = record { day = dawn_fits; line = held; out = room };
      held = none_held line;
    })
    (λ more. refl)

-- any pieces, in any buffers that are large enough
pub any_pieces :
    (pieces : List (List ℕ)) (line out : List ℕ) → 4096 ≤ length line → 66570 ≤ length out →
    fed_and_finished pieces (lent_buffers line (replicate 32772 0) out) ≡ written (output (flatten pieces))
unfolding fed_and_finished
any_pieces pieces line out held room = whole_right (all_right pieces (begins line out held room))
