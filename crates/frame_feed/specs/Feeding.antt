-- Laws of feeding: the point in the piece and the line's end (`end_in_piece`, `point_below`); the bytes held, and then
-- a line or none (`fed_line`, `fed_on`); a call that is accepted or refused (`feed-..`). Assumes nothing.
use Prim.Native.Nat.{ℕ, suc, ◌+◌, ◌-◌, ◌≤◌, ◌<◌, min}
use Rattle.std.specs.Prelude.{◌≡◌, refl, Bool, List, length, take, drop, leb, Err, Ok, Result}
use Rattle.std.proofs.Common.{sym, ◌∙◌, length-drop, drop_of_length-le, length-take-le}
use Rattle.std.proofs.Math.Path.{ap}
use Rattle.std.proofs.Math.Bool.{true, false}
use native.Mathlib.Omega.{arith}
use Rattle.std.proofs.Math.Dec.{ltb}
use borrow.Author.Tests.{lt-ltb, le-ltb, leb-true, leb-false, ne_eqb}
use Rattle.rules.specs.declared.Refusal.{Refusal}
use Rattle.rules.specs.Answer.{done_says, number_of_refusal}
use Rattle.frame_rules.specs.declared.Run.{Run}
use Rattle.frame_rules.specs.Frame.{line_in}
use Rattle.frame_rules.specs.Feed.{Buffers, lent_buffers, with_held, day_of, refusal, line_length, held_after, line_after}
use Rattle.frame_rules.specs.Feed.{held_line, Feeding, feeds, refused, closes, held_or_closed, feed_good, feed}
use Rattle.frame_reader.specs.Line.{line_inside, end_met, line_is}
use Rattle.frame_pieces.specs.Feeding.{InOrder, accepted, not_refused}
use Rattle.frame_run.specs.declared.close.Closed.{Closed}
use Rattle.frame_buffers.specs.Check.{refusal_by, refusal_by_lem, some_number}
use Rattle.frame_buffers.specs.Hold.{Holding, holding}
use Rattle.frame_run.specs.Closing.{Closing, closed, closing}

-- ---- the point in the piece, and where the line ends; beyond the piece's end both are its end
module _ (piece : List ℕ) (at from end : ℕ) (inside : from ≡ min at (length piece))
    (ends : end ≡ from + line_length (drop from piece))
  where
    abbrev rest : List ℕ
    rest = drop from piece

    pub end_in_piece : end ≤ length piece
    end_in_piece = omega (arith, line_inside rest, length-drop from piece)

    -- the point reached is inside the piece, or it has not moved
    pub point_below : (k : ℕ) → at < k → length piece < k → at + (end - from) < k
    point_below k low short = omega (arith, line_inside rest, length-drop from piece)

    same_rest : rest ≡ drop at piece
    same_rest = go (leb at (length piece)) refl
      where
        go : (t : Bool) → leb at (length piece) ≡ t → rest ≡ drop at piece
        go true e =
            let low = leb-true at (length piece) e in
            let same : from ≡ at = omega arith in
            ap (λ (k : ℕ). drop k piece) same
        go false e =
            let high = leb-false at (length piece) e in
            let past : length piece ≤ from = omega arith in
            let over : length piece ≤ at = omega arith in
            drop_of_length-le piece past ∙ sym (drop_of_length-le piece over)

    module _ (run : Run) (line table out : List ℕ) (held : ℕ) (after : List ℕ)
        (hold :
        holding held after
        ≡ holding
        (held_after run.held (length (take (end - from) rest)))
        (line_after line run.held (take (end - from) rest)))
      where
        abbrev more : ℕ
        more = line_length rest

        -- what is held, by the line's length
        abbrev kept : Holding
        kept = holding (held_after run.held more) (line_after line run.held (take more rest))

        kept_is : holding held after ≡ kept
        kept_is =
            hold
            ∙ ap
            (λ (part : List ℕ). holding (held_after run.held (length part)) (line_after line run.held part))
            (line_is piece from end ends)
            ∙ ap
            (λ (n : ℕ). holding (held_after run.held n) (line_after line run.held (take more rest)))
            (length-take-le more rest (line_inside rest))

        rest_good : feed_good run rest at (lent_buffers line table out)
            ≡ feed_good run (drop at piece) at (lent_buffers line table out)
        rest_good = ap (λ (r : List ℕ). feed_good run r at (lent_buffers line table out)) same_rest

        -- a line feed was met: the line is closed, and the point stands after the line feed
        pub fed_line :
            end < length piece → (c : Closed) (table' out' : List ℕ) →
            closed c table' out' ≡ closing (line_in (day_of run table) (held_line held after)) out →
            feeds c.run (at + (end - from) + 1) c.wrote (lent_buffers after table' out')
            ≡ feed_good run (drop at piece) at (lent_buffers line table out)
        unfolding feed_good held_or_closed
        fed_line met c table' out' e =
            let point : at + (end - from) + 1 ≡ suc (at + more) = omega arith in
            let feed_met : ltb more (length rest) ≡ true =
            end_met piece from end ends ∙ lt-ltb end (length piece) met in
            ap
            (λ (x : Closing). feeds x.run (at + (end - from) + 1) x.wrote (lent_buffers after x.table x.out))
            e
            ∙ ap
            (λ (p : ℕ). closes p (lent_buffers after table out) (line_in (day_of run table) (held_line held after)))
            point
            ∙ ap
            (λ (x : Holding). closes
            (suc (at + more))
            (lent_buffers x.line table out)
            (line_in (day_of run table) (held_line x.held x.line)))
            kept_is
            ∙ ap
            (λ (m : Bool). held_or_closed run (at + more) kept.held m (lent_buffers kept.line table out))
            (sym feed_met)
            ∙ rest_good

        -- none was met: the line goes on
        pub fed_on :
            length piece ≤ end → (next : Run) → next ≡ with_held run held →
            feeds next (at + (end - from)) 0 (lent_buffers after table out)
            ≡ feed_good run (drop at piece) at (lent_buffers line table out)
        unfolding feed_good held_or_closed
        fed_on unmet next e =
            let point : at + (end - from) ≡ at + more = omega arith in
            let feed_met : ltb more (length rest) ≡ false =
            end_met piece from end ends ∙ le-ltb end (length piece) unmet in
            ap (λ (x : Run). feeds x (at + (end - from)) 0 (lent_buffers after table out)) e
            ∙ ap (λ (p : ℕ). feeds (with_held run held) p 0 (lent_buffers after table out)) point
            ∙ ap (λ (x : Holding). feeds (with_held run x.held) (at + more) 0
            (lent_buffers x.line table out)) kept_is
            ∙ ap
            (λ (m : Bool). held_or_closed run (at + more) kept.held m (lent_buffers kept.line table out))
            (sym feed_met)
            ∙ rest_good

-- ---- a call that is accepted or refused
module _ (run : Run) (line table out : List ℕ) (d : Result Unit Refusal)
    (check : (done_says d).number ≡ refusal_by run (length line) (length table) (length out))
  where
    abbrev b : Buffers
    b = lent_buffers line table out

    number : refusal run b ≡ (done_says d).number
    number = sym (check ∙ refusal_by_lem run b)

    pub feed_ready : d ≡ Ok tt → InOrder run b
    feed_ready e = accepted run b (number ∙ ap (λ (x : Result Unit Refusal). (done_says x).number) e)

    pub feed_accepted :
        d ≡ Ok tt → (piece : List ℕ) (at : ℕ) (x : Feeding) → x ≡ feed_good run (drop at piece) at b →
        x ≡ feed run piece at b
    unfolding feed
    feed_accepted e piece at x good = rw (not_refused run b (feed_ready e)) good

    pub feed_refused :
        (n : Refusal) → d ≡ Err n → (piece : List ℕ) (at : ℕ) →
        refused (number_of_refusal n) b ≡ feed run piece at b
    unfolding feed
    feed_refused n e piece at =
        let is : refusal run b ≡ number_of_refusal n = number ∙ ap (λ (x : Result Unit Refusal). (done_says x).number) e in
        rw (is, ne_eqb (number_of_refusal n) 0 (some_number n))
