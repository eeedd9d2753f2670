-- `length_from` meets its contract: the place of the first line feed, or the end of the bytes.
-- Assumes nothing.
use Rattle.std.proofs.Common.{ℕ, ap, length, eqb, drop, ◌∙◌, rules, tests}
use Rattle.std.proofs.lemmas.Iterator.{YieldsList-from_slice}
use Rattle.std.proofs.lemmas.Iterator.Search.{position_from_yields_List}
use Rattle.frame_reader.specs.Line.{line_over, line_found, rest_is}
use Rattle.frame_reader.proofs.length_from.Goals as goal

pub returns-then-src-at : goal.returns-then-src-at
returns-then-src-at c = line_over _ _ c.if-src-at.true

pub returns : goal.returns
returns c =
    let whole = rest_is c.args.src.now c.args.at in
    c.unwrap_or.ensures
    ∙ line_found (drop c.args.at c.args.src.now) c.position.result
    (position_from_yields_List (λ (b : ℕ). eqb b 10) _ _ _ c.position.ensures.ran
    (YieldsList-from_slice _ (c.iter.ensures.rest ∙ whole)) (λ x b q k. search (rules, tests)))
    _ (ap length whole)
