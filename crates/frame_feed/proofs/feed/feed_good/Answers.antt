-- `feed_good` meets its contract: the line's bytes are held, and then a line feed is met or not.
-- Assumes nothing.
use Rattle.std.proofs.Common.{rules, refl}
use Rattle.frame_feed.specs.Feeding.{end_in_piece, point_below, fed_line, fed_on}
use Rattle.frame_feed.proofs.feed.feed_good.Goals as goal

pub slice_bounds-hold-end : goal.slice_bounds-hold-end
slice_bounds-hold-end c =
    end_in_piece _ _ _ _ c.min-from.ensures c.next_line-end.ensures

pub returns-then-end-piece : goal.returns-then-end-piece
returns-then-end-piece c =
    fed_line _ _ _ _ c.min-from.ensures c.next_line-end.ensures _ _ _ _ _ _ c.hold-held.ensures
    c.if-end-piece.true c.close-c.result _ _ c.close-c.ensures

pub overflow_add-result-2 : goal.overflow_add-result-2
overflow_add-result-2 c = search (rules, point_below)

pub returns : goal.returns
returns c =
    fed_on _ _ _ _ c.min-from.ensures c.next_line-end.ensures _ _ _ _ _ _ c.hold-held.ensures
    c.if-end-piece.false _ refl
