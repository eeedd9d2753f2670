-- `finish_good` meets its contract: the table's line stands behind what the last line printed.
-- Assumes nothing.
use native.Mathlib.Omega.{arith}
use Rattle.frame_feed.specs.Finishing.{finish_inside, finish_fits, finish_room, finish_wrote, finish_both}
use Rattle.frame_feed.proofs.finish.finish_good.Goals as goal

pub slice_bounds-end-count : goal.slice_bounds-end-count
slice_bounds-end-count c =
    omega (arith, finish_inside _ _ c.requires _ _ _ c.last_line-c.ensures)

pub slice_bounds-end-start : goal.slice_bounds-end-start
slice_bounds-end-start c =
    omega (arith, finish_inside _ _ c.requires _ _ _ c.last_line-c.ensures)

pub end-more-requires : goal.end-more-requires
end-more-requires c =
    record {
      fit = finish_fits _ _ c.requires _ _ _ c.last_line-c.ensures;
      room = finish_room _ _ c.requires _ _ _ c.last_line-c.ensures _ (omega arith);
    }

pub overflow_add-result : goal.overflow_add-result
overflow_add-result c =
    omega (arith, finish_wrote _ _ c.requires _ _ _ c.last_line-c.ensures _ _ _ c.end-more.ensures)

pub returns : goal.returns
returns c =
    finish_both _ _ c.requires _ _ _ c.last_line-c.ensures _ _ c.end-more.ensures
