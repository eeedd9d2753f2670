-- `past_line` meets its contract: a line ends where its bytes do, or before.
-- Assumes nothing.
use Rattle.std.proofs.Common.{arith, ◌+◌, ◌<◌, ◌^◌}
use Rattle.frame_reader.specs.Line.{end_below}
use Rattle.frame_reader.proofs.past_line.Goals as goal

pub overflow_add-result : goal.overflow_add-result
overflow_add-result c =
    let at = c.args.r.at in
    let ends = at + c.length_from.result in
    let small : ends < 2 ^ 64 =
    end_below c.args.r.src.now at ends (omega (arith, c.length_from.ensures)) (2 ^ 64) (omega arith) (omega arith) in
    omega (arith, small)
