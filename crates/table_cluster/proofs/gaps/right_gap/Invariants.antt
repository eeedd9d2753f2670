use Rattle.std.proofs.Common.{◌≡◌, ◌-◌}
use Rattle.rules.specs.Bytes.{words_of}
use Rattle.rules.specs.Table.{occupied_places, right_gap}
use Rattle.table_cluster.proofs.gaps.right_gap.Given as goal

abbrev pub invariant-loop-gap : goal.invariant-loop-gap
invariant-loop-gap l =
    right_gap (occupied_places (words_of l.table)) l.gap.0 ≡ right_gap (occupied_places (words_of l.table)) l.fn.p.0

abbrev pub decreases-loop-gap : goal.decreases-loop-gap
decreases-loop-gap l = l.end - l.gap.0
