-- `right_end` meets its contract by the walk to the right; what was counted on the left leaves it room.
-- Assumes nothing.
use Rattle.std.proofs.Common.{arith}
use Rattle.table_cluster.specs.Ends.{right_room}
use Rattle.table_cluster.proofs.gaps.right_end.Goals as goal

pub walk-requires-clause-virgins_room : goal.walk-requires-clause-virgins_room
walk-requires-clause-virgins_room c =
    let a = c.args in
    let r = c.requires in
    omega (arith, (right_room a.table.now a.h.0 a.l r.table_len_bound r.h_in_bounds r.l_value).0)

pub walk-requires-clause-changes_room : goal.walk-requires-clause-changes_room
walk-requires-clause-changes_room c =
    let a = c.args in
    let r = c.requires in
    omega (arith, (right_room a.table.now a.h.0 a.l r.table_len_bound r.h_in_bounds r.l_value).1)
