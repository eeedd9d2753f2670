-- `find_cluster` meets its contract: a cluster that passes its check may be read from its left end.
-- Assumes nothing.
use Rattle.std.proofs.Common.{◌∙◌, ap}
use Rattle.table_cluster.specs.Check.{passed}
use Rattle.table_find.specs.Around.{around_open, cluster_checked, cluster_counted}
use Rattle.table_find.proofs.find.find_cluster.Goals as goal

pub find_beside-requires : goal.find_beside-requires
find_beside-requires c =
    let left = c.left_end-l.ensures in
    let r = c.right_end-r.ensures in
    let checked = cluster_checked c.args.k _ c.requires.size c.requires.void c.requires.full _ _ left r in
    cluster_counted c.args.k _ c.requires.size
    (around_open (c.in_ok-passes.ensures ∙ ap passed (c.check_run.ensures ∙ checked)))
    c.requires.full _ left
