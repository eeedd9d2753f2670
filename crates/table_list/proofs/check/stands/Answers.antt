-- `stands` meets its contract.
-- Assumes nothing.
use Rattle.table_cluster.specs.Check.{rises}
use Rattle.table_list.specs.Check.{stands}
use Rattle.table_list.proofs.check.stands.Goals as goal

pub returns : goal.returns
unfolding stands rises
returns c =
    rw (
      c.occupied.ensures,
      c.change.ensures,
      c.remainder.ensures,
      c.remainder-2.ensures,
      c.is_void.ensures,
    )
