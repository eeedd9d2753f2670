-- `join` meets its contract: the key is below the number of keys, so that nothing wraps.
-- Assumes nothing.
use Rattle.std.proofs.Common.{arith}
use Rattle.rules.specs.Entry.{home_of_place, join}
use Rattle.table_words.specs.Split.{join_fits}
use Rattle.table_words.proofs.key.join.Goals as goal

pub overflow_mul-result : goal.overflow_mul-result
unfolding join home_of_place
overflow_mul-result c =
    rw (c.home_of_place.ensures, c.remainders.ensures)
    (omega (arith, join_fits c.args.k.sh.shape _ c.args.k.sh.in_range c.args.k.in_shape))

pub overflow_add-result : goal.overflow_add-result
unfolding join home_of_place
overflow_add-result c =
    rw (c.home_of_place.ensures, c.remainders.ensures)
    (omega (arith, join_fits c.args.k.sh.shape _ c.args.k.sh.in_range c.args.k.in_shape))
