-- `figure` meets its contract: the shape's range keeps the sum and the product within 32 bits.
-- Assumes nothing.
use Rattle.std.proofs.Common.{rules, arith}
use Rattle.rules.specs.Bytes.{words_of}
use Rattle.rules.specs.Shape.{places}
use Rattle.rules.specs.Fill.{figure}
use Rattle.table_words.specs.Range.{homes_high}
use Rattle.table_words.specs.Layout.{words_length}
use Rattle.table_words.specs.Counts.{count_le}
use Rattle.theory.specs.Dealt.{is_occupied}
use Rattle.table_find.proofs.fill.figure.Goals as goal

pub count_occupied-requires-clause-n_bound : goal.count_occupied-requires-clause-n_bound
unfolding places
count_occupied-requires-clause-n_bound c = omega (arith, homes_high c.args.sh.shape c.args.sh.in_range)

pub overflow_mul-result : goal.overflow_mul-result
unfolding places
overflow_mul-result c =
    let ws = words_of c.args.table.now in
    omega (
      arith,
      c.count_occupied.ensures,
      homes_high c.args.sh.shape c.args.sh.in_range,
      count_le is_occupied ws,
      words_length c.args.table.now (places c.args.sh.shape) c.requires.size,
    )

pub nonzero_div-result : goal.nonzero_div-result
unfolding places
nonzero_div-result c = search rules

pub returns : goal.returns
unfolding figure
returns c = rw (c.count_occupied.ensures, c.places-n.ensures)
