use Rattle.std.proofs.Common.{◌≡◌}
use Rattle.std.proofs.Math.Seq.{slice}
use Rattle.rules.specs.Lists.{all}
use Rattle.rules.specs.Bytes.{words_of}
use Rattle.rules.specs.Table.{between}
use Rattle.theory.specs.Dealt.{is_occupied}
use Rattle.table_cluster.proofs.run.all_occupied.Given as goal

abbrev pub invariant-loop-i : goal.invariant-loop-i
invariant-loop-i l =
    all is_occupied (slice l.i l.i-end (words_of l.table))
    ≡ all is_occupied (between (words_of l.table) l.fn.l.0 l.fn.r.0)
