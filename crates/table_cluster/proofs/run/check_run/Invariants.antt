use Rattle.std.proofs.Common.{◌≡◌, ◌<◌, true}
use Rattle.std.proofs.Math.Seq.{slice}
use Rattle.rules.specs.Bytes.{words_of}
use Rattle.rules.specs.Table.{at}
use Rattle.table_cluster.specs.Check.{checked}
use Rattle.table_cluster.proofs.run.check_run.Given as goal

abbrev pub invariant-loop-i : goal.invariant-loop-i
invariant-loop-i l = record {
  fits : l.over < 65536;
  rest : checked l.fn.sh.shape (at (words_of l.table) l.i-end) l.up l.over (slice l.i l.i-end (words_of l.table))
      ≡ checked l.fn.sh.shape (at (words_of l.table) l.i-end) true 0 (slice l.initial.i l.i-end (words_of l.table));
}
