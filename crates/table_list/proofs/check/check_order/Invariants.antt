use Rattle.std.proofs.Common.{true, ◌≡◌, ◌-◌}
use Rattle.std.proofs.Math.Seq.{slice}
use Rattle.rules.specs.Bytes.{words_of}
use Rattle.table_list.specs.Check.{ordered}
use Rattle.table_list.proofs.check.check_order.Given as goal

abbrev pub invariant-loop-i : goal.invariant-loop-i
invariant-loop-i l =
    ordered l.t.sh.shape l.up l.over (slice (l.i - 1) l.i-end (words_of l.t.bytes.now))
    ≡ ordered l.t.sh.shape true 0 (slice 0 l.i-end (words_of l.t.bytes.now))
