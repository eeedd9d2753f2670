use Rattle.std.proofs.Common.{◌≡◌, ◌+◌, ◌≤◌}
use Rattle.std.proofs.Math.Seq.{slice}
use Rattle.rules.specs.Lists.{count}
use Rattle.rules.specs.Bytes.{words_of}
use Rattle.theory.specs.Dealt.{is_change}
use Rattle.table_read.specs.FromLeft.{all_but}
use Rattle.table_read.proofs.read.pass_back.Given as goal

abbrev pub invariant-loop-i : goal.invariant-loop-i
invariant-loop-i l = (l.left ≤ count is_change (slice (l.l.0 + 1) l.i (words_of l.table)))
    × (all_but l.left (slice (l.l.0 + 1) l.i (words_of l.table))
    ≡ all_but l.k (slice (l.l.0 + 1) l.initial.i (words_of l.table)))
