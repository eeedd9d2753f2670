use Rattle.std.proofs.Common.{◌≡◌}
use Rattle.rules.specs.Word.{word_of}
use Rattle.rules.specs.Bytes.{words_of}
use Rattle.rules.specs.Table.{at}
use Rattle.table_cluster.specs.Ends.{Walk, left_over}
use Rattle.table_cluster.proofs.gaps.walk.Given as goal

abbrev pub invariant-loop-end : goal.invariant-loop-end
invariant-loop-end g l = record {
  word : word_of l.w ≡ at (words_of l.table) l.end.gap.0;
  here :
      Walk g.S.Side.side l.table l.fn.p.0 l.fn.virgins l.fn.changes l.end.gap.0 l.end.virgins l.end.changes;
}

abbrev pub decreases-loop-end : goal.decreases-loop-end
decreases-loop-end g l = left_over g.S.Side.side l.table l.end.gap.0
