use Rattle.std.proofs.Common.{◌≡◌, ◌≤◌}
use Rattle.std.proofs.Math.Seq.{slice}
use Rattle.rules.specs.Word.{word_of}
use Rattle.rules.specs.Bytes.{words_of}
use Rattle.rules.specs.Table.{between, sound_run}
use Rattle.table_cluster.specs.Run.{passes}
use Rattle.table_cluster.proofs.run.sound_run.Given as goal

abbrev pub invariant-loop-i : goal.invariant-loop-i
invariant-loop-i l = record {
  few_virgins : l.virgins ≤ l.i;
  few_changes : l.changes ≤ l.i;
  rest : passes l.low (word_of l.last) l.virgins l.changes (slice l.i l.i-end (words_of l.table))
      ≡ sound_run l.fn.sh.shape (between (words_of l.table) l.fn.l.0 l.fn.r.0);
}
