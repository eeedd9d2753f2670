use Rattle.frame_first.specs.Table.{Storing}
use Rattle.frame_first.proofs.table.store_words.Given as goal

abbrev pub invariant-loop-i : goal.invariant-loop-i
invariant-loop-i l = Storing l.line.text.now l.initial.table l.n l.i l.table
