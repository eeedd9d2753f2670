use Rattle.std.proofs.Common.{◌≡◌, ◌≤◌}
use Rattle.rules.specs.Lists.{count}
use Rattle.rules.specs.Bytes.{words_of}
use Rattle.theory.specs.Dealt.{is_occupied}
use Rattle.table_find.specs.Count.{counted}
use Rattle.table_find.proofs.fill.count_occupied.Given as goal

abbrev pub invariant-loop-i : goal.invariant-loop-i
invariant-loop-i l = (l.k ≤ l.i) × (counted l.table l.n l.k l.i ≡ count is_occupied (words_of l.table))
