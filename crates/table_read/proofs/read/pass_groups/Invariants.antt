use Rattle.std.proofs.Common.{◌≡◌, ◌+◌, ◌-◌, ◌≤◌}
use Rattle.rules.specs.Lists.{count}
use Rattle.theory.specs.Dealt.{is_change}
use Rattle.table_read.specs.Group.{passed, places_of, words_from}
use Rattle.table_read.proofs.read.pass_groups.Given as goal

abbrev pub invariant-loop-left : goal.invariant-loop-left
invariant-loop-left l = (l.left ≤ count is_change (words_from l.table l.i))
    × (l.i + passed (words_from l.table l.i) l.left
    ≡ l.initial.i + passed (words_from l.table l.initial.i) l.initial.left)

abbrev pub decreases-loop-left : goal.decreases-loop-left
decreases-loop-left l = places_of l.table - l.i
