use Rattle.std.proofs.Common.{◌+◌, ◌-◌, length}
use Rattle.rules.specs.Bytes.{words_of}
use Rattle.table_list.specs.Scan.{SameFound}
use Rattle.table_list.proofs.keys.next_place.Given as goal

abbrev pub invariant-loop-sought : goal.invariant-loop-sought
invariant-loop-sought g l = SameFound (goal.F-post g l.sought) l.table (l.i + 1) (l.initial.i + 1)

abbrev pub decreases-loop-sought : goal.decreases-loop-sought
decreases-loop-sought g l = length (words_of l.table) - l.i
