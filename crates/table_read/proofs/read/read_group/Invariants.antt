use Rattle.std.proofs.Common.{ℕ, ◌≡◌, ◌-◌, ◌≤◌}
use Rattle.rules.specs.Lists.{count}
use Rattle.theory.specs.Dealt.{is_change}
use Rattle.table_read.specs.Read.{entry}
use Rattle.table_read.specs.Group.{places_of, words_from, group_read}
use Rattle.table_read.proofs.read.read_group.Given as goal

abbrev pub invariant-loop-seen : goal.invariant-loop-seen
invariant-loop-seen l = (l.seen.smaller ≤ l.i)
    × (1 ≤ count is_change (words_from l.table l.i))
    × ((home_at : ℕ) →
    group_read (entry home_at l.x) l.seen (words_from l.table l.i)
    ≡ group_read (entry home_at l.x) l.initial.seen (words_from l.table l.initial.i))

abbrev pub decreases-loop-seen : goal.decreases-loop-seen
decreases-loop-seen l = places_of l.table - l.i
