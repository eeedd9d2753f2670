use Rattle.std.proofs.Common.{true, ◌≡◌, ◌≤◌}
use Rattle.std.proofs.Math.Seq.{slice}
use Rattle.rules.specs.Bytes.{words_of}
use Rattle.table_list.specs.Check.{gapped}
use Rattle.table_list.proofs.check.check_gaps.Given as goal

abbrev pub invariant-loop-i : goal.invariant-loop-i
invariant-loop-i l = (l.virgins ≤ l.i)
    × (l.changes ≤ l.i)
    × (l.keys ≤ l.i)
    × (gapped l.even l.virgins l.changes l.keys (slice l.i l.i-end (words_of l.t.bytes.now))
    ≡ gapped true 0 0 0 (slice 0 l.i-end (words_of l.t.bytes.now)))
