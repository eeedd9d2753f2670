use Rattle.std.proofs.Common.{take}
use Rattle.table_list.specs.Write.{Writing}
use Rattle.table_list.proofs.keys.write_keys.Given as goal

abbrev pub invariant-loop-slot : goal.invariant-loop-slot
invariant-loop-slot l = Writing l.t.sh.shape l.t.bytes.now (take l.n l.fn.slots) l.h.0 l.p.0 l.w l.slot-index l.slot-items
