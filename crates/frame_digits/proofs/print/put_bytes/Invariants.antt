use Rattle.frame_digits.specs.Print.{Printing}
use Rattle.frame_digits.proofs.print.put_bytes.Given as goal

abbrev pub invariant-loop-i : goal.invariant-loop-i
invariant-loop-i l = Printing l.bytes l.initial.out l.i l.out
