use Rattle.frame_digits.specs.Print.{Wording}
use Rattle.frame_digits.proofs.print.put_words.Given as goal

abbrev pub invariant-loop-i : goal.invariant-loop-i
invariant-loop-i l = Wording l.table l.initial.out l.i l.out
