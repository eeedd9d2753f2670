use Rattle.frame_digits.specs.Read.{Reading}
use Rattle.frame_digits.proofs.read.Digits.number.Given as goal

abbrev pub invariant-loop-c : goal.invariant-loop-c
invariant-loop-c l = Reading l.part l.k l.c-index
