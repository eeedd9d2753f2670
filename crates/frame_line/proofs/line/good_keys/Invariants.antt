use Rattle.std.proofs.Common.{ℕ, ◌≡◌, ltb, drop}
use Rattle.rules.specs.Lists.{all}
use Rattle.rules.specs.Shape.{keys}
use Rattle.frame_rules.specs.Lines.{keys_of}
use Rattle.frame_line.proofs.line.good_keys.Given as goal

abbrev pub invariant-loop-i : goal.invariant-loop-i
invariant-loop-i l =
    all (λ (key : ℕ). ltb key (keys l.sh.shape)) (drop l.i (keys_of l.line.text.now))
    ≡ all (λ (key : ℕ). ltb key (keys l.sh.shape)) (keys_of l.line.text.now)
