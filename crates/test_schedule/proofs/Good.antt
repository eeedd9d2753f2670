-- A first line that is read as good is within its limits: `good_limits`.
-- Assumes nothing.
use Rattle.std.specs.Prelude.{ℕ, ◌≡◌, refl, Bool, true, false, cond, ◌&&◌, List, length, eqb, Option, Some, None, IfSome}
use Rattle.std.proofs.Common.{◌∙◌}
use Rattle.std.proofs.Math.Path.{sym, subst}
use Rattle.std.proofs.Math.Bool.{and-eq-true_iff}
use Rattle.rules.specs.Lists.{all}
use Rattle.frame_rules.specs.declared.First.{First}
use Rattle.frame_rules.specs.Digits.{is_digit}
use Rattle.frame_rules.specs.Lines.{first_of, in_limits, good_first, read_first}
use Rattle.frame_first.specs.Limits.{InLimits, in_limits_lem}

read_limited : (line : List ℕ) → IfSome (read_first line) InLimits
unfolding read_first good_first
read_limited line = go (good_first line) refl
  where
    go : (good : Bool) → good_first line ≡ good → IfSome (cond good (Some (first_of line)) None) InLimits
    go true e =
        in_limits_lem (first_of line)
        ((and-eq-true_iff (eqb (length line) 6 && all is_digit line) (in_limits (first_of line))).0 e).1
    go false e = tt

pub good_limits :
    (line : List ℕ) (x : Option First) (f : First) → x ≡ read_first line → x ≡ Some f → InLimits f
good_limits line x f read is =
    subst (λ (y : Option First). IfSome y InLimits) (sym read ∙ is) (read_limited line)
