-- `all_digits` meets its contract: a byte is a digit where `digit` gives some worth.
-- Assumes nothing.
use Rattle.std.proofs.Common.{refl, rules}
use Rattle.std.proofs.lemmas.List.Recursion.{and_is}
use Rattle.rules.specs.Lists.{all}
use Rattle.frame_rules.specs.Digits.{is_digit}
use Rattle.frame_digits.specs.Read.{is_some_digit}
use Rattle.frame_digits.proofs.read.all_digits.Goals as goal

pub returns : goal.returns
unfolding all
returns c =
    and_is (all is_digit) is_digit refl (λ _ _. refl) c.args.s.now 0 _
    (search (rules, is_some_digit))
    (search (rules, is_some_digit))
