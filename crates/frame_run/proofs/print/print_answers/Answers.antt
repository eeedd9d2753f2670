-- `print_answers` meets its contract: digits, and a line feed behind them.
-- Assumes nothing.
use Rattle.std.proofs.Common.{sym, arith}
use Rattle.frame_rules.specs.Digits.{digits_of}
use Rattle.frame_digits.specs.Print.{digits_length}
use Rattle.frame_run.specs.Printing.{feed_ends}
use Rattle.frame_run.proofs.print.print_answers.Goals as goal

pub returns : goal.returns
returns c =
    feed_ends (digits_of c.args.answers.now) _ _ _ c.put_bytes.ensures (sym (digits_length _)) (omega arith)
