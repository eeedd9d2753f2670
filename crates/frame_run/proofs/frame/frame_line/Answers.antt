-- `frame_line` meets its contract: the call for one line on the used part, and what it came to, printed.
-- Assumes nothing.
use Rattle.std.proofs.Common.{refl}
use Rattle.frame_run.specs.Framing.{few_came, text_closed}
use Rattle.frame_run.proofs.frame.frame_line.Goals as goal

pub print_line-requires-clause-few : goal.print_line-requires-clause-few
print_line-requires-clause-few c =
    few_came _ c.requires.limits c.args.table.now c.args.text.now _ c.requires.size refl _ c.used.ensures.value _ _ _
    c.line_by-answer.ensures

pub returns : goal.returns
returns c =
    text_closed _ c.requires.limits c.args.table.now c.args.text.now _ c.requires.size refl _ c.used.ensures.value _ _ _
    c.line_by-answer.ensures _ _ _ c.print_line.ensures
