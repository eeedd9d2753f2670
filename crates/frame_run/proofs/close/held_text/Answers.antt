-- `held_text` meets its contract: the line is held whole, or it is too long.
-- Assumes nothing.
use Rattle.std.proofs.Common.{sym, ap}
use Rattle.frame_rules.specs.Frame.{line_in}
use Rattle.frame_pieces.specs.Held.{held_whole}
use Rattle.frame_run.specs.Framing.{long_is}
use Rattle.frame_run.proofs.close.held_text.Goals as goal

pub returns-then-held-le4096 : goal.returns-then-held-le4096
returns-then-held-le4096 c = λ d. ap (line_in d) (sym (held_whole _ _ c.if-held-le4096.true))

pub returns-else-held-le4096 : goal.returns-else-held-le4096
returns-else-held-le4096 c = λ d. long_is d _ _ c.if-held-le4096.false
