-- `close` meets its contract, by the run's stage.
-- Assumes nothing.
use Rattle.std.proofs.Common.{ap, ◌∙◌}
use Rattle.frame_rules.specs.Frame.{After}
use Rattle.frame_rules.specs.Feed.{day_of}
use Rattle.frame_run.specs.Closing.{closing}
use Rattle.frame_run.specs.Framing.{first_in, frame_in, ended_in}
use Rattle.frame_run.proofs.close.close.Goals as goal

pub returns-in-AtFirst : goal.returns-in-AtFirst
returns-in-AtFirst c =
    first_in c.args.run c.args.table.now _ c.args.out.now c.in-AtFirst.is _ _ c.first_line.ensures
    ∙ ap (λ (a : After). closing a c.args.out.now) (c.held_text-text.ensures (day_of c.args.run c.args.table.now))

pub returns-in-Among : goal.returns-in-Among
returns-in-Among c =
    frame_in c.args.run c.args.table.now _ c.args.out.now _ c.in-Among.is _ c.frame_line.ensures
    ∙ ap (λ (a : After). closing a c.args.out.now) (c.held_text-text.ensures (day_of c.args.run c.args.table.now))

pub returns-in-Ended : goal.returns-in-Ended
returns-in-Ended c = ended_in c.args.run c.args.table.now _ c.args.out.now c.in-Ended.is _ c.run_at.ensures
