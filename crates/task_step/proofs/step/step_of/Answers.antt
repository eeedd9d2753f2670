-- `step_of` meets its contract: what a phase makes of the words it makes of every lent byte.
-- Assumes nothing.
use Rattle.std.proofs.Common.{arith, sym, ◌∙◌}
use Rattle.task_step.specs.Stepping.{acted}
use Rattle.task_step.proofs.step.step_of.Goals as goal

pub returns : goal.returns
returns c =
    acted
    (record {
      range = c.args.sh.in_range;
      size = c.requires.size;
      fits = sym c.fits.ensures ∙ c.if-not-fits.false;
      guards = sym c.guards_good.ensures ∙ c.if-not-guards_good.false;
    })
    (record { size = c.requires.size; small = λ i. grind arith })
    (record { size = c.act.auto.table ∙ c.requires.size; small = λ i. omega (arith, c.type_inv.table i) })
    c.act.ensures
