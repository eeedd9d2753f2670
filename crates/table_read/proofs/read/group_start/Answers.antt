-- `group_start` meets its contract: the way is counted from the home, to one side or the other.
-- Assumes nothing.
use Rattle.std.proofs.Common.{◌∙◌}
use Rattle.table_read.specs.FromLeft.{right_few, start_right, start_left, start_is}
use Rattle.table_read.proofs.read.group_start.Goals as goal

pub pass_groups-requires : goal.pass_groups-requires
pass_groups-requires c = right_few c.requires c.if-l.true

pub returns-then-l : goal.returns-then-l
returns-then-l c =
    c.pass_groups.ensures ∙ start_right c.requires c.if-l.true ∙ start_is c.requires

pub returns-else-l : goal.returns-else-l
returns-else-l c =
    c.pass_back.ensures ∙ start_left c.requires c.if-l.false ∙ start_is c.requires
