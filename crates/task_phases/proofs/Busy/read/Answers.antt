-- `read` meets its contract: what is between the ends can be read or not. Where it can, left is the left end of the
-- home's cluster, and the read from there is the rules'.
-- Assumes nothing.
use Rattle.std.proofs.Common.{sym, ◌∙◌, arith}
use Rattle.rules.specs.Entry.{split}
use Rattle.rules.specs.Record.{home_place_of}
use Rattle.rules.specs.Phase.{read}
use Rattle.table_read.specs.Read.{read_of}
use Rattle.table_read.specs.FromLeft.{begins}
use Rattle.task_phases.specs.Reading.{after_entries, goal_small, home_taken, left_beside, left_read}
use Rattle.task_fits.specs.Ready.{home_inside, guard_free}
use Rattle.task_phases.proofs.Busy.read.Goals as goal

pub left_end-l-requires : goal.left_end-l-requires
unfolding home_place_of
left_end-l-requires c =
    let can = sym c.readable.ensures ∙ c.if-not-readable.false in
    rw c.home_place-h.ensures (record { h_in_bounds = home_inside c.requires; table_value = guard_free c.requires; h_value = home_taken c.requires can })

pub group_start-p-requires : goal.group_start-p-requires
group_start-p-requires c =
    let can = sym c.readable.ensures ∙ c.if-not-readable.false in
    let home_at = c.home_place-h.ensures in
    rw home_at (left_beside c.requires can _ (rw home_at at c.left_end-l.ensures))

pub read_from-read-requires : goal.read_from-read-requires
read_from-read-requires c =
    let can = sym c.readable.ensures ∙ c.if-not-readable.false in
    let home_at = c.home_place-h.ensures in
    let beside = left_beside c.requires can _ (rw home_at at c.left_end-l.ensures) in
    rw home_at (begins beside _ (rw home_at at c.group_start-p.ensures))

pub after_read-requires : goal.after_read-requires
unfolding read_of split
after_read-requires c =
    let can = sym c.readable.ensures ∙ c.if-not-readable.false in
    let home_at = c.home_place-h.ensures in
    let here = left_read c.requires can _ (rw home_at at c.left_end-l.ensures) in
    record {
      goal_small = rw (c.read_from-read.ensures, home_at, c.remainder_of.ensures, here) (goal_small c.requires (omega arith) _);
    }

pub returns : goal.returns
unfolding read split
returns c =
    let can = sym c.readable.ensures ∙ c.if-not-readable.false in
    let home_at = c.home_place-h.ensures in
    let here = left_read c.requires can _ (rw home_at at c.left_end-l.ensures) in
    rw can (rw (c.after_read.ensures, c.read_from-read.ensures, home_at, c.remainder_of.ensures)
    (rw (here, after_entries)))
