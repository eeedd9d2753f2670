-- `put_beside` meets its contract: a key that the read does not hold is ready to be added.
-- Assumes nothing.
use Rattle.std.proofs.Common.{◌≡◌, ◌∙◌}
use Rattle.rules.specs.Bytes.{words_of}
use Rattle.rules.specs.Table.{cluster_entries}
use Rattle.table_words.specs.Layout.{words_length}
use Rattle.table_read.specs.FromLeft.{LeftCounted, begins}
use Rattle.table_read.specs.Read.{entry, read_of}
use Rattle.table_find.specs.Around.{cluster_counted, cluster_read}
use Rattle.table_put.specs.Putting.{put_held, put_ready, put_absent}
use Rattle.table_put.proofs.adding.put_beside.Goals as goal
use Rattle.table_put.proofs.adding.put_beside.Goals.{Start, After-read_from-read}

counted : (start : Start) → LeftCounted start.args.table.now start.args.l start.args.k.home.0
counted start =
    cluster_counted start.args.k _ start.requires.size start.requires.open start.requires.full _ start.requires.left

-- what the read tells of the cluster
reads :
    (read : After-read_from-read) →
    read.read_from-read.result
    ≡ read_of (entry read.args.k.home.0 read.args.k.remainder)
    (cluster_entries (words_of read.args.table.now) read.args.k.home.0)
reads read =
    let r = read.requires in
    read.read_from-read.ensures ∙ cluster_read read.args.k _ r.size r.open r.full _ r.left

pub group_start-p-requires : goal.group_start-p-requires
group_start-p-requires c = counted (goal.at.group_start-p-requires c).Start

pub read_from-read-requires : goal.read_from-read-requires
read_from-read-requires c =
    begins (counted (goal.at.read_from-read-requires c).Start) c.group_start-p.result.0 c.group_start-p.ensures

pub returns-then-read : goal.returns-then-read
returns-then-read c =
    let read = (goal.at.returns-then-read c).After-read_from-read in
    rw (put_held c.args.k _ (words_length _ _ c.requires.size) c.requires.open _ (reads read) c.if-read.true)

pub add_beside-requires-clause-ready : goal.add_beside-requires-clause-ready
add_beside-requires-clause-ready c =
    let read = (goal.at.add_beside-requires-clause-ready c).After-read_from-read in
    let size = words_length _ _ c.requires.size in
    put_ready c.args.k _ size c.requires.open _ (reads read) c.requires.full c.if-read.false _ c.requires.left

pub returns-else-read : goal.returns-else-read
returns-else-read c =
    let read = (goal.at.returns-else-read c).After-read_from-read in
    let size = words_length _ _ c.requires.size in
    rw (put_absent c.args.k _ size c.requires.open _ (reads read) c.requires.full c.if-read.false)
    c.add_beside.ensures
