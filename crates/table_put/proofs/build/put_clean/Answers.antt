-- `put_clean` meets its contract: in a clean table the surroundings need no look, and a key is refused for room alone.
-- Assumes nothing.
use Rattle.table_find.specs.Around.{Open}
use Rattle.rules.specs.Bytes.{words_of}
use Rattle.table_put.specs.Filling.{clean_open, open_full}
use Rattle.table_put.proofs.build.put_clean.Goals as goal
use Rattle.table_put.proofs.build.put_clean.Goals.{After-parts_of-k}

opened :
    (parts : After-parts_of-k) →
    Open parts.parts_of-k.result.sh.shape (words_of parts.args.table.now) parts.parts_of-k.result.home.0
opened parts = clean_open parts.parts_of-k.result _ (rw parts.parts_of-k.ensures.shape parts.requires.clean)

pub put_open-requires-clause-open : goal.put_open-requires-clause-open
put_open-requires-clause-open c = opened (goal.at.put_open-requires-clause-open c).After-parts_of-k

pub returns-clause-err : goal.returns-clause-err
returns-clause-err c =
    open_full _ _ _ (opened (goal.at.returns-clause-err c).After-parts_of-k) _ _ c.put_open.ensures
