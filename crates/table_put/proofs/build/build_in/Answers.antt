-- `build_in` meets its contract: whether all keys found room decides. The bytes are cleared before, and on a refusal.
-- Assumes nothing.
use Rattle.std.proofs.Common.{◌≡◌, refl, sym, ◌∙◌, ap, subst, replicate}
use Rattle.rules.specs.Answer.{refuses, leaves}
use Rattle.rules.specs.Bytes.{words_of}
use Rattle.rules.specs.Build.{zeros}
use Rattle.table_put.specs.Filling.{Clean, zeros_clean}
use Rattle.table_put.specs.Building.{cleared_whole, cleared_zeros, all_put, too_full, build_done, build_full}
use Rattle.table_put.proofs.build.build_in.Goals as goal
use Rattle.table_put.proofs.build.build_in.Goals.{After-clear}

cleared : (clear : After-clear) → words_of clear.clear.new.table ≡ zeros clear.args.sh.shape
cleared clear =
    let wiped = cleared_whole clear.args.table.now clear.clear.new.table _ refl clear.clear.ensures in
    cleared_zeros clear.args.sh.shape clear.args.table.now clear.clear.new.table clear.requires.size wiped

pub put_all-put-requires-clause-clean : goal.put_all-put-requires-clause-clean
put_all-put-requires-clause-clean c =
    subst (Clean _) (sym (cleared (goal.at.put_all-put-requires-clause-clean c).After-clear)) (zeros_clean _)

pub returns-then-is_err : goal.returns-then-is_err
returns-then-is_err c =
    let sh = c.args.sh in
    let bs = c.args.table.now in
    let full = too_full _ (sym c.is_err.ensures.value ∙ c.if-is_err.true) c.put_all-put.ensures.err in
    let size = c.put_all-put.auto.table ∙ c.clear.auto.table in
    rw full
    (ap (leaves (refuses 8)) (cleared_whole c.put_all-put.new.table _ _ (sym size) c.clear-then-is_err.ensures)
    ∙ ap (λ n. leaves (refuses 8) (replicate n 0)) size
    ∙ build_full sh.shape sh.in_range bs c.args.keys.now c.requires.low
    (rw (full, cleared (goal.at.returns-then-is_err c).After-clear) at c.put_all-put.ensures.room))

pub returns-else-is_err : goal.returns-else-is_err
returns-else-is_err c =
    let sh = c.args.sh in
    let put = all_put _ (sym c.is_err.ensures.value ∙ c.if-is_err.false) in
    rw put
    (build_done sh.shape sh.in_range c.args.table.now c.args.keys.now c.requires.low c.put_all-put.new.table
    (c.put_all-put.auto.table ∙ c.clear.auto.table ∙ c.requires.size)
    (λ i. (c.type_inv.table i).fits)
    (rw (put, cleared (goal.at.returns-else-is_err c).After-clear) at c.put_all-put.ensures.room))
