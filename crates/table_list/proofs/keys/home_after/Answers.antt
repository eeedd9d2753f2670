-- `home_after` meets its contract.
-- Assumes nothing.
use Rattle.std.proofs.Common.{sym, ◌∙◌, ◌+◌, rules, of_calls}
use Rattle.theory.specs.Dealt.{is_virgin}
use Rattle.table_list.specs.Scan.{home_is}
use Rattle.table_list.proofs.keys.home_after.Goals as goal

pub next_place-requires-clause-found : goal.next_place-requires-clause-found
next_place-requires-clause-found c =
    let some = rw (sym c.change.ensures ∙ c.if-change.true) at c.requires.homed.ahead in
    record {
      is = is_virgin;
      told = λ w b low p. search (rules, of_calls);
      ahead = rw (home_is c.args.table.now (c.args.h.0 + 1) some) some;
    }

pub returns-then-change : goal.returns-then-change
returns-then-change c =
    let some = rw (sym c.change.ensures ∙ c.if-change.true) at c.requires.homed.ahead in
    rw (sym c.change.ensures ∙ c.if-change.true)
    (c.next_place.ensures is_virgin (λ w b low p. search (rules, of_calls))
    ∙ home_is c.args.table.now (c.args.h.0 + 1) some)
