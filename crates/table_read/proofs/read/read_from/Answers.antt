-- `read_from` meets its contract: the key's own group is read, or is new.
-- Assumes nothing.
use Rattle.std.proofs.Common.{sym, ◌∙◌, ap}
use Rattle.rules.specs.Word.{Word}
use Rattle.table_read.specs.Read.{entry}
use Rattle.table_read.specs.FromLeft.{read_own, read_new}
use Rattle.table_read.proofs.read.read_from.Goals as goal

pub returns-then-virgin : goal.returns-then-virgin
returns-then-virgin c =
    c.read_group.ensures c.args.h.0
    ∙ read_own
    (entry c.args.h.0 c.args.x)
    c.requires
    _
    c.places_between-before.ensures
    (sym (c.virgin.ensures ∙ ap (λ (w : Word). w.virgin) c.word_at.ensures) ∙ c.if-virgin.true)

pub returns-else-virgin : goal.returns-else-virgin
returns-else-virgin c =
    read_new
    (entry c.args.h.0 c.args.x)
    c.requires
    _
    c.places_between-before.ensures
    (sym (c.virgin.ensures ∙ ap (λ (w : Word). w.virgin) c.word_at.ensures) ∙ c.if-virgin.false)
