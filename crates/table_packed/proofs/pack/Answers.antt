-- `pack` meets its contract: an accepted call packs to its value's number, a refused one to its refusal's number alone.
-- Assumes nothing.
use Rattle.table_packed.specs.Packed.{says_packed, refuses_packed}
use Rattle.table_packed.proofs.pack.Goals as goal

pub returns-in-Ok : goal.returns-in-Ok
returns-in-Ok g c = rw (c.in-Ok.is, c.number.ensures) (says_packed _)

pub returns-in-Err : goal.returns-in-Err
returns-in-Err g c = rw (c.in-Err.is, c.from-in-Err.ensures, c.from.ensures) (refuses_packed _)
