-- `check_gaps` meets its contract. The invariant: what is counted behind and the words to come make the whole pass.
-- Assumes nothing.
use Rattle.std.proofs.Common.{sym, ◌∙◌, ap, arith}
use Rattle.rules.specs.Lists.{bit_of}
use Rattle.rules.specs.Bytes.{words_of}
use Rattle.rules.specs.Shape.{places}
use Rattle.table_list.specs.Scan.{whole_table}
use Rattle.table_list.specs.Check.{gapped, gaps_begin, gaps_on, gaps_end}
use Rattle.table_list.proofs.check.check_gaps.Goals as goal

pub loop-i-preserved : goal.loop-i-preserved
loop-i-preserved c = (
  omega (arith, c.loop-i.invariant.0, c.bit_of-virgins.ensures),
  omega (arith, c.loop-i.invariant.1, c.bit_of-changes.ensures),
  omega (arith, c.loop-i.invariant.2, c.bit_of-keys.ensures),
  gaps_on
      c.args.t.bytes.now
      c.loop-i.i
      c.places-i-end.result
      c.loop-i.even
      c.loop-i.virgins
      c.loop-i.changes
      c.loop-i.keys
      c.word-w.result
      c.occupied-in-loop-i.result
      c.bit_of-virgins.result
      c.bit_of-changes.result
      c.bit_of-keys.result
      c.loop-i-test.true
      (omega (arith, c.places-i-end.ensures, c.args.t.size))
      c.word-w.ensures
      (c.bit_of-virgins.ensures.0 ∙ ap bit_of c.virgin.ensures)
      (c.bit_of-changes.ensures.0 ∙ ap bit_of c.change.ensures)
      (c.bit_of-keys.ensures.0 ∙ ap bit_of c.occupied.ensures)
      c.occupied-in-loop-i.ensures
      ∙ c.loop-i.invariant.3,
)

pub returns : goal.returns
returns c =
    let bs = c.args.t.bytes.now in
    let end = c.places-i-end.result in
    sym
    (gaps_end bs c.loop-i.i end c.loop-i.even c.loop-i.virgins c.loop-i.changes c.loop-i.keys
    c.loop-i-test.false)
    ∙ c.loop-i.invariant.3
    ∙ ap
    (gapped _ 0 0 0)
    (whole_table bs end (places c.args.t.sh.shape) c.args.t.size c.places-i-end.ensures)
    ∙ gaps_begin (words_of bs)
