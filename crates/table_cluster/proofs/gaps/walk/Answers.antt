-- `walk` meets its contract: each turn is a step of `walk_on`, to the side where it goes.
-- Assumes nothing.
use Rattle.std.proofs.Common.{◌<◌, ◌≡◌, sym, ◌∙◌, arith, rules}
use Rattle.rules.specs.Lists.{bit_of}
use Rattle.rules.specs.Word.{word_of}
use Rattle.table_cluster.specs.Ends.{closed_inside, walk_begins, virgins_fit, changes_fit, has_beside, less_left, walk_on, walk_ends}
use Rattle.table_cluster.proofs.gaps.walk.Goals as goal

pub word_at-w-requires : goal.word_at-w-requires
word_at-w-requires g c = closed_inside g.S.Side.side _ _ c.requires.closed

pub loop-end-init : goal.loop-end-init
loop-end-init g c = record {
  word = c.word_at-w.ensures;
  here = walk_begins g.S.Side.side _ _ _ _ c.requires.closed;
}

pub overflow_add-end : goal.overflow_add-end
overflow_add-end g c =
    let small : c.from.result < 2 = search rules in
    omega (arith, virgins_fit c.loop-end.invariant.here c.requires.virgins_room)

pub overflow_add-end-in-loop-end : goal.overflow_add-end-in-loop-end
overflow_add-end-in-loop-end g c =
    let small : c.from-in-loop-end.result < 2 = search rules in
    omega (arith, changes_fit c.loop-end.invariant.here c.requires.changes_room)

pub beside-end-requires : goal.beside-end-requires
beside-end-requires g c =
    has_beside c.loop-end.invariant.here _ c.loop-end.invariant.word c.requires.closed
    (sym c.occupied.ensures ∙ c.loop-end-test.true)
    c.requires.virgins_room

pub word_at-w-requires-in-loop-end : goal.word_at-w-requires-in-loop-end
word_at-w-requires-in-loop-end g c =
    let virgin : c.from.result ≡ bit_of (word_of c.loop-end.w).virgin = search rules in
    let change : c.from-in-loop-end.result ≡ bit_of (word_of c.loop-end.w).change = search rules in
    let next =
    walk_on c.loop-end.invariant.here _ c.loop-end.invariant.word c.requires.closed
    (sym c.occupied.ensures ∙ c.loop-end-test.true)
    _ _
    virgin
    change in
    rw c.beside-end.ensures next.inside

pub loop-end-smaller : goal.loop-end-smaller
loop-end-smaller g c =
    rw c.beside-end.ensures
    (less_left c.loop-end.invariant.here _ c.loop-end.invariant.word c.requires.closed
    (sym c.occupied.ensures ∙ c.loop-end-test.true)
    c.requires.virgins_room)

pub loop-end-preserved : goal.loop-end-preserved
loop-end-preserved g c =
    let virgin : c.from.result ≡ bit_of (word_of c.loop-end.w).virgin = search rules in
    let change : c.from-in-loop-end.result ≡ bit_of (word_of c.loop-end.w).change = search rules in
    record {
      word = c.word_at-w-in-loop-end.ensures;
      here =
          rw c.beside-end.ensures
          (walk_on c.loop-end.invariant.here _ c.loop-end.invariant.word c.requires.closed
          (sym c.occupied.ensures ∙ c.loop-end-test.true)
          _ _
          virgin
          change);
    }

pub returns : goal.returns
returns g c =
    walk_ends c.loop-end.invariant.here _ c.loop-end.invariant.word (sym c.occupied.ensures ∙ c.loop-end-test.false)
