-- `read_group` meets its contract. The invariant: what was seen and the rest of the group make the whole, and the
-- group's end is to come.
-- Assumes nothing.
use Rattle.std.proofs.Common.{ℕ, ◌<◌, sym, ◌∙◌, ap, zero-add, arith, true, false}
use Rattle.table_read.specs.Read.{entry, look_counts}
use Rattle.table_read.specs.Group.{places_of, words_from, group_read, ends_there, ends_later, group_goes, group_ends}
use Rattle.table_read.specs.declared.read.Seen.{Seen}
use Rattle.table_read.proofs.read.read_group.Goals as goal
use Rattle.table_read.proofs.read.read_group.Goals.{At-loop-seen}

-- at each turn there is a word
there : (turn : At-loop-seen) → turn.loop-seen.i < places_of turn.args.table.now
there turn = ends_there turn.args.table.now turn.loop-seen.i turn.loop-seen.invariant.1

pub word_at-w-requires : goal.word_at-w-requires
word_at-w-requires c = omega (arith, there c)

pub look-requires : goal.look-requires
look-requires c = omega (arith, there (goal.at.look-requires c).At-loop-seen)

pub look-seen-requires : goal.look-seen-requires
look-seen-requires c = omega (arith, there (goal.at.look-seen-requires c).At-loop-seen)

pub overflow_add-i : goal.overflow_add-i
overflow_add-i c = omega (arith, there (goal.at.overflow_add-i c).At-loop-seen)

pub loop-seen-smaller : goal.loop-seen-smaller
loop-seen-smaller c = omega (arith, there (goal.at.loop-seen-smaller c).At-loop-seen)

pub loop-seen-preserved : goal.loop-seen-preserved
loop-seen-preserved c =
    let bs = c.args.table.now in
    let goes = sym c.change.ensures ∙ c.if-change.false in (
      omega (
        arith,
        look_counts (entry 0 c.args.x) (entry 0 c.remainder-in-loop-seen.result) c.loop-seen.seen,
        ap (λ (s : Seen). s.smaller) (c.look-seen.ensures 0),
      ),
      ends_later bs c.loop-seen.i c.loop-seen.invariant.1 c.word_at-w.result c.word_at-w.ensures goes,
      λ (home_at : ℕ).
          rw (c.look-seen.ensures home_at)
          (group_goes bs c.loop-seen.i (places_of bs)
          (there (goal.at.loop-seen-preserved c).At-loop-seen)
          (omega arith)
          c.word_at-w.result
          c.word_at-w.ensures
          (entry home_at c.args.x)
          c.loop-seen.seen
          c.remainder-in-loop-seen.result
          c.remainder-in-loop-seen.ensures
          goes)
          ∙ c.loop-seen.invariant.2 home_at,
    )

pub returns-then-change : goal.returns-then-change
returns-then-change c =
    let bs = c.args.table.now in
    λ (home_at : ℕ).
    c.read_of.ensures
    ∙ rw (c.look.ensures home_at)
    (group_ends bs c.loop-seen.i (places_of bs)
    (there (goal.at.returns-then-change c).At-loop-seen)
    (omega arith)
    c.word_at-w.result
    c.word_at-w.ensures
    (entry home_at c.args.x)
    c.loop-seen.seen
    c.remainder.result
    c.remainder.ensures
    (sym c.change.ensures ∙ c.if-change.true))
    ∙ c.loop-seen.invariant.2 home_at
    ∙ ap
    (λ (k : ℕ).
    group_read
    (entry home_at c.args.x)
    (record { held = false; smaller = k; grouped = false; largest = true })
    (words_from bs c.args.p.0))
    (sym (zero-add c.args.before))
