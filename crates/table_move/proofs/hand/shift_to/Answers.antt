-- `shift_to` meets its contract: each turn is a step of `shift_on`, to the side where the goal lies.
-- Assumes nothing.
use Rattle.std.proofs.Common.{ℕ, ◌≡◌, true, refl, sym, ◌∙◌, arith, rules}
use Rattle.theory.specs.Motion.{Heads}
use Rattle.table_words.specs.Sides.{Side, is_ahead, beside, goes_on, room_beside, still_toward, arrived}
use Rattle.table_move.specs.Carry.{heads_to, heads_near, nearer, shift_on, shift_ends}
use Rattle.table_move.proofs.hand.shift_to.Goals as goal

-- on the way to the goal the neighbour is the one towards it
heads : (s : Side) {hand goal next : ℕ} → next ≡ beside s hand → is_ahead s hand goal ≡ true → Heads hand goal next
heads s {hand} {goal} next test = rw next (heads_to s hand goal (goes_on s hand goal test))

pub loop-goal-init : goal.loop-goal-init
loop-goal-init g c = (
  record { size = refl; here = c.requires.hand_in_table; there = c.requires.goal_in_table; rest = refl },
  c.requires.toward,
)

pub beside-next-requires : goal.beside-next-requires
beside-next-requires g c =
    let s = g.S.Side.side in
    room_beside s _ _ (goes_on s _ _ (sym c.is_ahead.ensures ∙ c.loop-goal-test.true)) (omega arith)

pub word_at-ahead-requires : goal.word_at-ahead-requires
word_at-ahead-requires g c =
    let here = c.loop-goal.invariant.0 in
    let side = heads g.S.Side.side c.beside-next.ensures (sym c.is_ahead.ensures ∙ c.loop-goal-test.true) in
    rw c.loop-goal.auto.table (heads_near side here.here here.there)

pub loop-goal-smaller : goal.loop-goal-smaller
loop-goal-smaller g c =
    nearer (heads g.S.Side.side c.beside-next.ensures (sym c.is_ahead.ensures ∙ c.loop-goal-test.true))

pub loop-goal-preserved : goal.loop-goal-preserved
loop-goal-preserved g c =
    let s = g.S.Side.side in
    let test = sym c.is_ahead.ensures ∙ c.loop-goal-test.true in (
      shift_on c.loop-goal.invariant.0 _ _ _ _ _ (heads s c.beside-next.ensures test)
          c.word_at-ahead.ensures
          c.word_at-own.ensures
          c.with_payload.ensures
          (search rules)
          c.set_word.ensures,
      rw c.beside-next.ensures (still_toward s _ _ (goes_on s _ _ test)),
    )

pub returns : goal.returns
returns g c =
    shift_ends
    c.loop-goal.invariant.0
    (arrived g.S.Side.side _ _ c.loop-goal.invariant.1 (sym c.is_ahead.ensures ∙ c.loop-goal-test.false))
