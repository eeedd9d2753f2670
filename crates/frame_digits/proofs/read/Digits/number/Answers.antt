-- `Digits::number` meets its contract. The invariant is `Reading`, over the digits from the place on.
-- Assumes nothing.
use Rattle.std.proofs.Common.{ℕ, ◌≡◌, ◌+◌, ◌-◌, arith, length-take}
use Rattle.frame_digits.specs.Read.{reading_begins, reading_on, reading_ends, number_fits, digit_is_some, digit_low, part_good}
use Rattle.frame_digits.proofs.read.Digits.number.Goals as goal

pub loop-c-init : goal.loop-c-init
loop-c-init c = reading_begins _

pub overflow_mul-k : goal.overflow_mul-k
overflow_mul-k c = omega (arith, number_fits _ c.loop-c.invariant (omega (arith, length-take {A = ℕ})))

pub unwrap-requires : goal.unwrap-requires
unwrap-requires c =
    rw c.digit.ensures (digit_is_some _ (part_good _ _ _ (omega arith) c.args.self.good) _ c.loop-c-test.true)

pub overflow_add-k : goal.overflow_add-k
overflow_add-k c =
    omega (
      arith,
      number_fits _ c.loop-c.invariant (omega (arith, length-take {A = ℕ})),
      digit_low _ (part_good _ _ _ (omega arith) c.args.self.good) _ c.loop-c-test.true c.unwrap.result (cc),
    )

pub loop-c-preserved : goal.loop-c-preserved
loop-c-preserved c =
    reading_on _ (part_good _ _ _ (omega arith) c.args.self.good) _ c.loop-c-test.true c.loop-c.invariant _ (cc)

pub returns-clause-value : goal.returns-clause-value
returns-clause-value c =
    let whole : c.args.at + c.args.n - c.args.at ≡ c.args.n = omega arith in
    rw (← whole) (reading_ends _ c.loop-c.invariant c.loop-c-test.false)
