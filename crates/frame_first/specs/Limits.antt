-- What the tests of a first line's limits tell (01, The frame program). `shape_limits`, `tasks_limits`: of each;
-- `in_limits_lem`: of both. `used_fits`: the part of the table that the shape uses lies in the table.
-- Assumes nothing.
use Rattle.std.specs.Prelude.{ℕ, ◌^◌, ◌≤◌, ◌≡◌, true}
use Rattle.std.proofs.Math.Bool.{and-eq-true_iff}
use Rattle.std.proofs.Common.{arith, pow_mono}
use Rattle.rules.specs.declared.Shape.{Shape}
use Rattle.rules.specs.Shape.{homes, places}
use Rattle.rules.specs.Record.{within}
use Rattle.table_words.specs.Range.{InRange}
use Rattle.table_words.specs.Tests.{between}
use Rattle.frame_rules.specs.declared.First.{First}
use Rattle.frame_rules.specs.Lines.{shape_in_limits, tasks_in_limits, in_limits}
use Rattle.frame_rules.specs.Frame.{used}

-- m 1 to 14, r 1 to 12
pub record ShapeLimits (sh : Shape) : Type 0 where
  pub range : InRange sh
  pub m_high : sh.m ≤ 14

pub shape_limits : (sh : Shape) → shape_in_limits sh ≡ true → ShapeLimits sh
unfolding shape_in_limits
shape_limits sh e =
    let (first, second) = (and-eq-true_iff (within 1 14 sh.m) (within 1 12 sh.r)).0 e in
    let m = between 1 14 sh.m first in
    let r = between 1 12 sh.r second in
    record {
      range = record { m_low = m.least; m_high = omega arith; r_low = r.least; r_high = r.most };
      m_high = m.most;
    }

pub tasks_limits : (n : ℕ) → tasks_in_limits n ≡ true → n ≤ 16
unfolding tasks_in_limits
tasks_limits n e = (between 1 16 n e).most

pub record InLimits (f : First) : Type 0 where
  pub range : InRange f.shape
  pub m_high : f.shape.m ≤ 14
  pub tasks_high : f.tasks ≤ 16

pub in_limits_lem : (f : First) → in_limits f ≡ true → InLimits f
unfolding in_limits
in_limits_lem f e =
    let (shape, tasks) = (and-eq-true_iff (shape_in_limits f.shape) (tasks_in_limits f.tasks)).0 e in
    let s = shape_limits f.shape shape in
    record { range = s.range; m_high = s.m_high; tasks_high = tasks_limits f.tasks tasks }

pub used_fits : (f : First) → in_limits f ≡ true → used f ≤ 32772
unfolding used places homes
used_fits f e =
    let high : 2 ^ f.shape.m ≤ 2 ^ 14 = pow_mono {i = f.shape.m} {j = 14} (in_limits_lem f e).m_high in
    omega arith
