-- The table that is all zero: it is sound and without locks, and lists nothing (it is the build of nothing).
-- Its used part, of the 32,772 bytes with which a run begins.
-- Assumes nothing.
use Rattle.std.specs.Prelude.{ℕ, ◌*◌, ◌≤◌, ◌≡◌, true, length}
use Rattle.std.proofs.Math.Path.{refl, ap}
use Rattle.std.proofs.Common.{sym, ◌∙◌, subst, pow_mono, eq-eqb}
use mathlib.Core.List.{List, []}
use native.Mathlib.Omega.{arith}
use Rattle.std.proofs.Math.ListN.{replicate}
use Rattle.std.proofs.lemmas.List.{length-replicate}
use Rattle.rules.specs.Lists.{all}
use Rattle.rules.specs.Shape.{homes, places, good_table, fits_length}
use Rattle.rules.specs.Lay.{ascend}
use Rattle.table_words.specs.Range.{InRange, range_in}
use Rattle.table_words.specs.Clear.{take_replicate}
use Rattle.theory.specs.Dealt.{and_both}
use Rattle.demands.specs.Terms.{PlainTable, InKeys, list_of, distinct, left_by, put_all, Builds}
use Rattle.demands.specs.Demand2.{build_lists, build_puts}
use Rattle.rules.specs.declared.Shape.{Shape}
use Rattle.frame_rules.specs.declared.First.{First}
use Rattle.frame_rules.specs.Frame.{used, used_part}
use Rattle.frame_first.specs.Limits.{InLimits}

-- ---- zeros
module _ (sh : Shape) (range : InRange sh) where
  abbrev zeros : List ℕ
  zeros = replicate (2 * places sh) 0

  long : length zeros ≡ 2 * places sh
  long = length-replicate (2 * places sh) 0

  good : good_table sh (length zeros) ≡ true
  unfolding good_table fits_length
  good = and_both _ _ (range_in sh range) (eq-eqb _ _ long)

  few : distinct sh [] ≤ homes sh
  unfolding distinct ascend
  few = omega arith

  in_keys : InKeys sh []
  unfolding all
  in_keys = refl

  nothing : Builds sh zeros []
  nothing = build_lists sh zeros good [] in_keys few

  is_zeros : nothing.after ≡ zeros
  unfolding put_all
  is_zeros =
      ap left_by (sym nothing.answer ∙ build_puts sh zeros good [] in_keys few)
      ∙ ap (λ (n : ℕ). replicate n 0) long

  pub zeros_plain : PlainTable sh (replicate (2 * places sh) 0)
  zeros_plain = subst (PlainTable sh) is_zeros nothing.table

  pub zeros_list : list_of sh (replicate (2 * places sh) 0) ≡ []
  unfolding ascend
  zeros_list = ap (list_of sh) (sym is_zeros) ∙ nothing.list_after

-- ---- the used part of the zeros with which a run begins
pub used_zeros : (f : First) → InLimits f → used_part f (replicate 32772 0) ≡ replicate (used f) 0
unfolding used places homes
used_zeros f l = take_replicate (used f) 32772 0 (omega (arith, pow_mono {i = f.shape.m} {j = 14} l.m_high))
