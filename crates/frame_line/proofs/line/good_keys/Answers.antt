-- `good_keys` meets its contract. The invariant: the keys from i on are all in range exactly when all are.
-- Assumes nothing.
use Rattle.std.proofs.Common.{ℕ, Bool, ltb, sym, ◌∙◌, arith}
use Rattle.rules.specs.declared.Shape.{Shape}
use Rattle.rules.specs.Shape.{keys}
use Rattle.frame_rules.specs.Lines.{keys_of}
use Rattle.table_words.specs.All.{all_on, all_stops, all_ends}
use Rattle.frame_pieces.specs.Limits.{keys_count}
use Rattle.frame_line.proofs.line.good_keys.Goals as goal

abbrev in_range : Shape → ℕ → Bool
in_range sh key = ltb key (keys sh)

pub key_at-requires : goal.key_at-requires
key_at-requires c = omega (arith, keys_count c.args.line.text.now)

pub loop-i-preserved : goal.loop-i-preserved
loop-i-preserved c =
    let text = c.args.line.text.now in
    all_on (in_range c.args.sh.shape) (keys_of text) c.loop-i.i 0 (omega (arith, keys_count text)) (cc)
    ∙ c.loop-i.invariant

pub returns-then-not-has_key : goal.returns-then-not-has_key
returns-then-not-has_key c =
    let text = c.args.line.text.now in
    sym (all_stops (in_range c.args.sh.shape) (keys_of text) c.loop-i.i 0 (omega (arith, keys_count text)) (cc))
    ∙ c.loop-i.invariant

pub returns : goal.returns
returns c =
    let text = c.args.line.text.now in
    sym (all_ends (in_range c.args.sh.shape) (keys_of text) c.loop-i.i 0 (omega (arith, keys_count text)))
    ∙ c.loop-i.invariant
