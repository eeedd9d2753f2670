-- `fmt` of `Shown` meets its contract: the forty digits are text, so they are written as they stand.
-- Assumes nothing.
use Rattle.std.proofs.Common.{◌≡◌, ap, sym, ◌∙◌, subst, rules}
use Rattle.std.proofs.Output.{has_written_of_eq}
use Rattle.std.proofs.lemmas.Str.{IsUtf8-from_ascii}
use Rattle.std.specs.Prelude.{replicate, IsUtf8}
use Rattle.rules.specs.Lists.{at_front}
use Rattle.frame_rules.specs.Digits.{digits_of}
use Rattle.test_schedule.specs.Shown.{AllBytes, shown, shown_bytes, all_bytes, digits_ascii}
use Rattle.test_schedule.proofs.record.ShownDisplay.fmt.Given.{Over}
use Rattle.test_schedule.proofs.record.ShownDisplay.fmt.Goals as goal
use Rattle.test_schedule.proofs.record.ShownDisplay.fmt.Goals.{After-bytes}

bytes : (g : Over) (c : After-bytes g) → AllBytes (shown_bytes c.args.self.now)
bytes g c = all_bytes c.args.self.now (search rules) (search rules) (search rules)

module _ (g : Over) (c : goal.After-write_str g) where
  -- the digits have all the room
  printed : c.put_bytes.new.out ≡ shown c.args.self.now
  unfolding at_front digits_of
  printed = c.put_bytes.ensures ∙ ap (λ bs. at_front (digits_of bs) (replicate 40 0)) c.bytes.ensures

  utf8 : IsUtf8 c.put_bytes.new.out
  utf8 =
      let low = bytes g (goal.at.returns-clause-writes g c).After-bytes in
      subst (λ t. IsUtf8 t) (sym printed)
      (IsUtf8-from_ascii (shown c.args.self.now) (digits_ascii (shown_bytes c.args.self.now) low))

  text : c.unwrap_or_default.result.now ≡ shown c.args.self.now
  text = read ∙ printed
    where
      read : c.unwrap_or_default.result.now ≡ c.put_bytes.new.out
      read = search (rules, utf8)

pub returns-clause-writes : goal.returns-clause-writes
returns-clause-writes g c = λ plain ok.
    has_written_of_eq _ _ _ _ _ (text g c) (c.write_str.ensures.writes plain ok)
