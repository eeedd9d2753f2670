-- Find by what is around the home: `found_barred`, `found_refused`, `found_alone`, `found_inside`.
-- Assumes nothing.
use Rattle.std.specs.Prelude.{◌≡◌, false, List, Ok, Err}
use Rattle.std.proofs.Common.{◌∙◌, arith}
use Rattle.rules.specs.declared.Shape.{Shape}
use Rattle.rules.specs.declared.Refusal.{Refusal}
use Rattle.rules.specs.Lists.{bit_of, any}
use Rattle.rules.specs.Word.{Word}
use Rattle.rules.specs.Entry.{Entry}
use Rattle.rules.specs.Table.{at, guards_void, cluster_entries}
use Rattle.rules.specs.Lay.{holds}
use Rattle.rules.specs.Answer.{says, refuses, number_of_refusal}
use Rattle.rules.specs.Find.{find_in}
use Rattle.theory.specs.Places.{gap_entries}
use Rattle.table_cluster.specs.Check.{passed}
use Rattle.table_find.specs.Around.{check_around, around_open, around_barred}

module _ (sh : Shape) (ws : List Word) (e : Entry) where
  pub found_barred : guards_void sh ws ≡ false → find_in sh ws e ≡ refuses 6
  unfolding find_in
  found_barred barred = rw (around_barred sh ws e.home_place barred)

  pub found_refused :
      (n : Refusal) → Err n ≡ passed (check_around sh ws e.home_place) →
      find_in sh ws e ≡ refuses (number_of_refusal n)
  unfolding find_in
  found_refused n p = grind arith

  pub found_inside :
      Ok tt ≡ passed (check_around sh ws e.home_place) →
      find_in sh ws e ≡ says (bit_of (holds e (cluster_entries ws e.home_place)))
  unfolding find_in
  found_inside p = let o = around_open p in rw (o.sound, o.free)

  pub found_alone :
      Ok tt ≡ passed (check_around sh ws e.home_place) → (at ws e.home_place).occupied ≡ false →
      find_in sh ws e ≡ says 0
  unfolding holds any
  found_alone p empty = found_inside p ∙ rw (gap_entries ws e.home_place empty)
