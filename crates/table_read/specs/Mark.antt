-- A mark by what its group tells, `kind`, and its number, which is the rules' (`mark_number`).
-- Assumes nothing.
use Rattle.std.specs.Prelude.{ℕ, ◌≡◌, refl, Bool, true, false, not, cond, ◌||◌, List}
use Rattle.rules.specs.Lists.{all, any}
use Rattle.rules.specs.Entry.{Entry, same_home, precedes}
use Rattle.rules.specs.Lay.{mark_of}
use Rattle.table_read.specs.declared.mark.Mark.{Mark}
use Rattle.table_read.specs.declared.mark.Mark.TheVariants.{Within, Last, NewGroup}

abbrev pub number : Mark → ℕ
number Within = 0
number Last = 1
number NewGroup = 2

-- by whether there are keys of the group, and whether each of them is smaller
abbrev pub kind : Bool → Bool → Mark
kind grouped largest = cond grouped (cond largest Last Within) NewGroup

-- the mark of a key among the entries es
unfoldable pub mark_kind : Entry → List Entry → Mark
mark_kind e es = kind (any (same_home e) es) (all (λ (f : Entry). not (same_home e f) || precedes f e) es)

pub mark_number : (e : Entry) (es : List Entry) → number (mark_kind e es) ≡ mark_of e es
unfolding mark_kind mark_of
mark_number e es = go (any (same_home e) es) (all (λ (f : Entry). not (same_home e f) || precedes f e) es)
  where
    go : (grouped largest : Bool) → number (kind grouped largest) ≡ cond grouped (cond largest 1 0) 2
    go true true = refl
    go true false = refl
    go false largest = refl
