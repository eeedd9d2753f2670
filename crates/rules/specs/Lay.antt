-- Keys in ascending order over given places, with virgin at each home that has a key and change at each group's end
-- (01, Where a new key goes). `smaller`, `mark_of`: where a new key comes to stand among them, and its mark.
-- Assumes nothing.
use Rattle.std.specs.Prelude.{ℕ, suc, Bool, true, false, not, cond, ◌||◌, List, [], ◌∷◌, eqb}
use Rattle.rules.specs.Lists.{count, all, any}
use Rattle.rules.specs.Word.{Word, zero_word}
use Rattle.rules.specs.Entry.{Entry, same_home, same_entry, precedes}

-- whether an entry is among some
unfoldable pub holds : Entry → List Entry → Bool
holds e es = any (same_entry e) es

-- an entry put in its place in an ascending list, once
unfoldable pub insert : Entry → List Entry → List Entry
insert e [] = e ∷ []
insert e (f ∷ es) = cond (precedes e f) (e ∷ f ∷ es) (cond (same_entry e f) (f ∷ es) (f ∷ insert e es))

-- the distinct entries of a list, ascending
unfoldable pub ascend : List Entry → List Entry
ascend [] = []
ascend (e ∷ es) = insert e (ascend es)

-- whether a place is the home of one of some entries
unfoldable pub has_home : List Entry → ℕ → Bool
has_home es p = any (λ (e : Entry). eqb e.home_place p) es

-- an entry ends its group if none follows, or if the next has another home
unfoldable pub ends_group : Entry → List Entry → Bool
ends_group e [] = true
ends_group e (f ∷ es) = not (same_home e f)

-- entries `es` laid in order into the occupied ones of some places from place p on; `whole` are all that the table or
-- run has
unfoldable pub lay : List Entry → ℕ → List Bool → List Entry → List Word
lay whole p [] es = []
lay whole p (false ∷ os) es = zero_word ∷ lay whole (suc p) os es
lay whole p (true ∷ os) [] = zero_word ∷ lay whole (suc p) os []
lay whole p (true ∷ os) (e ∷ es) =
    record {
      remainder = e.remainder;
      occupied = true;
      virgin = has_home whole p;
      change = ends_group e es;
      lock = false;
    }
    ∷ lay whole (suc p) os es

-- the number of smaller keys
unfoldable pub smaller : Entry → List Entry → ℕ
smaller e es = count (λ (f : Entry). precedes f e) es

-- 2 if the key's group is new, 1 if the key is larger than all of its group, else 0
unfoldable pub mark_of : Entry → List Entry → ℕ
mark_of e es =
    cond (any (same_home e) es) (cond (all (λ (f : Entry). not (same_home e f) || precedes f e) es) 1 0) 2
