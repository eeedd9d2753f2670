-- `All`: a property of every element of a list.
-- Assumes nothing.
use Rattle.std.specs.Prelude.{List, [], ◌∷◌}

pub data All {A : Type 0} (P : A → Type 0) : List A → Type 0 where
  none : All P []
  both : {x : A} {xs : List A} → P x → All P xs → All P (x ∷ xs)

pub all_map : {A : Type 0} {P Q : A → Type 0} {xs : List A} → ((x : A) → P x → Q x) → All P xs → All Q xs
all_map f none = none
all_map f (both {x = x} p ps) = both (f x p) (all_map f ps)
