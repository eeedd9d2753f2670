-- Answers and their numbers (01): 0 with the call's values where it is accepted, else the refusal's number with zeros
-- beside it. The calls answer a Result, which has the paper's number and values here; promises are stated through
-- these definitions.
-- Assumes nothing.
use Rattle.std.specs.Prelude.{ℕ, Bool, Result, Ok, Err}
use Rattle.rules.specs.declared.Refusal.{Refusal}
use Rattle.rules.specs.declared.Refusal.TheVariants.{BadShape, BadKey, BadTask, Busy, AtRest, Unsound, Locked}
use Rattle.rules.specs.declared.Refusal.TheVariants.{Full, TooFewSlots}
use Rattle.rules.specs.declared.PutAnswer.{PutAnswer}
use Rattle.rules.specs.declared.PutAnswer.TheVariants.{Found, Inserted}
use Rattle.rules.specs.Lists.{bit_of}
use Rattle.rules.specs.declared.Task.{Task}

pub record Answer : Type 0 where
  pub number : ℕ
  pub value : ℕ

-- an accepted call's answer, and a refused one's
abbrev pub says : ℕ → Answer
says v = record { number = 0; value = v }

abbrev pub refuses : ℕ → Answer
refuses n = record { number = n; value = 0 }

-- the answer of a call with what it leaves of what it was lent
pub data Leaves (A : Type 0) : Type 0 where
  leaves : Answer → A → Leaves A

abbrev pub number_of_refusal : Refusal → ℕ
number_of_refusal BadShape = 1
number_of_refusal BadKey = 2
number_of_refusal BadTask = 3
number_of_refusal Busy = 4
number_of_refusal AtRest = 5
number_of_refusal Unsound = 6
number_of_refusal Locked = 7
number_of_refusal Full = 8
number_of_refusal TooFewSlots = 9

-- a call's answer by what it gives where it is accepted, and the number that stands for it
abbrev pub answer_by : {A : Type 0} → (A → ℕ) → Result A Refusal → Answer
answer_by value (Ok a) = says (value a)
answer_by value (Err n) = refuses (number_of_refusal n)

-- find: absent 0, present 1
abbrev pub find_says : Result Bool Refusal → Answer
find_says = answer_by bit_of

-- put: found 1, inserted 2
abbrev pub put_number : PutAnswer → ℕ
put_number Found = 1
put_number Inserted = 2

abbrev pub put_says : Result PutAnswer Refusal → Answer
put_says = answer_by put_number

-- list: the count; fill: the figure
abbrev pub number_says : Result ℕ Refusal → Answer
number_says = answer_by (λ n. n)

-- build, give and step: no value
abbrev pub done_says : Result Unit Refusal → Answer
done_says = answer_by (λ _. 0)

-- give and step on a record by value: 0 and the record that follows, or a refusal's number and the record as it was
abbrev pub turn_says : Task → Result Task Refusal → Leaves Task
turn_says t (Ok u) = leaves (says 0) u
turn_says t (Err n) = leaves (refuses (number_of_refusal n)) t
