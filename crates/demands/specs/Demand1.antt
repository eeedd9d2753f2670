-- Demand 1, its last sentence: "A bad call gets its number from document 01 and changes nothing; only a build that
-- finds too many keys leaves an empty table." For each call's definition, whatever it is lent: a number other than 0
-- means that all lent is as it was. (That every call takes arbitrary input, ends and stays inside what it was lent is
-- what each function's own proof says.)
-- Assumes nothing.
use Rattle.std.specs.Prelude.{ℕ, suc, ◌≤◌, Bool, true, false, cond, List, map, length, replicate, set, ltb, leb}
use Rattle.std.proofs.Common.{sym, subst, arith}
use Rattle.std.proofs.lemmas.List.{set-get_or}
use Rattle.rules.specs.declared.Shape.{Shape}
use Rattle.rules.specs.declared.Task.{Task}
use Rattle.rules.specs.Lists.{all, at_front}
use Rattle.rules.specs.Word.{Word}
use Rattle.rules.specs.Bytes.{words_of, bytes_of}
use Rattle.rules.specs.Shape.{in_range, keys, good_table}
use Rattle.rules.specs.Entry.{Entry, split}
use Rattle.rules.specs.Table.{occupied_places, cluster_entries, list, guards_void, sound, locked}
use Rattle.rules.specs.Room.{Room, place, full, room_for}
use Rattle.rules.specs.Lay.{holds}
use Rattle.rules.specs.Answer.{says, refuses, Leaves, leaves}
use Rattle.rules.specs.Find.{sound_around, locked_around}
use Rattle.rules.specs.Put.{add_at, Outcome, keeps, writes, add_to, put_in, bytes_after, put}
use Rattle.rules.specs.Build.{zeros, puts, too_many, build_in, build}
use Rattle.rules.specs.Listing.{list_in, listing}
use Rattle.rules.specs.Record.{busy, at_rest, fits, no_task, task_at, good_task}
use Rattle.rules.specs.Give.{given, give_to, stored_at, give}
use Rattle.rules.specs.Phase.{Step, to, unsound}
use Rattle.rules.specs.Step.{Stepped, steps, refused, of_phase, or_unsound, step_of, lent_after, step}

-- a call's answer with what it leaves: refused with a number, zeros beside it and all that was lent as it was; or
-- accepted
pub data Settled {A : Type 0} (lent : A) : Leaves A → Type 0 where
  refuse : (n : ℕ) → 1 ≤ n → Settled lent (leaves (refuses n) lent)
  accept : (value : ℕ) (after : A) → Settled lent (leaves (says value) after)

either :
    {A : Type 0} {lent : A} {x y : Leaves A} (b : Bool) → Settled lent x → Settled lent y → Settled lent (cond b x y)
either true p q = p
either false p q = q

-- a refusal, by the number after n: never 0
no : {A : Type 0} {lent : A} (n : ℕ) → Settled lent (leaves (refuses (suc n)) lent)
no n = refuse (suc n) (omega arith)

-- ---- put
data Orderly : Outcome → Type 0 where
  refuses_by : (n : ℕ) → 1 ≤ n → Orderly (keeps (refuses n))
  finds : (v : ℕ) → Orderly (keeps (says v))
  adds : (v : ℕ) (ws : List Word) → Orderly (writes (says v) ws)

one_of : {x y : Outcome} (b : Bool) → Orderly x → Orderly y → Orderly (cond b x y)
one_of true p q = p
one_of false p q = q

add_orderly : (ws : List Word) (e : Entry) (room : Room) → Orderly (add_to ws e room)
add_orderly ws e (place p) = adds 2 (add_at ws e p)
add_orderly ws e full = refuses_by 8 (omega arith)

put_orderly : (sh : Shape) (ws : List Word) (e : Entry) → Orderly (put_in sh ws e)
unfolding put_in
put_orderly sh ws e =
    one_of
    (sound_around sh ws e.home_place)
    (one_of
    (locked_around ws e.home_place)
    (refuses_by 7 (omega arith))
    (one_of
    (holds e (cluster_entries ws e.home_place))
    (finds 1)
    (add_orderly ws e (room_for sh (occupied_places ws) e.home_place))))
    (refuses_by 6 (omega arith))

orderly_settled : (bytes : List ℕ) {o : Outcome} → Orderly o → Settled bytes (bytes_after bytes o)
orderly_settled bytes (refuses_by n le) = refuse n le
orderly_settled bytes (finds v) = accept v bytes
orderly_settled bytes (adds v ws) = accept v (bytes_of ws)

pub put_settles : (sh : Shape) (bytes : List ℕ) (key : ℕ) → Settled bytes (put sh bytes key)
unfolding put
put_settles sh bytes key =
    either
    (good_table sh (length bytes))
    (either
    (ltb key (keys sh))
    (orderly_settled bytes (put_orderly sh (words_of bytes) (split sh key)))
    (no 1))
    (no 0)

-- ---- list
list_in_settles : (sh : Shape) (ws : List Word) (slots : List ℕ) → Settled slots (list_in sh ws slots)
unfolding list_in
list_in_settles sh ws slots =
    either
    (sound sh ws)
    (either
    (locked ws)
    (no 6)
    (either
    (leb (length (list sh ws)) (length slots))
    (accept (length (list sh ws)) (at_front (list sh ws) slots))
    (no 8)))
    (no 5)

pub list_settles : (sh : Shape) (bytes slots : List ℕ) → Settled slots (listing sh bytes slots)
unfolding listing
list_settles sh bytes slots =
    either (good_table sh (length bytes)) (list_in_settles sh (words_of bytes) slots) (no 0)

-- ---- give
stored : (ts : List Task) (i : ℕ) {x : Leaves Task} → Settled (task_at ts i) x → Settled ts (stored_at ts i x)
stored ts i (refuse n le) =
    subst (λ (us : List Task). Settled ts (leaves (refuses n) us)) (sym (set-get_or ts i no_task)) (refuse n le)
stored ts i (accept v t) = accept v (set ts i t)

give_to_settles : (t : Task) (key : ℕ) → Settled t (give_to t key)
unfolding give_to
give_to_settles t key = either (busy t) (no 3) (accept 0 (given key))

pub give_settles : (sh : Shape) (key : ℕ) (tasks : List Task) (i : ℕ) → Settled tasks (give sh key tasks i)
unfolding give
give_settles sh key tasks i =
    either
    (in_range sh)
    (either
    (ltb key (keys sh))
    (either (good_task tasks i) (stored tasks i (give_to_settles (task_at tasks i) key)) (no 2))
    (no 1))
    (no 0)

-- ---- step
-- a refused step has a number, never 0
data Numbered : Stepped → Type 0 where
  goes_on : (t : Task) (ws : List Word) → Numbered (steps t ws)
  stopped : (n : ℕ) → 1 ≤ n → Numbered (refused n)

numbered_either : {x y : Stepped} (b : Bool) → Numbered x → Numbered y → Numbered (cond b x y)
numbered_either true p q = p
numbered_either false p q = q

numbered_phase : (s : Step) → Numbered (or_unsound s)
numbered_phase (to t ws) = goes_on t ws
numbered_phase unsound = stopped 6 (omega arith)

numbered_step : (sh : Shape) (ws : List Word) (t : Task) → Numbered (step_of sh ws t)
unfolding step_of
numbered_step sh ws t =
    numbered_either
    (fits sh t)
    (numbered_either
    (at_rest t)
    (stopped 5 (omega arith))
    (numbered_either (guards_void sh ws) (numbered_phase (of_phase sh ws t)) (stopped 6 (omega arith))))
    (stopped 3 (omega arith))

numbered_settled :
    (bytes : List ℕ) (ts : List Task) (i : ℕ) {s : Stepped} →
    Numbered s → Settled (record { table = bytes; tasks = ts }) (lent_after bytes ts i s)
numbered_settled bytes ts i (goes_on t ws) = accept 0 (record { table = bytes_of ws; tasks = set ts i t })
numbered_settled bytes ts i (stopped n le) = refuse n le

pub step_settles :
    (sh : Shape) (bytes : List ℕ) (tasks : List Task) (i : ℕ) →
    Settled (record { table = bytes; tasks = tasks }) (step sh bytes tasks i)
unfolding step
step_settles sh bytes tasks i =
    either
    (good_table sh (length bytes))
    (either
    (good_task tasks i)
    (numbered_settled bytes tasks i (numbered_step sh (words_of bytes) (task_at tasks i)))
    (no 2))
    (no 0)

-- build: as the others, but that too many keys (8) leave all zero
pub data Built (bytes : List ℕ) : Leaves (List ℕ) → Type 0 where
  settled : {x : Leaves (List ℕ)} → Settled bytes x → Built bytes x
  emptied : Built bytes (leaves (refuses 8) (replicate (length bytes) 0))

built_either :
    (bytes : List ℕ) {x y : Leaves (List ℕ)} (b : Bool) → Built bytes x → Built bytes y → Built bytes (cond b x y)
built_either bytes true p q = p
built_either bytes false p q = q

build_in_settles : (sh : Shape) (bytes : List ℕ) (es : List Entry) → Built bytes (build_in sh bytes es)
unfolding build_in
build_in_settles sh bytes es =
    built_either bytes (too_many sh es) emptied (settled (accept 0 (bytes_of (puts sh (zeros sh) es))))

pub build_settles : (sh : Shape) (bytes ks : List ℕ) → Built bytes (build sh bytes ks)
unfolding build
build_settles sh bytes ks =
    built_either
    bytes
    (good_table sh (length bytes))
    (built_either
    bytes
    (all (λ (key : ℕ). ltb key (keys sh)) ks)
    (build_in_settles sh bytes (map (split sh) ks))
    (settled (no 1)))
    (settled (no 0))
