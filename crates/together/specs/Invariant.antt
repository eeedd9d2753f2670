-- The invariant of demand 3. Beside the table's words stands a plain table, `laid`: the words as they would be with
-- every move finished and every lock cleared. A key is put into `laid` at the moment its task fills a place (phase 1
-- on an empty home, phase 8). `InPhase` says of one task, phase by phase, what it may rely on; `Apart` of two tasks
-- what they do not share; `Inv` joins them.
-- Assumes nothing.
use Rattle.std.specs.Prelude.{ℕ, ◌+◌, ◌≤◌, ◌<◌, ◌≡◌, ◌⊎◌, ◌≢◌, true, false, List, length}
use Rattle.rules.specs.declared.Shape.{Shape}
use Rattle.rules.specs.declared.Task.{Task}
use Rattle.rules.specs.Word.{Word, lock_word}
use Rattle.rules.specs.Shape.{keys, right_guard}
use Rattle.rules.specs.Entry.{Entry, split}
use Rattle.rules.specs.Table.{at, occupied_places, entries_between}
use Rattle.rules.specs.Lay.{holds, smaller, mark_of}
use Rattle.rules.specs.Record.{home_place_of, task_at}
use Rattle.theory.specs.Run.{unlock}
use Rattle.theory.specs.Gaps as gaps
use Rattle.theory.specs.Gaps.{Side, HomePlace, other}
use Rattle.theory.specs.Cut.{end, from, up_to}
use Rattle.theory.specs.Motion.{finish}
use Rattle.theory.specs.Building.{State}
use Rattle.together.specs.Frames.{Within}

abbrev pub Occupied : List Word → ℕ → Type 0
Occupied ws p = (at ws p).occupied ≡ true

-- ---- one task
-- from the home to the left everything up to, not including, left was seen occupied, and stays so: no step empties a
-- place
pub record LookedLeft (sh : Shape) (ws : List Word) (t : Task) : Type 0 where
  pub below : t.left < home_place_of sh t
  pub taken : (q : ℕ) → t.left < q → q ≤ home_place_of sh t → Occupied ws q

-- and so from the home to the right
pub record Looked (sh : Shape) (ws : List Word) (t : Task) : Type 0 where
  pub leftward : LookedLeft sh ws t
  pub above : home_place_of sh t < t.right
  pub inside : t.right ≤ right_guard sh
  pub taken : (q : ℕ) → home_place_of sh t ≤ q → q < t.right → Occupied ws q

-- the end that a task fills: the left one, or the right one where the left is the guard
abbrev pub Fills : Side → Task → Type 0
Fills gaps.left t = t.left ≢ 0
Fills gaps.right t = t.left ≡ 0

-- a filled end is occupied and still locked; nobody else may lock or fill it
pub record FilledEnd (ws : List Word) (p : ℕ) : Type 0 where
  pub taken : (at ws p).occupied ≡ true
  pub kept : (at ws p).lock ≡ true

-- phase 8: what the read step found holds of the table laid, so the fill may go on from it
pub record MayFill (sh : Shape) (laid : List Word) (shown : List Entry) (t : Task) : Type 0 where
  pub side : Side
  pub fills : Fills side t
  pub room : HomePlace sh (end side t.left t.right)
  pub hand : t.hand ≡ end side t.left t.right
  pub goal :
      t.goal
      ≡ from side t.left + smaller (split sh t.key) (entries_between laid t.left t.right)
  pub mark : t.mark ≡ mark_of (split sh t.key) (entries_between laid t.left t.right)
  pub new : holds (split sh t.key) shown ≡ false

-- phases 9 and 10: the fill has happened; the moves that are left and the mark make the table laid of the words
-- between left and right
pub record Moving (sh : Shape) (ws laid : List Word) (shown : List Entry) (t : Task) : Type 0 where
  pub side : Side
  pub fills : Fills side t
  pub room : HomePlace sh (end side t.left t.right)
  pub filled : FilledEnd ws (end side t.left t.right)
  pub waiting : at ws (end (other side) t.left t.right) ≡ lock_word
  pub hand_low : from side t.left ≤ t.hand
  pub hand_high : t.hand < up_to side t.right
  pub goal_low : from side t.left ≤ t.goal
  pub goal_high : t.goal < up_to side t.right
  pub mark : t.mark ≤ 2
  pub closes : t.mark ≡ 1 → from side t.left < t.goal
  pub finished :
      (q : ℕ) →
      Within t.left t.right q →
      unlock (at (finish ws t.hand t.goal t.mark (home_place_of sh t)) q) ≡ at laid q
  pub put : holds (split sh t.key) shown ≡ true

-- phase 11: both ends are still owned; only an inserted key filled one
pub data Ends (sh : Shape) (ws : List Word) (shown : List Entry) (t : Task) : Type 0 where
  ends_found :
      t.answer ≡ 1 →
      holds (split sh t.key) shown ≡ true →
      at ws t.left ≡ lock_word → at ws t.right ≡ lock_word → Ends sh ws shown t
  ends_full : t.answer ≡ 3 → at ws t.left ≡ lock_word → at ws t.right ≡ lock_word → Ends sh ws shown t
  ends_inserted :
      t.answer ≡ 2 →
      holds (split sh t.key) shown ≡ true →
      (side : Side) →
      Fills side t →
      FilledEnd ws (end side t.left t.right) →
      at ws (end (other side) t.left t.right) ≡ lock_word → Ends sh ws shown t

-- phase 12: only the right end is owned; of the left nothing is said, since another task may hold or have filled it
pub data RightEnd (sh : Shape) (ws : List Word) (shown : List Entry) (t : Task) : Type 0 where
  right_found :
      t.answer ≡ 1 → holds (split sh t.key) shown ≡ true → at ws t.right ≡ lock_word → RightEnd sh ws shown t
  right_full : t.answer ≡ 3 → at ws t.right ≡ lock_word → RightEnd sh ws shown t
  right_waiting :
      t.answer ≡ 2 → holds (split sh t.key) shown ≡ true → at ws t.right ≡ lock_word → RightEnd sh ws shown t
  right_filled :
      t.answer ≡ 2 → holds (split sh t.key) shown ≡ true → FilledEnd ws t.right → RightEnd sh ws shown t

-- what a task relies on in each phase; its key is in range in all phases but at rest
pub data InPhase (sh : Shape) (ws laid : List Word) (shown : List Entry) (t : Task) : Type 0 where
  rests : (t.phase ≡ 0) ⊎ (t.phase ≡ 13) → InPhase sh ws laid shown t
  at_home : t.phase ≡ 1 → t.key < keys sh → InPhase sh ws laid shown t
  looks_left : t.phase ≡ 2 → t.key < keys sh → LookedLeft sh ws t → InPhase sh ws laid shown t
  -- phases 3 and 4 own nothing yet
  looks_right : 3 ≤ t.phase → t.phase ≤ 4 → t.key < keys sh → Looked sh ws t → InPhase sh ws laid shown t
  -- phases 5 and 6 own the left end, exactly the lock bit
  owns_left :
      5 ≤ t.phase →
      t.phase ≤ 6 → t.key < keys sh → Looked sh ws t → at ws t.left ≡ lock_word → InPhase sh ws laid shown t
  -- phase 7 owns both ends, exactly the lock bit, so what lies between is one cluster that nobody else may enlarge
  owns_both :
      t.phase ≡ 7 →
      t.key < keys sh →
      Looked sh ws t → at ws t.left ≡ lock_word → at ws t.right ≡ lock_word → InPhase sh ws laid shown t
  has_read :
      t.phase ≡ 8 →
      t.key < keys sh →
      Looked sh ws t →
      at ws t.left ≡ lock_word → at ws t.right ≡ lock_word → MayFill sh laid shown t → InPhase sh ws laid shown t
  moving :
      t.phase ≡ 9 → t.key < keys sh → Looked sh ws t → t.hand ≢ t.goal → Moving sh ws laid shown t →
      InPhase sh ws laid shown t
  marking :
      t.phase ≡ 10 → t.key < keys sh → Looked sh ws t → t.hand ≡ t.goal → Moving sh ws laid shown t →
      InPhase sh ws laid shown t
  frees_left : t.phase ≡ 11 → t.key < keys sh → Looked sh ws t → Ends sh ws shown t → InPhase sh ws laid shown t
  frees_right : t.phase ≡ 12 → t.key < keys sh → Looked sh ws t → RightEnd sh ws shown t → InPhase sh ws laid shown t

-- ---- two tasks
-- phases 5 and 6 own left; 7 to 11 left and right; 12 right
pub data Owns (t : Task) (p : ℕ) : Type 0 where
  by_left : 5 ≤ t.phase → t.phase ≤ 11 → p ≡ t.left → Owns t p
  by_right : 7 ≤ t.phase → t.phase ≤ 12 → p ≡ t.right → Owns t p

-- phases 7 to 10 have the words between their ends to themselves, locks aside
pub record Reserves (t : Task) : Type 0 where
  pub from_7 : 7 ≤ t.phase
  pub to_10 : t.phase ≤ 10

-- no place has two owners, and no two tasks reserve the same words. The second does not follow from the first: it is
-- what the test of both ends at the step from phase 5 to 7 gives
pub record Apart (t u : Task) : Type 0 where
  pub owners : (p : ℕ) → Owns t p → Owns u p → ⊥
  pub stretches : Reserves t → Reserves u → (p : ℕ) → Within t.left t.right p → Within u.left u.right p → ⊥

-- ---- all tasks
-- a task whose moves are not finished, at a place of its stretch
pub record Unfinished (t : Task) (p : ℕ) : Type 0 where
  pub from_9 : 9 ≤ t.phase
  pub to_10 : t.phase ≤ 10
  pub inside : Within t.left t.right p

pub record Inv (sh : Shape) (ws : List Word) (ts : List Task) (laid : List Word) (shown : List Entry) : Type 0 where
  -- the table laid is plain, and shows the entries put so far
  pub plain : State sh laid shown
  -- it has the same places occupied
  pub places : occupied_places ws ≡ occupied_places laid
  -- remainders fit their field, so that words and bytes stand for each other
  pub small : (p : ℕ) → (at ws p).remainder < 4096
  pub stage : (i : ℕ) → i < length ts → InPhase sh ws laid shown (task_at ts i)
  pub apart : (i j : ℕ) → i < length ts → j < length ts → i ≢ j → Apart (task_at ts i) (task_at ts j)
  -- each lock bit has an owner
  pub owner : (p : ℕ) → (at ws p).lock ≡ true → (i : ℕ) × (i < length ts) × Owns (task_at ts i) p
  -- where nobody is moving, the words are those laid
  pub settled :
      (p : ℕ) →
      ((i : ℕ) → i < length ts → Unfinished (task_at ts i) p → ⊥) → unlock (at ws p) ≡ at laid p
