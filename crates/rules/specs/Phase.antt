-- The step list (01, Tasks and their steps): one definition for each phase 1 to 12, in the paper's order.
-- Each gives the record that follows and the words, or says that the words are unsound (refusal 6). H is the home
-- place.
-- Assumes nothing.
use Rattle.std.specs.Prelude.{ℕ, ◌+◌, ◌-◌, Bool, true, false, cond, ◌&&◌, List, set, ltb, eqb}
use Rattle.rules.specs.declared.Shape.{Shape}
use Rattle.rules.specs.declared.Task.{Task}
use Rattle.rules.specs.Lists.{all}
use Rattle.rules.specs.Word.{Word, is_zero, is_lock, alone_word, with_lock, with_virgin, with_change, filled_with}
use Rattle.rules.specs.Word.{with_payload}
use Rattle.rules.specs.Entry.{Entry, split}
use Rattle.rules.specs.Table.{at, between, sound_run, entries_between}
use Rattle.rules.specs.Room.{ToFill, on_left, on_right, on_neither, which_end}
use Rattle.rules.specs.Lay.{holds, smaller, mark_of}
use Rattle.rules.specs.Record.{home_place_of, to_phase, with_left, with_right, with_hand, with_goal, with_mark}
use Rattle.rules.specs.Record.{with_answer, again}

pub data Step : Type 0 where
  to : Task → List Word → Step
  unsound : Step

-- 1 home: word locked, stay, which is to begin again; word 0, fill it, answer 2, phase 13; occupied, left = H − 1,
-- phase 2; otherwise 6
unfoldable pub home : Shape → List Word → Task → Step
home sh ws t =
    cond (at ws (home_place_of sh t)).lock
    (to (again t) ws)
    (cond (is_zero (at ws (home_place_of sh t)))
    (to (to_phase 13 (with_answer 2 t)) (set ws (home_place_of sh t) (alone_word (split sh t.key).remainder)))
    (cond (at ws (home_place_of sh t)).occupied (to (to_phase 2 (with_left (home_place_of sh t - 1) t)) ws) unsound))

-- 2 look left: word at left occupied, left falls by 1; else right = H + 1, phase 3
unfoldable pub look_left : Shape → List Word → Task → Step
look_left sh ws t =
    cond (at ws t.left).occupied
    (to (with_left (t.left - 1) t) ws)
    (to (to_phase 3 (with_right (home_place_of sh t + 1) t)) ws)

-- 3 look right: word at right occupied, right rises by 1; else phase 4
unfoldable pub look_right : Shape → List Word → Task → Step
look_right sh ws t =
    cond (at ws t.right).occupied (to (with_right (t.right + 1) t) ws) (to (to_phase 4 t) ws)

-- 4: word at left is 0, set its lock, phase 5; else phase 1
unfoldable pub lock_left : Shape → List Word → Task → Step
lock_left sh ws t =
    cond (is_zero (at ws t.left))
    (to (to_phase 5 t) (set ws t.left (with_lock true (at ws t.left))))
    (to (again t) ws)

-- 5: word at right is 0, set its lock, phase 7; else phase 6
unfoldable pub lock_right : Shape → List Word → Task → Step
lock_right sh ws t =
    cond (is_zero (at ws t.right))
    (to (to_phase 7 t) (set ws t.right (with_lock true (at ws t.right))))
    (to (to_phase 6 t) ws)

-- 6: clear the lock at left, phase 1
unfoldable pub back_off : Shape → List Word → Task → Step
back_off sh ws t = to (again t) (set ws t.left (with_lock false (at ws t.left)))

-- left and right exactly the lock bit, the places between occupied and one sound cluster
unfoldable pub readable : Shape → List Word → Task → Bool
readable sh ws t =
    is_lock (at ws t.left)
    && is_lock (at ws t.right)
    && all (λ (w : Word). w.occupied) (between ws t.left t.right)
    && sound_run sh (between ws t.left t.right)

-- the record as it begins to fill: its hand, its goal and its mark
abbrev pub aimed : ℕ → ℕ → ℕ → Task → Task
aimed p q k t = to_phase 8 (with_hand p (with_goal q (with_mark k t)))

-- by the number of smaller keys, n, and the mark: left is filled, hand = left and goal = left + n; right, hand = right
-- and goal = n + 1; neither, answer 3
abbrev pub fill_from : ToFill → ℕ → ℕ → Task → Task
fill_from on_left n k t = aimed t.left (t.left + n) k t
fill_from on_right n k t = aimed t.right (n + 1) k t
fill_from on_neither n k t = to_phase 11 (with_answer 3 t)

-- what the read step makes of the entries between left and right
unfoldable pub read_entries : Shape → Task → Entry → List Entry → Task
read_entries sh t e es =
    cond (holds e es)
    (to_phase 11 (with_answer 1 t))
    (fill_from (which_end sh t.left t.right) (smaller e es) (mark_of e es) t)

-- 7 read, writing no word
unfoldable pub read : Shape → List Word → Task → Step
read sh ws t =
    cond (readable sh ws t)
    (to (read_entries sh t (split sh t.key) (entries_between ws t.left t.right)) ws)
    (to (to_phase 11 (with_answer 4 t)) ws)

-- phase 10 when the hand is at the goal, else 9
unfoldable pub moves_on : Task → Task
moves_on t = to_phase (cond (eqb t.hand t.goal) 10 9) t

-- 8 fill: word at hand must be exactly the lock bit, else 6; add occupied and the remainder
unfoldable pub fill_hand : Shape → List Word → Task → Step
fill_hand sh ws t =
    cond (is_lock (at ws t.hand))
    (to (moves_on t) (set ws t.hand (filled_with (split sh t.key).remainder (at ws t.hand))))
    unsound

-- the neighbour of hand towards goal
unfoldable pub neighbour : Task → ℕ
neighbour t = cond (ltb t.hand t.goal) (t.hand + 1) (t.hand - 1)

-- two places exchange remainder and change bit only
unfoldable pub exchange : List Word → ℕ → ℕ → List Word
exchange ws p q = set (set ws p (with_payload (at ws q) (at ws p))) q (with_payload (at ws p) (at ws q))

-- 9 move: the neighbour of hand towards goal must be occupied, else 6; hand is that neighbour
unfoldable pub move : Shape → List Word → Task → Step
move sh ws t =
    cond (at ws (neighbour t)).occupied
    (to (moves_on (with_hand (neighbour t) t)) (exchange ws t.hand (neighbour t)))
    unsound

unfoldable pub set_change : List Word → ℕ → Bool → List Word
set_change ws p b = set ws p (with_change b (at ws p))

unfoldable pub set_virgin : List Word → ℕ → List Word
set_virgin ws p = set ws p (with_virgin true (at ws p))

-- mark 2 sets change at goal and virgin at H; mark 1 sets change at goal and clears it at goal − 1; mark 0 nothing
unfoldable pub marked : List Word → ℕ → ℕ → ℕ → List Word
marked ws mark goal home_at =
    cond (eqb mark 2)
    (set_virgin (set_change ws goal true) home_at)
    (cond (eqb mark 1) (set_change (set_change ws goal true) (goal - 1) false) ws)

-- 10: the marks; answer 2, phase 11
unfoldable pub mark : Shape → List Word → Task → Step
mark sh ws t = to (to_phase 11 (with_answer 2 t)) (marked ws t.mark t.goal (home_place_of sh t))

-- 11: clear the lock at left, phase 12
unfoldable pub free_left : Shape → List Word → Task → Step
free_left sh ws t = to (to_phase 12 t) (set ws t.left (with_lock false (at ws t.left)))

-- 12: clear the lock at right, phase 13
unfoldable pub free_right : Shape → List Word → Task → Step
free_right sh ws t = to (to_phase 13 t) (set ws t.right (with_lock false (at ws t.right)))
