-- Every step of a busy task under the invariant: it is not refused, and keeps the invariant (`walk`).
-- Assumes nothing.
use Rattle.std.specs.Prelude.{ℕ, ◌≤◌, ◌<◌, ◌≡◌, ◌⊎◌, Bool, true, false, List, length}
use Rattle.std.proofs.Math.Path.{refl}
use Rattle.std.proofs.Common.{inl, inr, arith}
use Rattle.rules.specs.declared.Shape.{Shape}
use Rattle.rules.specs.declared.Task.{Task}
use Rattle.rules.specs.Word.{Word, lock_word, is_zero}
use Rattle.rules.specs.Shape.{remainders, keys}
use Rattle.rules.specs.Entry.{Entry}
use Rattle.rules.specs.Table.{at}
use Rattle.rules.specs.Record.{home_place_of, task_at}
use Rattle.together.specs.Invariant.{Looked, LookedLeft, Inv, InPhase, rests, at_home, looks_left, looks_right}
use Rattle.together.specs.Invariant.{owns_left, owns_both, has_read, moving, marking, frees_left, frees_right}
use Rattle.together.specs.Stable.{word_of}
use Rattle.together.specs.Facts.{in_order, free_void}
use Rattle.together.specs.Walk.{Walked, walk_stay, walk_home, walk_left_on, walk_left_stop, walk_right_on}
use Rattle.together.specs.Walk.{walk_right_stop, walk_again, walk_lock_left, walk_right_taken, walk_lock_right}
use Rattle.together.specs.Walk.{walk_back}
use Rattle.together.specs.Reading.{walk_read}
use Rattle.together.specs.Finishing.{walk_move, walk_mark, walk_free_left, walk_free_right}
use Rattle.together.specs.Commit.{walk_fill, walk_alone}

module _ {sh : Shape} {ws : List Word} {ts : List Task} {laid : List Word} {shown : List Entry}
    (low : remainders sh ≤ 4096) (inv : Inv sh ws ts laid shown) (i : ℕ) (lt : i < length ts)
  where
    -- phase 1: locked, empty or occupied; nothing else can stand there
    walk_1 : (task_at ts i).phase ≡ 1 → (task_at ts i).key < keys sh → Walked sh ws ts laid shown i
    unfolding home_place_of
    walk_1 p k = go w.lock w.occupied refl refl
      where
        w : Word
        w = at ws (home_place_of sh (task_at ts i))

        go : (a b : Bool) → w.lock ≡ a → w.occupied ≡ b → Walked sh ws ts laid shown i
        go true b locked taken = walk_stay low inv i lt p k locked
        go false true locked taken = walk_home low inv i lt p k locked taken
        go false false locked taken =
            walk_alone low inv i lt p k
            (word_of (free_void low inv (home_place_of sh (task_at ts i)) taken) locked)

    walk_2 :
        (task_at ts i).phase ≡ 2 → (task_at ts i).key < keys sh → LookedLeft sh ws (task_at ts i) →
        Walked sh ws ts laid shown i
    walk_2 p k x = go (at ws (task_at ts i).left).occupied refl
      where
        go : (b : Bool) → (at ws (task_at ts i).left).occupied ≡ b → Walked sh ws ts laid shown i
        go true e = walk_left_on low inv i lt p k x e
        go false e = walk_left_stop low inv i lt p k x e

    walk_3 :
        (task_at ts i).phase ≡ 3 → (task_at ts i).key < keys sh → Looked sh ws (task_at ts i) →
        Walked sh ws ts laid shown i
    walk_3 p k x = go (at ws (task_at ts i).right).occupied refl
      where
        go : (b : Bool) → (at ws (task_at ts i).right).occupied ≡ b → Walked sh ws ts laid shown i
        go true e = walk_right_on low inv i lt p k x e
        go false e = walk_right_stop low inv i lt p k x e

    walk_4 :
        (task_at ts i).phase ≡ 4 → (task_at ts i).key < keys sh → Looked sh ws (task_at ts i) →
        Walked sh ws ts laid shown i
    walk_4 p k x = go (is_zero (at ws (task_at ts i).left)) refl
      where
        go : (b : Bool) → is_zero (at ws (task_at ts i).left) ≡ b → Walked sh ws ts laid shown i
        go true e = walk_lock_left low inv i lt p k x e
        go false e = walk_again low inv i lt p k e

    walk_5 :
        (task_at ts i).phase ≡ 5 → (task_at ts i).key < keys sh → Looked sh ws (task_at ts i) →
        at ws (task_at ts i).left ≡ lock_word → Walked sh ws ts laid shown i
    walk_5 p k x held = go (is_zero (at ws (task_at ts i).right)) refl
      where
        go : (b : Bool) → is_zero (at ws (task_at ts i).right) ≡ b → Walked sh ws ts laid shown i
        go true e = walk_lock_right low inv i lt p k x held e
        go false e = walk_right_taken low inv i lt p k x held e

    pub walk : 1 ≤ (task_at ts i).phase → (task_at ts i).phase ≤ 12 → Walked sh ws ts laid shown i
    walk a b = by_stage (inv.stage i lt)
      where
        by_stage : InPhase sh ws laid shown (task_at ts i) → Walked sh ws ts laid shown i
        by_stage (rests (inl e)) = absurd (omega arith)
        by_stage (rests (inr e)) = absurd (omega arith)
        by_stage (at_home p k) = walk_1 p k
        by_stage (looks_left p k x) = walk_2 p k x
        by_stage (looks_right p q k x) = third (in_order (task_at ts i).phase 3)
          where
            third : ((task_at ts i).phase ≤ 3) ⊎ (3 < (task_at ts i).phase) → Walked sh ws ts laid shown i
            third (inl le) = walk_3 (omega arith) k x
            third (inr gt) = walk_4 (omega arith) k x
        by_stage (owns_left p q k x e) = fifth (in_order (task_at ts i).phase 5)
          where
            fifth : ((task_at ts i).phase ≤ 5) ⊎ (5 < (task_at ts i).phase) → Walked sh ws ts laid shown i
            fifth (inl le) = walk_5 (omega arith) k x e
            fifth (inr gt) = walk_back low inv i lt (omega arith) k x
        by_stage (owns_both p k x e f) = walk_read low inv i lt p k x e f
        by_stage (has_read p k x e f y) = walk_fill low inv i lt p k x e f y
        by_stage (moving p k x n m) = walk_move low inv i lt p k x n m
        by_stage (marking p k x n m) = walk_mark low inv i lt p k x n m
        by_stage (frees_left p k x y) = walk_free_left low inv i lt p k x y
        by_stage (frees_right p k x y) = walk_free_right low inv i lt p k x y
