-- What a task that holds both its ends sees: between them lies the cluster of its home, as it is laid.
-- Assumes nothing.
use Rattle.std.specs.Prelude.{ℕ, suc, ◌≤◌, ◌<◌, ◌≡◌, Bool, true, List, map, length}
use Rattle.std.proofs.Common.{sym, ap, ap₂, ◌∙◌, subst, arith}
use Rattle.std.proofs.lemmas.List.{length-map}
use Rattle.rules.specs.declared.Shape.{Shape}
use Rattle.rules.specs.declared.Task.{Task}
use Rattle.rules.specs.Lists.{all}
use Rattle.rules.specs.Word.{Word, lock_word}
use Rattle.rules.specs.Shape.{remainders, keys, places, right_guard}
use Rattle.rules.specs.Entry.{Entry, split}
use Rattle.rules.specs.Table.{at, occupied_places, left_gap, right_gap, between, cluster, sound_run, virgin_places, deal}
use Rattle.rules.specs.Table.{entries_between, cluster_entries}
use Rattle.rules.specs.Lay.{holds}
use Rattle.rules.specs.Record.{home_place_of, task_at}
use Rattle.table_words.specs.Split.{split_in_shape}
use Rattle.theory.specs.Run.{unlock}
use Rattle.theory.specs.Dealt.{is_occupied}
use Rattle.theory.specs.Locks.{at_unlock, between_unlock, sound_run_unlock, virgin_unlock, deal_unlock}
use Rattle.theory.specs.Gaps as gaps
use Rattle.theory.specs.Gaps.{HomePlace, left_gap_is, right_gap_is, gap_only}
use Rattle.theory.specs.Places.{occupied_at}
use Rattle.theory.specs.Cut.{between_occupied}
use Rattle.theory.specs.Finding.{Surroundings, surroundings}
use Rattle.theory.proofs.Moving.{sound_around_lem}
use Rattle.together.specs.Frames.{occupied_same}
use Rattle.together.specs.Invariant.{Looked, Inv}
use Rattle.together.specs.Stable.{between_same}
use Rattle.together.specs.Facts.{between_taken, words_size, guards_free_lem, reserved_laid}

pub record Around (sh : Shape) (ws laid : List Word) (shown : List Entry) (t : Task) : Type 0 where
  pub home_place : HomePlace sh (split sh t.key).home_place
  pub left : left_gap (occupied_places laid) (split sh t.key).home_place ≡ t.left
  pub right : right_gap (occupied_places laid) (split sh t.key).home_place ≡ t.right
  pub taken : all is_occupied (between ws t.left t.right) ≡ true
  pub sound : sound_run sh (between ws t.left t.right) ≡ true
  pub entries : entries_between ws t.left t.right ≡ entries_between laid t.left t.right
  pub same : holds (split sh t.key) (entries_between laid t.left t.right) ≡ holds (split sh t.key) shown

pub around :
    {sh : Shape} {ws : List Word} {ts : List Task} {laid : List Word} {shown : List Entry} →
    remainders sh ≤ 4096 →
    Inv sh ws ts laid shown →
    (i : ℕ) →
    i < length ts →
    7 ≤ (task_at ts i).phase →
    (task_at ts i).phase ≤ 8 →
    (task_at ts i).key < keys sh →
    Looked sh ws (task_at ts i) →
    at ws (task_at ts i).left ≡ lock_word →
    at ws (task_at ts i).right ≡ lock_word → Around sh ws laid shown (task_at ts i)
unfolding home_place_of places right_guard cluster cluster_entries entries_between
around {sh} {ws} {ts} {laid} {shown} low inv i lt from_7 to-8 k x left_held right_held =
    record {
      home_place = home_at;
      left = left_is;
      right = right_is;
      taken =
          between_occupied
          ws
          t.left
          t.right
          (omega (arith, words_size low inv, x.inside))
          (λ q a b. occupied_at ws q ∙ between_taken x q a b);
      sound =
          sym (sound_run_unlock sh (between ws t.left t.right))
          ∙ ap (sound_run sh) run_same
          ∙ ap₂ (λ (l r : ℕ). sound_run sh (between laid l r)) (sym left_is) (sym right_is)
          ∙ (sound_around_lem sh laid h look.sound).run;
      entries =
          sym
          (ap
          (λ (hs : List ℕ). deal hs (map unlock (between ws t.left t.right)))
          (virgin_unlock (suc t.left) (between ws t.left t.right))
          ∙ deal_unlock
          (virgin_places (suc t.left) (between ws t.left t.right))
          (between ws t.left t.right))
          ∙ ap (λ (vs : List Word). deal (virgin_places (suc t.left) vs) vs) run_same;
      same =
          ap₂ (λ (l r : ℕ). holds (split sh t.key) (entries_between laid l r)) (sym left_is) (sym right_is)
          ∙ look.same;
    }
  where
    t : Task
    t = task_at ts i

    h : ℕ
    h = (split sh t.key).home_place

    home_at : HomePlace sh h
    home_at = let s = split_in_shape sh t.key k in record { first = s.home_low; last = s.home_high }

    look : Surroundings sh laid shown (split sh t.key)
    look =
        surroundings
        sh
        (split sh t.key)
        low
        inv.plain.size
        home_at
        (split_in_shape sh t.key k).remainder_low
        inv.plain.table

    taken_laid : (q : ℕ) → t.left < q → q < t.right → gaps.Taken (occupied_places laid) q
    taken_laid q a b = occupied_at laid q ∙ occupied_same laid ws q (sym inv.places) ∙ between_taken x q a b

    free_laid : (q : ℕ) → at ws q ≡ lock_word → gaps.Free (occupied_places laid) q
    free_laid q e =
        occupied_at laid q ∙ occupied_same laid ws q (sym inv.places) ∙ ap (λ (w : Word). w.occupied) e

    origin : gaps.Free (occupied_places laid) 0
    origin = subst (λ (os : List Bool). gaps.Free os 0) inv.places (guards_free_lem low inv).left

    left_is : left_gap (occupied_places laid) h ≡ t.left
    left_is =
        gap_only
        gaps.left
        (left_gap_is (occupied_places laid) h origin)
        (record {
          side = omega (arith, x.leftward.below);
          free = free_laid t.left left_held;
          run = λ q a b n. taken_laid q (omega (arith, n)) (omega (arith, x.above));
        })

    right_is : right_gap (occupied_places laid) h ≡ t.right
    right_is =
        gap_only
        gaps.right
        (right_gap_is (occupied_places laid) h)
        (record {
          side = omega (arith, x.above);
          free = free_laid t.right right_held;
          run = λ q a b n. taken_laid q (omega (arith, x.leftward.below)) (omega (arith, n));
        })

    run_same : map unlock (between ws t.left t.right) ≡ between laid t.left t.right
    run_same =
        sym (between_unlock ws t.left t.right)
        ∙ between_same
        (map unlock ws)
        laid
        t.left
        t.right
        (omega (arith, length-map ws unlock, words_size low inv, x.inside))
        (length-map ws unlock ∙ words_size low inv ∙ sym inv.plain.size)
        (λ q a b. at_unlock ws q ∙ reserved_laid low inv i lt from_7 to-8 q (omega arith, omega arith))
