-- Each record that the invariant allows fits (01, "A record fits if .."), so no step is refused for it: `stage_fits`.
-- Assumes nothing.
use Rattle.std.specs.Prelude.{ℕ, suc, ◌+◌, ◌-◌, ◌≤◌, ◌<◌, ◌≡◌, refl, ◌⊎◌, ◌≢◌, Bool, true, false, not, cond, ◌||◌, List, length, eqb}
use Rattle.std.proofs.Common.{sym, ◌∙◌, inl, inr, arith, eq-eqb}
use Rattle.rules.specs.declared.Shape.{Shape}
use Rattle.rules.specs.declared.Task.{Task}
use Rattle.rules.specs.Lists.{all, any}
use Rattle.rules.specs.Word.{Word}
use Rattle.rules.specs.Shape.{keys, places, right_guard}
use Rattle.rules.specs.Entry.{Entry, split, same_home, precedes}
use Rattle.rules.specs.Table.{entries_between}
use Rattle.rules.specs.Record.{home_place_of, at_rest, fits}
use Rattle.rules.specs.Lay.{smaller, mark_of}
use Rattle.theory.specs.Dealt.{or_left, or_right}
use Rattle.theory.specs.Gaps as gaps
use Rattle.theory.specs.Gaps.{Side, HomePlace}
use Rattle.theory.specs.Cut.{end, from, up_to}
use Rattle.theory.proofs.Moving.{smaller_inside, last_follows}
use Rattle.together.specs.Invariant.{Looked, Fills, MayFill, Moving, InPhase, rests, at_home, looks_left}
use Rattle.together.specs.Invariant.{looks_right, owns_left, owns_both, has_read, moving, marking, frees_left}
use Rattle.together.specs.Invariant.{frees_right}
use Rattle.together.specs.Facts.{FitsHand, FitsBusy, fits_busy_lem}

-- ---- the goal that the read step names
-- a goal that far from the first place of the stretch lies in it
pub goal_below : (side : Side) (l r n : ℕ) → l < r → n ≤ r - suc l → from side l + n < up_to side r
goal_below gaps.left l r n lt le = omega arith
goal_below gaps.right l r n lt le = omega arith

pub mark_small : (e : Entry) (es : List Entry) → mark_of e es ≤ 2
unfolding mark_of
mark_small e es = go (any (same_home e) es) (all (λ (f : Entry). not (same_home e f) || precedes f e) es)
  where
    go : (b c : Bool) → cond b (cond c 1 0) 2 ≤ 2
    go true true = omega arith
    go true false = omega arith
    go false c = omega arith

-- ---- hand and goal
hand_fits :
    (sh : Shape) (t : Task) (side : Side) →
    Fills side t →
    HomePlace sh (end side t.left t.right) →
    home_place_of sh t < t.right →
    t.right ≤ right_guard sh →
    from side t.left ≤ t.hand →
    t.hand < up_to side t.right →
    from side t.left ≤ t.goal →
    t.goal < up_to side t.right →
    t.mark ≤ 2 → (t.mark ≡ 1 → from side t.left < t.goal) → FitsHand sh t
unfolding right_guard
hand_fits sh t gaps.left fills room above inside hl hh gl gh marks closes =
    record {
      hand_first = omega arith;
      hand_last = omega arith;
      goal_first = omega arith;
      goal_last = omega arith;
      hand_left = hl;
      hand_right = omega arith;
      goal_left = gl;
      goal_right = omega arith;
      marks = marks;
      closes = λ one. (omega (arith, closes one), closes one);
    }
hand_fits sh t gaps.right fills room above inside hl hh gl gh marks closes =
    record {
      hand_first = omega arith;
      hand_last = omega (arith, room.last);
      goal_first = omega arith;
      goal_last = omega (arith, room.last);
      hand_left = omega arith;
      hand_right = omega arith;
      goal_left = omega arith;
      goal_right = omega arith;
      marks = marks;
      closes = λ one. (omega (arith, closes one), omega (arith, closes one));
    }

pub end_within : (side : Side) (l r : ℕ) → l < r → (from side l ≤ end side l r) × (end side l r < up_to side r)
end_within gaps.left l r lt = (omega arith, omega arith)
end_within gaps.right l r lt = (omega arith, omega arith)

end_either : (side : Side) (l r : ℕ) → (end side l r ≡ l) ⊎ (end side l r ≡ r)
end_either gaps.left l r = inl refl
end_either gaps.right l r = inr refl

-- what the read step names lies in the stretch
pub record Named (side : Side) (t : Task) : Type 0 where
  pub hand_low : from side t.left ≤ t.hand
  pub hand_high : t.hand < up_to side t.right
  pub goal_low : from side t.left ≤ t.goal
  pub goal_high : t.goal < up_to side t.right
  pub marks : t.mark ≤ 2
  pub closes : t.mark ≡ 1 → from side t.left < t.goal

pub ready_named :
    {sh : Shape} {ws laid : List Word} {shown : List Entry} {t : Task} →
    length laid ≡ places sh → Looked sh ws t → (y : MayFill sh laid shown t) → Named y.side t
unfolding places right_guard
ready_named {sh} {ws} {laid} {shown} {t} size x y =
    record {
      hand_low = omega (arith, y.hand, near.0);
      hand_high = omega (arith, y.hand, near.1);
      goal_low = omega (arith, y.goal);
      goal_high = omega (arith, y.goal, goal_below y.side t.left t.right (smaller e es) ordered rank);
      marks = omega (arith, y.mark, mark_small e es);
      closes = λ one. omega (arith, y.goal, last_follows e es (sym y.mark ∙ one));
    }
  where
    e : Entry
    e = split sh t.key

    es : List Entry
    es = entries_between laid t.left t.right

    ordered : t.left < t.right
    ordered = omega (arith, x.leftward.below, x.above)

    near :
        (from y.side t.left ≤ end y.side t.left t.right)
        × (end y.side t.left t.right < up_to y.side t.right)
    near = end_within y.side t.left t.right ordered

    rank : smaller e es ≤ t.right - suc t.left
    rank = smaller_inside laid t.left t.right e (omega (arith, x.inside))

-- ---- stages
-- a record that has looked both ways, in a phase without a hand
looked_fits :
    {sh : Shape} {ws : List Word} (t : Task) →
    3 ≤ t.phase →
    t.phase ≤ 12 →
    (8 ≤ t.phase → t.phase ≤ 10 → ⊥) → t.key < keys sh → Looked sh ws t → FitsBusy sh t
looked_fits t low high without k x =
    record {
      first = omega arith;
      last = high;
      key = k;
      left = λ p. x.leftward.below;
      right = λ p. (x.above, x.inside);
      hand = λ p q. absurd (without p q);
      at_8 = λ p. absurd (without (omega arith) (omega arith));
      at_9 = λ p. absurd (without (omega arith) (omega arith));
      at_10 = λ p. absurd (without (omega arith) (omega arith));
    }

module _ {sh : Shape} {ws laid : List Word} {shown : List Entry} (size : length laid ≡ places sh) where
  ready_fits : (t : Task) → t.phase ≡ 8 → t.key < keys sh → Looked sh ws t → MayFill sh laid shown t → FitsBusy sh t
  ready_fits t p k x y =
      record {
        first = omega arith;
        last = omega arith;
        key = k;
        left = λ q. x.leftward.below;
        right = λ q. (x.above, x.inside);
        hand = λ a b.
            hand_fits
            sh
            t
            y.side
            y.fills
            y.room
            x.above
            x.inside
            n.hand_low
            n.hand_high
            n.goal_low
            n.goal_high
            n.marks
            n.closes;
        at_8 = λ q. either (end_either y.side t.left t.right);
        at_9 = λ q. absurd (omega arith);
        at_10 = λ q. absurd (omega arith);
      }
    where
      n : Named y.side t
      n = ready_named size x y

      either :
          (end y.side t.left t.right ≡ t.left) ⊎ (end y.side t.left t.right ≡ t.right) →
          (t.hand ≡ t.left) ⊎ (t.hand ≡ t.right)
      either (inl e) = inl (y.hand ∙ e)
      either (inr e) = inr (y.hand ∙ e)

  moving_fits :
      (t : Task) →
      9 ≤ t.phase →
      t.phase ≤ 10 →
      t.key < keys sh →
      Looked sh ws t →
      Moving sh ws laid shown t →
      (t.phase ≡ 9 → t.hand ≢ t.goal) → (t.phase ≡ 10 → t.hand ≡ t.goal) → FitsBusy sh t
  moving_fits t a b k x y apart there =
      record {
        first = omega arith;
        last = omega arith;
        key = k;
        left = λ q. x.leftward.below;
        right = λ q. (x.above, x.inside);
        hand = λ p q.
            hand_fits
            sh
            t
            y.side
            y.fills
            y.room
            x.above
            x.inside
            y.hand_low
            y.hand_high
            y.goal_low
            y.goal_high
            y.mark
            y.closes;
        at_8 = λ q. absurd (omega arith);
        at_9 = apart;
        at_10 = there;
      }

  pub stage_fits : (t : Task) → InPhase sh ws laid shown t → fits sh t ≡ true
  unfolding fits at_rest
  stage_fits t (rests (inl e)) = or_left _ _ (or_left _ _ (eq-eqb t.phase 0 e))
  stage_fits t (rests (inr e)) = or_left _ _ (or_right (eqb t.phase 0) _ (eq-eqb t.phase 13 e))
  stage_fits t (at_home p k) =
      fits_busy_lem
      sh
      t
      (record {
        first = omega arith;
        last = omega arith;
        key = k;
        left = λ q. absurd (omega arith);
        right = λ q. absurd (omega arith);
        hand = λ q r. absurd (omega arith);
        at_8 = λ q. absurd (omega arith);
        at_9 = λ q. absurd (omega arith);
        at_10 = λ q. absurd (omega arith);
      })
  stage_fits t (looks_left p k x) =
      fits_busy_lem
      sh
      t
      (record {
        first = omega arith;
        last = omega arith;
        key = k;
        left = λ q. x.below;
        right = λ q. absurd (omega arith);
        hand = λ q r. absurd (omega arith);
        at_8 = λ q. absurd (omega arith);
        at_9 = λ q. absurd (omega arith);
        at_10 = λ q. absurd (omega arith);
      })
  stage_fits t (looks_right p q k x) = fits_busy_lem sh t (looked_fits t p (omega arith) (λ a b. omega arith) k x)
  stage_fits t (owns_left p q k x e) =
      fits_busy_lem sh t (looked_fits t (omega arith) (omega arith) (λ a b. omega arith) k x)
  stage_fits t (owns_both p k x e f) =
      fits_busy_lem sh t (looked_fits t (omega arith) (omega arith) (λ a b. omega arith) k x)
  stage_fits t (has_read p k x e f y) = fits_busy_lem sh t (ready_fits t p k x y)
  stage_fits t (moving p k x n y) =
      fits_busy_lem sh t (moving_fits t (omega arith) (omega arith) k x y (λ q. n) (λ q. absurd (omega arith)))
  stage_fits t (marking p k x n y) =
      fits_busy_lem sh t (moving_fits t (omega arith) (omega arith) k x y (λ q. absurd (omega arith)) (λ q. n))
  stage_fits t (frees_left p k x y) =
      fits_busy_lem sh t (looked_fits t (omega arith) (omega arith) (λ a b. omega arith) k x)
  stage_fits t (frees_right p k x y) =
      fits_busy_lem sh t (looked_fits t (omega arith) (omega arith) (λ a b. omega arith) k x)
