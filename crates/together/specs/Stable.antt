-- A step of one task leaves another task's part true: `stage_stable`, from what the step changes (`Frame`) and what
-- it lets alone.
-- Assumes nothing.
use Rattle.std.specs.Prelude.{ℕ, suc, ◌+◌, ◌≤◌, ◌<◌, ◌≡◌, refl, true, false, length}
use Rattle.std.proofs.Math.Path.{sym, ap}
use Rattle.std.proofs.Common.{◌∙◌, ext_get_or}
use mathlib.Core.List.{List, map}
use native.Mathlib.Omega.{arith}
use Rattle.std.proofs.lemmas.List.{length-map}
use Rattle.std.proofs.Math.Seq.{length-slice}
use Rattle.rules.specs.declared.Shape.{Shape}
use Rattle.rules.specs.declared.Task.{Task}
use Rattle.rules.specs.Word.{Word, zero_word, lock_word}
use Rattle.rules.specs.Shape.{places, right_guard}
use Rattle.rules.specs.Entry.{Entry, split}
use Rattle.rules.specs.Table.{at, between, entries_between, virgin_places, deal}
use Rattle.rules.specs.Lay.{holds, smaller, mark_of}
use Rattle.rules.specs.Record.{home_place_of}
use Rattle.theory.specs.Run.{unlock}
use Rattle.theory.specs.Dealt.{word_path}
use Rattle.theory.specs.Locks.{at_unlock}
use Rattle.theory.specs.Gaps as gaps
use Rattle.theory.specs.Gaps.{Side, other}
use Rattle.theory.specs.Cut.{end, from, up_to, between_at}
use Rattle.theory.specs.Motion.{finish}
use Rattle.theory.proofs.Region.{finish_unlock}
use Rattle.together.specs.Frames.{Within, finish_agree}
use Rattle.together.specs.Invariant.{Occupied, LookedLeft, Looked, Fills, FilledEnd, MayFill, Moving, Owns}
use Rattle.together.specs.Invariant.{by_left, by_right, Reserves, Ends, ends_found, ends_full, ends_inserted}
use Rattle.together.specs.Invariant.{RightEnd, right_found, right_full, right_waiting, right_filled, InPhase}
use Rattle.together.specs.Invariant.{rests, at_home, looks_left, looks_right, owns_left, owns_both, has_read}
use Rattle.together.specs.Invariant.{moving, marking, frees_left, frees_right}

-- what a step changes: words, locks aside, and words laid only at the places touched; no place is emptied and no
-- entry lost
pub record Frame (sh : Shape) (ws laid : List Word) (shown : List Entry) (ws' laid' : List Word) (shown' : List Entry)
    (Touched : ℕ → Type 0) : Type 0 where
  pub size : length ws ≡ places sh
  pub size' : length ws' ≡ places sh
  pub laid_size : length laid ≡ places sh
  pub laid_size' : length laid' ≡ places sh
  pub words : (p : ℕ) → (Touched p → ⊥) → unlock (at ws' p) ≡ unlock (at ws p)
  pub grows : (p : ℕ) → Occupied ws p → Occupied ws' p
  pub laid_words : (p : ℕ) → (Touched p → ⊥) → at laid' p ≡ at laid p
  pub keeps : (e : Entry) → holds e shown ≡ true → holds e shown' ≡ true

-- what it lets alone of a task: the locks that the task owns, its unfilled ends, and the words that it reserves
pub record LetsAlone (ws ws' : List Word) (Touched : ℕ → Type 0) (u : Task) : Type 0 where
  pub locks : (p : ℕ) → Owns u p → (at ws' p).lock ≡ (at ws p).lock
  pub ends : (p : ℕ) → Owns u p → (at ws p).occupied ≡ false → Touched p → ⊥
  pub stretch : Reserves u → (p : ℕ) → Within u.left u.right p → Touched p → ⊥

-- ---- words
-- a word is its unlocked form and its lock bit
pub word_of : {v w : Word} → unlock v ≡ unlock w → v.lock ≡ w.lock → v ≡ w
word_of e l =
    word_path
    (ap (λ (w : Word). w.remainder) e)
    (ap (λ (w : Word). w.occupied) e)
    (ap (λ (w : Word). w.virgin) e)
    (ap (λ (w : Word). w.change) e)
    l

-- the words strictly between two places
pub between_same :
    (ws vs : List Word) (l r : ℕ) →
    r ≤ length ws →
    length ws ≡ length vs → ((p : ℕ) → l < p → p < r → at ws p ≡ at vs p) → between ws l r ≡ between vs l r
between_same ws vs l r le size alike =
    ext_get_or
    zero_word
    (between ws l r)
    (between vs l r)
    (length-slice (suc l) r ws le ∙ sym (length-slice (suc l) r vs (omega arith)))
    (λ i lt.
    let near : suc l + i < r = omega (arith, length-slice (suc l) r ws le) in
    between_at ws l r i near ∙ alike (suc l + i) (omega arith) near ∙ sym (between_at vs l r i near))

-- where finishing is seen through unlocked words
pub finish_at :
    (ws : List Word) (hand goal mark home_at q : ℕ) →
    unlock (at (finish ws hand goal mark home_at) q) ≡ at (finish (map unlock ws) hand goal mark home_at) q
finish_at ws hand goal mark home_at q =
    sym (at_unlock (finish ws hand goal mark home_at) q)
    ∙ ap (λ (vs : List Word). at vs q) (finish_unlock ws hand goal mark home_at)

-- the ends of a stretch and what lies between, in numbers
pub from_ge : (side : Side) (l : ℕ) → l ≤ from side l
from_ge gaps.left l = omega arith
from_ge gaps.right l = omega arith

pub up_to_le : (side : Side) (r : ℕ) → up_to side r ≤ suc r
up_to_le gaps.left r = omega arith
up_to_le gaps.right r = omega arith

pub fills_as : (side : Side) (t t' : Task) → t'.left ≡ t.left → Fills side t → Fills side t'
fills_as gaps.left t t' e f = λ z. f (sym e ∙ z)
fills_as gaps.right t t' e f = e ∙ f

-- finishing, for two tables that agree between a task's ends, locks aside
pub finish_same :
    (sh : Shape) (ws vs : List Word) (t : Task) (side : Side) →
    length ws ≡ places sh →
    length vs ≡ places sh →
    Looked sh ws t →
    from side t.left ≤ t.hand →
    t.hand < up_to side t.right →
    from side t.left ≤ t.goal →
    t.goal < up_to side t.right →
    (t.mark ≡ 1 → from side t.left < t.goal) →
    ((p : ℕ) → Within t.left t.right p → unlock (at ws p) ≡ unlock (at vs p)) →
    (q : ℕ) →
    Within t.left t.right q →
    unlock (at (finish ws t.hand t.goal t.mark (home_place_of sh t)) q)
    ≡ unlock (at (finish vs t.hand t.goal t.mark (home_place_of sh t)) q)
unfolding places right_guard
finish_same sh ws vs t side size size' look hl hh gl gh closes alike q near =
    finish_at ws t.hand t.goal t.mark (home_place_of sh t) q
    ∙ finish_agree
    (map unlock ws)
    (map unlock vs)
    t.left
    t.right
    (omega (arith, look.leftward.below, look.above))
    (omega (arith, length-map ws unlock, look.inside))
    (length-map ws unlock ∙ size ∙ sym size' ∙ sym (length-map vs unlock))
    t.hand
    t.goal
    t.mark
    (home_place_of sh t)
    (omega (arith, from_ge side t.left), omega (arith, up_to_le side t.right))
    (omega (arith, from_ge side t.left), omega (arith, up_to_le side t.right))
    (omega (arith, look.leftward.below), omega (arith, look.above))
    (λ one. omega (arith, closes one, from_ge side t.left))
    (λ p i. at_unlock ws p ∙ alike p i ∙ sym (at_unlock vs p))
    q
    near
    ∙ sym (finish_at vs t.hand t.goal t.mark (home_place_of sh t) q)

-- ---- stability
module _ {sh : Shape} {ws laid : List Word} {shown : List Entry} {ws' laid' : List Word} {shown' : List Entry}
    {Touched : ℕ → Type 0} (f : Frame sh ws laid shown ws' laid' shown' Touched) (u : Task)
    (a : LetsAlone ws ws' Touched u)
  where
    pub left_stable : LookedLeft sh ws u → LookedLeft sh ws' u
    left_stable x = record { below = x.below; taken = λ q low high. f.grows q (x.taken q low high) }

    pub looked_stable : Looked sh ws u → Looked sh ws' u
    looked_stable x =
        record {
          leftward = left_stable x.leftward;
          above = x.above;
          inside = x.inside;
          taken = λ q low high. f.grows q (x.taken q low high);
        }

    end_stable : (p : ℕ) → Owns u p → at ws p ≡ lock_word → at ws' p ≡ lock_word
    end_stable p o e =
        word_of
        (f.words p (a.ends p o (ap (λ (w : Word). w.occupied) e)) ∙ ap unlock e)
        (a.locks p o ∙ ap (λ (w : Word). w.lock) e)

    filled_stable : (p : ℕ) → Owns u p → FilledEnd ws p → FilledEnd ws' p
    filled_stable p o e = record { taken = f.grows p e.taken; kept = a.locks p o ∙ e.kept }

    -- both ends of a task that owns both
    owns_end : (side : Side) → 7 ≤ u.phase → u.phase ≤ 11 → Owns u (end side u.left u.right)
    owns_end gaps.left low high = by_left (omega arith) high refl
    owns_end gaps.right low high = by_right low (omega arith) refl

    entries_stable :
        Reserves u →
        Looked sh ws u → entries_between laid' u.left u.right ≡ entries_between laid u.left u.right
    unfolding entries_between places right_guard
    entries_stable r x =
        ap
        (λ (vs : List Word). deal (virgin_places (suc u.left) vs) vs)
        (between_same
        laid'
        laid
        u.left
        u.right
        (omega (arith, f.laid_size', x.inside))
        (f.laid_size' ∙ sym f.laid_size)
        (λ p low high. f.laid_words p (a.stretch r p (omega arith, omega arith))))

    ready_stable :
        Reserves u →
        Looked sh ws u →
        holds (split sh u.key) shown' ≡ holds (split sh u.key) shown →
        MayFill sh laid shown u → MayFill sh laid' shown' u
    ready_stable r x fresh y =
        record {
          side = y.side;
          fills = y.fills;
          room = y.room;
          hand = y.hand;
          goal =
              y.goal
              ∙ ap
              (λ (es : List Entry). from y.side u.left + smaller (split sh u.key) es)
              (sym (entries_stable r x));
          mark = y.mark ∙ ap (mark_of (split sh u.key)) (sym (entries_stable r x));
          new = fresh ∙ y.new;
        }

    moving_stable :
        9 ≤ u.phase → u.phase ≤ 10 → Looked sh ws u → Moving sh ws laid shown u → Moving sh ws' laid' shown' u
    moving_stable low high x y =
        record {
          side = y.side;
          fills = y.fills;
          room = y.room;
          filled = filled_stable _ (owns_end y.side (omega arith) (omega arith)) y.filled;
          waiting = end_stable _ (owns_end (other y.side) (omega arith) (omega arith)) y.waiting;
          hand_low = y.hand_low;
          hand_high = y.hand_high;
          goal_low = y.goal_low;
          goal_high = y.goal_high;
          mark = y.mark;
          closes = y.closes;
          finished = λ q near.
              finish_same
              sh
              ws'
              ws
              u
              y.side
              f.size'
              f.size
              (looked_stable x)
              y.hand_low
              y.hand_high
              y.goal_low
              y.goal_high
              y.closes
              (λ p i. f.words p (a.stretch reserved p i))
              q
              near
              ∙ y.finished q near
              ∙ sym (f.laid_words q (a.stretch reserved q near));
          put = f.keeps (split sh u.key) y.put;
        }
      where
        reserved : Reserves u
        reserved = record { from_7 = omega arith; to_10 = high }

    ends_stable : u.phase ≡ 11 → Ends sh ws shown u → Ends sh ws' shown' u
    ends_stable p (ends_found n h x y) =
        ends_found
        n
        (f.keeps (split sh u.key) h)
        (end_stable u.left (owns_end gaps.left (omega arith) (omega arith)) x)
        (end_stable u.right (owns_end gaps.right (omega arith) (omega arith)) y)
    ends_stable p (ends_full n x y) =
        ends_full
        n
        (end_stable u.left (owns_end gaps.left (omega arith) (omega arith)) x)
        (end_stable u.right (owns_end gaps.right (omega arith) (omega arith)) y)
    ends_stable p (ends_inserted n h side k x y) =
        ends_inserted
        n
        (f.keeps (split sh u.key) h)
        side
        k
        (filled_stable _ (owns_end side (omega arith) (omega arith)) x)
        (end_stable _ (owns_end (other side) (omega arith) (omega arith)) y)

    right_stable : u.phase ≡ 12 → RightEnd sh ws shown u → RightEnd sh ws' shown' u
    right_stable p (right_found n h x) =
        right_found
        n
        (f.keeps (split sh u.key) h)
        (end_stable u.right (by_right (omega arith) (omega arith) refl) x)
    right_stable p (right_full n x) = right_full n (end_stable u.right (by_right (omega arith) (omega arith) refl) x)
    right_stable p (right_waiting n h x) =
        right_waiting
        n
        (f.keeps (split sh u.key) h)
        (end_stable u.right (by_right (omega arith) (omega arith) refl) x)
    right_stable p (right_filled n h x) =
        right_filled
        n
        (f.keeps (split sh u.key) h)
        (filled_stable u.right (by_right (omega arith) (omega arith) refl) x)

    pub stage_stable :
        (u.phase ≡ 8 → holds (split sh u.key) shown' ≡ holds (split sh u.key) shown) →
        InPhase sh ws laid shown u → InPhase sh ws' laid' shown' u
    stage_stable fresh (rests p) = rests p
    stage_stable fresh (at_home p k) = at_home p k
    stage_stable fresh (looks_left p k x) = looks_left p k (left_stable x)
    stage_stable fresh (looks_right p q k x) = looks_right p q k (looked_stable x)
    stage_stable fresh (owns_left p q k x e) =
        owns_left p q k (looked_stable x) (end_stable u.left (by_left p (omega arith) refl) e)
    stage_stable fresh (owns_both p k x e g) =
        owns_both
        p
        k
        (looked_stable x)
        (end_stable u.left (owns_end gaps.left (omega arith) (omega arith)) e)
        (end_stable u.right (owns_end gaps.right (omega arith) (omega arith)) g)
    stage_stable fresh (has_read p k x e g y) =
        has_read
        p
        k
        (looked_stable x)
        (end_stable u.left (owns_end gaps.left (omega arith) (omega arith)) e)
        (end_stable u.right (owns_end gaps.right (omega arith) (omega arith)) g)
        (ready_stable (record { from_7 = omega arith; to_10 = omega arith }) x (fresh p) y)
    stage_stable fresh (moving p k x n y) =
        moving p k (looked_stable x) n (moving_stable (omega arith) (omega arith) x y)
    stage_stable fresh (marking p k x n y) =
        marking p k (looked_stable x) n (moving_stable (omega arith) (omega arith) x y)
    stage_stable fresh (frees_left p k x y) = frees_left p k (looked_stable x) (ends_stable p y)
    stage_stable fresh (frees_right p k x y) = frees_right p k (looked_stable x) (right_stable p y)
