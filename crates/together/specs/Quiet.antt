-- Steps that put no key: those that write nothing (`still`), those that set or clear one lock (`relock`), and those
-- that write between their own ends (`inside_stretch`). The table laid stays as it is.
-- Assumes nothing.
use Rattle.std.specs.Prelude.{ℕ, ◌≤◌, ◌<◌, ◌≡◌, refl, ◌⊎◌, ◌≢◌, Bool, true, List, map, length, set}
use Rattle.std.proofs.Common.{sym, ◌∙◌, subst, subst₂, arith}
use Rattle.std.proofs.Math.Path.{ap}
use Rattle.std.proofs.Math.Logic.{inl, inr}
use Rattle.std.proofs.Math.ListN.{length-set}
use Rattle.std.proofs.lemmas.List.{length-map}
use Rattle.rules.specs.declared.Shape.{Shape}
use Rattle.rules.specs.declared.Task.{Task}
use Rattle.rules.specs.Word.{Word, lock_word, with_lock}
use Rattle.rules.specs.Shape.{remainders}
use Rattle.rules.specs.Entry.{Entry}
use Rattle.rules.specs.Table.{at, occupied_places}
use Rattle.rules.specs.Record.{task_at}
use Rattle.table_words.specs.Layout.{same_words}
use Rattle.theory.specs.Run.{unlock}
use Rattle.theory.specs.Gaps as gaps
use Rattle.theory.specs.Gaps.{Side, other}
use Rattle.theory.specs.Cut.{end}
use Rattle.theory.specs.Locks.{occupied_unlock, at_unlock}
use Rattle.together.specs.Frames.{Within, at_set, at_other}
use Rattle.together.specs.Invariant.{Looked, FilledEnd, Owns, by_left, by_right, Reserves, Apart, Unfinished, Inv}
use Rattle.together.specs.Invariant.{Ends, ends_found, ends_full, ends_inserted, RightEnd, right_found}
use Rattle.together.specs.Invariant.{right_full, right_waiting, right_filled, InPhase, rests, at_home}
use Rattle.together.specs.Invariant.{looks_left, looks_right, owns_left, owns_both, has_read, moving, marking}
use Rattle.together.specs.Invariant.{frees_left, frees_right}
use Rattle.together.specs.Stable.{Frame, LetsAlone, stage_stable}
use Rattle.together.specs.Update.{Steps, same_or_not}
use Rattle.together.specs.Facts.{words_size}

-- ---- an owned place is locked
locked_word : {w : Word} → w ≡ lock_word → w.lock ≡ true
locked_word e = ap (λ (w : Word). w.lock) e

end_locked :
    (ws : List Word) (side : Side) (l r : ℕ) →
    FilledEnd ws (end side l r) →
    at ws (end (other side) l r) ≡ lock_word → ((at ws l).lock ≡ true) × ((at ws r).lock ≡ true)
end_locked ws gaps.left l r f e = (f.kept, locked_word e)
end_locked ws gaps.right l r f e = (locked_word e, f.kept)

ends_locked :
    {sh : Shape} {ws : List Word} {shown : List Entry} {t : Task} →
    Ends sh ws shown t → ((at ws t.left).lock ≡ true) × ((at ws t.right).lock ≡ true)
ends_locked (ends_found n h x y) = (locked_word x, locked_word y)
ends_locked (ends_full n x y) = (locked_word x, locked_word y)
ends_locked {ws = ws} {t = t} (ends_inserted n h side k x y) = end_locked ws side t.left t.right x y

right_locked :
    {sh : Shape} {ws : List Word} {shown : List Entry} {t : Task} → RightEnd sh ws shown t →
    (at ws t.right).lock ≡ true
right_locked (right_found n h x) = locked_word x
right_locked (right_full n x) = locked_word x
right_locked (right_waiting n h x) = locked_word x
right_locked (right_filled n h x) = x.kept

-- the ends that each phase owns
abbrev Held : List Word → Task → Type 0
Held ws t =
    (5 ≤ t.phase → t.phase ≤ 11 → (at ws t.left).lock ≡ true)
    × (7 ≤ t.phase → t.phase ≤ 12 → (at ws t.right).lock ≡ true)

stage_held : {sh : Shape} {ws laid : List Word} {shown : List Entry} {t : Task} → InPhase sh ws laid shown t → Held ws t
stage_held (rests (inl e)) = (λ a b. absurd (omega arith), λ a b. absurd (omega arith))
stage_held (rests (inr e)) = (λ a b. absurd (omega arith), λ a b. absurd (omega arith))
stage_held (at_home e k) = (λ a b. absurd (omega arith), λ a b. absurd (omega arith))
stage_held (looks_left e k x) = (λ a b. absurd (omega arith), λ a b. absurd (omega arith))
stage_held (looks_right e f k x) = (λ a b. absurd (omega arith), λ a b. absurd (omega arith))
stage_held (owns_left e f k x y) = (λ a b. locked_word y, λ a b. absurd (omega arith))
stage_held (owns_both e k x y z) = (λ a b. locked_word y, λ a b. locked_word z)
stage_held (has_read e k x y z w) = (λ a b. locked_word y, λ a b. locked_word z)
stage_held {ws = ws} {t = t} (moving e k x n y) =
    let both = end_locked ws y.side t.left t.right y.filled y.waiting in
    (λ a b. both.0, λ a b. both.1)
stage_held {ws = ws} {t = t} (marking e k x n y) =
    let both = end_locked ws y.side t.left t.right y.filled y.waiting in
    (λ a b. both.0, λ a b. both.1)
stage_held (frees_left e k x y) = (λ a b. (ends_locked y).0, λ a b. (ends_locked y).1)
stage_held (frees_right e k x y) = (λ a b. absurd (omega arith), λ a b. right_locked y)

pub owned_locked :
    {sh : Shape} {ws laid : List Word} {shown : List Entry} {t : Task} (p : ℕ) →
    InPhase sh ws laid shown t → Owns t p → (at ws p).lock ≡ true
owned_locked {ws = ws} p stage (by_left a b e) = ap (λ (q : ℕ). (at ws q).lock) e ∙ (stage_held stage).0 a b
owned_locked {ws = ws} p stage (by_right a b e) = ap (λ (q : ℕ). (at ws q).lock) e ∙ (stage_held stage).1 a b

-- ---- steps that write nothing
-- a record that owns and reserves no more than before, seen from another task
pub apart_less :
    {t t' u : Task} →
    ((p : ℕ) → Owns t' p → Owns t p) →
    (Reserves t' → Reserves t × (t'.left ≡ t.left) × (t'.right ≡ t.right)) → Apart t u → Apart t' u
apart_less {t} {t'} {u} less same a =
    record {
      owners = λ p x y. a.owners p (less p x) y;
      stretches = λ x y p i j.
          let s = same x in
          a.stretches s.0 y p (subst₂ (λ (l r : ℕ). Within l r p) s.1 s.2 i) j;
    }

pub still :
    {sh : Shape} {ws : List Word} {ts : List Task} {laid : List Word} {shown : List Entry} (i : ℕ) (t' : Task) →
    remainders sh ≤ 4096 →
    Inv sh ws ts laid shown →
    InPhase sh ws laid shown t' →
    ((p : ℕ) → Owns (task_at ts i) p → Owns t' p) →
    ((p : ℕ) → Owns t' p → Owns (task_at ts i) p) →
    (Reserves t' →
    Reserves (task_at ts i) × (t'.left ≡ (task_at ts i).left) × (t'.right ≡ (task_at ts i).right)) →
    ((p : ℕ) → Unfinished (task_at ts i) p → Unfinished t' p) → Steps sh ws ts laid shown i t' ws laid shown
still {sh} {ws} {ts} {laid} {shown} i t' low inv stage more less same open-still =
    record {
      plain = inv.plain;
      places = inv.places;
      small = inv.small;
      stage = stage;
      others = λ u a s. s;
      apart = λ u a s. apart_less less same a;
      owner = λ p locked. inr (locked, more p);
      settled = λ p own others. inv.settled p (λ j l u. none p own others j l u (same_or_not i j));
    }
  where
    none :
        (p : ℕ) →
        (Unfinished t' p → ⊥) →
        ((j : ℕ) → j < length ts → j ≢ i → Unfinished (task_at ts j) p → ⊥) →
        (j : ℕ) → j < length ts → Unfinished (task_at ts j) p → (j ≡ i) ⊎ (j ≢ i) → ⊥
    none p own others j l u (inl e) = own (open-still p (subst (λ (k : ℕ). Unfinished (task_at ts k) p) e u))
    none p own others j l u (inr n) = others j l n u

-- ---- steps that set or clear one lock
module _ (ws : List Word) (p : ℕ) (b : Bool) (lt : p < length ws) where
  unfoldable pub relocked : List Word
  relocked = set ws p (with_lock b (at ws p))

  relocked_at : (q : ℕ) → ((q ≡ p) × (at relocked q ≡ with_lock b (at ws p))) ⊎ (at relocked q ≡ at ws q)
  unfolding relocked
  relocked_at q = go (same_or_not p q)
    where
      go : (q ≡ p) ⊎ (q ≢ p) → ((q ≡ p) × (at relocked q ≡ with_lock b (at ws p))) ⊎ (at relocked q ≡ at ws q)
      go (inl e) = inl (e, ap (at relocked) e ∙ at_set ws p (with_lock b (at ws p)) lt)
      go (inr n) = inr (at_other ws p q (with_lock b (at ws p)) n)

  -- locks aside it is the same table
  pub relocked_words : (q : ℕ) → unlock (at relocked q) ≡ unlock (at ws q)
  relocked_words q = go (relocked_at q)
    where
      go :
          ((q ≡ p) × (at relocked q ≡ with_lock b (at ws p))) ⊎ (at relocked q ≡ at ws q) →
          unlock (at relocked q) ≡ unlock (at ws q)
      go (inl (e, x)) = ap unlock x ∙ ap (λ (r : ℕ). unlock (at ws r)) (sym e)
      go (inr x) = ap unlock x

  pub relocked_other : (q : ℕ) → q ≢ p → at relocked q ≡ at ws q
  unfolding relocked
  relocked_other q n = at_other ws p q (with_lock b (at ws p)) n

  pub relocked_here : at relocked p ≡ with_lock b (at ws p)
  unfolding relocked
  relocked_here = at_set ws p (with_lock b (at ws p)) lt

  pub relocked_size : length relocked ≡ length ws
  unfolding relocked
  relocked_size = length-set ws p (with_lock b (at ws p))

  pub relocked_occupied : (q : ℕ) → (at relocked q).occupied ≡ (at ws q).occupied
  relocked_occupied q = ap (λ (w : Word). w.occupied) (relocked_words q)

  pub relocked_places : occupied_places relocked ≡ occupied_places ws
  relocked_places =
      sym (occupied_unlock relocked)
      ∙ ap occupied_places
      (same_words
      (map unlock relocked)
      (map unlock ws)
      (length-map relocked unlock ∙ relocked_size ∙ sym (length-map ws unlock))
      (λ q. at_unlock relocked q ∙ relocked_words q ∙ sym (at_unlock ws q)))
      ∙ occupied_unlock ws

module _ {sh : Shape} {ws : List Word} {ts : List Task} {laid : List Word} {shown : List Entry} (i : ℕ) (t' : Task)
    (low : remainders sh ≤ 4096) (inv : Inv sh ws ts laid shown) (p : ℕ) (b : Bool) (lt : p < length ws)
    -- nobody else owns the place
    (alone : (u : Task) → Apart (task_at ts i) u → InPhase sh ws laid shown u → Owns u p → ⊥)
  where
    relock_frame : Frame sh ws laid shown (relocked ws p b lt) laid shown (λ q. ⊥)
    relock_frame =
        record {
          size = words_size low inv;
          size' = relocked_size ws p b lt ∙ words_size low inv;
          laid_size = inv.plain.size;
          laid_size' = inv.plain.size;
          words = λ q n. relocked_words ws p b lt q;
          grows = λ q h. relocked_occupied ws p b lt q ∙ h;
          laid_words = λ q n. refl;
          keeps = λ e h. h;
        }

    relock_alone :
        (u : Task) →
        Apart (task_at ts i) u →
        InPhase sh ws laid shown u → LetsAlone ws (relocked ws p b lt) (λ q. ⊥) u
    relock_alone u a s =
        record {
          locks = λ q o.
              ap
              (λ (w : Word). w.lock)
              (relocked_other ws p b lt q (λ (e : q ≡ p). alone u a s (subst (Owns u) e o)));
          ends = λ q o f x. x;
          stretch = λ r q n x. x;
        }

    pub relock :
        InPhase sh (relocked ws p b lt) laid shown t' →
        ((u : Task) → Apart (task_at ts i) u → InPhase sh ws laid shown u → Apart t' u) →
        ((q : ℕ) → q ≢ p → Owns (task_at ts i) q → Owns t' q) →
        (b ≡ true → Owns t' p) →
        ((q : ℕ) → Unfinished (task_at ts i) q → Unfinished t' q) →
        Steps sh ws ts laid shown i t' (relocked ws p b lt) laid shown
    relock stage apart kept new open-still =
        record {
          plain = inv.plain;
          places = relocked_places ws p b lt ∙ inv.places;
          small = λ q.
              subst
              (λ (n : ℕ). n < 4096)
              (sym (ap (λ (w : Word). w.remainder) (relocked_words ws p b lt q)))
              (inv.small q);
          stage = stage;
          others = λ u a s. stage_stable relock_frame u (relock_alone u a s) (λ e. refl) s;
          apart = apart;
          owner = λ q locked. owner_at q locked (same_or_not p q);
          settled = λ q own others.
              relocked_words ws p b lt q ∙ inv.settled q (λ j l u. none q own others j l u (same_or_not i j));
        }
      where
        owner_at :
            (q : ℕ) →
            (at (relocked ws p b lt) q).lock ≡ true →
            (q ≡ p) ⊎ (q ≢ p) → Owns t' q ⊎ (((at ws q).lock ≡ true) × (Owns (task_at ts i) q → Owns t' q))
        owner_at q locked (inl e) =
            inl
            (subst
            (Owns t')
            (sym e)
            (new
            (sym (ap (λ (w : Word). w.lock) (relocked_here ws p b lt))
            ∙ ap (λ (r : ℕ). (at (relocked ws p b lt) r).lock) (sym e)
            ∙ locked)))
        owner_at q locked (inr n) =
            inr (sym (ap (λ (w : Word). w.lock) (relocked_other ws p b lt q n)) ∙ locked, kept q n)

        none :
            (q : ℕ) →
            (Unfinished t' q → ⊥) →
            ((j : ℕ) → j < length ts → j ≢ i → Unfinished (task_at ts j) q → ⊥) →
            (j : ℕ) → j < length ts → Unfinished (task_at ts j) q → (j ≡ i) ⊎ (j ≢ i) → ⊥
        none q own others j l u (inl e) = own (open-still q (subst (λ (k : ℕ). Unfinished (task_at ts k) q) e u))
        none q own others j l u (inr n) = others j l n u

-- what a task sees of its own part after its own lock was changed
pub relock_looked :
    {sh : Shape} {ws : List Word} (t : Task) (p : ℕ) (b : Bool) (lt : p < length ws) →
    Looked sh ws t → Looked sh (relocked ws p b lt) t
relock_looked {ws = ws} t p b lt x =
    record {
      leftward =
          record {
            below = x.leftward.below;
            taken = λ q l h. relocked_occupied ws p b lt q ∙ x.leftward.taken q l h;
          };
      above = x.above;
      inside = x.inside;
      taken = λ q l h. relocked_occupied ws p b lt q ∙ x.taken q l h;
    }
