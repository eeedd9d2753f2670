-- Steps that write between their own ends (phases 8, 9 and 10): what they leave to the other tasks, and the moves and
-- the mark.
-- Assumes nothing.
use Rattle.std.specs.Prelude.{ℕ, ◌≤◌, ◌<◌, ◌≡◌, refl, ◌⊎◌, ◌≢◌, false, List, length}
use Rattle.std.proofs.Common.{sym, ap, ◌∙◌, subst, inl, inr, true≢false, arith}
use Rattle.rules.specs.declared.Shape.{Shape}
use Rattle.rules.specs.declared.Task.{Task}
use Rattle.rules.specs.Word.{Word}
use Rattle.rules.specs.Shape.{remainders}
use Rattle.rules.specs.Entry.{Entry}
use Rattle.rules.specs.Table.{at, occupied_places}
use Rattle.rules.specs.Record.{task_at}
use Rattle.theory.specs.Run.{unlock}
use Rattle.together.specs.Frames.{Within, occupied_same}
use Rattle.together.specs.Invariant.{Looked, Owns, by_left, by_right, Apart, Unfinished, Inv, InPhase}
use Rattle.together.specs.Stable.{Frame, LetsAlone, stage_stable}
use Rattle.together.specs.Update.{Steps, same_or_not}
use Rattle.together.specs.Facts.{in_order, words_size, between_taken}

-- an unoccupied place between a task's ends, both included, is one of them, and so its own
pub own_end :
    {sh : Shape} {ws : List Word} (t : Task) (p : ℕ) →
    7 ≤ t.phase →
    t.phase ≤ 10 →
    Looked sh ws t → Within t.left t.right p → (at ws p).occupied ≡ false → Owns t p
own_end {sh} {ws} t p from_7 to_10 x near free = go (same_or_not t.left p) (same_or_not t.right p)
  where
    go : (p ≡ t.left) ⊎ (p ≢ t.left) → (p ≡ t.right) ⊎ (p ≢ t.right) → Owns t p
    go (inl e) f = by_left (omega arith) (omega arith) e
    go (inr e) (inl f) = by_right from_7 (omega arith) f
    go (inr e) (inr f) =
        absurd (true≢false (sym (between_taken x p (omega (arith, near.0)) (omega (arith, near.1))) ∙ free))

-- a step that writes between its own ends and changes no lock lets the others alone
pub stretch_alone :
    {sh : Shape} {ws : List Word} (ws' : List Word) (t u : Task) →
    7 ≤ t.phase →
    t.phase ≤ 10 →
    Looked sh ws t →
    ((q : ℕ) → (at ws' q).lock ≡ (at ws q).lock) →
    Apart t u → LetsAlone ws ws' (Within t.left t.right) u
stretch_alone ws' t u from_7 to_10 x locks a =
    record {
      locks = λ q o. locks q;
      ends = λ q o free near. a.owners q (own_end t q from_7 to_10 x near free) o;
      stretch = λ r q near touched. a.stretches (record { from_7 = from_7; to_10 = to_10 }) r q touched near;
    }

-- a place is between two others or not
pub within? : (a b p : ℕ) → Within a b p ⊎ (Within a b p → ⊥)
within? a b p = go (in_order a p) (in_order p b)
  where
    go : (a ≤ p) ⊎ (p < a) → (p ≤ b) ⊎ (b < p) → Within a b p ⊎ (Within a b p → ⊥)
    go (inl x) (inl y) = inl (x, y)
    go (inr x) y = inr (λ (w : Within a b p). omega arith)
    go (inl x) (inr y) = inr (λ (w : Within a b p). omega arith)

-- a step of phase 9 or 10: payloads and marks between its ends
module _ {sh : Shape} {ws : List Word} {ts : List Task} {laid : List Word} {shown : List Entry} (i : ℕ) (t' : Task)
    (ws' : List Word) (low : remainders sh ≤ 4096) (inv : Inv sh ws ts laid shown)
    (from_9 : 9 ≤ (task_at ts i).phase) (to_10 : (task_at ts i).phase ≤ 10) (x : Looked sh ws (task_at ts i))
    (size : length ws' ≡ length ws)
    (locks : (q : ℕ) → (at ws' q).lock ≡ (at ws q).lock)
    (taken : occupied_places ws' ≡ occupied_places ws)
    (outside : (q : ℕ) → (Within (task_at ts i).left (task_at ts i).right q → ⊥) → at ws' q ≡ at ws q)
  where
    inner_frame : Frame sh ws laid shown ws' laid shown (Within (task_at ts i).left (task_at ts i).right)
    inner_frame =
        record {
          size = words_size low inv;
          size' = size ∙ words_size low inv;
          laid_size = inv.plain.size;
          laid_size' = inv.plain.size;
          words = λ q n. ap unlock (outside q n);
          grows = λ q h. occupied_same ws' ws q taken ∙ h;
          laid_words = λ q n. refl;
          keeps = λ e h. h;
        }

    pub inside_stretch :
        ((q : ℕ) → (at ws' q).remainder < 4096) →
        InPhase sh ws' laid shown t' →
        ((q : ℕ) → Owns (task_at ts i) q → Owns t' q) →
        ((u : Task) → Apart (task_at ts i) u → Apart t' u) →
        ((q : ℕ) →
        Within (task_at ts i).left (task_at ts i).right q → (Unfinished t' q → ⊥) → unlock (at ws' q) ≡ at laid q) →
        Steps sh ws ts laid shown i t' ws' laid shown
    inside_stretch small stage kept apart within =
        record {
          plain = inv.plain;
          places = taken ∙ inv.places;
          small = small;
          stage = stage;
          others = λ u a s.
              stage_stable
              inner_frame
              u
              (stretch_alone ws' (task_at ts i) u (omega arith) to_10 x locks a)
              (λ e. refl)
              s;
          apart = λ u a s. apart u a;
          owner = λ q locked. inr (sym (locks q) ∙ locked, kept q);
          settled = λ q own others. go q own others (within? (task_at ts i).left (task_at ts i).right q);
        }
      where
        go :
            (q : ℕ) →
            (Unfinished t' q → ⊥) →
            ((j : ℕ) → j < length ts → j ≢ i → Unfinished (task_at ts j) q → ⊥) →
            Within (task_at ts i).left (task_at ts i).right q
            ⊎ (Within (task_at ts i).left (task_at ts i).right q → ⊥) →
            unlock (at ws' q) ≡ at laid q
        go q own others (inl near) = within q near own
        go q own others (inr far) =
            ap unlock (outside q far) ∙ inv.settled q (λ j l u. none j l u (same_or_not i j))
          where
            none : (j : ℕ) → j < length ts → Unfinished (task_at ts j) q → (j ≡ i) ⊎ (j ≢ i) → ⊥
            none j l u (inl e) = far (subst (λ (k : ℕ). Unfinished (task_at ts k) q) e u).inside
            none j l u (inr n) = others j l n u
