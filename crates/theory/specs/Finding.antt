-- What find and put look at, on a table: the surroundings of a key's home are sound, unlocked where the table is, and
-- the cluster there has the key exactly if the table has it. Hence find on a table.
-- Assumes nothing.
use Rattle.std.specs.Prelude.{ℕ, zero, suc, ◌+◌, ◌≤◌, ◌<◌, ◌≡◌, refl, Bool, true, false, ◌||◌, List, [], ◌∷◌, ◌++◌, length, take, drop}
use Rattle.std.proofs.Common.{sym, ap, ap₂, ◌∙◌, subst, subst₂, true≢false, arith}
use Rattle.std.proofs.Math.Bool.{or-false}
use Rattle.rules.specs.declared.Shape.{Shape}
use Rattle.rules.specs.Lists.{bit_of, all, any}
use Rattle.rules.specs.Word.{Word, is_void}
use Rattle.rules.specs.Entry.{Entry}
use Rattle.rules.specs.Shape.{remainders, places}
use Rattle.rules.specs.Table.{at, occupied_places, left_gap, right_gap, cluster, sound_run, cluster_entries, guards_void}
use Rattle.rules.specs.Table.{locked}
use Rattle.rules.specs.Lay.{holds}
use Rattle.rules.specs.Answer.{says}
use Rattle.rules.specs.Find.{around, sound_around, locked_around, find_in}
use Rattle.table_words.specs.Tests.{refuted}
use Rattle.theory.specs.Run.{Asc}
use Rattle.theory.specs.Dealt.{is_occupied, and_both}
use Rattle.theory.specs.RunLaws.{run_is_sound, run_occupied, run_entries}
use Rattle.theory.specs.Insert.{asc_all, held_all, holds_below, holds_append}
use Rattle.theory.specs.Gaps.{HomePlace}
use Rattle.theory.specs.Seen.{Table, table, AtGap, InRun, Located, at_gap, in_run, locate, left_asc, right_asc}
use Rattle.theory.specs.Places.{void_free, at_seam, at_after, seam_free, gap_left, gap_right, gap_cluster}
use Rattle.theory.specs.Places.{gap_entries, run_left, run_right, run_cluster, run_cluster_entries}
use Rattle.theory.specs.SoundTable.{table_guards, nothing_sound}

-- ---- who has an entry
pub holds_right : {d c b : ℕ} {es : List Entry} (e : Entry) → Asc d c b es → c ≤ e.home_place → holds e es ≡ false
holds_right {es = es} e up le = refuted (holds e es) (λ t. omega (arith, (held_all e (asc_all up) t).inside))

-- ---- the surroundings of a home
pub record Surroundings (sh : Shape) (ws : List Word) (es : List Entry) (e : Entry) : Type 0 where
  pub sound : sound_around sh ws e.home_place ≡ true
  pub same : holds e (cluster_entries ws e.home_place) ≡ holds e es

pub origin : {d : ℕ} {ws : List Word} {es : List Entry} → Table d ws es → (at ws 0).occupied ≡ false
origin (table {g = g} void right) = void_free g void

-- soundness of the surroundings from their parts
sound_parts :
    (sh : Shape) (ws : List Word) (p l r : ℕ) (run : List Word) →
    guards_void sh ws ≡ true →
    left_gap (occupied_places ws) p ≡ l →
    right_gap (occupied_places ws) p ≡ r →
    cluster ws p ≡ run →
    is_void (at ws l) ≡ true → is_void (at ws r) ≡ true → sound_run sh run ≡ true → sound_around sh ws p ≡ true
unfolding sound_around
sound_parts sh ws p l r run guards left right mid void hollow snd =
    and_both
    _
    _
    (and_both
    _
    _
    guards
    (and_both _ _ (ap (λ (q : ℕ). is_void (at ws q)) left ∙ void) (ap (λ (q : ℕ). is_void (at ws q)) right ∙ hollow)))
    (ap (sound_run sh) mid ∙ snd)

gap_surroundings :
    (sh : Shape) {ws : List Word} {es : List Entry} (e : Entry) →
    remainders sh ≤ 4096 →
    e.remainder < remainders sh →
    guards_void sh ws ≡ true → AtGap (remainders sh) ws es e.home_place →
    Surroundings sh ws es e
unfolding holds any
gap_surroundings sh {ws} {es} e s low guards t =
    record {
      sound =
          subst₂
          (λ (vs : List Word) (q : ℕ). sound_around sh vs q ≡ true)
          (sym t.words)
          (sym t.here)
          (sound_parts
          sh
          vs
          n
          n
          n
          []
          (sym (ap (guards_void sh) t.words) ∙ guards)
          (gap_left vs n empty)
          (gap_right vs n empty)
          (gap_cluster vs n empty)
          (ap is_void (at_seam t.u t.g t.v) ∙ t.void)
          (ap is_void (at_seam t.u t.g t.v) ∙ t.void)
          (nothing_sound sh));
      same =
          ap₂ (λ (xs : List Word) (q : ℕ). holds e (cluster_entries xs q)) t.words t.here
          ∙ ap (holds e) (gap_entries vs n empty)
          ∙ sym
          (ap (holds e) t.shown
          ∙ holds_append e t.xs t.ys
          ∙ ap₂
          ◌||◌
          (holds_right e (left_asc s t.left) (omega (arith, t.here)))
          (holds_below e (right_asc s t.right) (omega (arith, t.here))));
    }
  where
    vs : List Word
    vs = t.u ++ (t.g ∷ t.v)

    n : ℕ
    n = length t.u

    empty : (at vs n).occupied ≡ false
    empty = seam_free t.u t.g t.v t.void

run_surroundings :
    (sh : Shape) {ws : List Word} {es : List Entry} (e : Entry) →
    remainders sh ≤ 4096 →
    e.remainder < remainders sh →
    guards_void sh ws ≡ true → (at ws 0).occupied ≡ false → InRun (remainders sh) ws es e.home_place →
    Surroundings sh ws es e
run_surroundings sh {ws} {es} e s low guards free t =
    record {
      sound =
          subst
          (λ (xs : List Word). sound_around sh xs e.home_place ≡ true)
          (sym t.words)
          (sound_parts
          sh
          vs
          e.home_place
          (length t.u)
          (suc (length t.u) + length t.run)
          t.run
          (sym (ap (guards_void sh) t.words) ∙ guards)
          (run_left t.u t.g t.run t.h t.v empty taken hollow start e.home_place t.after t.before)
          (run_right t.u t.g t.run t.h t.v empty taken hollow start e.home_place t.after
          t.before)
          (run_cluster t.u t.g t.run t.h t.v empty taken hollow start e.home_place t.after
          t.before)
          (ap is_void (at_seam t.u t.g (t.run ++ (t.h ∷ t.v))) ∙ t.void)
          (ap
          is_void
          (at_after t.u t.g (t.run ++ (t.h ∷ t.v)) (length t.run) ∙ at_seam t.run t.h t.v)
          ∙ t.hollow)
          (run_is_sound sh s t.inside));
      same =
          ap (λ (xs : List Word). holds e (cluster_entries xs e.home_place)) t.words
          ∙ ap (holds e)
          (run_cluster_entries
          t.u
          t.g
          t.run
          t.h
          t.v
          empty
          taken
          hollow
          start
          e.home_place
          t.after
          t.before
          ∙ run_entries s t.inside)
          ∙ sym
          (ap (holds e) t.shown
          ∙ holds_append e t.xs (t.ys ++ t.zs)
          ∙ ap₂
          ◌||◌
          (holds_right e (left_asc s t.left) (omega (arith, t.after)))
          (holds_append e t.ys t.zs
          ∙ ap (λ (b : Bool). holds e t.ys || b) (holds_below e (right_asc s t.right) (omega (arith, t.before)))
          ∙ or-false (holds e t.ys)));
    }
  where
    vs : List Word
    vs = t.u ++ (t.g ∷ (t.run ++ (t.h ∷ t.v)))

    empty : t.g.occupied ≡ false
    empty = void_free t.g t.void

    hollow : t.h.occupied ≡ false
    hollow = void_free t.h t.hollow

    taken : all is_occupied t.run ≡ true
    taken = run_occupied t.inside

    start : (at vs 0).occupied ≡ false
    start = sym (ap (λ (xs : List Word). (at xs 0).occupied) t.words) ∙ free

pub surroundings :
    (sh : Shape) {ws : List Word} {es : List Entry} (e : Entry) →
    remainders sh ≤ 4096 →
    length ws ≡ places sh →
    HomePlace sh e.home_place →
    e.remainder < remainders sh → Table (remainders sh) ws es → Surroundings sh ws es e
unfolding places
surroundings sh {ws} {es} e s size k low t = go (locate e.home_place t (omega arith))
  where
    go : Located (remainders sh) ws es e.home_place → Surroundings sh ws es e
    go (at_gap x) = gap_surroundings sh e s low (table_guards sh size t) x
    go (in_run x) = run_surroundings sh e s low (table_guards sh size t) (origin t) x

-- ---- locks: a part of an unlocked table is unlocked
any_take : (f : Word → Bool) (n : ℕ) (ws : List Word) → any f ws ≡ false → any f (take n ws) ≡ false
unfolding any
any_take f zero ws h = refl
any_take f (suc n) [] h = refl
any_take f (suc n) (w ∷ ws) h = go (f w) refl h (any_take f n ws)
  where
    go :
        (b : Bool) → f w ≡ b → (b || any f ws) ≡ false → (any f ws ≡ false → any f (take n ws) ≡ false) →
        (f w || any f (take n ws)) ≡ false
    go true e t rest = absurd (true≢false t)
    go false e t rest = ap₂ ◌||◌ e (rest t)

any_drop : (f : Word → Bool) (n : ℕ) (ws : List Word) → any f ws ≡ false → any f (drop n ws) ≡ false
unfolding any
any_drop f zero ws h = h
any_drop f (suc n) [] h = refl
any_drop f (suc n) (w ∷ ws) h = any_drop f n ws (go (f w) h)
  where
    go : (b : Bool) → (b || any f ws) ≡ false → any f ws ≡ false
    go true t = absurd (true≢false t)
    go false t = t

pub around_free : (ws : List Word) (p : ℕ) → locked ws ≡ false → locked_around ws p ≡ false
unfolding locked_around around locked
around_free ws p free = any_drop _ (left_gap (occupied_places ws) p) _
    (any_take _ (suc (right_gap (occupied_places ws) p)) ws free)

-- find on an unlocked table says present exactly for the entries that it shows
pub find_table :
    (sh : Shape) {ws : List Word} {es : List Entry} (e : Entry) →
    remainders sh ≤ 4096 →
    length ws ≡ places sh →
    HomePlace sh e.home_place →
    e.remainder < remainders sh →
    Table (remainders sh) ws es → locked ws ≡ false → find_in sh ws e ≡ says (bit_of (holds e es))
unfolding find_in
find_table sh {ws} e s size k low t free =
    let look = surroundings sh e s size k low t in
    rw (look.sound, around_free ws e.home_place free, look.same)
