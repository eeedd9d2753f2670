-- The paper's by-place soundness and list are those of runs between void words: `sound_is_table`, `table_is_sound`,
-- `table_entries`.
-- Assumes nothing.
use Prim.Native.Nat.{ℕ, zero, suc, ◌+◌, ◌-◌, ◌≤◌, ◌<◌}
use Rattle.std.specs.Prelude.{◌≡◌, Bool, false, not, ◌&&◌, drop}
use Rattle.std.proofs.Math.Path.{refl, sym, ap, ap₂}
use Rattle.std.proofs.Common.{◌∙◌, subst, add-zero, add-suc, length-append, drop_of_length-le, drop-cons, get_or-append-add}
use Rattle.std.proofs.Math.Bool.{true, cond, and_assoc}
use mathlib.Core.List.{List, [], ◌∷◌, ◌++◌, append_assoc}
use native.Mathlib.Omega.{arith}
use Rattle.std.proofs.lemmas.Bool.{not-true}
use Rattle.std.proofs.Math.ListN.{length, get_or}
use Rattle.rules.specs.declared.Shape.{Shape}
use Rattle.rules.specs.Lists.{count, all}
use Rattle.rules.specs.Word.{Word, zero_word, is_void}
use Rattle.rules.specs.Entry.{Entry}
use Rattle.rules.specs.Shape.{homes, remainders, places, right_guard}
use Rattle.rules.specs.Table.{at, cluster, ends_in_change, rising, sound_run, virgin_places, deal, entry_at, entries_from}
use Rattle.rules.specs.Table.{entries, sound_at, sound_from, guards_void, sound}
use Rattle.theory.specs.Run.{Run}
use Rattle.theory.specs.Dealt.{is_occupied, and_left, and_right, and_both}
use Rattle.theory.specs.RunLaws.{sound_is_run, run_is_sound, run_occupied, run_entries}
use Rattle.theory.specs.Seen.{Right, right_end, right_more, Table, table}
use Rattle.theory.specs.Places.{void_free, run_left, run_cluster, run_cluster_entries}

-- ---- words one after the other
sound_append :
    (sh : Shape) (ws : List Word) (p : ℕ) (xs ys : List Word) →
    sound_from sh ws p (xs ++ ys) ≡ (sound_from sh ws p xs && sound_from sh ws (p + length xs) ys)
unfolding sound_from
sound_append sh ws p [] ys = ap (λ (n : ℕ). sound_from sh ws n ys) (sym (add-zero p))
sound_append sh ws p (x ∷ xs) ys =
    ap (λ (b : Bool). sound_at sh ws p x && b) (sound_append sh ws (suc p) xs ys)
    ∙ sym (and_assoc (sound_at sh ws p x) _ _)
    ∙ ap (λ (n : ℕ). sound_at sh ws p x && sound_from sh ws (suc p) xs && sound_from sh ws n ys) (omega arith)

entries_append :
    (ws : List Word) (p : ℕ) (xs ys : List Word) →
    entries_from ws p (xs ++ ys) ≡ entries_from ws p xs ++ entries_from ws (p + length xs) ys
unfolding entries_from
entries_append ws p [] ys = ap (λ (n : ℕ). entries_from ws n ys) (sym (add-zero p))
entries_append ws p (x ∷ xs) ys =
    ap (λ (es : List Entry). cond x.occupied (entry_at ws p ∷ es) es)
    (entries_append ws (suc p) xs ys ∙ ap (λ (n : ℕ). entries_from ws (suc p) xs ++ entries_from ws n ys) (omega arith))
    ∙ go x.occupied
  where
    go :
        (b : Bool) →
        cond
        b
        (entry_at ws p ∷ (entries_from ws (suc p) xs ++ entries_from ws (p + suc (length xs)) ys))
        (entries_from ws (suc p) xs ++ entries_from ws (p + suc (length xs)) ys)
        ≡ cond b (entry_at ws p ∷ entries_from ws (suc p) xs) (entries_from ws (suc p) xs)
        ++ entries_from ws (p + suc (length xs)) ys
    go true = refl
    go false = refl

pub nothing_sound : (sh : Shape) → sound_run sh [] ≡ true
unfolding sound_run count ends_in_change all rising
nothing_sound sh = refl

-- ---- a run between two unoccupied words
module _ (u : List Word) (g : Word) (run : List Word) (h : Word) (v : List Word)
    (empty_left : g.occupied ≡ false)
    (taken : all is_occupied run ≡ true)
    (empty_right : h.occupied ≡ false)
    (origin : (at (u ++ (g ∷ (run ++ (h ∷ v)))) 0).occupied ≡ false)
  where
    abbrev ws : List Word
    ws = u ++ (g ∷ (run ++ (h ∷ v)))

    -- the run's words from the i-th on are sound where the run is
    run_sound_from :
        (sh : Shape) (i : ℕ) (back : List Word) →
        i + length back ≡ length run →
        sound_run sh run ≡ true → all is_occupied back ≡ true → sound_from sh ws (suc (length u) + i) back ≡ true
    unfolding sound_from sound_at all
    run_sound_from sh i [] size snd occ = refl
    run_sound_from sh i (b ∷ back) size snd occ =
        and_both
        _
        _
        (ap
        (λ (o : Bool). cond o (sound_run sh (cluster ws (suc (length u) + i))) (is_void b))
        (and_left b.occupied _ occ)
        ∙ ap
        (sound_run sh)
        (run_cluster u g run h v empty_left taken empty_right origin (suc (length u) + i) (omega arith) (omega arith))
        ∙ snd)
        (subst
        (λ (n : ℕ). sound_from sh ws n back ≡ true)
        (omega arith)
        (run_sound_from sh (suc i) back (omega arith) snd (and_right b.occupied _ occ)))

    abbrev es : List Entry
    es = deal (virgin_places (suc (length u)) run) run

    run_entry :
        (i : ℕ) → i < length run → entry_at ws (suc (length u) + i) ≡ get_or es i (record { home_place = 0; remainder = 0 })
    unfolding entry_at
    run_entry i lt = ap₂ (λ (fs : List Entry) (n : ℕ). get_or fs n (record { home_place = 0; remainder = 0 }))
        (run_cluster_entries
        u
        g
        run
        h
        v
        empty_left
        taken
        empty_right
        origin
        (suc (length u) + i)
        (omega arith)
        (omega arith))
        (ap
        (λ (l : ℕ). suc (length u) + i - suc l)
        (run_left u g run h v empty_left taken empty_right origin (suc (length u) + i) (omega arith) (omega arith))
        ∙ minus (length u) i)
      where
        minus : (n i : ℕ) → suc n + i - suc n ≡ i
        minus n i = omega arith

    run_entries_from :
        (i : ℕ) (back : List Word) →
        i + length back ≡ length run →
        length es ≡ length run → all is_occupied back ≡ true → entries_from ws (suc (length u) + i) back ≡ drop i es
    unfolding entries_from all
    run_entries_from i [] size long occ = sym (drop_of_length-le es {i = i} (omega arith))
    run_entries_from i (b ∷ back) size long occ =
        ap
        (λ (o : Bool).
        cond o
        (entry_at ws (suc (length u) + i) ∷ entries_from ws (suc (suc (length u) + i)) back)
        (entries_from ws (suc (suc (length u) + i)) back))
        (and_left b.occupied _ occ)
        ∙ ap₂
        ◌∷◌
        (run_entry i (omega arith))
        (ap (λ (n : ℕ). entries_from ws n back) (omega arith)
        ∙ run_entries_from (suc i) back (omega arith) long (and_right b.occupied _ occ))
        ∙ sym (drop-cons es i (record { home_place = 0; remainder = 0 }) (omega arith))

    -- the right gap is sound where it is void
    right_sound : (sh : Shape) (p : ℕ) → sound_at sh ws p h ≡ is_void h
    unfolding sound_at
    right_sound sh p = ap (λ (o : Bool). cond o (sound_run sh (cluster ws p)) (is_void h)) empty_right

    at_first : suc (length u) + 0 ≡ suc (length u)
    at_first = omega arith

    pub sound_past :
        (sh : Shape) →
        sound_run sh run ≡ true →
        is_void h ≡ true →
        sound_from sh ws (suc (suc (length u) + length run)) v ≡ true →
        sound_from sh ws (suc (length u)) (run ++ (h ∷ v)) ≡ true
    unfolding sound_from
    sound_past sh snd hollow rest =
        sound_append sh ws (suc (length u)) run (h ∷ v)
        ∙ and_both
        _
        _
        (subst (λ (n : ℕ). sound_from sh ws n run ≡ true) at_first (run_sound_from sh 0 run (omega arith) snd taken))
        (and_both _ _ (right_sound sh (suc (length u) + length run) ∙ hollow) rest)

    pub entries_past :
        length es ≡ length run →
        entries_from ws (suc (length u)) (run ++ (h ∷ v)) ≡ es ++ entries_from ws (suc (suc (length u) + length run)) v
    unfolding entries_from
    entries_past long =
        entries_append ws (suc (length u)) run (h ∷ v)
        ∙ ap₂
        ◌++◌
        (subst (λ (n : ℕ). entries_from ws n run ≡ es) at_first (run_entries_from 0 run (omega arith) long taken))
        (ap
        (λ (o : Bool).
        cond o
        (entry_at ws (suc (length u) + length run) ∷ entries_from ws (suc (suc (length u) + length run)) v)
        (entries_from ws (suc (suc (length u) + length run)) v))
        empty_right)

    -- the other way: what soundness from the run's first place on tells
    pub record Past (sh : Shape) : Type 0 where
      pub snd : sound_run sh run ≡ true
      pub hollow : is_void h ≡ true
      pub rest : sound_from sh ws (suc (suc (length u) + length run)) v ≡ true

    run_sound :
        (sh : Shape) (xs : List Word) → run ≡ xs → sound_from sh ws (suc (length u)) xs ≡ true → sound_run sh run ≡ true
    unfolding sound_from sound_at all
    run_sound sh [] e t = ap (sound_run sh) e ∙ nothing_sound sh
    run_sound sh (b ∷ back) e t =
        ap
        (sound_run sh)
        (sym
        (run_cluster
        u
        g
        run
        h
        v
        empty_left
        taken
        empty_right
        origin
        (suc (length u))
        (omega arith)
        (omega (arith, ap length e))))
        ∙ ap
        (λ (o : Bool). cond o (sound_run sh (cluster ws (suc (length u)))) (is_void b))
        (sym (and_left b.occupied _ (sym (ap (all is_occupied) e) ∙ taken)))
        ∙ and_left (sound_at sh ws (suc (length u)) b) _ t

    pub past : (sh : Shape) → sound_from sh ws (suc (length u)) (run ++ (h ∷ v)) ≡ true → Past sh
    unfolding sound_from
    past sh t =
        record {
          snd = run_sound sh run refl (and_left (sound_from sh ws (suc (length u)) run) _ both);
          hollow = sym (right_sound sh _) ∙ and_left (sound_at sh ws (suc (length u) + length run) h) _ after;
          rest = and_right (sound_at sh ws (suc (length u) + length run) h) _ after;
        }
      where
        both : (sound_from sh ws (suc (length u)) run && sound_from sh ws (suc (length u) + length run) (h ∷ v)) ≡ true
        both = sym (sound_append sh ws (suc (length u)) run (h ∷ v)) ∙ t

        after : sound_from sh ws (suc (length u) + length run) (h ∷ v) ≡ true
        after = and_right (sound_from sh ws (suc (length u)) run) _ both

-- ---- words as runs between unoccupied ones
data Spans : List Word → Type 0 where
  span_end : Spans []
  span_more :
      {ws : List Word} (run : List Word) (h : Word) (v : List Word) →
      all is_occupied run ≡ true → h.occupied ≡ false → Spans v → ws ≡ run ++ (h ∷ v) → Spans ws

-- the last word, if any, is unoccupied
abbrev Closes : List Word → Type 0
Closes [] = Unit {0}
Closes (w ∷ []) = w.occupied ≡ false
Closes (w ∷ v ∷ ws) = Closes (v ∷ ws)

closes_at : (ws : List Word) (n : ℕ) → length ws ≡ suc n → (at ws n).occupied ≡ false → Closes ws
closes_at [] n size free = absurd (omega arith)
closes_at (w ∷ []) zero size free = free
closes_at (w ∷ []) (suc n) size free = absurd (omega arith)
closes_at (w ∷ v ∷ ws) zero size free = absurd (omega arith)
closes_at (w ∷ v ∷ ws) (suc n) size free = closes_at (v ∷ ws) n (omega arith) free

spans_more : (w v : Word) (ws : List Word) (b : Bool) → w.occupied ≡ b → Spans (v ∷ ws) → Spans (w ∷ v ∷ ws)
unfolding all
spans_more w v ws false e rest = span_more [] w (v ∷ ws) refl e rest refl
spans_more w v ws true e (span_more run h u occ free rest f) =
    span_more (w ∷ run) h u (and_both _ _ e occ) free rest (ap (λ (t : List Word). w ∷ t) f)

spans : (ws : List Word) → Closes ws → Spans ws
unfolding all
spans [] c = span_end
spans (w ∷ []) c = span_more [] w [] refl c span_end refl
spans (w ∷ v ∷ ws) c = spans_more w v ws w.occupied refl (spans (v ∷ ws) c)

-- ---- both directions
-- one run further: the words are the same, seen from the gap after the run
further :
    (ws u : List Word) (g : Word) (run : List Word) (h : Word) (v w : List Word) →
    ws ≡ u ++ (g ∷ v) → v ≡ run ++ (h ∷ w) → ws ≡ (u ++ (g ∷ run)) ++ (h ∷ w)
further ws u g run h v w eq f =
    eq ∙ ap (λ (t : List Word). u ++ (g ∷ t)) f ∙ sym (append_assoc u (g ∷ run) (h ∷ w))

further_place :
    (u : List Word) (g : Word) (run : List Word) (q : ℕ) →
    q ≡ suc (length u) → suc (q + length run) ≡ suc (length (u ++ (g ∷ run)))
further_place u g run q at_q = omega (arith, length-append u (g ∷ run))

-- a run of a table in which one knows where things stand: what holds at the words as seen from the run holds at the
-- table
module _ (sh : Shape) (ws u : List Word) (g : Word) (run : List Word) (h : Word) (v w : List Word) (q : ℕ)
    (free : g.occupied ≡ false)
    (occ : all is_occupied run ≡ true)
    (empty : h.occupied ≡ false)
    (origin : (at ws 0).occupied ≡ false)
    (eq : ws ≡ u ++ (g ∷ v))
    (f : v ≡ run ++ (h ∷ w))
    (at_q : q ≡ suc (length u))
  where
    abbrev seen : List Word
    seen = u ++ (g ∷ (run ++ (h ∷ w)))

    same : ws ≡ seen
    same = eq ∙ ap (λ (t : List Word). u ++ (g ∷ t)) f

    pub origin_seen : (at seen 0).occupied ≡ false
    origin_seen = sym (ap (λ (t : List Word). (at t 0).occupied) same) ∙ origin

    pub sound_seen : sound_from sh ws q v ≡ sound_from sh seen (suc (length u)) (run ++ (h ∷ w))
    sound_seen =
        ap (λ (t : List Word). sound_from sh t q v) same ∙ ap₂ (sound_from sh seen) at_q f

    pub sound_rest : sound_from sh ws (suc (q + length run)) w ≡ sound_from sh seen (suc (suc (length u) + length run)) w
    sound_rest =
        ap₂ (λ (t : List Word) (n : ℕ). sound_from sh t (suc (n + length run)) w) same at_q

    pub look : sound_from sh ws q v ≡ true → Past u g run h w free occ empty origin_seen sh
    look t = past u g run h w free occ empty origin_seen sh (sym sound_seen ∙ t)

    shown : List Entry
    shown = deal (virgin_places (suc (length u)) run) run

    entries_seen : length shown ≡ length run → entries_from ws q v ≡ shown ++ entries_from ws (suc (q + length run)) w
    unfolding shown
    entries_seen long =
        ap (λ (t : List Word). entries_from t q v) same
        ∙ ap₂ (entries_from seen) at_q f
        ∙ entries_past u g run h w free occ empty origin_seen long
        ∙ sym (ap₂ (λ (t : List Word) (n : ℕ). shown ++ entries_from t (suc (n + length run)) w) same at_q)

right_of :
    (sh : Shape) (ws u : List Word) (g : Word) {v : List Word} (q : ℕ) →
    remainders sh ≤ 4096 →
    Spans v →
    g.occupied ≡ false →
    (at ws 0).occupied ≡ false →
    ws ≡ u ++ (g ∷ v) →
    q ≡ suc (length u) → sound_from sh ws q v ≡ true → Right (remainders sh) q v (entries_from ws q v)
unfolding entries_from shown
right_of sh ws u g q s span_end free origin eq at_q snd = right_end refl refl
right_of sh ws u g {v} q s (span_more run h w occ empty rest f) free origin eq at_q snd =
    right_more
    run
    h
    w
    (shown sh ws u g run h v w q free occ empty origin eq f at_q)
    (entries_from ws (suc (q + length run)) w)
    (subst (λ (n : ℕ). Run (remainders sh) n run (deal (virgin_places (suc (length u)) run) run)) (sym at_q) here)
    facts.hollow
    (right_of
    sh
    ws
    (u ++ (g ∷ run))
    h
    (suc (q + length run))
    s
    rest
    empty
    origin
    (further ws u g run h v w eq f)
    (further_place u g run q at_q)
    (sound_rest sh ws u g run h v w q free occ empty origin eq f at_q ∙ facts.rest))
    f
    (entries_seen sh ws u g run h v w q free occ empty origin eq f at_q here.size)
  where
    facts : Past u g run h w free occ empty (origin_seen sh ws u g run h v w q free occ empty origin eq f at_q) sh
    facts = look sh ws u g run h v w q free occ empty origin eq f at_q snd

    here : Run (remainders sh) (suc (length u)) run (deal (virgin_places (suc (length u)) run) run)
    here = sound_is_run sh (suc (length u)) run s occ facts.snd

-- a table whose words and clusters are sound and whose guards are unoccupied
pub sound_is_table :
    (sh : Shape) (ws : List Word) →
    remainders sh ≤ 4096 → length ws ≡ places sh → sound sh ws ≡ true → Table (remainders sh) ws (entries ws)
unfolding sound entries entries_from sound_from sound_at places right_guard
sound_is_table sh [] s size snd = absurd (omega arith)
sound_is_table sh (g ∷ v) s size snd =
    subst
    (Table (remainders sh) (g ∷ v))
    (ap (λ (o : Bool). cond o (entry_at (g ∷ v) 0 ∷ entries_from (g ∷ v) 1 v) (entries_from (g ∷ v) 1 v)) (sym free))
    (table void (right_of sh (g ∷ v) [] g 1 s (spans v closed) free free refl refl rest))
  where
    guards : (not g.occupied && not (at (g ∷ v) (right_guard sh)).occupied) ≡ true
    guards = and_left _ (sound_from sh (g ∷ v) 0 (g ∷ v)) snd

    every : sound_from sh (g ∷ v) 0 (g ∷ v) ≡ true
    every = and_right (not g.occupied && not (at (g ∷ v) (right_guard sh)).occupied) _ snd

    free : g.occupied ≡ false
    free = not-true _ (and_left (not g.occupied) _ guards)

    void : is_void g ≡ true
    void =
        ap (λ (o : Bool). cond o (sound_run sh (cluster (g ∷ v) 0)) (is_void g)) (sym free)
        ∙ and_left (sound_at sh (g ∷ v) 0 g) _ every

    rest : sound_from sh (g ∷ v) 1 v ≡ true
    rest = and_right (sound_at sh (g ∷ v) 0 g) _ every

    tail : (xs : List Word) → Closes (g ∷ xs) → Closes xs
    tail [] c = tt
    tail (x ∷ xs) c = c

    closed : Closes v
    closed =
        tail v
        (closes_at (g ∷ v) (right_guard sh) (omega arith) (not-true _ (and_right (not g.occupied) _ guards)))

-- soundness and entries from a place on
abbrev SoundShows : Shape → List Word → ℕ → List Word → List Entry → Type 0
SoundShows sh ws q v es = (sound_from sh ws q v ≡ true) × (entries_from ws q v ≡ es)

from_step :
    (sh : Shape)
    (ws u : List Word)
    (g : Word)
    (run : List Word)
    (h : Word)
    (v w : List Word)
    (q : ℕ)
    (xs ys : List Entry)
    →
    remainders sh ≤ 4096 →
    g.occupied ≡ false →
    (at ws 0).occupied ≡ false →
    ws ≡ u ++ (g ∷ v) →
    q ≡ suc (length u) →
    Run (remainders sh) q run xs →
    is_void h ≡ true →
    v ≡ run ++ (h ∷ w) → SoundShows sh ws (suc (q + length run)) w ys → SoundShows sh ws q v (xs ++ ys)
unfolding shown
from_step sh ws u g run h v w q xs ys s free origin eq at_q r hollow f after = (
  sound_seen sh ws u g run h v w q free occ empty origin eq f at_q
      ∙ sound_past
      u
      g
      run
      h
      w
      free
      occ
      empty
      (origin_seen sh ws u g run h v w q free occ empty origin eq f at_q)
      sh
      (run_is_sound sh s r)
      hollow
      (sym (sound_rest sh ws u g run h v w q free occ empty origin eq f at_q) ∙ after.0),
  entries_seen sh ws u g run h v w q free occ empty origin eq f at_q (ap length here ∙ r.size)
      ∙ ap₂ ◌++◌ here after.1,
)
  where
    occ : all is_occupied run ≡ true
    occ = run_occupied r

    empty : h.occupied ≡ false
    empty = void_free h hollow

    here : deal (virgin_places (suc (length u)) run) run ≡ xs
    here = ap (λ (n : ℕ). deal (virgin_places n run) run) (sym at_q) ∙ run_entries s r

from_right :
    (sh : Shape) (ws u : List Word) (g : Word) {v : List Word} (q : ℕ) {es : List Entry} →
    remainders sh ≤ 4096 →
    g.occupied ≡ false →
    (at ws 0).occupied ≡ false →
    ws ≡ u ++ (g ∷ v) → q ≡ suc (length u) → Right (remainders sh) q v es → SoundShows sh ws q v es
unfolding entries_from sound_from
from_right sh ws u g q s free origin eq at_q (right_end p e) =
    (ap (sound_from sh ws q) p, ap (entries_from ws q) p ∙ sym e)
from_right sh ws u g {v} q s free origin eq at_q (right_more run h w xs ys r hollow rest f e) =
    subst
    (SoundShows sh ws q v)
    (sym e)
    (from_step
    sh
    ws
    u
    g
    run
    h
    v
    w
    q
    xs
    ys
    s
    free
    origin
    eq
    at_q
    r
    hollow
    f
    (from_right
    sh
    ws
    (u ++ (g ∷ run))
    h
    (suc (q + length run))
    s
    (void_free h hollow)
    origin
    (further ws u g run h v w eq f)
    (further_place u g run q at_q)
    rest))

table_shows :
    (sh : Shape) {ws : List Word} {es : List Entry} → remainders sh ≤ 4096 → Table (remainders sh) ws es →
    SoundShows sh ws 0 ws es
unfolding entries_from sound_from sound_at
table_shows sh s (table {g = g} {v = v} {es = es} void right) = (
  and_both _ _
      (ap (λ (o : Bool). cond o (sound_run sh (cluster (g ∷ v) 0)) (is_void g)) (void_free g void) ∙ void)
      after.0,
  ap (λ (o : Bool). cond o (entry_at (g ∷ v) 0 ∷ entries_from (g ∷ v) 1 v) (entries_from (g ∷ v) 1 v)) (void_free g void)
      ∙ after.1,
)
  where
    after : SoundShows sh (g ∷ v) 1 v es
    after = from_right sh (g ∷ v) [] g 1 s (void_free g void) (void_free g void) refl refl right

pub table_entries :
    (sh : Shape) {ws : List Word} {es : List Entry} → remainders sh ≤ 4096 → Table (remainders sh) ws es →
    entries ws ≡ es
unfolding entries
table_entries sh s t = (table_shows sh s t).1

-- the last word of a table is void
last_void :
    {d p : ℕ} {ws : List Word} {es : List Entry} (g : Word) →
    is_void g ≡ true → Right d p ws es → is_void (at (g ∷ ws) (length ws)) ≡ true
last_void g void (right_end e f) = ap (λ (t : List Word). is_void (at (g ∷ t) (length t))) e ∙ void
last_void g void (right_more run h v xs ys r hollow rest e f) =
    ap (λ (t : List Word). is_void (at (g ∷ t) (length t))) e
    ∙ ap (λ (n : ℕ). is_void (at (g ∷ (run ++ (h ∷ v))) n)) (length-append run (h ∷ v) ∙ add-suc (length run) (length v))
    ∙ ap is_void (get_or-append-add run (h ∷ v) (length v) zero_word)
    ∙ last_void h hollow rest

pub table_guards :
    (sh : Shape) {ws : List Word} {es : List Entry} →
    length ws ≡ places sh → Table (remainders sh) ws es → guards_void sh ws ≡ true
unfolding guards_void places right_guard
table_guards sh size (table {g = g} {v = v} void right) =
    let far : homes sh + 1 ≡ length v = omega arith in
    and_both _ _ void (ap (λ (n : ℕ). is_void (at (g ∷ v) n)) far ∙ last_void g void right)

pub table_is_sound :
    (sh : Shape) {ws : List Word} {es : List Entry} →
    remainders sh ≤ 4096 → length ws ≡ places sh → Table (remainders sh) ws es → sound sh ws ≡ true
unfolding sound guards_void
table_is_sound sh {ws} s size t =
    and_both
    _
    _
    (and_both
    _
    _
    (ap not (void_free _ (and_left (is_void (at ws 0)) _ (table_guards sh size t))))
    (ap not (void_free _ (and_right (is_void (at ws 0)) _ (table_guards sh size t)))))
    (table_shows sh s t).0
