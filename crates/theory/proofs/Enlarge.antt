-- A run and a filled word at one side of it, in their region alone: finishing there lays the run with the key added.
-- The filled word is wedged into the run at its begin or at its end; all else is the same for both sides.
-- Assumes nothing.
use Rattle.std.specs.Prelude.{ℕ, zero, suc, ◌+◌, ◌-◌, ◌≤◌, ◌<◌, ◌≡◌, refl, Bool, true, false, List, ◌∷◌, map, length}
use Rattle.std.proofs.Common.{add-zero, arith, sym, ap, ◌∙◌, ne_eqb}
use Rattle.std.proofs.lemmas.List.{length-map}
use Rattle.rules.specs.Lists.{any}
use Rattle.rules.specs.Word.{Word, zero_word, is_void}
use Rattle.rules.specs.Entry.{Entry}
use Rattle.rules.specs.Lay.{has_home}
use Rattle.rules.specs.Put.{lay_run}
use Rattle.rules.specs.Phase.{marked}
use Rattle.theory.specs.Run.{Run, unlock}
use Rattle.theory.specs.Every as every
use Rattle.theory.specs.Every.{All, all_map}
use Rattle.theory.specs.Insert.{asc_all}
use Rattle.theory.specs.Locks.{void_unlock}
use Rattle.theory.specs.Motion.{fill_at, moves, distance, finish}
use Rattle.theory.proofs.Region.{fill_at_unlock, finish_unlock}
use Rattle.theory.specs.Payload.{loaded, wedge, map_wedge, wedge_loaded, fill_at_wedge, length_wedge}
use Rattle.theory.proofs.MovesWedge.{moves_wedge}
use Rattle.theory.specs.Mark.{Goes}
use Rattle.theory.specs.Gaps.{Side, left, right}
use Rattle.theory.specs.Side.{beside, begins, stands, index, index_le, beside_wedge}
use Rattle.theory.specs.Laid.{payloads, sites, occupied_word, lay_run_loaded, length_payloads, length_sites}
use Rattle.theory.specs.Laid.{marked_loaded, recharged, rehomed}

-- ---- the sites of the enlarged run

-- a site that is not virgin, beside the others
sites_beside :
    (side : Side) (v : ℕ → Bool) (a n : ℕ) → v (stands side a n) ≡ false →
    wedge (index side n) (occupied_word 0 false false) (sites v (begins side a) n) ≡ sites v a (suc n)
sites_beside left v a n h = rw h
sites_beside right v a zero h = rw (ap v (sym (add-zero a)) ∙ h)
sites_beside right v a (suc n) h =
    ap
    (λ (ws : List Word). occupied_word 0 (v a) false ∷ ws)
    (sites_beside right v (suc a) n (ap v (let e : suc a + n ≡ a + suc n = omega arith in e) ∙ h))

home_outside : (q : ℕ) {es : List Entry} → All (λ (f : Entry). f.home_place ≡ q → ⊥) es → has_home es q ≡ false
unfolding has_home any
home_outside q every.none = refl
home_outside q (every.both {x = f} h hs) = rw (ne_eqb f.home_place q h, home_outside q hs)

-- no entry of the run has its home at the filled place
not_home :
    {d : ℕ} {run : List Word} {es : List Entry} (side : Side) (a : ℕ) → d ≤ 4096 → Run d (begins side a) run es →
    has_home es (stands side a (length run)) ≡ false
not_home left a low r = home_outside a (all_map (λ f w e. omega (arith, w.above, w.low)) (asc_all r.asc))
not_home {run = run} right a low r =
    home_outside (a + length run) (all_map (λ f w e. omega (arith, w.inside)) (asc_all r.asc))

-- ---- the words of the region

-- the word that the fill leaves, wedged into the laid run, is a payload on one more site
filled_loaded :
    (side : Side) (x a : ℕ) (es : List Entry) → has_home es (stands side a (length es)) ≡ false →
    wedge (index side (length es)) (occupied_word x false false) (lay_run (begins side a) es)
    ≡ loaded
    (wedge (index side (length es)) (occupied_word x false false) (payloads es))
    (sites (has_home es) a (suc (length es)))
filled_loaded side x a es h =
    ap (wedge (index side (length es)) (occupied_word x false false)) (lay_run_loaded (begins side a) es)
    ∙ wedge_loaded (index side (length es)) (occupied_word x false false) (occupied_word 0 false false) (payloads es)
    (sites (has_home es) (begins side a) (length es))
    (length_payloads es ∙ sym (length_sites (has_home es) (begins side a) (length es)))
    ∙ ap (loaded (wedge (index side (length es)) (occupied_word x false false) (payloads es)))
    (sites_beside side (has_home es) a (length es) h)

-- finishing there
finish_laid :
    {d c m t : ℕ} {e : Entry} {es : List Entry} (side : Side) (a : ℕ) →
    Goes d c e m t es → t ≤ length es → has_home es (stands side a (length es)) ≡ false →
    a ≤ e.home_place → e.home_place < a + suc (length es) →
    finish
    (wedge (index side (length es)) (occupied_word e.remainder false false) (lay_run (begins side a) es))
    (index side (length es))
    t
    m
    (e.home_place - a)
    ≡ lay_run a (wedge t e es)
unfolding finish
finish_laid {m = m} {t = t} {e = e} {es = es} side a v h out p q =
    let n = length es in
    let i = index side n in
    let key = occupied_word e.remainder false false in
    let ls = payloads es in
    let ws = sites (has_home es) a (suc n) in
    let k : length ls ≡ n = length_payloads es in
    let r : length ws ≡ suc n = length_sites (has_home es) a (suc n) in
    let carried : moves (distance i t) (loaded (wedge i key ls) ws) i t ≡ loaded (wedge t key ls) ws =
    moves_wedge (distance i t) i t key ls ws refl (omega (arith, index_le side n)) (omega arith) (omega arith) in
    ap
    (λ (us : List Word). marked (moves (distance i t) us i t) m t (e.home_place - a))
    (filled_loaded side e.remainder a es out)
    ∙ ap (λ (us : List Word). marked us m t (e.home_place - a)) carried
    ∙ marked_loaded (wedge t key ls) ws m t (e.home_place - a)
    ∙ (λ j. loaded (recharged v j) (rehomed v a (suc n) p q j))
    ∙ ap (λ (l : ℕ). loaded (payloads (wedge t e es)) (sites (has_home (wedge t e es)) a l)) (sym (length_wedge t e es))
    ∙ sym (lay_run_loaded a (wedge t e es))

-- the fill of a void word beside a run, lock bits aside
fill_beside :
    {d : ℕ} {run : List Word} {es : List Entry} (side : Side) (a x : ℕ) (g : Word) →
    is_void g ≡ true → Run d (begins side a) run es →
    map unlock (fill_at x (beside side g run) (index side (length run)))
    ≡ wedge (index side (length run)) (occupied_word x false false) (lay_run (begins side a) es)
fill_beside {run = run} {es = es} side a x g free r =
    let i = index side (length run) in
    let k : length (lay_run (begins side a) es) ≡ length run = ap length r.laid ∙ length-map run unlock in
    fill_at_unlock x (beside side g run) i
    ∙ ap (λ (ws : List Word). fill_at x (map unlock ws) i) (beside_wedge side g run)
    ∙ ap
    (λ (ws : List Word). fill_at x ws i)
    (map_wedge unlock i g run ∙ (λ j. wedge i (void_unlock g free j) (sym r.laid j)))
    ∙ fill_at_wedge x i zero_word (lay_run (begins side a) es) (omega (arith, index_le side (length run)))

-- the region of a run and a void word beside it, after the fill and finishing, lock bits aside
pub enlarge :
    {d c m t : ℕ} {e : Entry} {run : List Word} {es : List Entry} (side : Side) (a : ℕ) (g : Word) →
    is_void g ≡ true → d ≤ 4096 → Run d (begins side a) run es →
    Goes d c e m t es → t ≤ length es → a ≤ e.home_place → e.home_place < a + suc (length es) →
    map unlock
    (finish (fill_at e.remainder (beside side g run) (index side (length run))) (index side (length run)) t m
    (e.home_place - a))
    ≡ lay_run a (wedge t e es)
enlarge {m = m} {t = t} {e = e} {run = run} {es = es} side a g free low r v h p q =
    let i = index side (length run) in
    let key = occupied_word e.remainder false false in
    finish_unlock (fill_at e.remainder (beside side g run) i) i t m (e.home_place - a)
    ∙ ap (λ (ws : List Word). finish ws i t m (e.home_place - a)) (fill_beside side a e.remainder g free r)
    ∙ ap
    (λ (n : ℕ). finish (wedge (index side n) key (lay_run (begins side a) es)) (index side n) t m (e.home_place - a))
    (sym r.size)
    ∙ finish_laid side a v h (ap (λ (n : ℕ). has_home es (stands side a n)) r.size ∙ not_home side a low r) p q
