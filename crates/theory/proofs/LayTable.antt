-- B: laying a tight pair gives a table of that pair, `lay_table`. The heart is `lay_right`, over the places right of an
-- empty one.
-- Assumes nothing.
use Rattle.std.specs.Prelude.{ℕ, suc, ◌+◌, ◌≤◌, refl, Bool, true, false, List, ◌∷◌, ◌++◌, length, replicate}
use Rattle.std.proofs.Common.{ap, ap₂, ◌∙◌, subst, arith, le_refl}
use Rattle.rules.specs.Word.{zero_word, is_void}
use Rattle.rules.specs.Entry.{Entry}
use Rattle.rules.specs.Lay.{has_home, lay}
use Rattle.theory.specs.Run.{Run}
use Rattle.theory.specs.Insert.{asc_weaken}
use Rattle.theory.specs.Joined.{lay_append}
use Rattle.theory.specs.Seen.{Right, right_end, right_more, Table, table}
use Rattle.theory.specs.Pairs.{TightFrom, tight_end, tight_more, Tight, tight, HomesFrom, homes_here, homes_after, tight_asc, lay_run_lem}

lay_right :
    {d p : ℕ} {os : List Bool} {es : List Entry} (whole : List Entry) →
    d ≤ 4096 → TightFrom d p os es → HomesFrom whole p es → Right d p (lay whole p os es) es
unfolding lay is_void
lay_right {p = p} {es = es} whole s (tight_end e f) same = right_end (ap (λ (os : List Bool). lay whole p os es) e) f
lay_right {d} {p} {os} {es} whole s (tight_more rest xs ys up more e f) same =
    right_more
    (lay whole p (replicate (length xs) true) xs)
    zero_word
    (lay whole (suc (p + length xs)) rest ys)
    xs
    ys
    r
    refl
    (subst
    (λ (n : ℕ). Right d (suc (p + n)) (lay whole (suc (p + length xs)) rest ys) ys)
    r.size
    (lay_right whole s more (homes_after whole xs ys up (omega arith) together)))
    (ap₂ (lay whole p) e f
    ∙ lay_append
    whole
    p
    (p + length xs)
    (false ∷ rest)
    s
    up
    (asc_weaken (omega arith) (le_refl _) (tight_asc s more))
    refl)
    f
  where
    together : HomesFrom whole p (xs ++ ys)
    together x low = same x low ∙ ap (λ (fs : List Entry). has_home fs x) f

    r : Run d p (lay whole p (replicate (length xs) true) xs) xs
    r =
        lay_run_lem
        whole
        xs
        up
        (λ i lt. homes_here whole xs ys s (tight_asc s more) together (p + i) (omega arith) (omega arith))

pub lay_table : {d : ℕ} {os : List Bool} {es : List Entry} → d ≤ 4096 → Tight d os es → Table d (lay es 0 os es) es
unfolding lay is_void
lay_table {es = es} s (tight from) = table refl (lay_right es s from (λ x low. refl))
