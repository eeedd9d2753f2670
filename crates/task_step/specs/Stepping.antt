-- One step on one record (01, Tasks and their steps), for every input; a turn and the bytes read as the paper's answer.
-- `step_one_lem`: the rules' step is the step on the record of the task number, stored back.
-- `Acts`, `acts_by`: what is asked before the phase decides, and what it decides; `acted`: so also of every lent byte.
-- Assumes nothing.
use Rattle.std.specs.Prelude.{ℕ, ◌*◌, ◌<◌, ◌≡◌, refl, Bool, ◌||◌, List, length, get_or, set, Err, Ok, Result}
use Rattle.std.proofs.Common.{ap, sym, true≢false, arith, leb-true}
use Rattle.std.proofs.Math.Bool.{true, false, cond}
use Rattle.std.proofs.lemmas.List.{set-get_or}
use Rattle.rules.specs.declared.Shape.{Shape}
use Rattle.rules.specs.declared.Task.{Task}
use Rattle.rules.specs.declared.Refusal.{Refusal}
use Rattle.rules.specs.declared.Refusal.TheVariants.{AtRest, Unsound}
use Rattle.rules.specs.Word.{Word}
use Rattle.rules.specs.Bytes.{words_of, bytes_of}
use Rattle.rules.specs.Shape.{places, good_table}
use Rattle.rules.specs.Table.{guards_void}
use Rattle.rules.specs.Record.{within, at_rest, fits, no_task, task_at, good_task}
use Rattle.rules.specs.Answer.{Answer, says, refuses, number_of_refusal, Leaves, leaves}
use Rattle.rules.specs.Phase.{Step, to, unsound}
use Rattle.rules.specs.Step.{Stepped, steps, refused, or_unsound, of_phase, step_of, Lent, lent_after, step}
use borrow.Author.Tests.{ne_eqb}
use Rattle.table_words.specs.Range.{InRange}
use Rattle.table_words.specs.Layout.{bytes_are, same_bytes}
use Rattle.task_fits.specs.Fit.{fitting}
use Rattle.task_fits.specs.declared.phase.Phase.{Phase}
use Rattle.task_fits.specs.Phase.{number_of}
use Rattle.task_fits.specs.Ready.{Ready}
use Rattle.task_fits.specs.Taken.{Taken, taken, takes}

-- the lent bytes and the record, as a step leaves them
pub record Left : Type 0 where
  pub table : List ℕ
  pub task : Task

-- a turn says 0 with the record that follows, or a refusal's number with the record as it was; the bytes are beside it
abbrev pub step_says : Task → Result Task Refusal → List ℕ → Leaves Left
step_says t (Ok u) bytes = leaves (says 0) (record { table = bytes; task = u })
step_says t (Err n) bytes = leaves (refuses (number_of_refusal n)) (record { table = bytes; task = t })

abbrev pub left_after : List ℕ → Task → Stepped → Leaves Left
left_after bytes t (steps u ws) = leaves (says 0) (record { table = bytes_of ws; task = u })
left_after bytes t (refused n) = leaves (refuses n) (record { table = bytes; task = t })

-- step (the shape, the lent table, the record)
unfoldable pub step_one : Shape → List ℕ → Task → Leaves Left
step_one sh bytes t =
    cond (good_table sh (length bytes))
    (left_after bytes t (step_of sh (words_of bytes) t))
    (leaves (refuses 1) (record { table = bytes; task = t }))

-- what a step on one record leaves, with the record stored back
abbrev pub lent_of : List Task → ℕ → Leaves Left → Leaves Lent
lent_of ts i (leaves a l) = leaves a (record { table = l.table; tasks = set ts i l.task })

pub step_one_lem :
    (sh : Shape) (bytes : List ℕ) (ts : List Task) (i : ℕ) →
    good_task ts i ≡ true → step sh bytes ts i ≡ lent_of ts i (step_one sh bytes (task_at ts i))
unfolding step step_one
step_one_lem sh bytes ts i good =
    rw good
    (go (good_table sh (length bytes)) (step_of sh (words_of bytes) (task_at ts i)))
  where
    -- a record that stays as it was is stored back as it was
    kept : (a : Answer) →
        ◌≡◌ {A = Leaves Lent} (leaves a (record { table = bytes; tasks = ts }))
        (leaves a (record { table = bytes; tasks = set ts i (task_at ts i) }))
    kept a = ap (λ (us : List Task). leaves a (record { table = bytes; tasks = us })) (sym (set-get_or ts i no_task))

    go : (table : Bool) (s : Stepped) →
        cond table (lent_after bytes ts i s) (leaves (refuses 1) (record { table = bytes; tasks = ts }))
        ≡ lent_of ts i
        (cond table (left_after bytes (task_at ts i) s)
        (leaves (refuses 1) (record { table = bytes; task = task_at ts i })))
    go true (steps u ws) = refl
    go true (refused n) = kept (refuses n)
    go false s = kept (refuses 1)

-- the bytes of a table of a shape
pub record BytesOf (sh : Shape) (bytes : List ℕ) : Type 0 where
  pub size : length bytes ≡ 2 * places sh
  pub small : (i : ℕ) → get_or bytes i 0 < 256

-- at rest nothing is asked of the guards
abbrev pub guards_good : Shape → List Word → Task → Bool
guards_good sh ws t = at_rest t || guards_void sh ws

-- what has been asked before the phase decides
pub record Acts (sh : Shape) (bytes : List ℕ) (t : Task) : Type 0 where
  pub range : InRange sh
  pub size : length bytes ≡ 2 * places sh
  pub fits : fits sh t ≡ true
  pub guards : guards_good sh (words_of bytes) t ≡ true

-- then the phase decides: 5 at rest, else what a busy record does
abbrev pub acts_by : Shape → List Word → Task → Taken
acts_by sh ws t = cond (at_rest t) (taken (Err AtRest) ws) (takes ws (of_phase sh ws t))

-- a record that is busy is ready for its phase
pub acts_ready :
    {sh : Shape} {bytes : List ℕ} {t : Task} {p q : Phase} → Acts sh bytes t → number_of p ≡ t.phase → p ≡ q →
    within 1 12 (number_of q) ≡ true → Ready q sh bytes t
unfolding at_rest
acts_ready {sh} {bytes} {t} {p} {q} a of e works =
    let is : t.phase ≡ number_of q = cc in
    let awake : at_rest t ≡ false = grind (arith, ne_eqb, leb-true) in
    record {
      range = a.range;
      size = a.size;
      guards = rw awake at a.guards;
      phase = is;
      fits = fitting sh t a.fits awake;
    }

-- 6 by the guards
pub step_unguarded :
    (sh : Shape) (ws : List Word) (t : Task) →
    fits sh t ≡ true → guards_good sh ws t ≡ false → step_of sh ws t ≡ refused 6
unfolding step_of
step_unguarded sh ws t ok e = rw ok (go (at_rest t) (guards_void sh ws) e)
  where
    go : (r g : Bool) → (r || g) ≡ false →
        cond r (refused 5) (cond g (or_unsound (of_phase sh ws t)) (refused 6)) ≡ refused 6
    go true g e = absurd (true≢false e)
    go false true e = absurd (true≢false e)
    go false false e = refl

-- what a phase makes of the words it makes of every lent byte
module _ {sh : Shape} {before : List ℕ} {t : Task} {turn : Result Task Refusal} {after : List ℕ} (a : Acts sh before t)
    (b : BytesOf sh before) (l : BytesOf sh after)
  where
    -- a refusal leaves all as it was
    kept :
        (n : Refusal) → taken turn (words_of after) ≡ taken (Err n) (words_of before) →
        step_says t turn after ≡ leaves (refuses (number_of_refusal n)) (record { table = before; task = t })
    kept n e =
        let turns : turn ≡ Err n = cc in
        let words : words_of after ≡ words_of before = cc in
        let bytes : after ≡ before =
        same_bytes after before (places sh) l.size b.size l.small b.small words in
        rw (turns, bytes)

    followed :
        (s : Step) → taken turn (words_of after) ≡ takes (words_of before) s →
        step_says t turn after ≡ left_after before t (or_unsound s)
    followed (to u ws) e =
        let turns : turn ≡ Ok u = cc in
        let words : words_of after ≡ ws = cc in
        let bytes : after ≡ bytes_of ws = bytes_are after (places sh) ws l.size l.small words in
        rw (turns, bytes)
    followed unsound e = kept Unsound e

    pub acted :
        taken turn (words_of after) ≡ acts_by sh (words_of before) t →
        step_says t turn after ≡ left_after before t (step_of sh (words_of before) t)
    unfolding step_of
    acted = rw a.fits (go (at_rest t) a.guards)
      where
        go : (r : Bool) → (r || guards_void sh (words_of before)) ≡ true →
            taken turn (words_of after)
            ≡ cond r
            (taken (Err AtRest) (words_of before))
            (takes (words_of before) (of_phase sh (words_of before) t)) →
            step_says t turn after
            ≡ left_after before t
            (cond r
            (refused 5)
            (cond (guards_void sh (words_of before)) (or_unsound (of_phase sh (words_of before) t)) (refused 6)))
        go true g e = kept AtRest e
        go false g e = rw g (followed (of_phase sh (words_of before) t) e)
