-- What is printed stands at the front of the output. `feed_ends`: a text and its line feed;
-- `table_printed`: a table's words.
-- Assumes nothing.
use Rattle.std.specs.Prelude.{ℕ, suc, ◌+◌, ◌*◌, ◌/◌, ◌≤◌, ◌<◌, ◌≡◌, List, [], ◌∷◌, ◌++◌, length, get_or, set, drop}
use Rattle.std.proofs.Common.{sym, ap, ap₂, ◌∙◌, append_assoc, add-one, arith, length-append, drop-cons}
use Rattle.std.proofs.lemmas.List.{set_at}
use Rattle.rules.specs.Lists.{at_front}
use Rattle.frame_rules.specs.declared.Stage.{Stage}
use Rattle.frame_rules.specs.declared.Run.{Run}
use Rattle.frame_rules.specs.Digits.{word_digits}
use Rattle.frame_digits.specs.Print.{words_length}
use Rattle.frame_rules.specs.Frame.{after, printed}
use Rattle.frame_rules.specs.Feed.{run_of}
use Rattle.frame_run.specs.Closing.{Shown, shown, printing, closed, closing}

-- a line feed behind a text that stands at the front
pub feed_ends :
    (text out out₁ : List ℕ) (k : ℕ) → out₁ ≡ at_front text out → k ≡ length text → k < length out →
    shown (k + 1) (set out₁ k 10) ≡ printing (printed text) out
unfolding at_front
feed_ends text out out₁ k stands here room =
    ap₂ shown (ap (λ (n : ℕ). n + 1) here ∙ sym (length-append text (10 ∷ []))) front
  where
    behind : drop (length text) out ≡ get_or out (length text) 0 ∷ drop (suc (length text)) out
    behind = drop-cons out (length text) 0 (omega arith)

    front : set out₁ k 10 ≡ at_front (printed text) out
    front =
        ap (λ (o : List ℕ). set o k 10) (stands ∙ ap (λ (o : List ℕ). text ++ o) behind)
        ∙ set_at text (get_or out (length text) 0) (drop (suc (length text)) out) 10 k (sym here)
        ∙ sym (append_assoc text (10 ∷ []) (drop (suc (length text)) out))
        ∙ ap (λ (n : ℕ). printed text ++ drop n out) (sym (add-one (length text)) ∙ sym (length-append text (10 ∷ [])))

-- a table's words
pub table_printed :
    (table out out₁ : List ℕ) → 2 * length table + 1 ≤ length out → out₁ ≡ at_front (word_digits table) out →
    shown (4 * (length table / 2) + 1) (set out₁ (4 * (length table / 2)) 10)
    ≡ printing (printed (word_digits table)) out
table_printed table out out₁ room e =
    feed_ends (word_digits table) out out₁ (4 * (length table / 2)) e (sym (words_length table)) (omega arith)

-- a run at a stage, and a text printed
pub closed_as :
    (run : Run) (n : ℕ) (table out out₁ : List ℕ) (stage : Stage) (text : List ℕ) →
    run ≡ run_of stage → shown n out₁ ≡ printing text out →
    closed (record { run = run; wrote = n }) table out₁ ≡ closing (after stage table text) out
closed_as run n table out out₁ stage text is says =
    ap₂ (λ (x : Run) (s : Shown). record { run = x; wrote = s.wrote; table = table; out = s.out }) is says
