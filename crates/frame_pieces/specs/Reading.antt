-- Reading on behind a line already begun: bytes without a line feed lengthen it, a line feed ends it, the end of the
-- input makes a line of it (`goes_on`, `line_ends`, `nothing_left`, `rest_is_line`).
-- Assumes nothing.
use Rattle.std.specs.Prelude.{ℕ, suc, ◌≤◌, ◌<◌, ◌≡◌, refl, Bool, true, false, cond, List, [], ◌∷◌, ◌++◌, length, take, eqb}
use Rattle.std.proofs.Common.{sym, ap, ◌∙◌, append_assoc, append-nil, arith}
use Rattle.frame_rules.specs.Lines.{lines_after}
use Rattle.frame_rules.specs.Frame.{Day, line_in, at_end, output_from}
use Rattle.frame_rules.specs.Feed.{line_length}

-- what is still printed on a day with a line begun, given the rest of the input
unfoldable pub from_here : Day → List ℕ → List ℕ → List ℕ
from_here d begun input = output_from d (lines_after begun input)

pub line_length_le : (rest : List ℕ) → line_length rest ≤ length rest
unfolding line_length
line_length_le [] = omega arith
line_length_le (b ∷ rest) = go (eqb b 10) (line_length_le rest)
  where
    go : (feed : Bool) → line_length rest ≤ length rest → cond feed 0 (suc (line_length rest)) ≤ length (b ∷ rest)
    go true h = omega arith
    go false h = omega arith

-- ---- lines
-- bytes before the first line feed lengthen the line begun
more_begun :
    (begun rest more : List ℕ) →
    lines_after begun (take (line_length rest) rest ++ more) ≡ lines_after (begun ++ take (line_length rest) rest) more
unfolding line_length lines_after
more_begun begun [] more = ap (λ (l : List ℕ). lines_after l more) (sym (append-nil begun))
more_begun begun (b ∷ rest) more = go (eqb b 10) refl (more_begun (begun ++ b ∷ []) rest more)
  where
    go :
        (feed : Bool) → eqb b 10 ≡ feed →
        lines_after (begun ++ b ∷ []) (take (line_length rest) rest ++ more)
        ≡ lines_after (begun ++ b ∷ [] ++ take (line_length rest) rest) more →
        lines_after begun (take (cond feed 0 (suc (line_length rest))) (b ∷ rest) ++ more)
        ≡ lines_after (begun ++ take (cond feed 0 (suc (line_length rest))) (b ∷ rest)) more
    go true e next = ap (λ (l : List ℕ). lines_after l more) (sym (append-nil begun))
    go false e next =
        rw e
        (next ∙ ap (λ (l : List ℕ). lines_after l more) (append_assoc begun (b ∷ []) (take (line_length rest) rest)))

-- and the line feed ends it
begun_ends :
    (begun rest more : List ℕ) → line_length rest < length rest →
    lines_after begun (take (suc (line_length rest)) rest ++ more)
    ≡ (begun ++ take (line_length rest) rest) ∷ lines_after [] more
unfolding line_length lines_after
begun_ends begun [] more h = absurd (omega arith)
begun_ends begun (b ∷ rest) more h = go (eqb b 10) refl h (begun_ends (begun ++ b ∷ []) rest more)
  where
    go :
        (feed : Bool) → eqb b 10 ≡ feed → cond feed 0 (suc (line_length rest)) < length (b ∷ rest) →
        (line_length rest < length rest →
        lines_after (begun ++ b ∷ []) (take (suc (line_length rest)) rest ++ more)
        ≡ (begun ++ b ∷ [] ++ take (line_length rest) rest) ∷ lines_after [] more) →
        lines_after begun (take (suc (cond feed 0 (suc (line_length rest)))) (b ∷ rest) ++ more)
        ≡ (begun ++ take (cond feed 0 (suc (line_length rest))) (b ∷ rest)) ∷ lines_after [] more
    go true e h next = rw e (ap (λ (l : List ℕ). l ∷ lines_after [] more) (sym (append-nil begun)))
    go false e h next =
        rw e
        (next (omega arith)
        ∙ ap (λ (l : List ℕ). l ∷ lines_after [] more) (append_assoc begun (b ∷ []) (take (line_length rest) rest)))

-- ---- what is printed
pub goes_on :
    (d : Day) (begun rest more : List ℕ) →
    from_here d begun (take (line_length rest) rest ++ more) ≡ from_here d (begun ++ take (line_length rest) rest) more
unfolding from_here
goes_on d begun rest more = ap (λ (ls : List (List ℕ)). output_from d ls) (more_begun begun rest more)

pub line_ends :
    (d : Day) (begun rest more : List ℕ) → line_length rest < length rest →
    from_here d begun (take (suc (line_length rest)) rest ++ more)
    ≡ (line_in d (begun ++ take (line_length rest) rest)).prints
    ++ from_here (line_in d (begun ++ take (line_length rest) rest)).day [] more
unfolding from_here output_from
line_ends d begun rest more h = ap (λ (ls : List (List ℕ)). output_from d ls) (begun_ends begun rest more h)

pub nothing_left : (d : Day) → from_here d [] [] ≡ at_end d
unfolding from_here output_from lines_after
nothing_left d = refl

pub rest_is_line :
    (d : Day) (c : ℕ) (cs : List ℕ) →
    from_here d (c ∷ cs) [] ≡ (line_in d (c ∷ cs)).prints ++ at_end (line_in d (c ∷ cs)).day
unfolding from_here output_from lines_after
rest_is_line d c cs = refl
