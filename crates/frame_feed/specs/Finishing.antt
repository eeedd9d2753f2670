-- The end of the input. `finish-..`: the room behind a last line that lacks its line feed, and both as one text;
-- `call-..`: the call by its test.
-- Assumes nothing.
use Rattle.std.specs.Prelude.{ℕ, ◌+◌, ◌-◌, ◌≤◌, ◌≡◌, Bool, cond, take, drop, eqb, Err, Ok, Result}
use Rattle.std.proofs.Math.Path.{refl, ap}
use Rattle.std.proofs.Common.{sym, ◌∙◌, subst, arith, length-take-le, take_all, take_at, drop_at, drop-drop}
use Rattle.std.proofs.Math.Bool.{true, false}
use mathlib.Core.List.{List, [], ◌++◌, append_assoc, append-nil}
use Rattle.std.proofs.Math.ListN.{length, length-append, length-drop}
use Rattle.std.proofs.Math.Seq.{drop-length}
use borrow.Author.Tests.{eq-eqb, ne_eqb}
use borrow.Rule.Slice.PartMut.{put_mid}
use Rattle.rules.specs.declared.Refusal.{Refusal}
use Rattle.rules.specs.Answer.{number_of_refusal, done_says}
use Rattle.rules.specs.Lists.{at_front}
use Rattle.frame_rules.specs.declared.Run.{Run}
use Rattle.frame_rules.specs.Frame.{Day, After, line_in, at_end}
use Rattle.frame_rules.specs.Feed.{Buffers, lent_buffers, day_of, held_line, refusal, Finishing, finishes, refused_too}
use Rattle.frame_rules.specs.Feed.{last_line, finish_good, finish}
use Rattle.frame_pieces.specs.Limits.{Fit}
use Rattle.frame_pieces.specs.Feeding as feeding
use Rattle.frame_pieces.specs.Feeding.{InOrder, accepted, last_fits, last_line_prints}
use Rattle.frame_run.specs.declared.close.Closed.{Closed}
use Rattle.frame_buffers.specs.Check.{refusal_by, refusal_by_lem, some_number}
use Rattle.frame_run.specs.Closing.{Shown, shown, printing, Closing, closed, closing, last_closing}

-- ---- a last line that lacks its line feed

-- what is left, beside what Feed says of that line
record Last (x : Closing) (a : After) (was : List ℕ) : Type 0 where
  pub day : day_of x.run x.table ≡ a.day
  pub table : x.table ≡ a.day.table
  pub wrote : x.wrote ≡ length a.prints
  pub out : x.out ≡ at_front a.prints was

-- a text behind another, in the room that is left
two_texts :
    (a t out : List ℕ) (n : ℕ) → length a ≡ n →
    put_mid n
    (length (a ++ drop n out) - n)
    (a ++ drop n out)
    (at_front t (take (length (a ++ drop n out) - n) (drop n (a ++ drop n out))))
    ≡ at_front (a ++ t) out
unfolding at_front
two_texts a t out n long =
    rw (
      take_at a (drop n out) n long,
      drop_at a (drop n out) n long,
      take_all (length (a ++ drop n out) - n) (drop n out) (omega (arith, length-append a (drop n out))),
      nothing_behind,
      append-nil (t ++ drop (length t) (drop n out)),
      drop-drop (length t) n out,
      length-append a t,
      long,
    )
    (sym (append_assoc a t (drop (n + length t) out)))
  where
    nothing_behind : drop (length (a ++ drop n out) - n) (drop n out) ≡ []
    nothing_behind =
        let size : length (a ++ drop n out) - n ≡ length (drop n out) =
        omega (arith, length-append a (drop n out)) in
        ap (λ (k : ℕ). drop k (drop n out)) size ∙ drop-length (drop n out)

module _ (run : Run) (b : Buffers) (ok : InOrder run b) where
  abbrev day : Day
  day = day_of run b.table

  abbrev text : List ℕ
  text = held_line run.held b.line

  last_is : Last (last_closing run b) (last_line run b) b.out
  unfolding last_closing last_line at_front
  last_is = go (eqb run.held 0)
    where
      go :
          (none : Bool) →
          Last
          (cond none
          (record { run = run; wrote = 0; table = b.table; out = b.out })
          (closing (line_in day text) b.out))
          (cond none (record { day = day; prints = [] }) (line_in day text))
          b.out
      go true = record { day = refl; table = refl; wrote = refl; out = refl }
      go false = record { day = refl; table = refl; wrote = refl; out = refl }

  -- ---- the table's line goes into the room behind
  module _ (c : Closed) (table out : List ℕ) (e : closed c table out ≡ last_closing run b) where
    left : Last (closed c table out) (last_line run b) b.out
    left = subst (λ (x : Closing). Last x (last_line run b) b.out) (sym e) last_is

    room : (c.wrote ≤ 1025) × (66570 ≤ length out)
    unfolding at_front
    room =
        let l = left in
        let prints = (last_line run b).prints in
        let whole = length-append prints (drop (length prints) b.out) in
        let rest = length-drop (length prints) b.out in
        let same = ap (λ (xs : List ℕ). length xs) l.out in
        (omega (arith, l.wrote, last_line_prints run b), omega (arith, same, whole, rest, ok.out))

    pub finish_inside : c.wrote ≤ length out
    finish_inside = omega (arith, room.0, room.1)

    pub finish_fits : Fit (day_of c.run table)
    finish_fits = subst Fit (sym left.day) (last_fits run b ok)

    -- wherever the lent part begins in what was printed
    pub finish_room : (k : ℕ) → k ≤ c.wrote → 65545 ≤ length (take (length out - k) (drop k out))
    finish_room k inside =
        let rest = length-drop k out in
        let size = length-take-le (length out - k) (drop k out) (omega arith) in
        omega (arith, size, room.0, room.1)

    pub finish_wrote :
        (more : ℕ) (part part₁ : List ℕ) → shown more part₁ ≡ printing (at_end (day_of c.run table)) part →
        c.wrote + more ≤ 66570
    finish_wrote more part part₁ end =
        let count = ap (λ (x : Shown). x.wrote) end in
        let same = ap (λ (d : Day). length (at_end d)) left.day in
        let sum = length-append (last_line run b).prints (at_end (last_line run b).day) in
        omega (arith, count, same, sum, left.wrote, feeding.finish_room run b ok)

    pub finish_both :
        (more : ℕ) (part : List ℕ) →
        shown more part
        ≡ printing (at_end (day_of c.run table)) (take (length out - c.wrote) (drop c.wrote out)) →
        finishes (c.wrote + more) (lent_buffers b.line table (put_mid c.wrote (length out - c.wrote) out part))
        ≡ finish_good b (last_line run b)
    unfolding finish_good at_front
    finish_both more part end =
        let l = left in
        let a = last_line run b in
        rw (
          ap (λ (x : Shown). x.wrote) end,
          ap (λ (x : Shown). x.out) end,
          l.day,
          l.table,
          l.out,
          l.wrote,
          two_texts a.prints (at_end a.day) b.out (length a.prints) refl,
          length-append a.prints (at_end a.day),
        )

-- ---- the call by its test

module _ (run : Run) (line table out : List ℕ) (d : Result Unit Refusal)
    (tested : (done_says d).number ≡ refusal_by run (length line) (length table) (length out))
  where
    abbrev buffers : Buffers
    buffers = lent_buffers line table out

    test_is : refusal run buffers ≡ (done_says d).number
    test_is = sym (refusal_by_lem run buffers) ∙ sym tested

    not_refused : d ≡ Ok tt → refusal run buffers ≡ 0
    not_refused e = test_is ∙ ap (λ (x : Result Unit Refusal). (done_says x).number) e

    pub call_ready : d ≡ Ok tt → InOrder run buffers
    call_ready e = accepted run buffers (not_refused e)

    pub call_accepted :
        d ≡ Ok tt → (x : Finishing) → x ≡ finish_good buffers (last_line run buffers) → x ≡ finish run buffers
    unfolding finish
    call_accepted e x same = rw (eq-eqb (refusal run buffers) 0 (not_refused e)) same

    pub call_refused : (n : Refusal) → d ≡ Err n → refused_too (number_of_refusal n) buffers ≡ finish run buffers
    unfolding finish
    call_refused n e =
        let number : refusal run buffers ≡ number_of_refusal n = test_is ∙ ap (λ (x : Result Unit Refusal). (done_says x).number) e in
        rw (number, ne_eqb (number_of_refusal n) 0 (some_number n))
