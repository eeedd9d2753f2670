-- How the buffer holds a line begun: its bytes, or only that it is too long (`Held`). More bytes are held behind it
-- (`held_more`), and the held line (`held_whole`, `held_long`) gives what the line itself gives (`held_line_lem`), for a
-- line too long is always bad.
-- Assumes nothing.
use Rattle.std.specs.Prelude.{ℕ, ◌+◌, ◌%◌, ◌≤◌, ◌<◌, ◌≡◌, Bool, cond, ◌&&◌, List, [], ◌++◌, take, eqb}
use Rattle.std.proofs.Math.Path.{refl}
use Rattle.std.proofs.Common.{ap, ◌∙◌, take_at}
use Rattle.std.proofs.Math.Bool.{true, false, and-false}
use native.Mathlib.Omega.{arith}
use Rattle.std.proofs.Math.ListN.{length, drop, length-append, length-drop, length-replicate}
use Rattle.std.proofs.Math.Seq.{length-take-le}
use Rattle.std.proofs.Math.Dec.{leb}
use borrow.Author.Tests.{leb-true, leb-false, le-leb, lt-leb, ne_eqb}
use Rattle.rules.specs.declared.Shape.{Shape}
use Rattle.rules.specs.Lists.{all}
use Rattle.frame_rules.specs.declared.Stage.{Stage}
use Rattle.frame_rules.specs.declared.Stage.TheVariants.{AtFirst, Among, Ended}
use Rattle.frame_rules.specs.Digits.{is_digit}
use Rattle.frame_rules.specs.Lines.{good_first, good_line}
use Rattle.frame_rules.specs.Frame.{Day, first_line, frame_line, line_at, line_in}
use Rattle.frame_rules.specs.Feed.{held_after, line_after, held_line}

pub data Held (l : List ℕ) (held : ℕ) (line : List ℕ) : Type 0 where
  whole : length l ≤ 4096 → held ≡ length l → take held line ≡ l → Held l held line
  too_long : 4096 < length l → 4096 < held → Held l held line

pub none_held : (line : List ℕ) → Held [] 0 line
none_held line = whole (omega arith) refl refl

-- ---- more bytes
module _ (line : List ℕ) (held : ℕ) (more : List ℕ) where
  -- the buffer keeps its length
  pub line_length_lem : 4096 ≤ length line → length (line_after line held more) ≡ length line
  unfolding line_after
  line_length_lem room = go (leb (held + length more) 4096) refl
    where
      go :
          (fits : Bool) → leb (held + length more) 4096 ≡ fits →
          length (cond fits (take held line ++ more ++ drop (held + length more) line) line) ≡ length line
      go true e =
          let fits = leb-true (held + length more) 4096 e in
          let a = length-append (take held line ++ more) (drop (held + length more) line) in
          let b = length-append (take held line) more in
          let c = length-take-le held line (omega arith) in
          let d = length-drop (held + length more) line in
          omega arith
      go false e = refl

  pub held_more :
      (l : List ℕ) → 4096 ≤ length line → Held l held line →
      Held (l ++ more) (held_after held (length more)) (line_after line held more)
  unfolding held_after line_after
  held_more l room (whole few size same) = go (leb (held + length more) 4096) refl
    where
      sum : length (l ++ more) ≡ length l + length more
      sum = length-append l more

      go :
          (fits : Bool) → leb (held + length more) 4096 ≡ fits →
          Held (l ++ more)
          (cond fits (held + length more) 4097)
          (cond fits (take held line ++ more ++ drop (held + length more) line) line)
      go true e =
          let fits = leb-true (held + length more) 4096 e in
          let a = length-append (take held line) more in
          let b = length-take-le held line (omega arith) in
          whole
          (omega (arith, sum))
          (omega (arith, sum))
          (take_at (take held line ++ more) (drop (held + length more) line) (held + length more) (omega arith)
          ∙ ap (λ (k : List ℕ). k ++ more) same)
      go false e =
          let over = leb-false (held + length more) 4096 e in
          too_long (omega (arith, sum)) (omega arith)
  held_more l room (too_long long over) =
      let sum = length-append l more in
      let e : leb (held + length more) 4096 ≡ false = lt-leb (held + length more) 4096 (omega arith) in
      rw e (too_long (omega arith) (omega arith))

-- ---- the held line: whole, or longer than any good one
module _ (held : ℕ) (line : List ℕ) where
  pub held_whole : held ≤ 4096 → held_line held line ≡ take held line
  unfolding held_line
  held_whole short = rw (le-leb held 4096 short)

  pub held_long : 4096 < held → 4096 < length (held_line held line)
  unfolding held_line
  held_long long =
      let n = length-replicate {A = ℕ} 4097 0 in
      rw (lt-leb held 4096 long) (omega arith)

-- ---- a line too long is bad, whatever it holds
pub bad_first : (l : List ℕ) → 4096 < length l → good_first l ≡ false
unfolding good_first
bad_first l h = rw (ne_eqb (length l) 6 (λ e. omega arith))

pub bad_line : (sh : Shape) (l : List ℕ) → 4096 < length l → good_line sh l ≡ false
unfolding good_line
bad_line sh l h = rw (lt-leb (length l) 4096 h, and-false (all is_digit l && eqb (length l % 8) 0))

same_at :
    (s : Stage) (table k l : List ℕ) → 4096 < length k → 4096 < length l → line_at s table k ≡ line_at s table l
unfolding first_line frame_line
same_at AtFirst table k l a b = rw (bad_first k a, bad_first l b)
same_at (Among f) table k l a b = rw (bad_line _ k a, bad_line _ l b)
same_at Ended table k l a b = refl

both_long : (d : Day) (k l : List ℕ) → 4096 < length k → 4096 < length l → line_in d k ≡ line_in d l
unfolding line_in
both_long d k l a b = same_at d.stage d.table k l a b

pub held_line_lem :
    (d : Day) (l : List ℕ) (held : ℕ) (line : List ℕ) → Held l held line → line_in d (held_line held line) ≡ line_in d l
held_line_lem d l held line (whole few size same) = ap (line_in d) (held_whole held line (omega arith) ∙ same)
held_line_lem d l held line (too_long long over) = both_long d (held_line held line) l (held_long held line over) long
