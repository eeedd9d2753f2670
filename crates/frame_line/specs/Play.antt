-- A line's keys run through idle tasks, as the code has them. `play_is`: sixteen idle places of which n sit are the
-- start that frame_rules names. `part_keys`: as many slots as keys. `limit_fits`: the limit of rounds fits its type.
-- Assumes nothing.
use Rattle.std.specs.Prelude.{ℕ, ◌+◌, ◌*◌, ◌/◌, ◌≤◌, ◌<◌, ◌≡◌, Bool, cond, List, ◌++◌, length, take, drop, replicate, leb}
use Rattle.std.proofs.Math.Path.{ap, ap₂}
use Rattle.std.proofs.Common.{◌∙◌, append-nil, mul-le-mul_right, arith, drop_of_length-le, length-take-le}
use Rattle.rules.specs.Record.{no_task}
use Rattle.table_words.specs.Clear.{take_replicate}
use Rattle.rules.specs.declared.Shape.{Shape}
use Rattle.frame_rules.specs.declared.First.{First}
use Rattle.frame_rules.specs.Lines.{keys_of}
use Rattle.frame_pieces.specs.Limits.{keys_count}
use Rattle.frame_rules.specs.Rounds.{Floor, start, all_answered, rounds, limit, play}
use Rattle.frame_rules.specs.Call.{Line, refused, left_alone, played}
use Rattle.frame_rounds.specs.declared.first.Seated.{Seated}
use Rattle.frame_rounds.specs.declared.round.Desk.{Desk}
use Rattle.frame_rounds.specs.Desk.{no_seat, floor_of, answered_at, answered_floor}

-- sixteen idle tasks, and no key taken
abbrev pub idle_desk : Desk
idle_desk = record { seats = replicate 16 no_seat; taken = 0 }

-- whether all is answered, with the table and the answers as they are left
pub record Ran : Type 0 where
  pub all : Bool
  pub table : List ℕ
  pub answers : List ℕ

abbrev pub ran : Bool → List ℕ → List ℕ → Ran
ran b table answers = record { all = b; table = table; answers = answers }

abbrev pub ran_of : List ℕ → Floor → Ran
ran_of ks p = ran (all_answered ks p) p.table p.answers

-- a good line
unfoldable pub line_keys : First → List ℕ → List ℕ → List ℕ → Line
line_keys f bytes ks slots =
    cond (leb (length ks) (length slots)) (played ks slots (play f bytes ks)) (left_alone (refused 9) bytes slots)

module _ (f : Seated) (ks bytes : List ℕ) where
  start_is : floor_of f.first.tasks bytes (replicate (length ks) 0) idle_desk ≡ start bytes f.first.tasks ks
  unfolding start
  start_is = rw (take_replicate f.first.tasks 16 no_task f.few, take_replicate {A = ℕ} f.first.tasks 16 0 f.few)

  -- what the rounds leave of the idle desk is what `play` names
  module _ (table answers before zeros : List ℕ) (d idle : Desk) (most : ℕ) (b : Bool)
      (as_many : length before ≡ length ks)
    where
      pub play_is :
          zeros ≡ replicate (length before) 0 ++ drop (length before) before →
          {sh : Shape} → sh ≡ f.first.shape → most ≡ limit sh (length before) → idle ≡ idle_desk →
          floor_of f.first.tasks table answers d ≡ rounds f.first ks most (floor_of f.first.tasks bytes zeros idle) →
          b ≡ answered_at f.first.tasks ks d → ran b table answers ≡ ran_of ks (play f.first bytes ks)
      unfolding play
      play_is cleared same lim idles e asked =
          ap (λ (x : Bool). ran x table answers) (asked ∙ answered_floor f.first.tasks ks table answers d)
          ∙ ap (ran_of ks)
          (e
          ∙ ap₂ (λ (k : ℕ) (p : Floor). rounds f.first ks k p) most_is (begun ∙ start_is))
        where
          most_is : most ≡ limit f.first.shape (length ks)
          most_is = lim ∙ rw (same, as_many)

          none_left : zeros ≡ replicate (length ks) 0
          none_left =
              cleared
              ∙ rw (drop_of_length-le before {i = length before} (omega arith), append-nil, as_many)

          begun :
              floor_of f.first.tasks bytes zeros idle
              ≡ floor_of f.first.tasks bytes (replicate (length ks) 0) idle_desk
          begun = ap₂ (λ (zs : List ℕ) (x : Desk). floor_of f.first.tasks bytes zs x) none_left idles

-- ---- as many slots are lent as there are keys
pub part_keys :
    (text slots : List ℕ) → length text / 8 ≤ length slots →
    length (take (length text / 8) slots) ≡ length (keys_of text)
part_keys text slots room = omega (arith, length-take-le (length text / 8) slots room, keys_count text)

-- ---- the limit of rounds
product_fits : (n x : ℕ) → n ≤ 512 → x ≤ 16777216 → n * x < 18446744073709551616
product_fits n x few small = omega (arith, mul-le-mul_right x few)

pub limit_fits : (n h : ℕ) → n ≤ 512 → h ≤ 1048578 → n * (8 * h + 66) < 18446744073709551616
limit_fits n h few small = product_fits n (8 * h + 66) few (omega arith)
