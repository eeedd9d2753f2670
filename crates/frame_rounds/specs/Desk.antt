-- The sixteen places for tasks, of which the first n sit, as a floor; and the laws of the loops over turns and rounds.
-- `Turning`: one round, turn by turn. `answered_rest`, `answered_not`: whether all keys are answered; `Playing`: the
-- rounds.
-- Assumes nothing.
use Prim.Native.Nat.{ℕ, zero, suc, ◌+◌, ◌-◌, ◌/◌, ◌≤◌, ◌<◌}
use Rattle.std.specs.Prelude.{◌≡◌, Bool, true, false, ◌&&◌, List, map, get_or, set, take, eqb}
use Rattle.std.proofs.Math.Path.{refl, sym, ap}
use Rattle.std.proofs.lemmas.List.{length-map, map-set, take-map}
use Rattle.std.proofs.Math.ListN.{get_or-map}
use Rattle.std.proofs.Common.{ap₂, ◌∙◌, add-one, length-set, get_or-take, eq-eqb, ne_eqb}
use Rattle.std.proofs.Math.Bool.{cond}
use native.Mathlib.Omega.{arith}
use Rattle.std.proofs.Math.ListN.{length}
use Rattle.std.proofs.Math.Seq.{take-set-lt, length-take-le}
use Rattle.rules.specs.declared.Task.{Task}
use Rattle.rules.specs.Record.{no_task, task_at, at_rest}
use Rattle.rules.specs.Lists.{all}
use Rattle.frame_rules.specs.declared.First.{First}
use Rattle.frame_rules.specs.Lines.{keys_of}
use Rattle.frame_rules.specs.Rounds.{Floor, turn, turns, round, all_answered, rounds}
use Rattle.frame_rounds.specs.declared.first.Seated.{Seated}
use Rattle.frame_rounds.specs.declared.round.Desk.{Desk}
use Rattle.frame_rounds.specs.declared.round.Seat.{Seat}
use Rattle.frame_rounds.specs.declared.turn.Sitting.{Sitting}
use Rattle.frame_pieces.specs.Limits.{keys_count}
use Rattle.frame_rounds.specs.Sitting.{Sat, sat, turn_one, turn_one_lem}

-- the floor of the first n of some tasks
abbrev pub floor_with : ℕ → List ℕ → List ℕ → List Task → List ℕ → ℕ → Floor
floor_with n table answers ts hs k =
    record { table = table; tasks = take n ts; serving = take n hs; taken = k; answers = answers }

-- the tasks of some seats, and the keys that they hold
abbrev pub tasks_of : List Seat → List Task
tasks_of seats = map (λ (s : Seat). s.task) seats

abbrev pub servings_of : List Seat → List ℕ
servings_of seats = map (λ (s : Seat). s.serving) seats

abbrev pub floor_of : ℕ → List ℕ → List ℕ → Desk → Floor
floor_of n table answers d = floor_with n table answers (tasks_of d.seats) (servings_of d.seats) d.taken

-- a seat that none sits at
abbrev pub no_seat : Seat
no_seat = record { task = no_task; serving = 0 }

abbrev pub seat_at : Desk → ℕ → Seat
seat_at d i = get_or d.seats i no_seat

-- the turns that are left of a round
abbrev pub turns_from : First → List ℕ → ℕ → Floor → Floor
turns_from f ks i p = turns f ks (f.tasks - i) i p

module _ (f : First) (ks : List ℕ) (few : f.tasks ≤ 16) where
  pub round_begins : (table answers : List ℕ) (ts : List Task) (hs : List ℕ) (k : ℕ) → length ts ≡ 16 →
      turns_from f ks 0 (floor_with f.tasks table answers ts hs k)
      ≡ round f ks (floor_with f.tasks table answers ts hs k)
  unfolding round
  round_begins table answers ts hs k size =
      let whole : f.tasks - 0 ≡ length (take f.tasks ts) =
      omega (arith, length-take-le f.tasks ts (omega arith)) in
      ap (λ (j : ℕ). turns f ks j 0 (floor_with f.tasks table answers ts hs k)) whole

  pub turns_end : (i : ℕ) (p : Floor) → f.tasks ≤ i → turns_from f ks i p ≡ p
  unfolding turns
  turns_end i p done = let none : f.tasks - i ≡ 0 = omega arith in rw none

  module _ (i : ℕ) (here : i < f.tasks) (table answers : List ℕ) (ts : List Task) (hs : List ℕ) (k : ℕ)
      (sized : length ts ≡ 16)
    where
      one :
          (x : Sat) →
          x ≡ turn_one f ks table answers (record { task = task_at ts i; serving = get_or hs i 0; taken = k }) →
          turn f ks i (floor_with f.tasks table answers ts hs k)
          ≡ floor_with f.tasks x.table x.answers (set ts i x.sitting.task) (set hs i x.sitting.serving)
          x.sitting.taken
      one x e =
          turn_one_lem f ks i (floor_with f.tasks table answers ts hs k) inside
          (omega (arith, length-take-le f.tasks ts (omega arith)))
          ∙ rw (get_or-take f.tasks ts i no_task here, get_or-take f.tasks hs i 0 here, sym e)
          (rw (
            take-set-lt f.tasks ts i x.sitting.task here,
            take-set-lt f.tasks hs i x.sitting.serving here,
          ))
        where
          inside : i < length (take f.tasks ts)
          inside = omega (arith, length-take-le f.tasks ts (omega arith))

      pub turns_on : (table' answers' : List ℕ) (s : Sitting) →
          sat table' answers' s
          ≡ turn_one f ks table answers (record { task = task_at ts i; serving = get_or hs i 0; taken = k }) →
          turns_from f ks (i + 1)
          (floor_with f.tasks table' answers' (set ts i s.task) (set hs i s.serving) s.taken)
          ≡ turns_from f ks i (floor_with f.tasks table answers ts hs k)
      unfolding turns
      turns_on table' answers' s e =
          let less : suc (f.tasks - (i + 1)) ≡ f.tasks - i = omega arith in
          ap (λ (j : ℕ). turns f ks (f.tasks - (i + 1)) j after) (add-one i)
          ∙ ap (turns f ks (f.tasks - (i + 1)) (suc i)) (sym (one (sat table' answers' s) e))
          ∙ ap (λ (k' : ℕ). turns f ks k' i (floor_with f.tasks table answers ts hs k)) less
        where
          after : Floor
          after = floor_with f.tasks table' answers' (set ts i s.task) (set hs i s.serving) s.taken

-- ---- the loop of a round: task i is next
pub record Turning (f : Seated) (ks : List ℕ) (p₀ : Floor) (table answers : List ℕ) (d : Desk) (i : ℕ) : Type 0 where
  pub low : i ≤ f.first.tasks
  pub size : length table ≡ length p₀.table
  pub slots : length answers ≡ length p₀.answers
  pub seats : length d.seats ≡ 16
  pub left : turns_from f.first ks i (floor_of f.first.tasks table answers d) ≡ round f.first ks p₀

module _ {f : Seated} {ks : List ℕ} where
  pub turning_begins :
      {table answers : List ℕ} {d : Desk} → length d.seats ≡ 16 →
      Turning f ks (floor_of f.first.tasks table answers d) table answers d 0
  turning_begins {table} {answers} {d} seats =
      record {
        low = omega arith;
        size = refl;
        slots = refl;
        seats = seats;
        left =
            round_begins f.first ks f.few table answers (tasks_of d.seats) (servings_of d.seats) d.taken
            (length-map d.seats (λ (s : Seat). s.task) ∙ seats);
      }

  module _ {p₀ : Floor} {table answers : List ℕ} {d : Desk} {i : ℕ} (inv : Turning f ks p₀ table answers d i) where
    pub turning_on :
        {table' answers' : List ℕ} {s : Sitting} → i < f.first.tasks →
        sat table' answers' s
        ≡ turn_one f.first ks table answers
        (record { task = (seat_at d i).task; serving = (seat_at d i).serving; taken = d.taken }) →
        length table' ≡ length table → length answers' ≡ length answers →
        Turning f ks p₀ table' answers'
        (record { seats = set d.seats i (record { task = s.task; serving = s.serving }); taken = s.taken }) (i + 1)
    turning_on {table'} {answers'} {s} here e same same' =
        record {
          low = omega arith;
          size = same ∙ inv.size;
          slots = same' ∙ inv.slots;
          seats = length-set d.seats i seat ∙ inv.seats;
          left =
              ap₂ (λ (ts : List Task) (hs : List ℕ).
              turns_from f.first ks (i + 1) (floor_with f.first.tasks table' answers' ts hs s.taken))
              (map-set (λ (x : Seat). x.task) d.seats i seat)
              (map-set (λ (x : Seat). x.serving) d.seats i seat)
              ∙ turns_on f.first ks f.few i here table answers (tasks_of d.seats) (servings_of d.seats) d.taken
              (length-map d.seats (λ (x : Seat). x.task) ∙ inv.seats) table' answers' s sits
              ∙ inv.left;
        }
      where
        seat : Seat
        seat = record { task = s.task; serving = s.serving }

        sits :
            sat table' answers' s
            ≡ turn_one f.first ks table answers
            (record {
              task = task_at (tasks_of d.seats) i;
              serving = get_or (servings_of d.seats) i 0;
              taken = d.taken;
            })
        sits =
            e
            ∙ sym (ap₂ (λ (t : Task) (h : ℕ).
            turn_one f.first ks table answers (record { task = t; serving = h; taken = d.taken }))
            (get_or-map (λ (x : Seat). x.task) d.seats i no_seat)
            (get_or-map (λ (x : Seat). x.serving) d.seats i no_seat))

    pub turning_ends : f.first.tasks ≤ i → floor_of f.first.tasks table answers d ≡ round f.first ks p₀
    turning_ends done = sym (turns_end f.first ks f.few i (floor_of f.first.tasks table answers d) done) ∙ inv.left

-- ---- whether all of the line's keys are answered, by the desk alone
unfoldable pub answered_at : ℕ → List ℕ → Desk → Bool
answered_at n ks d = eqb d.taken (length ks) && all at_rest (take n (tasks_of d.seats))

pub answered_floor :
    (n : ℕ) (ks table answers : List ℕ) (d : Desk) → answered_at n ks d ≡ all_answered ks (floor_of n table answers d)
unfolding answered_at all_answered
answered_floor n ks table answers d = refl

module _ (line : List ℕ) (n : ℕ) (d : Desk) where
  pub answered_rest :
      (b : Bool) → d.taken ≡ length line / 8 → b ≡ all at_rest (tasks_of (take n d.seats)) →
      b ≡ answered_at n (keys_of line) d
  unfolding answered_at
  answered_rest b e rest =
      rw (
        eq-eqb d.taken (length (keys_of line)) (e ∙ sym (keys_count line)),
        rest,
        take-map (λ (s : Seat). s.task) n d.seats,
      )

  pub answered_not : (d.taken ≡ length line / 8 → ⊥) → false ≡ answered_at n (keys_of line) d
  unfolding answered_at
  answered_not e = rw (ne_eqb d.taken (length (keys_of line)) (λ same. e (same ∙ keys_count line)))

-- ---- the loop of rounds: so many of them are gone
pub record Playing (f : Seated) (ks : List ℕ) (limit : ℕ) (p₀ : Floor) (table answers : List ℕ) (d : Desk) (gone : ℕ)
    : Type 0 where
  pub size : length table ≡ length p₀.table
  pub slots : length answers ≡ length p₀.answers
  pub left : rounds f.first ks (limit - gone) (floor_of f.first.tasks table answers d) ≡ rounds f.first ks limit p₀

module _ {f : Seated} {ks : List ℕ} {limit : ℕ} where
  pub playing_begins :
      {table answers : List ℕ} {d : Desk} →
      Playing f ks limit (floor_of f.first.tasks table answers d) table answers d 0
  playing_begins {table} {answers} {d} =
      let none : limit - 0 ≡ limit = omega arith in
      record {
        size = refl;
        slots = refl;
        left = ap (λ (n : ℕ). rounds f.first ks n (floor_of f.first.tasks table answers d)) none;
      }

  module _ {p₀ : Floor} {table answers : List ℕ} {d : Desk} {gone : ℕ}
      (inv : Playing f ks limit p₀ table answers d gone)
    where
      abbrev here : Floor
      here = floor_of f.first.tasks table answers d

      pub playing_on :
          {table' answers' : List ℕ} {d' : Desk} {b : Bool} →
          gone < limit → b ≡ answered_at f.first.tasks ks d → b ≡ false →
          floor_of f.first.tasks table' answers' d' ≡ round f.first ks here →
          length table' ≡ length table → length answers' ≡ length answers →
          Playing f ks limit p₀ table' answers' d' (gone + 1)
      unfolding rounds
      playing_on {table'} {answers'} {d'} more asked busy e same same' =
          let next : suc (limit - (gone + 1)) ≡ limit - gone = omega arith in
          record {
            size = same ∙ inv.size;
            slots = same' ∙ inv.slots;
            left =
                ap (rounds f.first ks (limit - (gone + 1))) e
                ∙ sym (ap (λ (b : Bool). cond b here (rounds f.first ks (limit - (gone + 1)) (round f.first ks here)))
                (sym (answered_floor f.first.tasks ks table answers d) ∙ sym asked ∙ busy))
                ∙ ap (λ (k : ℕ). rounds f.first ks k here) next
                ∙ inv.left;
          }

      -- no round is left
      pub playing_ends : limit ≤ gone → here ≡ rounds f.first ks limit p₀
      unfolding rounds
      playing_ends none =
          let zeroth : limit - gone ≡ 0 = omega arith in
          ap (λ (k : ℕ). rounds f.first ks k here) (sym zeroth) ∙ inv.left

      -- all is answered
      pub playing_stops : {b : Bool} → b ≡ answered_at f.first.tasks ks d → b ≡ true → here ≡ rounds f.first ks limit p₀
      unfolding rounds
      playing_stops asked done = sym (stop (limit - gone)) ∙ inv.left
        where
          stop : (k : ℕ) → rounds f.first ks k here ≡ here
          stop zero = refl
          stop (suc k) = rw (sym (answered_floor f.first.tasks ks table answers d) ∙ sym asked ∙ done)
