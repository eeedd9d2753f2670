-- A lone task against put: given a key and stepped until it is done, it leaves put's table and has put's answer.
-- Computed over every sound unlocked small table, and the plain ones with one place left. Assumes nothing.
use Rattle.std.specs.Prelude.{ℕ, zero, suc, ◌≡◌, refl, Bool, true, cond, ◌&&◌, List, [], ◌∷◌, eqb}
use Rattle.test_cases.specs.Tables.{in_bytes, plain_tables}
use Rattle.test_cases.specs.ByHand.{taken_among}
use Rattle.test_cases.specs.Tests.{opened, every, those, same_list, all_keys, is_open, small, plain, small_words}
use Rattle.rules.specs.declared.Shape.{Shape}
use Rattle.rules.specs.declared.Task.{Task}
use Rattle.rules.specs.Word.{is_zero, is_lock}
use Rattle.rules.specs.Lay.{smaller, mark_of}
use Rattle.rules.specs.Answer.{Answer, Leaves, leaves}
use Rattle.rules.specs.Put.{put}
use Rattle.rules.specs.Record.{home_place_of, busy, at_rest, fits_hand, fits_busy, fits, no_task, task_at, good_task}
use Rattle.rules.specs.Give.{given, give_to, give}
use Rattle.rules.specs.Phase as phase
use Rattle.rules.specs.Step.{of_phase, step_of, Lent, step}

-- what the steps add to the shut names
unfoldable steps_opened : Bool
unfolding opened is_zero is_lock home_place_of busy at_rest fits_hand fits_busy fits given good_task give_to give phase.home
    phase.look_left phase.look_right phase.lock_left phase.lock_right phase.back_off phase.readable smaller
    mark_of phase.read_entries phase.read phase.moves_on phase.fill_hand phase.neighbour
    phase.exchange phase.move phase.set_change phase.set_virgin phase.marked phase.mark phase.free_left
    phase.free_right of_phase step_of step
steps_opened = true

-- the table and one record, the task just given its key
abbrev begun : List ℕ → Leaves (List Task) → Lent
begun bytes (leaves a ts) = record { table = bytes; tasks = ts }

abbrev lent_by : Leaves Lent → Lent
lent_by (leaves a l) = l

abbrev phase_in : Lent → ℕ
phase_in l = (task_at l.tasks 0).phase

-- steps of the one task until it is done, at most so many
abbrev steps_on : Shape → ℕ → Lent → Lent
steps_on sh zero l = l
steps_on sh (suc n) l =
    cond (eqb (phase_in l) 13) l (steps_on sh n (lent_by (step sh l.table l.tasks 0)))

-- put's found, inserted and full as a task answers them
abbrev task_answer : Answer → ℕ
task_answer a = cond (eqb a.number 8) 3 a.value

abbrev same_end : Leaves (List ℕ) → Lent → Bool
same_end (leaves a bytes) l =
    same_list bytes l.table
    && eqb (phase_in l) 13
    && eqb (task_at l.tasks 0).answer (task_answer a)

abbrev ends_as_put : Shape → ℕ → List ℕ → Bool
ends_as_put sh n ns =
    every
    (λ (key : ℕ).
    same_end
    (put sh (in_bytes ns) key)
    (steps_on sh n (begun (in_bytes ns) (give sh key (no_task ∷ []) 0))))
    (all_keys sh)

pub lone_task_small : every (ends_as_put small 14) (those (is_open small) small_words) ≡ true
unfolding steps_opened
lone_task_small = refl

-- with one place left to fill, so that the longest moves are among them
abbrev one_left : List ℕ → Bool
one_left ns = eqb (taken_among ns) 3

pub lone_task_plain :
    every (ends_as_put plain 20) (those (λ (ns : List ℕ). one_left ns && is_open plain ns) plain_tables) ≡ true
unfolding steps_opened
lone_task_plain = refl
