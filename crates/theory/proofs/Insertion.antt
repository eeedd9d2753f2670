-- The insertion theorem (01, phases 7 to 10): a fill beside a run, and finishing from the values that the read step
-- gives, leave the run enlarged by the filled place, with the key added. It is said once, over the side of the fill.
-- Assumes nothing.
use Rattle.std.specs.Prelude.{ℕ, suc, ◌+◌, ◌-◌, ◌≤◌, ◌<◌, ◌≡◌, true, false, List, ◌++◌, length}
use Rattle.std.proofs.Common.{arith, sym, ap, ◌∙◌}
use Rattle.rules.specs.Word.{Word, is_void}
use Rattle.rules.specs.Entry.{Entry}
use Rattle.rules.specs.Lay.{holds, insert, smaller, mark_of}
use Rattle.rules.specs.Put.{lay_run}
use Rattle.theory.specs.Run.{Run}
use Rattle.theory.specs.Insert.{insert_asc, insert_length, asc_weaken}
use Rattle.theory.specs.Motion.{fill_at, finish}
use Rattle.theory.proofs.Region.{locks, length_locks, fill_at_within, finish_within, fill_at_locks, finish_locks}
use Rattle.theory.specs.Payload.{length_wedge}
use Rattle.theory.specs.Mark.{goes, smaller_le, insert_wedge}
use Rattle.theory.specs.Laid.{closes_above}
use Rattle.theory.specs.Gaps.{Side}
use Rattle.theory.specs.Side.{beside, begins, stands, index, stands_index, index_le, begins_ge, begins_le}
use Rattle.theory.specs.Side.{beside_wedge}
use Rattle.theory.proofs.Enlarge.{enlarge}

-- what the read step has found: the filled word void, e's home inside the run, and e not among the run's entries
pub record Absent (side : Side) (d a : ℕ) (run : List Word) (g : Word) (e : Entry) (es : List Entry) : Type 0 where
  pub void : is_void g ≡ true
  pub low : d ≤ 4096
  pub laid : Run d (begins side a) run es
  pub remainder : e.remainder < d
  pub after : begins side a ≤ e.home_place
  pub before : e.home_place < begins side a + length run
  pub new : holds e es ≡ false

-- the table with entry e filled in at the hand and brought to its goal: one region is new, and is the run with e added
pub record Added (side : Side) (d : ℕ) (pre run post : List Word) (g : Word) (e : Entry) (es : List Entry) :
    Type 0 where
  pub region : List Word
  pub words :
      finish
      (fill_at e.remainder (pre ++ (beside side g run ++ post)) (stands side (length pre) (length run)))
      (stands side (length pre) (length run))
      (length pre + smaller e es)
      (mark_of e es)
      e.home_place
      ≡ pre ++ (region ++ post)
  pub enlarged : Run d (length pre) region (insert e es)
  pub locked : locks region ≡ locks (beside side g run)

-- `enlarge` is the region alone, lock bits aside; here it is put between the other words, and its lock bits are kept
pub insertion :
    (side : Side) {d : ℕ} (pre run post : List Word) (g : Word) (e : Entry) (es : List Entry) →
    Absent side d (length pre) run g e es →
    Added side d pre run post g e es
insertion side {d} pre run post g e es h =
    let a = length pre in
    let n = length run in
    let i = index side n in
    let t = smaller e es in
    let m = mark_of e es in
    let x = e.remainder in
    let q = e.home_place - a in
    let mid = beside side g run in
    let ws = pre ++ (mid ++ post) in
    let filled = fill_at x mid i in
    let done = finish filled i t m q in
    let asc = h.laid.asc in
    let v = goes e h.low h.remainder asc h.new in
    let from = begins_ge side a in
    let to = begins_le side a in
    let end : i ≤ n = index_le side n in
    let size = h.laid.size in
    let rank : t ≤ n = rw (sym size) (smaller_le e h.low h.remainder asc h.new) in
    let long : length mid ≡ suc n = ap length (beside_wedge side g run) ∙ length_wedge i g run in
    let filled_long : length filled ≡ suc n = length_locks filled mid (fill_at_locks x mid i) ∙ long in
    let done_locks : locks done ≡ locks mid = finish_locks filled i t m q ∙ fill_at_locks x mid i in
    let done_long : length done ≡ suc n = length_locks done mid done_locks ∙ long in
    let home_at : e.home_place ≡ a + q = omega (arith, h.after) in
    let near : q < suc n = omega (arith, h.before) in
    record {
      region = done;
      words =
          (λ j. finish (fill_at x ws (stands_index side a n j)) (stands_index side a n j) (a + t) m (home_at j))
          ∙ ap (λ (us : List Word). finish us (a + i) (a + t) m (a + q)) (fill_at_within x pre mid post i (omega arith))
          ∙ finish_within pre filled post i t m q (omega arith) (omega arith) (omega arith) (closes_above v);
      enlarged =
          record {
            size = insert_length e es h.new ∙ ap suc size ∙ sym done_long;
            asc =
                insert_asc
                e
                h.low
                (record { above = omega (arith, h.after); low = h.remainder; inside = omega (arith, h.before) })
                (asc_weaken (omega arith) (omega arith) asc);
            laid =
                ap (lay_run a) (insert_wedge e h.low h.remainder asc h.new)
                ∙ sym (enlarge side a g h.void h.low h.laid v (omega arith) (omega arith) (omega arith));
          };
      locked = done_locks;
    }
