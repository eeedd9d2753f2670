-- `write_keys` meets its contract. The invariant is `Writing`, of the slots that are written.
-- Assumes nothing.
use Rattle.std.proofs.Common.{◌≤◌, length, ap, arith, rules, of_calls}
use Rattle.rules.specs.Word.{Word}
use Rattle.rules.specs.Shape.{places}
use Rattle.theory.specs.Dealt.{is_occupied}
use Rattle.table_words.specs.Range.{homes_high}
use Rattle.table_cluster.specs.Scan.{words_count}
use Rattle.table_list.specs.Write.{write_begins, homed, key_inside, entry_shaped, write_on, write_ends}
use Rattle.table_list.proofs.keys.write_keys.Goals as goal
use Rattle.table_list.proofs.keys.write_keys.Goals.{Start, After-next_place-p}

pub loop-slot-init : goal.loop-slot-init
loop-slot-init c =
    rw c.left_guard-h.ensures
    (write_begins c.requires c.with_change-w.result (ap (λ (w : Word). w.change) c.with_change-w.ensures))

-- a table is not larger than the searches allow
small : (start : Start) → length start.args.t.bytes.now ≤ 4294967296
unfolding places
small start = omega (arith, start.args.t.size, homes_high start.args.t.sh.shape start.args.t.sh.in_range)

pub home_after-h-requires-clause-table_len_bound :
    goal.home_after-h-requires-clause-table_len_bound
home_after-h-requires-clause-table_len_bound c = small (goal.at.home_after-h-requires-clause-table_len_bound c).Start

pub home_after-h-requires-clause-homed : goal.home_after-h-requires-clause-homed
home_after-h-requires-clause-homed c = homed c.requires c.loop-slot.invariant c.loop-slot-test.true

pub next_place-p-requires-clause-table_len_bound :
    goal.next_place-p-requires-clause-table_len_bound
next_place-p-requires-clause-table_len_bound c = small (goal.at.next_place-p-requires-clause-table_len_bound c).Start

pub next_place-p-requires-clause-found : goal.next_place-p-requires-clause-found
next_place-p-requires-clause-found c =
    record {
      is = is_occupied;
      told = λ w b low p. search (rules, of_calls);
      ahead = key_inside c.requires c.loop-slot.invariant c.loop-slot-test.true;
    }

pub word-w-requires : goal.word-w-requires
word-w-requires c =
    omega (
      arith,
      c.next_place-p.ensures is_occupied (λ w b low p. search (rules, of_calls)),
      key_inside c.requires c.loop-slot.invariant c.loop-slot-test.true,
      words_count c.args.t.bytes.now,
    )

pub invariant_of-join : goal.invariant_of-join
invariant_of-join c = record {
  in_shape =
      entry_shaped
      c.requires
      c.loop-slot.invariant
      c.loop-slot-test.true
      c.home_after-h.result.0
      c.next_place-p.result.0
      c.word-w.result
      c.remainder.result
      c.home_after-h.ensures
      (c.next_place-p.ensures is_occupied (λ w b low p. search (rules, of_calls)))
      c.word-w.ensures
      c.remainder.ensures;
}

pub loop-slot-preserved : goal.loop-slot-preserved
loop-slot-preserved c =
    write_on
    c.requires
    c.loop-slot.invariant
    c.loop-slot-test.true
    c.home_after-h.result.0
    c.next_place-p.result.0
    c.word-w.result
    c.remainder.result
    c.home_after-h.ensures
    (c.next_place-p.ensures is_occupied (λ w b low p. search (rules, of_calls)))
    c.word-w.ensures
    c.remainder.ensures
    c.join.result
    c.join.ensures

pub returns : goal.returns
returns c = write_ends c.requires c.loop-slot.invariant c.loop-slot-test.false
