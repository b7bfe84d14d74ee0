use native.Mathlib.Omega.{arith}
use Rattle.notice.proofs.Outcomes.{part_drop}
use Rattle.list_reader.proofs.Left.{none_left, some_left}
use Rattle.list_reader.proofs.Putting.{put_end, turn_on, turn_upto, turn_within}
use Rattle.list_reader.proofs.put_entries.Goals as goal

pub set_run-requires : goal.set_run-requires
set_run-requires c =
    let e = c.run_at-found.ensures in
    let few = c.requires.faults_len_bound.0 in
    let h = turn_within c.loop-rest.invariant few (some_left _ c.is_empty.ensures c.loop-rest-test.true) e.low e.high e.bytes in
    (omega (arith, h, few), omega (arith, h, c.loop-rest.invariant.sized), c.loop-rest.invariant.bytes)

pub overflow_add-found : goal.overflow_add-found
overflow_add-found c =
    let e = c.run_at-found.ensures in
    omega (
      arith,
      c.loop-rest.invariant.long,
      turn_upto c.loop-rest.invariant c.requires.faults_len_bound.0 (some_left _ c.is_empty.ensures c.loop-rest-test.true) e.low e.high e.bytes,
    )

pub loop-rest-preserved : goal.loop-rest-preserved
loop-rest-preserved c =
    let e = c.run_at-found.ensures in
    rw (part_drop c.loop-rest.rest.now c.min-behind.result)
    (turn_on c.loop-rest.invariant c.requires.faults_len_bound.0 (some_left _ c.is_empty.ensures c.loop-rest-test.true) e.low e.high e.bytes c.min-behind.ensures
    c.set_run.ensures)

pub returns : goal.returns
returns c = put_end c.loop-rest.invariant c.requires.faults_len_bound.0 (none_left _ c.is_empty.ensures c.loop-rest-test.false)
