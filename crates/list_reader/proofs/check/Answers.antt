use mathlib.Core.Path.{◌≡◌, sym, ◌∙◌}
use native.Mathlib.Omega.{arith}
use Rattle.std.specs.Prelude.{Some}
use lib.ListN.{length-drop}
use Rattle.list_reader.proofs.Entries.{Taken}
use Rattle.notice.proofs.Outcomes.{part_drop}
use Rattle.list_reader.specs.Front.{entry_at}
use Rattle.list_reader.proofs.Judging.{judge_bad, judge_beyond, judge_on, judge_within}
use Rattle.list_reader.proofs.Left.{none_left, some_left, taken_at}
use Rattle.list_reader.proofs.check.Goals as goal
use Rattle.list_reader.proofs.check.Goals.{In-Some}

pub returns-in_default : goal.returns-in_default
returns-in_default c = judge_bad c.loop-rest.invariant (some_left _ c.is_empty.ensures c.loop-rest-test.true) (sym c.in_default.is ∙ c.first_entry.ensures)

-- the entry of the turn
opened : (c : In-Some) → Some c.in-Some.found ≡ entry_at c.loop-rest.rest.now
opened c = sym c.in-Some.is ∙ c.first_entry.ensures

taken : (c : In-Some) → Taken c.loop-rest.rest.now c.in-Some.found.low c.in-Some.found.high c.in-Some.found.bytes
taken c = taken_at _ (some_left _ c.is_empty.ensures c.loop-rest-test.true) (opened c)

pub slice_bounds-rest-count : goal.slice_bounds-rest-count
slice_bounds-rest-count c = (taken (goal.at.slice_bounds-rest-count c).In-Some).within

pub slice_bounds-rest-start : goal.slice_bounds-rest-start
slice_bounds-rest-start c = (taken (goal.at.slice_bounds-rest-start c).In-Some).within

pub loop-rest-smaller : goal.loop-rest-smaller
loop-rest-smaller c =
    let t = taken (goal.at.loop-rest-smaller c).In-Some in
    rw (part_drop c.loop-rest.rest.now c.in-Some.found.bytes) (omega (arith, t.some, t.within, length-drop c.in-Some.found.bytes c.loop-rest.rest.now))

pub loop-rest-preserved : goal.loop-rest-preserved
loop-rest-preserved c =
    rw (part_drop c.loop-rest.rest.now c.in-Some.found.bytes)
    (judge_on c.loop-rest.invariant (some_left _ c.is_empty.ensures c.loop-rest-test.true) c.requires (opened (goal.at.loop-rest-preserved c).In-Some))

pub returns-then-far : goal.returns-then-far
returns-then-far c = judge_beyond c.loop-rest.invariant (none_left _ c.is_empty.ensures c.loop-rest-test.false) c.if-far.true

pub returns : goal.returns
returns c = judge_within c.loop-rest.invariant (none_left _ c.is_empty.ensures c.loop-rest-test.false) c.if-far.false
