-- `first_line`: labelling does not refuse, so the line is of the labels and exchanges that it made, in the half of job 0. The tables of draining and of closed
-- nodes that it is lent are the front of 512 zeros: empty ones.
use mathlib.Core.Path.{◌≡◌, sym, ap, ap₂, ◌∙◌}
use Prim.Native.Nat.{◌≤◌}
use native.Mathlib.Omega.{arith}
use lib.ListN.{length, length-take, replicate, take}
use Rattle.cube.specs.Tables.{empty_table, table_len}
use Rattle.cube.proofs.Tables.{table_few, zeros_front}
use Rattle.jobs.specs.Jobs.{half}
use Rattle.rule.specs.Cabinet.{cabinet}
use Rattle.labels.proofs.Refusal.{fitting, labels_written, length_kept, of_refused, of_exchanges}
use Rattle.lines.specs.Lines.{cube_line}
use Rattle.printed.proofs.first_line.Goals as goal
use Rattle.printed.proofs.first_line.Goals.{Start}

-- the fault table has its length, which is never above 512
sized : (s : Start) → let m = length s.args.faults.now in (m ≡ table_len s.args.n) × (m ≤ 512)
sized s = let f = fitting (cabinet _ _ _ _ _) _ _ s.requires in (f.faults, omega (arith, f.faults, table_few _ f.halved.small))

empty : (s : Start) → take (length s.args.faults.now) (replicate 512 0) ≡ empty_table s.args.n
empty s = let z = sized s in rw (← z.0) (zeros_front _ 512 z.1)

pub slice_bounds-zeros-end : goal.slice_bounds-zeros-end
slice_bounds-zeros-end c = omega (arith, sized (goal.at.slice_bounds-zeros-end c).Start)

pub slice_bounds-none-end : goal.slice_bounds-none-end
slice_bounds-none-end c = simp length-take (omega (arith, sized (goal.at.slice_bounds-none-end c).Start))

pub unreachable-requires : goal.unreachable-requires
unreachable-requires c =
    let told = rw (empty (goal.at.unreachable-requires c).Start) at c.label.ensures in
    let r = of_refused (cabinet _ _ _ _ _) _ _ _ (sym told.answer ∙ c.in_default.is) in
    r.1 (r.0 ∙ c.requires)

pub half-requires : goal.half-requires
half-requires c =
    let f = (fitting (cabinet _ _ _ _ _) _ _ c.requires).halved in
    let told = rw (empty (goal.at.half-requires c).Start) at c.label.ensures in
    record { small = f.small; job = f.job; sized = ap length told.labels ∙ length_kept (cabinet _ _ _ _ _) _ _ ∙ f.sized }

pub returns-clause-line : goal.returns-clause-line
returns-clause-line c =
    let told = rw (empty (goal.at.returns-clause-line c).Start) at c.label.ensures in
    let count = (of_exchanges (cabinet _ _ _ _ _) _ _ _ (sym told.answer ∙ c.in-Ok.is)).1 in
    let made = c.half.ensures.bytes ∙ ap (half 0 _) told.labels ∙ labels_written (cabinet _ _ _ _ _) _ _ c.requires in
    c.cube_line.ensures ∙ ap₂ (cube_line _ _) made (sym count)

pub returns-clause-labels : goal.returns-clause-labels
returns-clause-labels c = (rw (empty (goal.at.returns-clause-labels c).Start) at c.label.ensures).labels
