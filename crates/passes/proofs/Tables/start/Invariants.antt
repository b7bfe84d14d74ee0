-- `start` goes once through the table. Invariant: the places before k hold the bytes of the start.
use mathlib.Core.Bool.{◌||◌}
use Rattle.cube.specs.Tables.{node_bit}
use Rattle.passes.specs.Passes.{started}
use Rattle.cube.proofs.Filling.{Filled}
use Rattle.passes.proofs.Tables.start.Given as goal

abbrev pub invariant-loop-k : goal.invariant-loop-k
invariant-loop-k l =
    let t = l.self in
    Filled (started (λ x. (node_bit t.faults.now x || node_bit t.closed.now x) || node_bit t.draining.now x)) l.initial.labels l.labels l.k
