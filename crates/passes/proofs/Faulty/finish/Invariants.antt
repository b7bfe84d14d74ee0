-- `finish` goes once through the table. Invariant: the places before x hold the bytes of the end.
use mathlib.Core.Bool.{cond, ◌||◌}
use Rattle.cube.specs.Tables.{node_bit}
use Rattle.passes.specs.Passes.{finished}
use Rattle.cube.proofs.Filling.{Filled}
use Rattle.passes.proofs.Faulty.finish.Given as goal

abbrev pub invariant-loop-x : goal.invariant-loop-x
invariant-loop-x l =
    let s = l.self in
    Filled (finished s.n (λ y. cond (node_bit s.faults.now y || node_bit s.closed.now y) 3 4) l.initial.labels) l.initial.labels l.labels l.x
