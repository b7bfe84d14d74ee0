-- `settle` goes once through the table. Invariant: the places before the index are settled.
use Rattle.passes.specs.Passes.{settled}
use Rattle.cube.proofs.Filling.{Filled}
use Rattle.passes.proofs.settle.Given as goal

abbrev pub invariant-loop-label : goal.invariant-loop-label
invariant-loop-label l = Filled (settled l.initial.labels) l.initial.labels l.labels l.label-index
