-- `sweep` goes once through the table. Invariant: the places before x are marked as the round marks them, and `marked` of them are new.
use mathlib.Core.Path.{◌≡◌}
use Rattle.cube.specs.Count.{count}
use Rattle.passes.specs.Passes.{fresh, swept}
use Rattle.cube.proofs.Filling.{Filled}
use Rattle.passes.proofs.sweep.Given as goal

abbrev pub invariant-loop-x : goal.invariant-loop-x
invariant-loop-x l =
    Filled (swept l.n l.rule.number l.initial.labels) l.initial.labels l.labels l.x × (l.marked ≡ count l.x (fresh l.n l.rule.number l.initial.labels))
