-- `labelled_from` counts. Invariant: so many across the dimensions that were passed.
use mathlib.Core.Path.{◌≡◌}
use lib.Dec.{leb}
use Rattle.cube.specs.Count.{count}
use Rattle.cube.specs.Cube.{flip}
use Rattle.cube.specs.Tables.{label_in}
use Rattle.why.proofs.labelled_from.Given as goal

abbrev pub invariant-loop-i : goal.invariant-loop-i
invariant-loop-i l = l.found ≡ count l.i (λ k. leb l.low (label_in l.node.labels.now (flip k l.node.x)))
