-- `largest`: high is the largest of the bytes so far.
use mathlib.Core.Path.{◌≡◌}
use Rattle.cube.specs.Count.{largest}
use Rattle.cube.specs.Tables.{label_in}
use Rattle.walk.proofs.largest.Given as goal

abbrev pub invariant-loop-label : goal.invariant-loop-label
invariant-loop-label l = l.high ≡ largest l.label-index (label_in l.labels)
