-- `next_from` goes up from i. Invariant: no neighbour across a dimension that was passed counts.
use Rattle.cube.specs.Cube.{flip}
use Rattle.causes.proofs.Nth.{Passed}
use Rattle.why.specs.Helpers.{counted}
use Rattle.why.proofs.next_from.Given as goal

abbrev pub invariant-loop-k : goal.invariant-loop-k
invariant-loop-k l = Passed (λ j. counted l.node.labels.now l.marks (flip j l.node.x)) l.i l.k
