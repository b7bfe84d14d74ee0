-- `copy` fills one table with the bytes of the other, from the front.
use lib.ListN.{get_or}
use Rattle.cube.proofs.Filling.{Filled}
use Rattle.repair.proofs.copy.Given as goal

abbrev pub invariant-loop-i : goal.invariant-loop-i
invariant-loop-i l = Filled (λ k. get_or l.from k 0) l.initial.to l.to l.i
