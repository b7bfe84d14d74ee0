-- `lowest`: the search in the set is the search in what is left of it. The measure is the number itself.
use mathlib.Core.Path.{◌≡◌}
use Prim.Native.Nat.{◌<◌, ◌^◌}
use lib.ListN.{get_or}
use Rattle.cube.specs.Count.{least}
use Rattle.hop.specs.Helpers.{in_set}
use Rattle.hop.proofs.lowest.Given as goal

abbrev pub invariant-loop-rest : goal.invariant-loop-rest
invariant-loop-rest l = (l.rest < 2 ^ l.n) × (least l.n (in_set l.set (λ i. get_or l.near i 0) l.top) ≡ least l.n (in_set l.rest (λ i. get_or l.near i 0) l.top))

abbrev pub decreases-loop-rest : goal.decreases-loop-rest
decreases-loop-rest l = l.rest
