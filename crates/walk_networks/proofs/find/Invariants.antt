-- `find`: `Going` of proofs/Steps.antt holds each time round. The measure is what is left of the most hops that a walk may have.
use Prim.Native.Nat.{◌-◌}
use Rattle.cube.specs.Tables.{label_in}
use Rattle.blocks.specs.Board.{most_hops}
use Rattle.walk_networks.proofs.Steps.{Going}
use Rattle.walk_networks.proofs.find.Given as goal

abbrev pub invariant-loop-at : goal.invariant-loop-at
invariant-loop-at l = Going l.labels.n l.networks (label_in l.labels.bytes.now) l.d l.s l.initial.list l.list l.at l.phase l.hops

abbrev pub decreases-loop-at : goal.decreases-loop-at
decreases-loop-at l = most_hops l.labels.n l.networks - l.hops
