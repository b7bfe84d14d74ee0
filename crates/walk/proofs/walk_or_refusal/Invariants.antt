-- `walk_or_refusal`: `Walking` of proofs/Steps.antt holds each time round. The measure is what is left of n + 4 hops.
use Prim.Native.Nat.{◌+◌, ◌-◌}
use Rattle.cube.specs.Tables.{label_in}
use Rattle.walk.proofs.Steps.{Walking}
use Rattle.walk.proofs.walk_or_refusal.Given as goal

abbrev pub invariant-loop-row : goal.invariant-loop-row
invariant-loop-row l = Walking l.labels.n (label_in l.labels.bytes.now) l.d l.s l.row l.m

abbrev pub decreases-loop-row : goal.decreases-loop-row
decreases-loop-row l = l.labels.n + 4 - l.m.hops
