use mathlib.Core.Path.{refl}
use Prim.Native.Nat.{◌+◌}
use native.Mathlib.Omega.{arith}
use lib.ListN.{set}
use lib.Pow.{pow_mono}
use Rattle.cube.specs.Tables.{label_in}
use Rattle.walk.specs.Walk.{stops}
use Rattle.hop.specs.declared.Decision.TheVariants.{Deliver, Halted}
use Rattle.walk.proofs.Steps.{Walking, start, dimension, counted, on, too_long, ends}
use Rattle.walk.proofs.walk_or_refusal.Goals as goal
use Rattle.walk.proofs.walk_or_refusal.Goals.{After-moved-m}

-- the hop is made
next : (c : After-moved-m) → let a = c.args in
    Walking a.labels.n (label_in a.labels.bytes.now) a.d a.s (set c.loop-row.row (c.loop-row.m.hops + 1) c.moved-m.result.at) c.moved-m.result
next c = on _ _ _ _ _ _ c.loop-row.invariant _ c.in-Hop.ensures _ c.args.labels.small (omega arith) c.moved-m.ensures

pub loop-row-init : goal.loop-row-init
loop-row-init c = start _ _ _ _ c.requires.0

pub returns-in-Deliver : goal.returns-in-Deliver
unfolding stops
returns-in-Deliver c =
    ends _ _ _ _ _ _ c.loop-row.invariant Deliver c.args.labels.small c.in-Deliver.ensures refl

pub returns-in-Halted : goal.returns-in-Halted
unfolding stops
returns-in-Halted c =
    ends _ _ _ _ _ _ c.loop-row.invariant Halted c.args.labels.small c.in-Halted.ensures refl

pub returns-then-labels-hops : goal.returns-then-labels-hops
returns-then-labels-hops c =
    too_long _ _ _ _ _ _ c.loop-row.invariant _ c.in-Hop.ensures c.if-labels-hops.true

pub moved-m-requires : goal.moved-m-requires
moved-m-requires c =
    omega (arith, c.args.labels.small, dimension _ _ _ _ _ _ c.loop-row.invariant _ c.in-Hop.ensures)

pub overflow_cast-row-in-Hop : goal.overflow_cast-row-in-Hop
overflow_cast-row-in-Hop c = omega (arith, (next (goal.at.overflow_cast-row-in-Hop c).After-moved-m).inside, pow_mono c.args.labels.small)

pub loop-row-smaller : goal.loop-row-smaller
loop-row-smaller c =
    omega (arith, counted _ _ _ _ _ _ c.loop-row.invariant _ c.in-Hop.ensures _ c.moved-m.ensures)

pub loop-row-preserved : goal.loop-row-preserved
loop-row-preserved c = next (goal.at.loop-row-preserved c).After-moved-m
