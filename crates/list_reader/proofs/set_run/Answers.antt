use mathlib.Core.Path.{◌≡◌, refl}
use Prim.Native.Nat.{◌+◌, ◌-◌, ◌%◌, ◌≤◌}
use native.Mathlib.Omega.{arith}
use borrow.Author.Tests.{eqb-true, leb-true}
use lib.Dec.{eqb, leb}
use Rattle.cube.proofs.Bools.{and_true}
use Rattle.list_reader.proofs.Running.{run_byte, run_end, run_on}
use Rattle.list_reader.proofs.set_run.Goals as goal
use Rattle.list_reader.proofs.set_run.Goals.{Then-k-high}

-- the byte of the turn begins at its node, and all of it is in the run
whole : (c : Then-k-high)
    → let k = c.loop-k.k in
    let high = c.args.high in (k % 8 ≡ 0) × (k + 7 ≤ high)
whole c =
    let k = c.loop-k.k in
    let high = c.args.high in
    let r = and_true (eqb (k % 8) 0) (leb 7 (high - k)) c.if-k-high.true in
    (eqb-true (k % 8) 0 r.0, omega (arith, leb-true 7 (high - k) r.1))

pub loop-k-preserved-then-k-high : goal.loop-k-preserved-then-k-high
loop-k-preserved-then-k-high c =
    run_byte c.loop-k.invariant (whole c).1 (whole c).0 (omega (arith, c.requires.1, c.loop-k.invariant.sized)) refl

pub loop-k-preserved : goal.loop-k-preserved
loop-k-preserved c = run_on c.loop-k.invariant (omega arith) c.set_bit.ensures

pub returns : goal.returns
returns c = run_end c.loop-k.invariant (omega arith)
