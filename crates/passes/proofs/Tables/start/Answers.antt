use native.Mathlib.Omega.{arith}
use Rattle.cube.proofs.Filling.{fill_start, fill_write, fill_end}
use Rattle.passes.proofs.Tables.start.Goals as goal

pub loop-k-init : goal.loop-k-init
loop-k-init c = fill_start _ _

pub loop-k-preserved : goal.loop-k-preserved
loop-k-preserved c =
    fill_write _ _ _ _ c.loop-k.invariant _ (omega arith) c.start_byte.ensures

pub returns : goal.returns
returns c = fill_end _ _ _ _ c.loop-k.invariant _ (omega arith) (omega arith)
