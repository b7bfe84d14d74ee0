use mathlib.Core.Path.{refl, ◌∙◌}
use native.Mathlib.Omega.{arith}
use Rattle.cube.specs.Tables.{label_in}
use Rattle.passes.specs.Passes.{settled}
use Rattle.cube.proofs.Filling.{fill_start, fill_here, fill_write, fill_end}
use Rattle.passes.proofs.settle.Goals as goal

pub loop-label-init : goal.loop-label-init
loop-label-init c = fill_start _ _

pub loop-label-preserved : goal.loop-label-preserved
unfolding settled label_in
loop-label-preserved c =
    fill_write _ _ _ _ c.loop-label.invariant _ (omega arith) (c.settled_byte.ensures ∙ rw (fill_here _ _ _ _ c.loop-label.invariant))

pub returns : goal.returns
returns c = fill_end _ _ _ _ c.loop-label.invariant _ refl (omega arith)
