use native.Mathlib.Omega.{arith}
use Rattle.lines.specs.Lines.{cube_line}
use Rattle.lines.proofs.Putting.{putting}
use Rattle.lines.proofs.cube_line.Goals as goal

pub returns : goal.returns
unfolding cube_line
returns c = grind (arith, putting)
