use native.Mathlib.Omega.{arith}
use Rattle.lines.specs.Lines.{figures_line}
use Rattle.lines.proofs.Putting.{putting}
use Rattle.lines.proofs.figures_line.Goals as goal

pub returns : goal.returns
unfolding figures_line
returns c = grind (arith, putting)
