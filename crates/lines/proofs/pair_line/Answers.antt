use native.Mathlib.Omega.{arith}
use Rattle.lines.specs.Lines.{pair_line}
use Rattle.lines.proofs.Putting.{putting}
use Rattle.lines.proofs.pair_line.Goals as goal

pub returns : goal.returns
unfolding pair_line
returns c = grind (arith, putting)
