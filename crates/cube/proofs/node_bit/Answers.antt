-- `node_bit` reads bit k mod 8 of byte k / 8.
use mathlib.Core.Path.{refl}
use Rattle.cube.specs.Cube.{bit}
use Rattle.cube.specs.Tables.{node_bit}
use Rattle.cube.proofs.node_bit.Goals as goal

pub returns : goal.returns
unfolding bit node_bit
returns c = refl
