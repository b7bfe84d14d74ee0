-- `neighbour` changes bit i: `1 << i` does not wrap below 64.
use mathlib.Core.Path.{ap}
use lib.Bits.{bit_xor}
use Rattle.cube.specs.Cube.{flip}
use Rattle.cube.proofs.Cube.{shl_one}
use Rattle.cube.proofs.neighbour.Goals as goal

pub returns : goal.returns
unfolding flip
returns c = ap (bit_xor c.args.x) (shl_one c.args.i c.requires)
