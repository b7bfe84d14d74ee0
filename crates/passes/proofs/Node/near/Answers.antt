use native.Mathlib.Omega.{arith}
use Rattle.cube.specs.Tables.{label_in}
use Rattle.cube.proofs.Cube.{flip_lt}
use Rattle.passes.proofs.Node.near.Goals as goal

pub bounds-self-neighbour : goal.bounds-self-neighbour
bounds-self-neighbour c =
    let s = c.args.self in
    omega (arith, c.neighbour.ensures, s.is_node.sized, flip_lt s.n c.args.i s.x (omega arith) s.is_node.inside)

pub returns : goal.returns
unfolding label_in
returns c = rw c.neighbour.ensures
