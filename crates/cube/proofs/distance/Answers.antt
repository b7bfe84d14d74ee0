-- `distance` counts the ones of the exclusive or, which is what `dist` says. That this counts the dimensions in which the two differ is
-- `dist_count` of proofs/Cube.antt.
use mathlib.Core.Path.{refl}
use Rattle.cube.specs.Cube.{dist}
use Rattle.cube.proofs.distance.Goals as goal

pub returns : goal.returns
unfolding dist
returns c = refl
