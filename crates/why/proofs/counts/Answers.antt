-- `counts` reads one byte.
use mathlib.Core.Path.{refl}
use Rattle.cube.specs.Tables.{label_in}
use Rattle.passes.specs.Passes.{mark_in, out_in}
use Rattle.why.specs.Helpers.{counted}
use Rattle.why.proofs.counts.Goals as goal

pub returns : goal.returns
unfolding counted out_in mark_in label_in
returns c = refl
