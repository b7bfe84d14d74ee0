-- `around`: what the node knows, as it is read.
use mathlib.Core.Path.{refl}
use Rattle.hop.specs.Helpers.{around}
use Rattle.hop.proofs.around.Goals as goal

pub returns-clause-here : goal.returns-clause-here
unfolding around
returns-clause-here c = rw (c.gather-high.ensures.near, c.at.ensures) refl
