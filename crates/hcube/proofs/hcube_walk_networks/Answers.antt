-- `hcube_walk_networks` packs the answer of `walk_networks`, whose parts are small.
use mathlib.Core.Path.{subst, sym, ◌∙◌}
use Rattle.hcube.specs.Fits.{CrossedFits}
use Rattle.hcube.proofs.DecodedHops.{walk_networks_small}
use Rattle.hcube.proofs.hcube_walk_networks.Goals as goal

pub map_or_else-requires-clause-f_callable : goal.map_or_else-requires-clause-f_callable
map_or_else-requires-clause-f_callable c x e =
    subst CrossedFits (sym c.walk_networks-answer.ensures.answer ∙ e) (walk_networks_small _ _ _ _ _ _ _ _)
