-- `hcube_hop_networks` packs the answer of `hop_networks`, whose parts are small.
use mathlib.Core.Path.{subst, sym, ◌∙◌}
use Rattle.hcube.specs.Fits.{HopFits}
use Rattle.hcube.proofs.DecodedHops.{hop_networks_small}
use Rattle.hcube.proofs.hcube_hop_networks.Goals as goal

pub map_or_else-requires-clause-f_callable : goal.map_or_else-requires-clause-f_callable
map_or_else-requires-clause-f_callable c x e =
    subst HopFits (sym c.hop_networks-answer.ensures ∙ e) (hop_networks_small _ _ _ _ _ _ _ _ _)
