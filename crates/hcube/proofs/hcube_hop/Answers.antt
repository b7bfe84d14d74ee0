-- `hcube_hop` packs the answer of `hop`, whose parts are small.
use mathlib.Core.Path.{subst, sym, ◌∙◌}
use Rattle.hcube.specs.Fits.{HopFits}
use Rattle.hcube.proofs.Small.{hop_small}
use Rattle.hcube.proofs.hcube_hop.Goals as goal

pub map_or_else-requires-clause-f_callable : goal.map_or_else-requires-clause-f_callable
map_or_else-requires-clause-f_callable c x e = subst HopFits (sym c.hop-answer.ensures ∙ e) (hop_small _ _ _ _ _ _)
