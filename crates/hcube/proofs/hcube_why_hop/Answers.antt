-- `hcube_why_hop` packs the answer of `why_hop`, whose parts are small.
use mathlib.Core.Path.{sym, ◌∙◌}
use Rattle.hcube.proofs.Reasons.{hop_reason_small}
use Rattle.hcube.proofs.hcube_why_hop.Goals as goal

pub map_or_else-requires-clause-f_callable : goal.map_or_else-requires-clause-f_callable
map_or_else-requires-clause-f_callable c x e = hop_reason_small _ _ _ _ _ _ _ (sym c.why_hop-answer.ensures ∙ e)
