-- `hcube_why_node` packs the answer of `why_node`, whose parts are small.
use mathlib.Core.Path.{sym, ◌∙◌}
use Rattle.rule.specs.Cabinet.{cabinet}
use Rattle.hcube.proofs.Reasons.{node_small, reason_fits}
use Rattle.hcube.proofs.hcube_why_node.Goals as goal

pub map_or_else-requires-clause-f_callable : goal.map_or_else-requires-clause-f_callable
map_or_else-requires-clause-f_callable c x e =
    reason_fits _ (node_small (cabinet _ _ _ _ _) _ _ _ _ (sym c.why_node-answer.ensures.answer ∙ e))
