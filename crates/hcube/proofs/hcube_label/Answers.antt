-- `hcube_label` packs the answer of `label`, whose value is small.
use mathlib.Core.Path.{subst, sym, ◌∙◌}
use Rattle.rule.specs.Cabinet.{cabinet}
use Rattle.hcube.proofs.Small.{LabelFits, label_small}
use Rattle.hcube.proofs.hcube_label.Goals as goal

pub map_or_else-requires-clause-f_callable : goal.map_or_else-requires-clause-f_callable
map_or_else-requires-clause-f_callable c x e =
    subst LabelFits (sym c.label-answer.ensures.answer ∙ e) (label_small (cabinet _ _ _ _ _) _ _)
