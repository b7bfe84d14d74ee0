-- `hcube_write_list` packs the answer of `write`, whose value is small.
use mathlib.Core.Path.{subst, sym, ◌∙◌}
use lib.ListN.{length}
use Rattle.hcube.proofs.DecodedNotices.{list_fits}
use Rattle.hcube.proofs.Small.{LabelFits}
use Rattle.hcube.proofs.hcube_write_list.Goals as goal

pub map_or_else-requires-clause-f_callable : goal.map_or_else-requires-clause-f_callable
map_or_else-requires-clause-f_callable c x e =
    let a = c.args in
    subst LabelFits (sym c.write-answer.ensures.answer ∙ e) (list_fits a.n a.faults.now (length a.out.now))
