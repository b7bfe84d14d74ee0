use lib.ListN.{length}
use mathlib.Core.Path.{ap, ◌∙◌}
use Rattle.jobs.proofs.Laws.{halved_long}
use Rattle.jobs.proofs.Labels.of.Goals as goal

pub invariant_of-result : goal.invariant_of-result
invariant_of-result c = record { small = c.requires.small; sized = ap length c.half.ensures.bytes ∙ halved_long _ _ _ c.requires }
