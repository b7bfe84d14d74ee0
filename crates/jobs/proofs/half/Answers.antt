-- `half` hands back the half of a job: in bytes, and as a place of the caller's memory.
use Rattle.jobs.proofs.Halves.{ends_within, part_is_half}
use Rattle.jobs.proofs.half.Goals as goal

pub slice_bounds-result-end : goal.slice_bounds-result-end
slice_bounds-result-end c = ends_within _ _ _ _ c.requires c.nodes-size.ensures

pub returns-clause-bytes : goal.returns-clause-bytes
returns-clause-bytes c = part_is_half _ _ _ c.nodes-size.ensures _
