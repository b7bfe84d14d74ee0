-- `is_job` is the test itself.
use mathlib.Core.Path.{refl}
use Rattle.jobs.specs.Jobs.{is_job}
use Rattle.jobs.proofs.is_job.Goals as goal

pub returns : goal.returns
unfolding is_job
returns c = refl
