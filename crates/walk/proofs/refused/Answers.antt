-- `refused` is the definition itself.
use Rattle.walk.specs.Walk.{refused}
use Rattle.cube.proofs.Refused.{refusal_back}
use Rattle.walk.proofs.refused.Goals as goal

pub returns : goal.returns
unfolding refused
returns c = rw refusal_back
