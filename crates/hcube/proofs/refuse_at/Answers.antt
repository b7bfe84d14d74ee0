-- A refusal's number is at most 19.
use native.Mathlib.Omega.{arith}
use Rattle.hcube.proofs.Parts.{few}
use Rattle.hcube.proofs.refuse_at.Goals as goal

pub pack-requires : goal.pack-requires
pack-requires c = (omega (arith, c.from.ensures, few c.args.refusal), (omega arith, c.requires))
