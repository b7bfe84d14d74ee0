-- The forward dimensions are dimensions.
use lib.Bits.{xor_lt}
use Rattle.hop.proofs.Here.forward.Goals as goal

pub lowest-requires : goal.lowest-requires
lowest-requires c = let s = c.args.self.now in (s.small, xor_lt _ _ _ s.inside s.target)
