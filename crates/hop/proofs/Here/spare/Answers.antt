-- The spare dimensions are the others below n.
use lib.Bits.{xor_lt}
use lib.Pow.{ones_lt}
use Rattle.hop.proofs.Here.spare.Goals as goal

pub lowest-requires : goal.lowest-requires
lowest-requires c = let s = c.args.self.now in (s.small, rw c.nodes.ensures (xor_lt _ _ _ (xor_lt _ _ _ s.inside s.target) (ones_lt _)))
