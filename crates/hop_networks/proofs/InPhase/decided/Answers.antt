-- `decided` delivers at the destination, and elsewhere goes by what is picked.
use Rattle.hop_networks.proofs.Deciding.{arrived, halted, hopped, refused}
use Rattle.hop_networks.proofs.InPhase.decided.Goals as goal

pub returns-then-self : goal.returns-then-self
returns-then-self c = arrived _ _ _ _ _ _ _ c.if-self.true

pub returns-in_default : goal.returns-in_default
returns-in_default c =
    let s = c.args.self.now.here in
    halted _ _ _ _ _ _ _ s.inside s.target c.if-self.false c.in_default.ensures

-- where the board lacks the network of the hop that is picked,
-- no other block is asked for another hop
pub returns-then-networks-next : goal.returns-then-networks-next
returns-then-networks-next c =
    let s = c.args.self.now.here in
    refused _ _ _ _ _ _ _ s.inside s.target c.if-self.false _ c.in-Some.ensures _ c.after-next.ensures c.if-networks-next.true

pub returns : goal.returns
returns c =
    let s = c.args.self.now.here in
    hopped _ _ _ _ _ _ _ s.inside s.target c.if-self.false _ c.in-Some.ensures _ c.after-next.ensures c.if-networks-next.false
