-- `moved` takes the message to the neighbour and counts the hop.
use Rattle.walk.specs.Walk.{moved}
use Rattle.walk.proofs.Message.moved.Goals as goal

pub returns : goal.returns
unfolding moved
returns c = rw c.neighbour-next.ensures
