-- `reason` goes by what was seen of the node.
use Rattle.why.proofs.reason.Goals as goal

pub returns-in-Some : goal.returns-in-Some
returns-in-Some c = rw (c.in-Some.is, c.label.ensures)
