-- `third` is open by the definition's own test, and gives n where it is shut.
use mathlib.Core.Path.{ap, ◌∙◌}
use Rattle.hop.proofs.Scanning.{third_open, third_shut}
use Rattle.hop.proofs.Sets.{found_none}
use Rattle.hop.specs.Helpers.{found}
use Rattle.hop.proofs.Here.third.Goals as goal

pub returns-then-self-distance : goal.returns-then-self-distance
returns-then-self-distance c = c.forward.ensures ∙ ap (found _) (third_open _ _ _ _ _ (rw c.distance.ensures at c.if-self-distance.true))

pub returns : goal.returns
returns c = found_none _ _ (third_shut _ _ _ _ _ (rw c.distance.ensures at c.if-self-distance.false))
