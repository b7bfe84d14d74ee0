-- `walk_for`: the walk, or the refused one.
use Rattle.walk.proofs.Refusals.{walk_answered}
use Rattle.walk.proofs.walk_for.Goals as goal

pub returns : goal.returns
returns c = walk_answered _ _ _ _ _ _ _ _ c.walk_asked.ensures _ c.unwrap_or_else.ensures
