use mathlib.Core.Path.{◌∙◌}
use Rattle.list_reader.proofs.Steps.{above_by_bytes, above_by_length}
use Rattle.list_reader.proofs.is_above.Goals as goal

pub returns-then-a-b : goal.returns-then-a-b
returns-then-a-b c = above_by_length _ _ c.if-a-b.true

pub returns : goal.returns
returns c = c.lt.ensures ∙ above_by_bytes _ _ c.if-a-b.false
