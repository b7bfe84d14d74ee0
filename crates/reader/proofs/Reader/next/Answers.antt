-- `next` answers what `number_at` does at the reader's place, and moves as `place_after` says of that answer.
use mathlib.Core.Path.{sym, ◌∙◌}
use Rattle.reader.proofs.Told.{moves, stays}
use Rattle.reader.proofs.Reader.next.Goals as goal

pub returns-in_default-clause-place : goal.returns-in_default-clause-place
returns-in_default-clause-place c = sym (stays _ _ _ _ (sym c.number_at-number.ensures ∙ c.in_default.is))

pub returns-clause-place : goal.returns-clause-place
returns-clause-place c = sym (moves _ _ _ _ (sym c.number_at-number.ensures ∙ c.in-Ok.is))
