-- `look` looks for the byte of a mark of this round.
use mathlib.Core.Path.{sym, ◌∙◌}
use borrow.Author.Tests.{eq-eqb, ne_eqb}
use Rattle.why.specs.Helpers.{watched_on}
use Rattle.why.proofs.WatcherWatch.look.Goals as goal

pub returns-then-label : goal.returns-then-label
unfolding watched_on
returns-then-label c = rw (eq-eqb _ _ (sym c.label.ensures ∙ c.if-label.true), c.cause.ensures)

pub returns-else-label : goal.returns-else-label
unfolding watched_on
returns-else-label c = rw (ne_eqb _ _ (λ q. c.if-label.false (c.label.ensures ∙ q)))
