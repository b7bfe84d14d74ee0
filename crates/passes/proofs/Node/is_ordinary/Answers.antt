-- `is_ordinary` asks for a neighbour without a mark, of a marked node.
use mathlib.Core.Path.{sym, ◌∙◌}
use borrow.Author.Tests.{eq-eqb, ne_eqb}
use Rattle.passes.specs.Passes.{mark_in, ordinary}
use Rattle.passes.proofs.Node.is_ordinary.Goals as goal

pub returns-then-label-eq-MARKED : goal.returns-then-label-eq-MARKED
unfolding ordinary mark_in
returns-then-label-eq-MARKED c = c.plain_near.ensures.holds ∙ rw (eq-eqb _ _ (sym c.label.ensures ∙ c.if-label-eq-MARKED.true))

pub returns-else-label-eq-MARKED : goal.returns-else-label-eq-MARKED
unfolding ordinary mark_in
returns-else-label-eq-MARKED c = rw (ne_eqb _ _ (λ q. c.if-label-eq-MARKED.false (c.label.ensures ∙ q))) (ne_eqb _ _ c.if-label-eq-MARKED.false)
