-- `is_fresh` asks the rule of a node without a mark.
use mathlib.Core.Path.{sym, ◌∙◌}
use borrow.Author.Tests.{eq-eqb, ne_eqb}
use Rattle.passes.specs.Passes.{plain_in, fresh}
use Rattle.passes.proofs.Node.is_fresh.Goals as goal

pub returns-then-label-eq-PLAIN : goal.returns-then-label-eq-PLAIN
unfolding fresh plain_in
returns-then-label-eq-PLAIN c = c.meets_rule.ensures.holds ∙ rw (eq-eqb _ _ (sym c.label.ensures ∙ c.if-label-eq-PLAIN.true))

pub returns-else-label-eq-PLAIN : goal.returns-else-label-eq-PLAIN
unfolding fresh plain_in
returns-else-label-eq-PLAIN c = rw (ne_eqb _ _ (λ q. c.if-label-eq-PLAIN.false (c.label.ensures ∙ q))) (ne_eqb _ _ c.if-label-eq-PLAIN.false)
