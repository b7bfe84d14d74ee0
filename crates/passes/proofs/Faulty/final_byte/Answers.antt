-- `final_byte` asks as `finished` does.
use mathlib.Core.Path.{sym, ◌∙◌}
use borrow.Author.Tests.{eq-eqb, ne_eqb}
use Rattle.passes.specs.Passes.{finished, out_in}
use Rattle.passes.proofs.Faulty.final_byte.Goals as goal

pub returns-then-label-eq-OUT : goal.returns-then-label-eq-OUT
unfolding finished out_in
returns-then-label-eq-OUT c = c.out_byte.ensures ∙ rw (eq-eqb _ _ (sym c.label-label.ensures ∙ c.if-label-eq-OUT.true))

pub returns-then-is_ordinary : goal.returns-then-is_ordinary
unfolding finished out_in
returns-then-is_ordinary c = rw (ne_eqb _ _ (λ q. c.if-label-eq-OUT.false (c.label-label.ensures ∙ q)), sym c.is_ordinary.ensures ∙ c.if-is_ordinary.true)

pub returns : goal.returns
unfolding finished out_in
returns c =
    c.label-label.ensures
    ∙ rw (ne_eqb _ _ (λ q. c.if-label-eq-OUT.false (c.label-label.ensures ∙ q)), sym c.is_ordinary.ensures ∙ c.if-is_ordinary.false)
