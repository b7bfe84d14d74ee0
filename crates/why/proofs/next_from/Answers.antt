use mathlib.Core.Path.{sym, ◌∙◌}
use native.Mathlib.Omega.{arith}
use Rattle.causes.proofs.Nth.{pass_end, pass_here, pass_next, pass_start}
use Rattle.passes.specs.Passes.{mark_in, out_in}
use Rattle.why.specs.Helpers.{counted}
use Rattle.why.proofs.next_from.Goals as goal

pub loop-k-init : goal.loop-k-init
loop-k-init c = pass_start _ _

pub returns-then-counts : goal.returns-then-counts
unfolding counted out_in mark_in
returns-then-counts c =
    pass_here _ _ _ c.loop-k.invariant _ (omega arith) (rw c.near.ensures at (sym c.counts.ensures ∙ c.if-counts.true))

pub loop-k-preserved : goal.loop-k-preserved
unfolding counted out_in mark_in
loop-k-preserved c = pass_next _ _ _ c.loop-k.invariant (rw c.near.ensures at (sym c.counts.ensures ∙ c.if-counts.false))

pub returns : goal.returns
returns c = pass_end _ _ _ c.loop-k.invariant _ (λ h. omega arith)
