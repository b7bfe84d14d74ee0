use mathlib.Core.Path.{sym, ap, ◌∙◌}
use mathlib.Core.Bool.{Bool}
use Prim.Native.Nat.{ℕ}
use native.Mathlib.Omega.{arith}
use lib.Dec.{leb}
use borrow.Author.Tests.{le-leb, lt-leb}
use Rattle.cube.specs.Cube.{flip}
use Rattle.cube.specs.Tables.{label_in}
use Rattle.cube.proofs.Count.{count_bound, count-in, count_out, count_zero}
use Rattle.why.proofs.labelled_from.Goals as goal
use Rattle.why.proofs.labelled_from.Goals.{else-low-near, then-low-near}

pub loop-i-init : goal.loop-i-init
loop-i-init c = sym (count_zero _)

pub overflow_add-found : goal.overflow_add-found
overflow_add-found c =
    let a = c.args in
    omega (arith, count_bound c.loop-i.i (λ k. leb a.low (label_in a.node.labels.now (flip k a.node.x))))

pub loop-i-preserved : goal.loop-i-preserved
loop-i-preserved c =
    let a = c.args in
    let p : ℕ → Bool = λ k. leb a.low (label_in a.node.labels.now (flip k a.node.x)) in
    let e = ap (leb a.low) (sym c.near.ensures) in
    elim c.if-low-near.branch [
      | then-low-near w ↦ w.found-is ∙ omega (arith, c.loop-i.invariant, count-in c.loop-i.i p (e ∙ le-leb a.low _ w.if-low-near.true))
      | else-low-near w ↦ w.found-is ∙ omega (arith, c.loop-i.invariant, count_out c.loop-i.i p (e ∙ lt-leb a.low _ (omega (arith, w.if-low-near.false))))
    ]
