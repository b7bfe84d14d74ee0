use mathlib.Core.Path.{◌≡◌, ap, ◌∙◌}
use Prim.Native.Nat.{ℕ}
use native.Mathlib.Omega.{arith}
use Rattle.std.proofs.Common.{max}
use lib.Dec.{ltb}
use lib.ListN.{length}
use borrow.Author.Tests.{ltb-true, ltb-false}
use Rattle.cube.specs.Count.{larger, largest}
use Rattle.cube.specs.Tables.{label_in}
use Rattle.cube.proofs.Bools.{by_cases}
use Rattle.cube.proofs.Search.{largest_next, largest_none}
use Rattle.walk.proofs.largest.Goals as goal

-- the library's larger of two numbers
max_is : (a b : ℕ) → max a b ≡ larger a b
max_is a b = by_cases (λ m. max a b ≡ m) (ltb a b) (λ t. omega (arith, ltb-true a b t)) (λ t. omega (arith, ltb-false a b t))

pub loop-label-init : goal.loop-label-init
loop-label-init c = largest_none _

pub loop-label-preserved : goal.loop-label-preserved
unfolding label_in
loop-label-preserved c = largest_next (label_in c.args.labels.now) _ _ _ c.loop-label.invariant (c.max-high.ensures ∙ max_is _ _)

pub returns : goal.returns
returns c =
    let l = c.loop-label in
    let e : l.label-index ≡ length c.args.labels.now = omega arith in
    l.invariant ∙ ap (λ (n : ℕ). largest n (label_in c.args.labels.now)) e
