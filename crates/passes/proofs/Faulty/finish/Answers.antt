use mathlib.Core.Path.{◌∙◌}
use mathlib.Core.Bool.{cond, ◌||◌}
use mathlib.Core.List.{List}
use Prim.Native.Nat.{ℕ, ◌≤◌, ◌<◌}
use native.Mathlib.Omega.{arith}
use lib.ListN.{length}
use Rattle.cube.specs.Tables.{label_in, node_bit}
use Rattle.cube.proofs.Bools.{by_cases}
use Rattle.cube.proofs.Filling.{fill_start, fill_here, fill_keep, fill_write, fill_end}
use Rattle.passes.proofs.Marking.{final_low, final_seen}
use Rattle.passes.proofs.Faulty.finish.Goals as goal
use Rattle.passes.proofs.Faulty.finish.Goals.{else-labels-x-ge-MARKED, then-labels-x-ge-MARKED}

-- the byte of a node that does not work
abbrev own : (faults closed : List ℕ) (y : ℕ) → ℕ
own faults closed y = cond (node_bit faults y || node_bit closed y) 3 4

own-high : (faults closed : List ℕ) (y : ℕ) → 3 ≤ own faults closed y
own-high faults closed y = by_cases (λ b. 3 ≤ b) (node_bit faults y || node_bit closed y) (λ _. omega arith) (λ _. omega arith)

pub loop-x-init : goal.loop-x-init
loop-x-init c = fill_start _ _

pub loop-x-preserved : goal.loop-x-preserved
unfolding label_in
loop-x-preserved c =
    let h : c.loop-x.x < length c.args.labels.now = omega arith in
    let here = fill_here _ _ _ _ c.loop-x.invariant in
    elim c.if-labels-x-ge-MARKED.branch [
      | then-labels-x-ge-MARKED w ↦ rw w.labels-is (fill_write _ _ _ _ c.loop-x.invariant _ h (w.final_byte.ensures ∙ final_seen _ _ (own-high _ _) _ _ _ c.loop-x.invariant))
      | else-labels-x-ge-MARKED w ↦ rw w.labels-is (fill_keep _ _ _ _ c.loop-x.invariant h (final_low _ _ (own-high _ _) _ _ (omega (arith, here, w.if-labels-x-ge-MARKED.false))))
    ]

pub returns : goal.returns
returns c = fill_end _ _ _ _ c.loop-x.invariant _ (omega arith) (omega arith)
