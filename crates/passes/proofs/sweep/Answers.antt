use mathlib.Core.Path.{sym, ◌∙◌}
use Prim.Native.Nat.{◌<◌}
use native.Mathlib.Omega.{arith}
use lib.ListN.{length}
use Rattle.cube.proofs.Count.{count_zero, count_bound}
use Rattle.passes.specs.Passes.{fresh}
use Rattle.cube.proofs.Filling.{fill_start, fill_end}
use Rattle.passes.proofs.Marking.{kept_on, sweep_here, sweep_not, fresh_seen}
use Rattle.passes.proofs.sweep.Goals as goal
use Rattle.passes.proofs.sweep.Goals.{else-is_fresh, then-is_fresh}

pub loop-x-init : goal.loop-x-init
loop-x-init c = (fill_start _ _, sym (count_zero _))

pub is_fresh-requires : goal.is_fresh-requires
is_fresh-requires c = kept_on _ _ _ _ _ c.loop-x.invariant.0 c.requires.kept

pub overflow_add-marked : goal.overflow_add-marked
overflow_add-marked c =
    omega (arith, count_bound c.loop-x.x (fresh c.args.n c.args.rule.number c.args.labels.now))

pub loop-x-preserved : goal.loop-x-preserved
loop-x-preserved c =
    let h : c.loop-x.x < length c.args.labels.now = omega arith in
    let e = c.is_fresh.ensures ∙ fresh_seen _ _ _ _ _ c.loop-x.invariant.0 in
    elim c.if-is_fresh.branch [
      | then-is_fresh w ↦ rw (w.labels-is, w.marked-is) (sweep_here _ _ _ _ _ c.loop-x.invariant.0 _ c.loop-x.invariant.1 h (sym e ∙ w.if-is_fresh.true))
      | else-is_fresh w ↦ rw (w.labels-is, w.marked-is) (sweep_not _ _ _ _ _ c.loop-x.invariant.0 _ c.loop-x.invariant.1 h (sym e ∙ w.if-is_fresh.false))
    ]

pub returns-clause-labels : goal.returns-clause-labels
returns-clause-labels c = fill_end _ _ _ _ c.loop-x.invariant.0 _ (omega arith) (omega arith)
