use mathlib.Core.Path.{refl, sym, ap, subst, ◌∙◌}
use Prim.Native.Nat.{ℕ, ◌+◌, ◌^◌, ◌≤◌}
use native.Mathlib.Omega.{arith}
use Rattle.rule.specs.Cabinet.{cabinet, out}
use Rattle.rule.specs.Rule.{working}
use Rattle.rule.proofs.Rounds.{working_few}
use Rattle.passes.proofs.Standing.{stands_first, stands_kept}
use Rattle.labels.proofs.Loop.{round_bound, round_done, end_exchanges, end_labels, end_rounds, swept_length}
use Rattle.labels.proofs.Watched.{looked_first, looked_next, round_is}
use Rattle.labels.proofs.label_nodes.Goals as goal
use Rattle.labels.proofs.label_nodes.Goals.{In-loop-rule}
use Rattle.labels.proofs.label_nodes.Given.{Over}

pub loop-rule-init : goal.loop-rule-init
loop-rule-init g c =
    record {
      turn = record { over = 0; next = refl; stands = stands_first (cabinet _ _ _ _ _) _ c.start.ensures };
      seen = looked_first _ _ _ 0;
      fits = subst (g.W.Watch.fits _) c.requires.sized.sized c.requires.fits;
    }

pub sweep-requires-clause-kept : goal.sweep-requires-clause-kept
sweep-requires-clause-kept g c = stands_kept (cabinet _ _ _ _ _) _ _ c.loop-rule.invariant.turn.stands

pub look-requires : goal.look-requires
look-requires g c =
    let I = c.loop-rule.invariant in
    let long = swept_length (cabinet _ _ _ _ _) _ _ I.turn.stands _ _ c.sweep.ensures.marked c.sweep.ensures.labels in
    subst (g.W.Watch.fits _) (sym long) I.fits

-- a round that marked something is one of at most as many as there are working nodes, and these are few
bound : (g : Over) (c : In-loop-rule g)
    → let a = c.args in
    let t = a.tables in
    let few = working t.n (out (cabinet t.n a.rule.number t.faults.now t.draining.now t.closed.now)) in
    (c.loop-rule.exchanges ≤ few) × (few ≤ 4096)
bound g c =
    let T = c.loop-rule.invariant.turn in
    let over = round_bound (cabinet _ _ _ _ _) _ _ T.stands _ _ c.sweep.ensures.marked c.sweep.ensures.labels c.loop-rule-test.true in
    (omega (arith, T.next, over), working_few _ _ c.requires.sized.small)

pub overflow_add-exchanges : goal.overflow_add-exchanges
overflow_add-exchanges g c = omega (arith, bound g (goal.at.overflow_add-exchanges g c).In-loop-rule)

pub loop-rule-smaller : goal.loop-rule-smaller
loop-rule-smaller g c = omega (arith, bound g (goal.at.loop-rule-smaller g c).In-loop-rule)

pub loop-rule-preserved : goal.loop-rule-preserved
loop-rule-preserved g c =
    let I = c.loop-rule.invariant in
    let T = I.turn in
    let s = c.sweep.ensures in
    record {
      turn = record {
        over = _;
        next = ap (λ (z : ℕ). z + 1) T.next;
        stands = round_done (cabinet _ _ _ _ _) _ _ T.stands _ _ s.marked s.labels c.loop-rule-test.true _ c.settle.ensures;
      };
      seen = looked_next _ (cabinet _ _ _ _ _) _ _ _ _ _ _ I.seen (round_is (cabinet _ _ _ _ _) _ _ _ T.stands s.labels) T.next c.look.ensures;
      fits = subst (λ w. g.W.Watch.fits w (2 ^ c.args.tables.n)) (sym c.look.ensures) (g.met.W.Watch.still_fits _ _ _ _ I.fits);
    }

pub returns-clause-exchanges : goal.returns-clause-exchanges
returns-clause-exchanges g c =
    let T = c.loop-rule.invariant.turn in
    T.next ∙ sym (end_exchanges (cabinet _ _ _ _ _) _ _ T.stands _ _ c.sweep.ensures.marked c.sweep.ensures.labels c.loop-rule-test.false)

pub returns-clause-labels : goal.returns-clause-labels
returns-clause-labels g c =
    end_labels (cabinet _ _ _ _ _) _ _ c.loop-rule.invariant.turn.stands _ _ c.sweep.ensures.marked
    c.sweep.ensures.labels c.loop-rule-test.false _ c.finish.ensures

pub returns-clause-watcher : goal.returns-clause-watcher
returns-clause-watcher g c =
    let I = c.loop-rule.invariant in
    rw (end_rounds (cabinet _ _ _ _ _) _ _ I.turn.stands _ _ c.sweep.ensures.marked c.sweep.ensures.labels c.loop-rule-test.false) I.seen
