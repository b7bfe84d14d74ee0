-- `why_node`: the refusals decide between the two answers, and none gives all that `label_watching` requires of the tables, of the job's half and of the
-- node.
use mathlib.Core.Path.{◌≡◌, sym, ap, ◌∙◌}
use Prim.Native.Nat.{◌^◌, ◌<◌}
use native.Mathlib.Omega.{arith}
use lib.ListN.{length}
use Rattle.jobs.proofs.Halves.{ends_short, ends_within, part_is_half, part_with_half}
use Rattle.jobs.proofs.Laws.{halved_long}
use Rattle.rule.specs.Cabinet.{cabinet}
use Rattle.labels.specs.Labelling.{label_refusal}
use Rattle.labels.proofs.Refusal.{Fitting, fitting}
use Rattle.cube.proofs.Refused.{accepted as unrefused, passes}
use Rattle.why.specs.NodeReasons.{node_refusal}
use Rattle.why.proofs.Refusal.{accepted, says_reason, says_refused}
use Rattle.why.proofs.why_node.Goals as goal
use Rattle.why.proofs.why_node.Goals.{In_ok-node_refusal}

-- past the test nothing is refused, everything fits, and x is a node
none : (c : In_ok-node_refusal) → let a = c.args in
    node_refusal (cabinet a.n a.rule a.faults.now a.draining.now a.closed.now) a.job (length a.labels.now) a.x ≡ 0
none c = (unrefused _ _ _ (sym c.node_refusal.ensures ∙ c.in_ok-node_refusal.was)).0

good : (c : In_ok-node_refusal) → let a = c.args in let K = cabinet a.n a.rule a.faults.now a.draining.now a.closed.now in
    (label_refusal K a.job (length a.labels.now) ≡ 0) × (a.x < 2 ^ a.n)
good c = accepted (cabinet _ _ _ _ _) _ _ _ (none c)

fit : (c : In_ok-node_refusal) → let a = c.args in
    Fitting (cabinet a.n a.rule a.faults.now a.draining.now a.closed.now) a.job (length a.labels.now)
fit c = fitting (cabinet _ _ _ _ _) _ _ (good c).0

pub returns-in_err-node_refusal-clause-answer : goal.returns-in_err-node_refusal-clause-answer
returns-in_err-node_refusal-clause-answer c =
    passes _ c.from_residual.ensures ∙ (says_refused (cabinet _ _ _ _ _) _ _ c.args.labels.now _ (sym c.node_refusal.ensures ∙ c.in_err-node_refusal.was)).0

pub returns-in_err-node_refusal-clause-labels : goal.returns-in_err-node_refusal-clause-labels
returns-in_err-node_refusal-clause-labels c = (says_refused (cabinet _ _ _ _ _) _ _ _ _ (sym c.node_refusal.ensures ∙ c.in_err-node_refusal.was)).1

pub nodes-size-requires : goal.nodes-size-requires
nodes-size-requires c = omega (arith, (fit (goal.at.nodes-size-requires c).In_ok-node_refusal).halved.small)

pub overflow_mul-from : goal.overflow_mul-from
overflow_mul-from c = omega (arith, ends_short _ _ _ _ (fit (goal.at.overflow_mul-from c).In_ok-node_refusal).halved c.nodes-size.ensures)

pub overflow_add-to : goal.overflow_add-to
overflow_add-to c = omega (arith, ends_short _ _ _ _ (fit (goal.at.overflow_add-to c).In_ok-node_refusal).halved c.nodes-size.ensures)

pub slice_bounds-label_watching-end : goal.slice_bounds-label_watching-end
slice_bounds-label_watching-end c = ends_within _ _ _ _ (fit (goal.at.slice_bounds-label_watching-end c).In_ok-node_refusal).halved c.nodes-size.ensures

pub invariant_of-rule : goal.invariant_of-rule
invariant_of-rule c = record { is_rule = (fit (goal.at.invariant_of-rule c).In_ok-node_refusal).rule }

pub invariant_of-tables : goal.invariant_of-tables
invariant_of-tables c =
    let f = fit (goal.at.invariant_of-tables c).In_ok-node_refusal in
    record { faults_len = f.faults; draining_len = f.draining; closed_len = f.closed }

pub label_watching-requires : goal.label_watching-requires
label_watching-requires c =
    let e = (goal.at.label_watching-requires c).In_ok-node_refusal in
    let f = fit e in
    record {
      small = f.halved.small;
      sized = ap length (part_is_half _ _ _ c.nodes-size.ensures _) ∙ halved_long _ _ _ f.halved;
      inside = (good e).1;
    }

pub returns : goal.returns
returns c =
    let r =
    says_reason (cabinet _ _ _ _ _) _ _ _ _ _ _ (none (goal.at.returns c).In_ok-node_refusal)
    c.label_watching.ensures.answer c.label_watching.ensures.labels (part_with_half _ _ _ c.nodes-size.ensures _ _) in
    record { answer = r.0; labels = r.1 }
