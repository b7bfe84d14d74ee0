-- `label`: the refusals decide between the two answers, and none gives all that `label_nodes` requires of the tables and of the job's half.
use mathlib.Core.Path.{◌≡◌, sym, ap, ◌∙◌}
use native.Mathlib.Omega.{arith}
use lib.ListN.{length}
use Rattle.cube.proofs.Refused.{accepted, passes}
use Rattle.jobs.proofs.Halves.{ends_short, ends_within, part_is_half, part_with_half}
use Rattle.jobs.proofs.Laws.{halved_long}
use Rattle.rule.specs.Cabinet.{cabinet}
use Rattle.labels.specs.Labelling.{label_refusal}
use Rattle.labels.proofs.Refusal.{Fitting, fitting, says_refused, says_exchanges}
use Rattle.labels.proofs.label.Goals as goal
use Rattle.labels.proofs.label.Goals.{In_ok-label_refusal}

-- past the test nothing is refused, and everything fits
none : (c : In_ok-label_refusal) → let a = c.args in
    label_refusal (cabinet a.n a.rule a.faults.now a.draining.now a.closed.now) a.job (length a.labels.now) ≡ 0
none c = (accepted _ _ _ (sym c.label_refusal.ensures ∙ c.in_ok-label_refusal.was)).0

fit : (c : In_ok-label_refusal) → let a = c.args in
    Fitting (cabinet a.n a.rule a.faults.now a.draining.now a.closed.now) a.job (length a.labels.now)
fit c = fitting (cabinet _ _ _ _ _) _ _ (none c)

pub returns-in_err-label_refusal-clause-answer : goal.returns-in_err-label_refusal-clause-answer
returns-in_err-label_refusal-clause-answer c =
    passes _ c.from_residual.ensures ∙ (says_refused (cabinet _ _ _ _ _) _ c.args.labels.now _ (sym c.label_refusal.ensures ∙ c.in_err-label_refusal.was)).0

pub returns-in_err-label_refusal-clause-labels : goal.returns-in_err-label_refusal-clause-labels
returns-in_err-label_refusal-clause-labels c = (says_refused (cabinet _ _ _ _ _) _ _ _ (sym c.label_refusal.ensures ∙ c.in_err-label_refusal.was)).1

pub nodes-size-requires : goal.nodes-size-requires
nodes-size-requires c = omega (arith, (fit (goal.at.nodes-size-requires c).In_ok-label_refusal).halved.small)

pub overflow_mul-from : goal.overflow_mul-from
overflow_mul-from c = omega (arith, ends_short _ _ _ _ (fit (goal.at.overflow_mul-from c).In_ok-label_refusal).halved c.nodes-size.ensures)

pub overflow_add-to : goal.overflow_add-to
overflow_add-to c = omega (arith, ends_short _ _ _ _ (fit (goal.at.overflow_add-to c).In_ok-label_refusal).halved c.nodes-size.ensures)

pub slice_bounds-label_nodes-end : goal.slice_bounds-label_nodes-end
slice_bounds-label_nodes-end c = ends_within _ _ _ _ (fit (goal.at.slice_bounds-label_nodes-end c).In_ok-label_refusal).halved c.nodes-size.ensures

pub invariant_of-rule : goal.invariant_of-rule
invariant_of-rule c = record { is_rule = (fit (goal.at.invariant_of-rule c).In_ok-label_refusal).rule }

pub invariant_of-tables : goal.invariant_of-tables
invariant_of-tables c =
    let f = fit (goal.at.invariant_of-tables c).In_ok-label_refusal in
    record { faults_len = f.faults; draining_len = f.draining; closed_len = f.closed }

pub label_nodes-exchanges-requires-clause-sized : goal.label_nodes-exchanges-requires-clause-sized
label_nodes-exchanges-requires-clause-sized c =
    let f = fit (goal.at.label_nodes-exchanges-requires-clause-sized c).In_ok-label_refusal in
    record {
      small = f.halved.small;
      sized = ap length (part_is_half _ _ _ c.nodes-size.ensures _) ∙ halved_long _ _ _ f.halved;
    }

pub returns : goal.returns
returns c =
    let r =
    says_exchanges (cabinet _ _ _ _ _) _ _ _ _ _ (none (goal.at.returns c).In_ok-label_refusal)
    c.label_nodes-exchanges.ensures.exchanges c.label_nodes-exchanges.ensures.labels (part_with_half _ _ _ c.nodes-size.ensures _ _) in
    record { answer = r.0; labels = r.1 }
