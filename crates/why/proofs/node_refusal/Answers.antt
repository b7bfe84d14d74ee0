-- `node_refusal` asks for labelling's refusals first.
use mathlib.Core.Path.{◌≡◌, sym, ap, ◌∙◌}
use Prim.Native.Nat.{ℕ}
use native.Mathlib.Omega.{arith}
use Rattle.cube.specs.Refused.{answered}
use Rattle.cube.proofs.Refused.{accepted, passes}
use Rattle.rule.specs.Cabinet.{cabinet}
use Rattle.labels.specs.Labelling.{label_refusal}
use Rattle.labels.proofs.Refusal.{fitting}
use Rattle.why.proofs.Refusal.{refuses_as_labelling, refuses_node, refuses_none}
use Rattle.why.proofs.node_refusal.Goals as goal
use Rattle.why.proofs.node_refusal.Goals.{In_ok-label_refusal}

none : (c : In_ok-label_refusal) → let a = c.args in label_refusal (cabinet a.n a.rule a.faults.now a.draining.now a.closed.now) a.job a.m ≡ 0
none c = (accepted _ _ _ (sym c.label_refusal.ensures ∙ c.in_ok-label_refusal.was)).0

of_number : {k r : ℕ} → k ≡ r → answered {A = Unit {0}} k tt ≡ answered r tt
of_number e = ap (λ (z : ℕ). answered {A = Unit {0}} z tt) e

pub returns-in_err-label_refusal : goal.returns-in_err-label_refusal
returns-in_err-label_refusal c =
    passes _ c.from_residual.ensures ∙ refuses_as_labelling (cabinet _ _ _ _ _) _ _ _ _ (sym c.label_refusal.ensures ∙ c.in_err-label_refusal.was)

pub nodes-requires : goal.nodes-requires
nodes-requires c = omega (arith, (fitting (cabinet _ _ _ _ _) _ _ (none (goal.at.nodes-requires c).In_ok-label_refusal)).halved.small)

pub returns-then-nodes-x : goal.returns-then-nodes-x
returns-then-nodes-x c =
    of_number (refuses_node (cabinet _ _ _ _ _) _ _ _ (none (goal.at.returns-then-nodes-x c).In_ok-label_refusal) (omega (arith, c.nodes.ensures)))

pub returns : goal.returns
returns c =
    of_number (refuses_none (cabinet _ _ _ _ _) _ _ _ (none (goal.at.returns c).In_ok-label_refusal) (omega (arith, c.nodes.ensures)))
