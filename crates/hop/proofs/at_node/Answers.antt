-- `at_node`: what the labels gathered refuse, or what the node knows.
use mathlib.Core.Path.{◌≡◌, refl, sym}
use Rattle.cube.proofs.Refused.{passes}
use Rattle.cube.specs.Tables.{label_in}
use Rattle.hop.specs.Helpers.{around}
use Rattle.hop.proofs.Refusals.{node_reads, node_refuses}
use Rattle.hop.proofs.at_node.Goals as goal

pub returns-in_err-near_refusal : goal.returns-in_err-near_refusal
returns-in_err-near_refusal c =
    rw (passes _ c.from_residual.ensures) (sym (node_refuses _ _ _ (label_in c.args.labels.bytes.now) _ c.gather-high.ensures.high _ _ (sym (rw c.at-own.ensures at c.in_err-near_refusal.ensures))))

pub returns : goal.returns
unfolding around
returns c =
    let a = c.args in
    let read : (a.labels.n, a.c, a.d, c.at-own.result, c.gather-high.new.near) ≡ around a.labels.n a.c a.d (label_in a.labels.bytes.now) = rw (c.gather-high.ensures.near, c.at-own.ensures) refl in
    node_reads _ _ _ (label_in a.labels.bytes.now) _ c.gather-high.ensures.high _ read _ _ (sym (rw c.at-own.ensures at c.in_ok-near_refusal.ensures))
