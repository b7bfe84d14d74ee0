-- `why_hop` goes as `hop` does: the place first, then the labels of the node and its neighbours in the job's half, then what the scans pick by the labels
-- gathered, which are that half's.
use mathlib.Core.Path.{◌≡◌, refl, sym, ap, ◌∙◌}
use mathlib.Core.Bool.{false}
use lib.ListN.{length}
use Rattle.std.specs.Prelude.{Ok}
use Rattle.cube.proofs.Refused.{accepted, passes}
use Rattle.hop.specs.Helpers.{place_refusal}
use Rattle.hop.proofs.Refusals.{half_read, hop_misplaced, hop_reads, hop_refuses, placed}
use Rattle.why.specs.HopReasons.{hop_reason}
use Rattle.hop.proofs.Gathered.{apart_by}
use Rattle.why.proofs.Hops.{delivers_is, taken_by}
use Rattle.why.proofs.why_hop.Goals as goal
use Rattle.why.proofs.why_hop.Goals.{In_ok-place_refusal}

-- past the first test the place is good
accepts : (c : In_ok-place_refusal) → let a = c.args in place_refusal a.n a.job a.c a.d (length a.labels.now) false ≡ 0
accepts c = (accepted _ _ _ (sym c.in_ok-place_refusal.ensures)).0

pub returns-in_err-place_refusal : goal.returns-in_err-place_refusal
unfolding hop_reason
returns-in_err-place_refusal c =
    passes _ c.from_residual.ensures ∙ sym (hop_misplaced _ _ _ _ _ _ _ _ _ (sym c.in_err-place_refusal.ensures))

pub of-requires : goal.of-requires
of-requires c = (placed _ _ _ _ _ _ (accepts c)).halved

pub at_node-requires : goal.at_node-requires
at_node-requires c =
    let g = placed _ _ _ _ _ _ (accepted _ _ _ (sym c.in_ok-place_refusal.ensures)).0 in
    rw c.of.ensures.n (g.first, g.second, refl)

pub returns-in_err-here : goal.returns-in_err-here
unfolding hop_reason
returns-in_err-here c =
    let a = c.args in
    let f = hop_refuses a.n a.job a.c a.d _ _ (accepted _ _ _ (sym c.in_ok-place_refusal.ensures)).0 in
    passes _ c.from_residual-in_err-here.ensures ∙ sym (f _ _ (half_read _ _ _ _ c.of.ensures.n c.of.ensures.bytes _ _ _ c.in_err-here.ensures))

pub chosen-requires : goal.chosen-requires
chosen-requires c =
    let a = c.args in
    let r = hop_reads a.n a.job a.c a.d _ _ (accepted _ _ _ (sym c.in_ok-place_refusal.ensures)).0 _ (half_read _ _ _ _ c.of.ensures.n c.of.ensures.bytes _ _ _ c.in_ok-here.ensures) in
    apart_by _ _ _ _ _ r.1 c.if-c-d.true

pub returns-then-c-d : goal.returns-then-c-d
returns-then-c-d c =
    let a = c.args in
    let g = placed _ _ _ _ _ _ (accepted _ _ _ (sym c.in_ok-place_refusal.ensures)).0 in
    let r = hop_reads a.n a.job a.c a.d _ _ (accepted _ _ _ (sym c.in_ok-place_refusal.ensures)).0 _ (half_read _ _ _ _ c.of.ensures.n c.of.ensures.bytes _ _ _ c.in_ok-here.ensures) in
    ap Ok c.taken.ensures ∙ taken_by _ _ _ _ _ _ r.0 g.halved.small g.first g.second c.if-c-d.true _ _ r.1 c.chosen.ensures

pub returns : goal.returns
returns c =
    let a = c.args in
    let r = hop_reads a.n a.job a.c a.d _ _ (accepted _ _ _ (sym c.in_ok-place_refusal.ensures)).0 _ (half_read _ _ _ _ c.of.ensures.n c.of.ensures.bytes _ _ _ c.in_ok-here.ensures) in
    delivers_is _ _ _ _ _ _ r.0 c.if-c-d.false
