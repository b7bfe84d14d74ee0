-- `hop`: the place first, then the labels of the node and its neighbours in the job's half, then the decision by the labels gathered, which are that
-- half's.
use mathlib.Core.Path.{◌≡◌, refl, sym, ◌∙◌}
use mathlib.Core.Bool.{false}
use lib.ListN.{length}
use Rattle.cube.proofs.Refused.{accepted, passes}
use Rattle.hop.specs.Helpers.{place_refusal}
use Rattle.hop.specs.Hop.{hopped}
use Rattle.hop.proofs.Gathered.{apart_by, arrives, goes_by}
use Rattle.hop.proofs.Refusals.{half_read, placed, hop_decides, hop_misplaced, hop_reads, hop_refuses}
use Rattle.hop.proofs.hop.Goals as goal
use Rattle.hop.proofs.hop.Goals.{In_ok-place_refusal}

-- past the first test the place is good
accepts : (c : In_ok-place_refusal) → let a = c.args in place_refusal a.n a.job a.c a.d (length a.labels.now) false ≡ 0
accepts c = (accepted _ _ _ (sym c.in_ok-place_refusal.ensures)).0

pub returns-in_err-place_refusal : goal.returns-in_err-place_refusal
unfolding hopped
returns-in_err-place_refusal c =
    passes _ c.from_residual.ensures ∙ sym (hop_misplaced _ _ _ _ _ _ _ _ _ (sym c.in_err-place_refusal.ensures))

pub of-requires : goal.of-requires
of-requires c = (placed _ _ _ _ _ _ (accepts c)).halved

pub at_node-requires : goal.at_node-requires
at_node-requires c =
    let g = placed _ _ _ _ _ _ (accepted _ _ _ (sym c.in_ok-place_refusal.ensures)).0 in
    rw c.of.ensures.n (g.first, g.second, refl)

pub returns-in_err-here : goal.returns-in_err-here
unfolding hopped
returns-in_err-here c =
    let a = c.args in
    let f = hop_refuses a.n a.job a.c a.d _ _ (accepted _ _ _ (sym c.in_ok-place_refusal.ensures)).0 in
    passes _ c.from_residual-in_err-here.ensures ∙ sym (f _ _ (half_read _ _ _ _ c.of.ensures.n c.of.ensures.bytes _ _ _ c.in_err-here.ensures))

pub scanned-requires : goal.scanned-requires
scanned-requires c =
    let a = c.args in
    let r = hop_reads a.n a.job a.c a.d _ _ (accepted _ _ _ (sym c.in_ok-place_refusal.ensures)).0 _ (half_read _ _ _ _ c.of.ensures.n c.of.ensures.bytes _ _ _ c.in_ok-here.ensures) in
    (c.in_ok-here.here.small, c.in_ok-here.here.inside, c.in_ok-here.here.target, apart_by _ _ _ _ _ r.1 c.if-c-d.true)

pub returns-then-c-d : goal.returns-then-c-d
returns-then-c-d c =
    let a = c.args in
    let g = placed _ _ _ _ _ _ (accepted _ _ _ (sym c.in_ok-place_refusal.ensures)).0 in
    let r = hop_reads a.n a.job a.c a.d _ _ (accepted _ _ _ (sym c.in_ok-place_refusal.ensures)).0 _ (half_read _ _ _ _ c.of.ensures.n c.of.ensures.bytes _ _ _ c.in_ok-here.ensures) in
    hop_decides _ _ _ _ _ _ _ r.0 (c.across.ensures ∙ goes_by _ _ _ _ _ _ g.halved.small g.first g.second c.if-c-d.true r.1 c.scanned.ensures)

pub returns : goal.returns
returns c =
    let a = c.args in
    let r = hop_reads a.n a.job a.c a.d _ _ (accepted _ _ _ (sym c.in_ok-place_refusal.ensures)).0 _ (half_read _ _ _ _ c.of.ensures.n c.of.ensures.bytes _ _ _ c.in_ok-here.ensures) in
    hop_decides _ _ _ _ _ _ _ r.0 (arrives _ _ _ _ c.if-c-d.false)
