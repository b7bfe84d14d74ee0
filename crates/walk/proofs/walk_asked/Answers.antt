-- `walk_asked`: what refuses the place, then what the labels of the job's half refuse, or the walk by them.
use mathlib.Core.Path.{◌≡◌, sym, ◌∙◌}
use mathlib.Core.Bool.{not}
use Prim.Native.Nat.{◌^◌, ◌<◌}
use lib.Dec.{eqb}
use lib.ListN.{length}
use Rattle.cube.proofs.Refused.{accepted, passes}
use Rattle.hop.specs.Helpers.{place_refusal}
use Rattle.hop.proofs.Refusals.{placed}
use Rattle.walk.specs.Walk.{row_bytes}
use Rattle.walk.proofs.Refusals.{walk_misplaced, walk_refuses, walk_starts}
use Rattle.walk.proofs.walk_asked.Goals as goal
use Rattle.walk.proofs.walk_asked.Goals.{After-of-table, In_ok-place_refusal}

-- past the first test nothing refuses the place, so the job has a half, which is a table
unrefused : (c : In_ok-place_refusal) → let a = c.args in
    place_refusal a.n a.job a.s a.d (length a.labels.now) (not (eqb a.room row_bytes)) ≡ 0
unrefused c = (accepted _ _ _ (sym c.in_ok-place_refusal.ensures)).0

-- the labels that it goes by are the half's
good : (c : After-of-table) → let a = c.args in (a.s < 2 ^ c.of-table.result.n) × (a.d < 2 ^ c.of-table.result.n)
good c =
    let p = placed _ _ _ _ _ _ (accepted _ _ _ (sym c.in_ok-place_refusal.ensures)).0 in
    rw c.of-table.ensures.n (p.first, p.second)

pub returns-in_err-place_refusal : goal.returns-in_err-place_refusal
returns-in_err-place_refusal c =
    passes _ c.from_residual.ensures ∙ sym (walk_misplaced _ _ _ _ _ _ _ _ _ (sym c.in_err-place_refusal.ensures))

pub of-table-requires : goal.of-table-requires
of-table-requires c = (placed _ _ _ _ _ _ (unrefused c)).halved

pub table_refusal-requires : goal.table_refusal-requires
table_refusal-requires c = good (goal.at.table_refusal-requires c).After-of-table

pub returns-in_err-table_refusal : goal.returns-in_err-table_refusal
returns-in_err-table_refusal c =
    let e = rw (c.of-table.ensures.n, c.of-table.ensures.bytes) at c.in_err-table_refusal.ensures in
    let f = walk_refuses _ _ _ _ _ _ _ (accepted _ _ _ (sym c.in_ok-place_refusal.ensures)).0 _ _ (sym e) in
    passes _ c.from_residual-in_err-table_refusal.ensures ∙ sym f

pub walk_or_refusal-requires : goal.walk_or_refusal-requires
walk_or_refusal-requires c = good (goal.at.walk_or_refusal-requires c).After-of-table

pub returns : goal.returns
returns c =
    let t = rw (c.of-table.ensures.n, c.of-table.ensures.bytes) at c.in_ok-table_refusal.ensures in
    let w = rw (c.of-table.ensures.n, c.of-table.ensures.bytes) at c.walk_or_refusal.ensures in
    w ∙ walk_starts _ _ _ _ _ _ _ (accepted _ _ _ (sym c.in_ok-place_refusal.ensures)).0 (accepted _ _ _ (sym t)).0
