-- `walk_networks`: the board first, then what needs no label, then what the labels of the job's half refuse; then the hops are found, and written unless the
-- walk is refused.
use mathlib.Core.Path.{◌≡◌, refl, sym, ◌∙◌}
use mathlib.Core.Bool.{not}
use Prim.Native.Nat.{◌^◌, ◌<◌, ◌≤◌}
use native.Mathlib.Omega.{arith}
use borrow.Author.Tests.{ltb-false, not-false}
use lib.ListN.{length}
use Rattle.std.specs.Prelude.{Ok}
use Rattle.cube.proofs.Refused.{accepted, passes}
use Rattle.cube.specs.Tables.{label_in}
use Rattle.cube.proofs.Tables.{dimension_is}
use Rattle.jobs.specs.Jobs.{half}
use Rattle.hop.specs.Helpers.{Asked}
use Rattle.walk.specs.Helpers.{table_refusal}
use Rattle.blocks.specs.Board.{hops_on, last_on, most_hops}
use Rattle.hop_networks.specs.Helpers.{board_refusal, list_refusal}
use Rattle.hop_networks.specs.Hopping.{is_board}
use Rattle.hop_networks.proofs.Refusals.{board_good, board_is, list_good}
use Rattle.walk_networks.specs.Crossing.{ended_by, too_short}
use Rattle.walk_networks.proofs.Refusals.{found_few, unboarded, unlabelled, unlisted, unwalked, walked}
use Rattle.walk_networks.proofs.Steps.{most_few}
use Rattle.walk_networks.proofs.walk_networks.Goals as goal
use Rattle.walk_networks.proofs.walk_networks.Goals.{After-of-table, In_ok-board_refusal, In_ok-found, In_ok-list_refusal, In_ok-table_refusal}

-- what the first two tests show
board : (c : In_ok-board_refusal) → let a = c.args in board_refusal a.n (not (is_board a.networks)) ≡ 0
board c = (accepted _ _ _ (sym (rw c.is_board.ensures at c.in_ok-board_refusal.ensures))).0

small : (c : In_ok-board_refusal) → c.args.n ≤ 12
small c = (dimension_is _ (board_good _ _ (board c)).0).1

networks-few : (c : In_ok-board_refusal) → let a = c.args in (0 < a.networks) × (a.networks ≤ 5)
networks-few c = board_is _ (not-false _ (board_good _ _ (board c)).1)

most : (c : In_ok-board_refusal) → let a = c.args in most_hops a.n a.networks ≤ 120
most c = most_few _ _ (small c) (networks-few c).1

listed : (c : In_ok-list_refusal) → let a = c.args in
    list_refusal a.n a.job a.s a.d (length a.labels.now) (too_short a.n a.networks (length a.hops.now)) ≡ 0
unfolding too_short
listed c = (accepted _ _ _ (sym c.in_ok-list_refusal.ensures)).0

asked : (c : In_ok-list_refusal) → c.args.n ≤ 12 → let a = c.args in
    Asked a.n a.job a.s a.d (length a.labels.now) × (most_hops a.n a.networks ≤ length a.hops.now)
unfolding too_short
asked c l = let r = list_good _ _ _ _ _ _ l (listed c) in (r.0, ltb-false _ _ r.1)

-- the labels that it goes by are the half's
good : (c : After-of-table) → let a = c.args in Asked a.n a.job a.s a.d (length a.labels.now) → (a.s < 2 ^ c.of-table.result.n) × (a.d < 2 ^ c.of-table.result.n)
good c p = rw c.of-table.ensures.n (p.first, p.second)

labelled : (c : In_ok-table_refusal) → let a = c.args in table_refusal a.n a.s a.d (label_in (half a.job (2 ^ a.n) a.labels.now)) ≡ 0
labelled c = (accepted _ _ _ (sym (rw (c.of-table.ensures.n, c.of-table.ensures.bytes) at c.in_ok-table_refusal.ensures))).0

-- the walk is found by the half's labels, and the list has room for it
found : (c : In_ok-found) → let a = c.args in
    let lab = label_in (half a.job (2 ^ a.n) a.labels.now) in
    Ok c.in_ok-found.found ≡ ended_by (hops_on a.n a.networks lab a.d a.s) (last_on a.n a.networks lab a.d a.s)
found c = rw (c.of-table.ensures.n, c.of-table.ensures.bytes) at c.in_ok-found.ensures.answer

pub returns-in_err-board_refusal : goal.returns-in_err-board_refusal
returns-in_err-board_refusal c =
    let r = unboarded _ _ _ _ _ _ _ c.args.hops.now _ _ (sym (rw c.is_board.ensures at c.in_err-board_refusal.ensures)) in
    record { answer = passes _ c.from_residual.ensures ∙ r.0; hops = r.1 }

pub overflow_mul-most : goal.overflow_mul-most
overflow_mul-most c = omega (arith, small c)

pub overflow_mul-most-2 : goal.overflow_mul-most-2
overflow_mul-most-2 c = omega (arith, most c)

pub list_refusal-requires : goal.list_refusal-requires
list_refusal-requires c = small c

pub returns-in_err-list_refusal : goal.returns-in_err-list_refusal
unfolding too_short
returns-in_err-list_refusal c =
    let g = goal.at.returns-in_err-list_refusal c in
    let r = unlisted _ _ _ _ _ _ _ c.args.hops.now (board g.In_ok-board_refusal) _ _ (sym c.in_err-list_refusal.ensures) in
    record { answer = passes _ c.from_residual-in_err-list_refusal.ensures ∙ r.0; hops = r.1 }

pub of-table-requires : goal.of-table-requires
of-table-requires c = (asked c (small (goal.at.of-table-requires c).In_ok-board_refusal)).0.halved

pub table_refusal-requires : goal.table_refusal-requires
table_refusal-requires c =
    let g = goal.at.table_refusal-requires c in
    good c (asked g.In_ok-list_refusal (small g.In_ok-board_refusal)).0

pub returns-in_err-table_refusal : goal.returns-in_err-table_refusal
returns-in_err-table_refusal c =
    let g = goal.at.returns-in_err-table_refusal c in
    let r = unlabelled _ _ _ _ _ _ _ c.args.hops.now (board g.In_ok-board_refusal) (listed g.In_ok-list_refusal) _ _
    (sym (rw (c.of-table.ensures.n, c.of-table.ensures.bytes) at c.in_err-table_refusal.ensures)) in
    record { answer = passes _ c.from_residual-in_err-table_refusal.ensures ∙ r.0; hops = r.1 }

pub find-requires : goal.find-requires
find-requires c =
    let g = goal.at.find-requires c in
    let b = networks-few g.In_ok-board_refusal in
    let p = good g.After-of-table (asked g.In_ok-list_refusal (small g.In_ok-board_refusal)).0 in
    (p.0, p.1, b.0, b.1, refl)

pub returns-in_err-found : goal.returns-in_err-found
returns-in_err-found c =
    let g = goal.at.returns-in_err-found c in
    let w = unwalked _ _ _ _ _ _ _ c.args.hops.now (board g.In_ok-board_refusal) (listed g.In_ok-list_refusal) (labelled g.In_ok-table_refusal) _
    (rw (c.of-table.ensures.n, c.of-table.ensures.bytes) at c.in_err-found.ensures.answer) in
    record { answer = passes _ c.from_residual-in_err-found.ensures ∙ w.0; hops = w.1 }

-- the hops are few enough for both lists
pub write-requires : goal.write-requires
write-requires c =
    let g = goal.at.write-requires c in
    let b = g.In_ok-board_refusal in
    let p = asked g.In_ok-list_refusal (small b) in
    let f = found_few _ _ _ _ _ _ (networks-few b).0 p.0.first (found g.In_ok-found) in
    (omega (arith, c.hops.ensures, f, most b), omega (arith, c.hops.ensures, f, p.1))

pub returns : goal.returns
returns c =
    let g = goal.at.returns c in
    let r = walked _ _ _ _ _ _ _ c.args.hops.now (board g.In_ok-board_refusal) (listed g.In_ok-list_refusal) (labelled g.In_ok-table_refusal) _ _ _ _ (found g.In_ok-found)
    (rw (c.of-table.ensures.n, c.of-table.ensures.bytes) at c.in_ok-found.ensures.list)
    (rw c.hops.ensures at c.write.ensures) in
    record { answer = r.0; hops = r.1 }
