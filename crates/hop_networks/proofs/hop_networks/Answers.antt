-- `hop_networks`: the board first, then what needs no label, then the labels of the node and its neighbours in the job's half, then the decision by the labels
-- gathered, which are that half's.
use mathlib.Core.Path.{◌≡◌, refl, sym, ◌∙◌}
use mathlib.Core.Bool.{false}
use Prim.Native.Nat.{◌≤◌}
use native.Mathlib.Omega.{arith}
use lib.ListN.{length}
use Rattle.cube.proofs.Refused.{accepted, passes}
use Rattle.hop.specs.Helpers.{Asked}
use Rattle.hop.proofs.Refusals.{half_read}
use Rattle.hop_networks.specs.Helpers.{board_refusal, list_refusal}
use Rattle.hop_networks.specs.Hopping.{lacks}
use Rattle.hop_networks.proofs.Deciding.{decided_by}
use Rattle.hop_networks.proofs.Refusals.{Boarded, board_good, boarded, hop_decided, hop_unboarded, hop_read, hop_unlisted, hop_unread, list_good}
use Rattle.hop_networks.proofs.hop_networks.Goals as goal
use Rattle.hop_networks.proofs.hop_networks.Goals.{In_ok-board_refusal, In_ok-list_refusal}

-- what the first two tests show
unrefused : (c : In_ok-board_refusal) → let a = c.args in board_refusal a.n (lacks a.networks a.network a.down) ≡ 0
unfolding lacks
unrefused c = (accepted _ _ _ (sym (rw c.is_board.ensures at c.in_ok-board_refusal.ensures))).0

board : (c : In_ok-board_refusal) → let a = c.args in Boarded a.n a.networks a.network a.down
board c = let r = board_good _ _ (unrefused c) in boarded _ _ _ _ r.0 r.1

unlisted : (c : In_ok-list_refusal) → let a = c.args in list_refusal a.n a.job a.c a.d (length a.labels.now) false ≡ 0
unlisted c = (accepted _ _ _ (sym c.in_ok-list_refusal.ensures)).0

asked : (c : In_ok-list_refusal) → c.args.n ≤ 12 → let a = c.args in Asked a.n a.job a.c a.d (length a.labels.now)
asked c small = (list_good _ _ _ _ _ _ small (unlisted c)).0

pub returns-in_err-board_refusal : goal.returns-in_err-board_refusal
unfolding lacks
returns-in_err-board_refusal c =
    passes _ c.from_residual.ensures ∙ hop_unboarded _ _ _ _ _ _ _ _ _ _ _ (sym (rw c.is_board.ensures at c.in_err-board_refusal.ensures))

pub list_refusal-requires : goal.list_refusal-requires
list_refusal-requires c = (board c).small

pub returns-in_err-list_refusal : goal.returns-in_err-list_refusal
returns-in_err-list_refusal c =
    passes _ c.from_residual-in_err-list_refusal.ensures ∙ hop_unlisted _ _ _ _ _ _ _ _ _ (unrefused (goal.at.returns-in_err-list_refusal c).In_ok-board_refusal) _ _ (sym c.in_err-list_refusal.ensures)

pub of-requires : goal.of-requires
of-requires c = (asked c (board (goal.at.of-requires c).In_ok-board_refusal).small).halved

pub at_node-requires : goal.at_node-requires
at_node-requires c =
    let g = goal.at.at_node-requires c in
    let p = asked g.In_ok-list_refusal (board g.In_ok-board_refusal).small in
    rw c.of.ensures.n (p.first, p.second, refl)

pub returns-in_err-here : goal.returns-in_err-here
returns-in_err-here c =
    let g = goal.at.returns-in_err-here c in
    passes _ c.from_residual-in_err-here.ensures
    ∙ hop_unread _ _ _ _ _ _ _ _ _ (unrefused g.In_ok-board_refusal) (unlisted g.In_ok-list_refusal) _
    (half_read _ _ _ _ c.of.ensures.n c.of.ensures.bytes _ _ _ c.in_err-here.ensures)

pub overflow_mul-message : goal.overflow_mul-message
overflow_mul-message c = let m = board (goal.at.overflow_mul-message c).In_ok-board_refusal in omega (arith, m.network, m.few)

pub overflow_add-message : goal.overflow_add-message
overflow_add-message c = let m = board (goal.at.overflow_add-message c).In_ok-board_refusal in omega (arith, m.network, m.few, m.direction)

pub decided-requires : goal.decided-requires
decided-requires c = let m = board (goal.at.decided-requires c).In_ok-board_refusal in (m.few, omega (arith, m.network, m.few, m.direction))

pub returns : goal.returns
returns c =
    let g = goal.at.returns c in
    let a = c.args in
    let q = hop_read a.n a.networks a.job a.c a.d a.network a.down _ _ (unrefused g.In_ok-board_refusal) (unlisted g.In_ok-list_refusal) _
    (half_read _ _ _ _ c.of.ensures.n c.of.ensures.bytes _ _ _ c.in_ok-here.ensures) in
    decided_by _ _ _ _ _ (board g.In_ok-board_refusal).small _ q.1 _ _ c.decided.ensures
    ∙ hop_decided _ _ _ _ _ _ _ _ _ (unrefused g.In_ok-board_refusal) (unlisted g.In_ok-list_refusal) q.0
