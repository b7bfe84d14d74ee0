-- The walk by networks (RULES, Virtual networks, Refusal numbers): hops of Algorithm ROUTE_C from s to d on a board with N networks, and its refusals. The
-- question is asked for a job of any label buffer and with any hop list: m is the buffer's length, j the job, lab x the byte of node x in the job's half, and
-- room the list's length.
use Rattle.std.specs.Prelude.{Bool, cond, not, List, [], ◌∷◌, ◌++◌, ℕ, eqb, ltb, length, Result, Ok, Err}
use Rattle.cube.specs.Over.{over}
use Rattle.cube.specs.Refusal.{Test, first, ◌⇒◌}
use Rattle.cube.specs.Refused.{refusal, refused}
use Rattle.cube.specs.declared.refusals.Refusal.{Refusal}
use Rattle.cube.specs.declared.refusals.Refusal.TheVariants.{Network}
use Rattle.hop.specs.Hop.{job_tests, node_tests}
use Rattle.hop.specs.declared.Decision.{Decision}
use Rattle.hop.specs.declared.Decision.TheVariants.{Deliver, Hop, Halted}
use Rattle.walk.specs.Walk.{stops, table_tests}
use Rattle.blocks.specs.Board.{hop_list, hops_on, last_on, most_hops}
use Rattle.hop_networks.specs.Hopping.{board_tests, is_board}
use Rattle.walk_networks.specs.declared.Crossed.{Crossed}
use Rattle.walk_networks.specs.declared.Crossed.TheVariants as crossed

-- a list with room for fewer hops than a walk may have
unfoldable pub too_short : (n N room : ℕ) → Bool
too_short n N room = ltb room (most_hops n N)

-- its refusals in order: 1, 15, 19, 2, 13, 5, 4, 6, 7, 16
abbrev pub cross_tests : (n N j s d m room : ℕ) (lab : ℕ → ℕ) → List Test
cross_tests n N j s d m room lab =
    board_tests n (not (is_board N)) ++ (job_tests n j m ++ (too_short n N room ⇒ 13 ∷ node_tests n s d))
    ++ (table_tests n s d lab ++ (not (stops (last_on n N lab d s)) ⇒ 16 ∷ []))

unfoldable pub cross_refusal : (n N j s d m room : ℕ) (lab : ℕ → ℕ) → ℕ
cross_refusal n N j s d m room lab = first (cross_tests n N j s d m room lab)

-- how a walk of k hops ends, by the decision after the last. (One whose last decision is a hop is refused, by the table.)
unfoldable pub ended_by : (k : ℕ) → Decision → Result Crossed Refusal
ended_by k Deliver = Ok (crossed.Delivered k)
ended_by k (Hop i) = Err Network
ended_by k Halted = Ok (crossed.Halted k)

-- the answer: how the walk ends and its hop count, or the refusal
unfoldable pub crossing : (n N j s d m room : ℕ) (lab : ℕ → ℕ) → Result Crossed Refusal
crossing n N j s d m room lab =
    cond (eqb (cross_refusal n N j s d m room lab) 0) (ended_by (hops_on n N lab d s) (last_on n N lab d s)) (Err (refusal (cross_refusal n N j s d m room lab)))

-- what is left in the hop list: the hops, and behind them what was there; refused, what was there
unfoldable pub hops_after : (n N j s d m : ℕ) (lab : ℕ → ℕ) (list : List ℕ) → List ℕ
hops_after n N j s d m lab list = cond (eqb (cross_refusal n N j s d m (length list) lab) 0) (over (hop_list n N lab d s) list) list

-- the hops of a walk that is not refused
abbrev pub made : Crossed → ℕ
made (crossed.Delivered k) = k
made (crossed.Halted k) = k

-- the numbers for the cases (RULES, To C); the value is the hop count
abbrev pub refusal_of : Result Crossed Refusal → ℕ
refusal_of a = refused a

abbrev pub kind_of : Result Crossed Refusal → ℕ
kind_of (Ok (crossed.Delivered k)) = 0
kind_of (Ok (crossed.Halted k)) = 1
kind_of (Err r) = 0

abbrev pub hops_of : Result Crossed Refusal → ℕ
hops_of (Ok c) = made c
hops_of (Err r) = 0
