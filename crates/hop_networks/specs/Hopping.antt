-- One hop by networks (RULES, Virtual networks, Refusal numbers): the decision that Algorithm ROUTE_C takes at node c, for a message to d in phase p, on a
-- board with N networks, and its refusals. The question `hopped_in` is asked of a message that is in network w and goes up or, where g is 1, down. m is the
-- label buffer's length, j the job, and lab x the byte of node x in the job's half.
use Rattle.std.specs.Prelude.{Bool, not, ◌&&◌, ◌||◌, List, [], ◌∷◌, ◌++◌, ℕ, leb, ltb, Result}
use Rattle.cube.specs.Cube.{flip}
use Rattle.cube.specs.Refusal.{Test, first, ◌⇒◌}
use Rattle.cube.specs.Refused.{answered}
use Rattle.cube.specs.declared.refusals.Refusal.{Refusal}
use Rattle.cube.specs.Tables.{is_dimension}
use Rattle.hop.specs.Hop.{job_tests, near_tests, node_tests}
use Rattle.hop.specs.declared.Decision.{Decision}
use Rattle.blocks.specs.Blocks.{hop_in}
use Rattle.blocks.specs.Board.{beyond, numbered}
use Rattle.blocks.specs.Phase.{phase_of}

-- a board has 1 to 5 networks
unfoldable pub is_board : ℕ → Bool
is_board N = leb 1 N && leb N 5

-- the board is none, or has no network w, or g is no direction
unfoldable pub lacks : (N w g : ℕ) → Bool
lacks N w g = not (is_board N) || (leb N w || ltb 1 g)

-- ---- the question

-- of the dimension and the board
abbrev pub board_tests : (n : ℕ) (lacking : Bool) → List Test
board_tests n lacking = not (is_dimension n) ⇒ 1 ∷ lacking ⇒ 15 ∷ []

-- its refusals in order: 1, 15, 19, 2, 5, 4, 6, 16
abbrev pub hop_tests_in : (n N j c d w g m : ℕ) (lab : ℕ → ℕ) → List Test
hop_tests_in n N j c d w g m lab =
    board_tests n (lacks N w g) ++ (job_tests n j m ++ node_tests n c d)
    ++ (near_tests n c d (lab c) (λ i. lab (flip i c)) ++ (beyond N (phase_of w g) c (hop_in n lab d (phase_of w g) c) ⇒ 16 ∷ []))

unfoldable pub hop_refusal_in : (n N j c d w g m : ℕ) (lab : ℕ → ℕ) → ℕ
hop_refusal_in n N j c d w g m lab = first (hop_tests_in n N j c d w g m lab)

-- the answer: the decision, with the number of its hop, or the refusal
unfoldable pub hopped_in : (n N j c d w g m : ℕ) (lab : ℕ → ℕ) → Result Decision Refusal
hopped_in n N j c d w g m lab = answered (hop_refusal_in n N j c d w g m lab) (numbered (phase_of w g) c (hop_in n lab d (phase_of w g) c))
