-- What the functions inside the crate answer; the walk by networks shares the refusals that need no label. No contract of a question cites these:
-- proofs/Refusals.antt shows how the refusals of a hop are made of them, proofs/Calling.antt how the decision is.
use Rattle.std.specs.Prelude.{Bool, true, false, cond, List, ◌∷◌, ◌++◌, ℕ, ◌-◌, ◌^◌, Result, Ok, Err}
use Rattle.std.specs.Int.Bits.{bit_xor}
use Rattle.cube.specs.Refusal.{Test, first, ◌⇒◌}
use Rattle.cube.specs.declared.refusals.Refusal.{Refusal}
use Rattle.cube.specs.declared.refusals.Refusal.TheVariants.{Network}
use Rattle.hop.specs.Hop.{job_tests, node_tests}
use Rattle.hop.specs.declared.Decision.{Decision}
use Rattle.blocks.specs.Blocks.{decide_in}
use Rattle.blocks.specs.Board.{beyond, numbered}
use Rattle.blocks.specs.Phase.{down}
use Rattle.hop_networks.specs.Hopping.{board_tests}
use Rattle.hop_networks.specs.declared.Side.{Side}
use Rattle.hop_networks.specs.declared.Side.TheVariants.{Forward, Spare}

-- ---- the refusals that need no label

unfoldable pub board_refusal : (n : ℕ) (lacking : Bool) → ℕ
board_refusal n lacking = first (board_tests n lacking)

-- of job j, a label buffer of m bytes, a hop list that may be too short, and nodes a and b
abbrev pub list_tests : (n j a b m : ℕ) (short : Bool) → List Test
list_tests n j a b m short = job_tests n j m ++ (short ⇒ 13 ∷ node_tests n a b)

unfoldable pub list_refusal : (n j a b m : ℕ) (short : Bool) → ℕ
list_refusal n j a b m short = first (list_tests n j a b m short)

-- ---- the decision

-- the side that a call of FORWARD looks at
abbrev pub is_forward : Side → Bool
is_forward Forward = true
is_forward Spare = false

-- the dimensions of one side, as the bits of a number: forward or spare
unfoldable pub side_set : (n c d : ℕ) (side : Bool) → ℕ
side_set n c d side = cond side (bit_xor c d) (bit_xor (bit_xor c d) (2 ^ n - 1))

-- those in which a hop from c goes on in the direction of phase p
unfoldable pub on_set : (n c p : ℕ) → ℕ
on_set n c p = cond (down p) c (bit_xor c (2 ^ n - 1))

-- the decision at c, on the board
unfoldable pub decided_on : (n N c d p own : ℕ) (near : ℕ → ℕ) → Result Decision Refusal
decided_on n N c d p own near =
    cond (beyond N p c (decide_in n c d p own near)) (Err Network) (Ok (numbered p c (decide_in n c d p own near)))
