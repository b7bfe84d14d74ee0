-- What the functions inside the crate answer, and what they may assume; the walk shares the refusals that need no label. No contract of a question cites
-- these: proofs/Refusals.antt shows how the refusals of a hop are made of them, proofs/Scanning.antt how the decision is.
use Rattle.std.specs.Prelude.{Bool, cond, ◌&&◌, List, ◌∷◌, ◌++◌, ℕ, ◌^◌, ◌<◌, leb, ltb, Option, Some, None, Result}
use Rattle.cube.specs.Count.{some}
use Rattle.cube.specs.Cube.{bit, flip}
use Rattle.cube.specs.Refusal.{Test, first, ◌⇒◌}
use Rattle.cube.specs.Refused.{answered}
use Rattle.cube.specs.Tables.{highest, tab}
use Rattle.cube.specs.declared.refusals.Refusal.{Refusal}
use Rattle.jobs.specs.Jobs.{Halved}
use Rattle.scans.specs.Scans.{first_scan, lowest, no_scan}
use Rattle.hop.specs.Hop.{label_tests, node_tests, size_tests}
use Rattle.hop.specs.declared.Decision.{Decision}
use Rattle.hop.specs.declared.Decision.TheVariants.{Hop, Halted}

-- ---- the refusals that need no label

-- of job j, nodes a and b and a label buffer of m bytes; `other` says that another lent buffer has a wrong length
abbrev pub place_tests : (n j a b m : ℕ) (other : Bool) → List Test
place_tests n j a b m other = size_tests n j m ++ (other ⇒ 2 ∷ node_tests n a b)

unfoldable pub place_refusal : (n j a b m : ℕ) (other : Bool) → ℕ
place_refusal n j a b m other = first (place_tests n j a b m other)

-- what holds where none of them is given: the buffer has a half of the job, and the nodes are in the cube
pub record Asked (n j a b m : ℕ) : Type 0 where
  pub halved : Halved n j m
  pub first : a < 2 ^ n
  pub second : b < 2 ^ n

-- ---- those that the labels give

unfoldable pub near_refusal : (c d own : ℕ) (high : Bool) → ℕ
near_refusal c d own high = first (label_tests c d own high)

-- ---- the decision

-- the labels of c's n neighbours in twelve places, the others 0
unfoldable pub gathered : (n : ℕ) (lab : ℕ → ℕ) (c : ℕ) → List ℕ
gathered n lab c = tab 12 (λ i. cond (ltb i n) (lab (flip i c)) 0)

-- what c knows of a message to d: the dimension, both nodes, c's label and those of its neighbours
unfoldable pub around : (n c d : ℕ) (lab : ℕ → ℕ) → ℕ × ℕ × ℕ × ℕ × List ℕ
around n c d lab = (n, c, d, lab c, gathered n lab c)

-- or why a question there is refused
unfoldable pub at_node : (n c d : ℕ) (lab : ℕ → ℕ) → Result (ℕ × ℕ × ℕ × ℕ × List ℕ) Refusal
at_node n c d lab = answered (near_refusal c d (lab c) (some n (λ i. ltb highest (lab (flip i c))))) (around n c d lab)

-- dimension i is in the set, a number whose bits are the dimensions, and the label of the neighbour across it is at most top
unfoldable pub in_set : (set : ℕ) (near : ℕ → ℕ) (top i : ℕ) → Bool
in_set set near top i = bit i set && leb (near i) top

-- of a search below n that ends at i: nothing is found where that is n
unfoldable pub found : (n i : ℕ) → Option ℕ
found n i = cond (ltb i n) (Some i) None

-- what the scans pick: the scan, and its dimension
unfoldable pub chosen : (n c d own : ℕ) (near : ℕ → ℕ) → Option (ℕ × ℕ)
chosen n c d own near =
    let s : ℕ = first_scan n c d own near in cond (ltb s no_scan) (Some (s, lowest n c d own near s)) None

-- the decision away from the destination, by what they picked
abbrev pub across : (picked : Option (ℕ × ℕ)) → Decision
across None = Halted
across (Some p) = Hop p.1
