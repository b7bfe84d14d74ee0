-- What the neighbours say (RULES, Asking the neighbours): each node has a mask, "bit i set where the node finds its neighbour across i dead". Which nodes are
-- named, the table that is repaired by it, and the row that says who named whom. `faults` is the old table, and by it alone a node works or not.
use Rattle.std.specs.Prelude.{Bool, cond, not, ◌&&◌, List, ℕ, suc, ◌^◌, eqb, leb, get_or, length}
use Rattle.cube.specs.Count.{least, some}
use Rattle.cube.specs.Cube.{bit, flip}
use Rattle.cube.specs.Tables.{node_bit, tab}
use Rattle.notice.specs.Addresses.{with_bits}
use Rattle.spelling.specs.Spelled.{having}

-- the mask of node w
abbrev pub mask_of : (masks : List ℕ) (w : ℕ) → ℕ
mask_of masks w = get_or masks w 0

-- node w names k by a mask: across some dimension below n whose bit is set, k is its neighbour
unfoldable pub names : (n mask w k : ℕ) → Bool
names n mask w k = some n (λ i. bit i mask && eqb (flip i w) k)

module _ (n : ℕ) (faults masks : List ℕ) where
  -- node k is named by w, "masks of nodes the old table calls faulty are not heard"
  unfoldable pub named_by : (k w : ℕ) → Bool
  named_by k w = not (node_bit faults w) && names n (mask_of masks w) w k

  -- "named by at least one node that the old table calls working"
  unfoldable pub named : (k : ℕ) → Bool
  named k = some (2 ^ n) (named_by k)

  -- "the old faults, plus every node" that is named
  unfoldable pub repaired : List ℕ
  repaired = with_bits faults (having (2 ^ n) 0 named)

  -- a node that is added: named, and no old fault
  abbrev pub added : (k : ℕ) → Bool
  added k = not (node_bit faults k) && named k

  -- "for each node added, one more than the lowest-numbered working node that named it, and 0 for every other node"
  unfoldable pub namer_of : (k : ℕ) → ℕ
  namer_of k = cond (added k) (suc (least (2 ^ n) (named_by k))) 0

  unfoldable pub namers : List ℕ
  namers = tab (2 ^ n) namer_of

-- "a mask with a bit at n or above, from any node"
unfoldable pub stray_bit : (n mask : ℕ) → Bool
stray_bit n mask = some 16 (λ i. leb n i && bit i mask)

unfoldable pub strays : (n : ℕ) (masks : List ℕ) → Bool
strays n masks = some (length masks) (λ w. stray_bit n (mask_of masks w))
