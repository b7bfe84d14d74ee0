-- The notice of a fault table (RULES, Tables and the notice): "dimension; number of faulty nodes; the first faulty node; then for each later one, in rising
-- order, its distance from the one before, less one". As in reading, each address is a distance from a base: 0 at first, then one more than the node before.
use Rattle.std.specs.Prelude.{Bool, cond, List, [], ◌∷◌, ◌++◌, ℕ, zero, suc, ◌+◌, ◌-◌, ◌^◌, length}
use Rattle.cube.specs.Tables.{node_bit}
use Rattle.groups.specs.Number.{groups_of}

-- of the numbers k, k + 1, .., so many in all, those that have p, in rising order
unfoldable pub having : (left k : ℕ) (p : ℕ → Bool) → List ℕ
having zero k p = []
having (suc left) k p = cond (p k) (k ∷ having left (k + 1) p) (having left (k + 1) p)

-- the nodes that a fault table names
abbrev pub faulty_nodes : (n : ℕ) (faults : List ℕ) → List ℕ
faulty_nodes n faults = having (2 ^ n) 0 (node_bit faults)

-- the groups of the addresses of these nodes, counted from a base
unfoldable pub address_bytes : (base : ℕ) → List ℕ → List ℕ
address_bytes base [] = []
address_bytes base (x ∷ more) = groups_of (x - base) ++ address_bytes (x + 1) more

-- the notice of a fault table of an n-cube
unfoldable pub notice_bytes : (n : ℕ) (faults : List ℕ) → List ℕ
notice_bytes n faults = groups_of n ++ groups_of (length (faulty_nodes n faults)) ++ address_bytes 0 (faulty_nodes n faults)
