-- Tables (RULES, Tables and the notice): a fault table has one bit per node, a label table one byte per node. Both are lists of bytes here.
use Rattle.std.specs.Prelude.{Bool, cond, ◌&&◌, List, [], ◌∷◌, ℕ, zero, suc, ◌*◌, ◌/◌, ◌%◌, ◌^◌, eqb, leb, length, get_or, replicate}
use Rattle.cube.specs.Count.{count, some}
use Rattle.cube.specs.Cube.{bit}

-- the list of f 0, f 1, .., n in all
unfoldable pub tab : ℕ → (ℕ → ℕ) → List ℕ
tab zero f = []
tab (suc n) f = f zero ∷ tab n (λ k. f (suc k))

-- a dimension is 1 to 12
unfoldable pub is_dimension : ℕ → Bool
is_dimension n = leb 1 n && leb n 12

-- the bytes of a fault table: one for n up to 3, otherwise 2 ^ n / 8
unfoldable pub table_len : ℕ → ℕ
table_len n = cond (leb n 3) 1 (2 ^ n / 8)

-- a table that names no node
abbrev pub empty_table : (n : ℕ) → List ℕ
empty_table n = replicate (table_len n) 0

-- node k in a fault table: byte k / 8 at bit k mod 8, bit 0 lowest
unfoldable pub node_bit : List ℕ → ℕ → Bool
node_bit t k = bit (k % 8) (get_or t (k / 8) 0)

-- an unused bit is set: one that stands for no node
unfoldable pub unused_set : ℕ → List ℕ → Bool
unused_set n t = some (8 * length t) (λ k. leb (2 ^ n) k && node_bit t k)

-- a label is 0 safe, 1 ordinarily unsafe, 2 strongly unsafe, 3 faulty or 4 draining, which is the highest
abbrev pub highest : ℕ
highest = 4

-- the label of node x in a label table
unfoldable pub label_in : List ℕ → ℕ → ℕ
label_in l x = get_or l x 0

-- how many nodes have the label k
abbrev pub label_count : (labels : List ℕ) (k : ℕ) → ℕ
label_count labels k = count (length labels) (λ x. eqb (label_in labels x) k)
