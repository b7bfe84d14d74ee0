-- What one node's mask changes: the nodes that it names across the dimensions below n come into the table, and those that were not in it get one more than the
-- node's number in the row.
use Rattle.std.specs.Prelude.{cond, not, ◌&&◌, ◌||◌, List, ◌≡◌, ℕ, ◌+◌, get_or, length}
use Rattle.cube.specs.Tables.{node_bit}
use Rattle.spelling.specs.Laws.{Bytes}
use Rattle.repair.specs.Repaired.{mask_of, names}

-- the mask by which node w is heard: that of a node the old table calls faulty counts as 0
unfoldable pub heard_mask : (faults masks : List ℕ) (w : ℕ) → ℕ
heard_mask faults masks w = cond (node_bit faults w) 0 (mask_of masks w)

-- the table was t and is t', the row was r and is r'
pub record Heard (n mask w : ℕ) (t r t' r' : List ℕ) : Type 0 where
  pub table : (k : ℕ) → node_bit t' k ≡ (node_bit t k || names n mask w k)
  pub row : (k : ℕ) → get_or r' k 0 ≡ cond (not (node_bit t k) && names n mask w k) (w + 1) (get_or r k 0)
  pub table_sized : length t' ≡ length t
  pub row_sized : length r' ≡ length r
  pub bytes : Bytes t → Bytes t'

-- the same by the masks of all nodes
abbrev pub HeardBy : (n : ℕ) (faults masks : List ℕ) (w : ℕ) (t r t' r' : List ℕ) → Type 0
HeardBy n faults masks w t r t' r' = Heard n (heard_mask faults masks w) w t r t' r'
