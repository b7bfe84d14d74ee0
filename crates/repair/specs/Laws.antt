-- What RULES says of asking the neighbours, as laws of its definitions, over all n. Proved in proofs/Laws.antt.
use Rattle.std.specs.Prelude.{true, false, List, [], ◌∷◌, ◌⊎◌, ◌↔◌, ◌≡◌, ℕ, ◌+◌, ◌^◌, ◌≤◌, ◌<◌, get_or, length, replicate}
use Rattle.cube.specs.Cube.{bit, flip}
use Rattle.cube.specs.Tables.{node_bit}
use Rattle.spelling.specs.Laws.{Bytes, IsTable}
use Rattle.repair.specs.Repaired.{mask_of, namers, repaired}

-- node w is heard and names k: the old table calls it working, and k is its neighbour across a dimension whose bit its mask has set
pub record NamesNode (n : ℕ) (faults masks : List ℕ) (w k : ℕ) : Type 0 where
  pub node : w < 2 ^ n
  pub works : node_bit faults w ≡ false
  pub across : ℕ
  pub dimension : across < n
  pub marked : bit across (mask_of masks w) ≡ true
  pub neighbour : flip across w ≡ k

-- the table t holds the old faults, and every neighbour that a node working in the old table names
pub record Holds (n : ℕ) (faults masks t : List ℕ) : Type 0 where
  pub old : (k : ℕ) → node_bit faults k ≡ true → node_bit t k ≡ true
  pub new : (w k : ℕ) → NamesNode n faults masks w k → node_bit t k ≡ true

-- v is the lowest-numbered working node that names k
pub record Lowest (n : ℕ) (faults masks : List ℕ) (k v : ℕ) : Type 0 where
  pub names : NamesNode n faults masks v k
  pub lowest : (u : ℕ) → NamesNode n faults masks u k → v ≤ u

-- masks of a 4-cube: node 1 finds its neighbour across 3 dead, node 8 that across 0, and node 11 that across 1
abbrev pub sample : List ℕ
sample = 0 ∷ 8 ∷ 0 ∷ 0 ∷ 0 ∷ 0 ∷ 0 ∷ 0 ∷ 1 ∷ 0 ∷ 0 ∷ 2 ∷ 0 ∷ 0 ∷ 0 ∷ 0 ∷ []

pub record RepairLaws : Type 0 where
  -- "the old faults, plus every node named by at least one node that the old table calls working"
  pub node :
      (n : ℕ) (faults masks : List ℕ) (k : ℕ) → IsTable n faults
      → (node_bit (repaired n faults masks) k ≡ true) ↔ ((node_bit faults k ≡ true) ⊎ ((w : ℕ) × NamesNode n faults masks w k))
  -- "for each node added, one more than the lowest-numbered working node that named it,
  pub row :
      (n : ℕ) (faults masks : List ℕ) (w k : ℕ) → node_bit faults k ≡ false → NamesNode n faults masks w k
      → (v : ℕ) × (get_or (namers n faults masks) k 0 ≡ v + 1) × Lowest n faults masks k v
  -- and 0 for every other node"
  pub others :
      (n : ℕ) (faults masks : List ℕ) (k : ℕ) → (node_bit faults k ≡ true) ⊎ ((w : ℕ) → ¬ (NamesNode n faults masks w k))
      → get_or (namers n faults masks) k 0 ≡ 0
  pub row_sized : (n : ℕ) (faults masks : List ℕ) → length (namers n faults masks) ≡ 2 ^ n
  -- "masks of nodes the old table calls faulty are not heard": where those of the working nodes are the same, so is everything
  pub unheard :
      (n : ℕ) (faults masks masks' : List ℕ) → ((w : ℕ) → w < 2 ^ n → node_bit faults w ≡ false → mask_of masks w ≡ mask_of masks' w)
      → (repaired n faults masks ≡ repaired n faults masks') × (namers n faults masks ≡ namers n faults masks')
  -- "repairing the repaired table with the same masks adds nothing": whoever works in it worked before, and whom he names is in it
  pub again :
      (n : ℕ) (faults masks : List ℕ) → IsTable n faults → Bytes faults
      → (repaired n (repaired n faults masks) masks ≡ repaired n faults masks) × (namers n (repaired n faults masks) masks ≡ replicate (2 ^ n) 0)
  -- of the tables that hold the old faults and whom the nodes working in the old table name, it is the least. A node that is added is among those who
  -- are heard, for the old table calls it working: so the law asks nothing of who works in the new one
  pub holds : (n : ℕ) (faults masks : List ℕ) → IsTable n faults → Holds n faults masks (repaired n faults masks)
  pub least :
      (n : ℕ) (faults masks t : List ℕ) → IsTable n faults → Holds n faults masks t → (k : ℕ) → node_bit (repaired n faults masks) k ≡ true
      → node_bit t k ≡ true
  -- what is added is never more than the masks name, and with no mask set the table stays
  pub no_more :
      (n : ℕ) (faults masks : List ℕ) (k : ℕ) → IsTable n faults → node_bit (repaired n faults masks) k ≡ true → node_bit faults k ≡ false
      → (w : ℕ) × NamesNode n faults masks w k
  pub none :
      (n : ℕ) (faults masks : List ℕ) → ((w : ℕ) → w < 2 ^ n → mask_of masks w ≡ 0)
      → (repaired n faults masks ≡ faults) × (namers n faults masks ≡ replicate (2 ^ n) 0)
  -- it is a table that labelling and the writers take
  pub table : (n : ℕ) (faults masks : List ℕ) → IsTable n faults → IsTable n (repaired n faults masks)
  pub bytes : (n : ℕ) (faults masks : List ℕ) → Bytes faults → Bytes (repaired n faults masks)
  -- in the listing's cube nodes 1 and 11 name 9; node 8 names it too, and is not heard
  pub listing : repaired 4 (0x14 ∷ 0x81 ∷ []) sample ≡ 0x14 ∷ 0x83 ∷ []
  pub listing_row : namers 4 (0x14 ∷ 0x81 ∷ []) sample ≡ 0 ∷ 0 ∷ 0 ∷ 0 ∷ 0 ∷ 0 ∷ 0 ∷ 0 ∷ 0 ∷ 2 ∷ 0 ∷ 0 ∷ 0 ∷ 0 ∷ 0 ∷ 0 ∷ []
  -- two nodes that name each other are both added, since the old table calls both of them working; where it has one of them, the other stays
  pub both : repaired 1 (0 ∷ []) (1 ∷ 1 ∷ []) ≡ 3 ∷ []
  pub first_only : repaired 1 (1 ∷ []) (1 ∷ 1 ∷ []) ≡ 1 ∷ []
  pub second_only : repaired 1 (2 ∷ []) (1 ∷ 1 ∷ []) ≡ 2 ∷ []
