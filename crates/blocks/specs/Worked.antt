-- Worked decisions of Algorithm ROUTE_C on label tables of dimension 4, as they follow from the figure: each block, the places where a call ends, and halting.
-- And a walk of dimension 3 in one network with as many hops as `most_hops` allows.
use Rattle.std.specs.Prelude.{List, [], ◌∷◌, ◌≡◌, ℕ, ◌+◌, ◌*◌, ◌/◌, ◌%◌}
use Rattle.cube.specs.Tables.{label_in}
use Rattle.hop.specs.declared.Decision.{Decision}
use Rattle.hop.specs.declared.Decision.TheVariants.{Deliver, Hop, Halted}
use Rattle.blocks.specs.Phase.{phase_of}
use Rattle.blocks.specs.Blocks.{hop_in}
use Rattle.blocks.specs.Board.{hop_list, hops_on, numbered}

-- the decision at c in phase p for the destination d
abbrev pub at : (labels : List ℕ) (d p c : ℕ) → Decision
at labels d p c = hop_in 4 (label_in labels) d p c

-- the hop across dimension i is the decision, and it is reported in that network
abbrev pub Goes : (labels : List ℕ) (d p c i net : ℕ) → Type 0
Goes labels d p c i net = numbered p c (at labels d p c) ≡ Hop (net * 16 + i)

pub record WorkedBlocks : Type 0 where
  -- at the destination
  pub deliver : at (2 ∷ 2 ∷ 2 ∷ 1 ∷ 2 ∷ 2 ∷ 2 ∷ 1 ∷ 2 ∷ 2 ∷ 1 ∷ 1 ∷ 2 ∷ 2 ∷ 1 ∷ 1 ∷ []) 4 2 4 ≡ Deliver
  -- a draining destination next door
  pub draining : Goes (4 ∷ 4 ∷ 0 ∷ 0 ∷ 4 ∷ 0 ∷ 1 ∷ 1 ∷ 1 ∷ 4 ∷ 4 ∷ 2 ∷ 4 ∷ 0 ∷ 1 ∷ 1 ∷ []) 1 4 3 1 2
  -- forward, block 1
  pub block_1 : Goes (0 ∷ 4 ∷ 2 ∷ 1 ∷ 1 ∷ 1 ∷ 1 ∷ 4 ∷ 1 ∷ 3 ∷ 4 ∷ 0 ∷ 4 ∷ 0 ∷ 2 ∷ 3 ∷ []) 9 4 3 3 2
  -- forward, block 2: from up to down in its network
  pub block_2 : Goes (3 ∷ 1 ∷ 4 ∷ 4 ∷ 3 ∷ 4 ∷ 0 ∷ 1 ∷ 3 ∷ 1 ∷ 0 ∷ 0 ∷ 1 ∷ 3 ∷ 1 ∷ 4 ∷ []) 2 0 14 2 0
  -- forward, block 2: from down to up in the next network
  pub block_2_up : Goes (1 ∷ 1 ∷ 3 ∷ 2 ∷ 1 ∷ 0 ∷ 1 ∷ 0 ∷ 0 ∷ 3 ∷ 2 ∷ 4 ∷ 2 ∷ 0 ∷ 3 ∷ 1 ∷ []) 13 1 12 0 1
  -- forward, block 3: before block 4, though that would take a lower dimension
  pub block_3 : Goes (2 ∷ 0 ∷ 2 ∷ 1 ∷ 1 ∷ 1 ∷ 0 ∷ 0 ∷ 2 ∷ 1 ∷ 4 ∷ 0 ∷ 1 ∷ 2 ∷ 2 ∷ 2 ∷ []) 8 5 6 1 2
  -- forward, block 4
  pub block_4 : Goes (1 ∷ 2 ∷ 1 ∷ 2 ∷ 2 ∷ 1 ∷ 1 ∷ 2 ∷ 2 ∷ 2 ∷ 2 ∷ 1 ∷ 2 ∷ 1 ∷ 1 ∷ 2 ∷ []) 3 2 13 3 1
  -- forward, block 4, from down to up: two hops or fewer to go
  pub block_4_up : Goes (1 ∷ 2 ∷ 2 ∷ 1 ∷ 2 ∷ 1 ∷ 1 ∷ 1 ∷ 1 ∷ 1 ∷ 2 ∷ 1 ∷ 2 ∷ 2 ∷ 2 ∷ 2 ∷ []) 14 3 4 1 2
  -- forward, block 5
  pub block_5 : Goes (2 ∷ 3 ∷ 2 ∷ 2 ∷ 2 ∷ 3 ∷ 3 ∷ 3 ∷ 2 ∷ 3 ∷ 2 ∷ 2 ∷ 2 ∷ 2 ∷ 3 ∷ 3 ∷ []) 1 2 12 0 1
  -- the same, far from the destination: the node is strongly unsafe
  pub block_5_far : Goes (3 ∷ 3 ∷ 2 ∷ 2 ∷ 2 ∷ 2 ∷ 2 ∷ 2 ∷ 1 ∷ 2 ∷ 3 ∷ 2 ∷ 2 ∷ 2 ∷ 2 ∷ 1 ∷ []) 9 5 6 1 2
  -- forward, block 6
  pub block_6 : Goes (2 ∷ 2 ∷ 3 ∷ 2 ∷ 2 ∷ 2 ∷ 3 ∷ 3 ∷ 3 ∷ 2 ∷ 2 ∷ 2 ∷ 3 ∷ 2 ∷ 3 ∷ 2 ∷ []) 10 4 4 2 2
  -- forward, block 6, from down to up: two hops or fewer to go
  pub block_6_up : Goes (3 ∷ 3 ∷ 1 ∷ 2 ∷ 2 ∷ 1 ∷ 2 ∷ 1 ∷ 2 ∷ 1 ∷ 3 ∷ 3 ∷ 2 ∷ 1 ∷ 3 ∷ 1 ∷ []) 8 3 4 3 2
  -- nothing forward works; spare, block 1
  pub spare_1 : Goes (3 ∷ 2 ∷ 2 ∷ 1 ∷ 2 ∷ 2 ∷ 0 ∷ 2 ∷ 4 ∷ 3 ∷ 2 ∷ 1 ∷ 2 ∷ 2 ∷ 1 ∷ 3 ∷ []) 0 4 2 2 2
  -- the same; spare, block 2
  pub spare_2 : Goes (2 ∷ 4 ∷ 1 ∷ 0 ∷ 2 ∷ 3 ∷ 4 ∷ 2 ∷ 0 ∷ 2 ∷ 4 ∷ 1 ∷ 4 ∷ 2 ∷ 4 ∷ 4 ∷ []) 12 5 2 0 3
  -- the forward call ends at block 4; spare, block 3
  pub ended_4 : Goes (1 ∷ 1 ∷ 2 ∷ 1 ∷ 1 ∷ 2 ∷ 1 ∷ 1 ∷ 2 ∷ 1 ∷ 2 ∷ 2 ∷ 1 ∷ 1 ∷ 2 ∷ 1 ∷ []) 14 5 9 3 2
  -- the forward call ends at block 6; spare, block 4
  pub ended_6 : Goes (3 ∷ 2 ∷ 3 ∷ 3 ∷ 2 ∷ 3 ∷ 2 ∷ 2 ∷ 2 ∷ 1 ∷ 2 ∷ 3 ∷ 2 ∷ 2 ∷ 1 ∷ 3 ∷ []) 6 1 8 0 1
  -- block 1 before block 2, though a lower dimension leads to an ordinarily unsafe node
  pub before_2 : Goes (1 ∷ 1 ∷ 3 ∷ 2 ∷ 1 ∷ 3 ∷ 1 ∷ 1 ∷ 1 ∷ 0 ∷ 1 ∷ 2 ∷ 3 ∷ 1 ∷ 2 ∷ 0 ∷ []) 4 1 11 1 0
  -- block 2 before block 3
  pub before_3 : Goes (1 ∷ 1 ∷ 1 ∷ 1 ∷ 1 ∷ 3 ∷ 2 ∷ 4 ∷ 1 ∷ 2 ∷ 0 ∷ 2 ∷ 3 ∷ 2 ∷ 1 ∷ 3 ∷ []) 13 1 2 3 1
  -- nothing forward works; spare, block 5, since the destination is near
  pub spare_5 : Goes (3 ∷ 4 ∷ 2 ∷ 1 ∷ 4 ∷ 1 ∷ 3 ∷ 3 ∷ 2 ∷ 1 ∷ 1 ∷ 3 ∷ 0 ∷ 2 ∷ 3 ∷ 1 ∷ []) 3 0 9 2 0
  -- far from the destination a safe node enters no strongly unsafe one; spare, block 4
  pub safe_far : Goes (0 ∷ 3 ∷ 1 ∷ 1 ∷ 0 ∷ 2 ∷ 2 ∷ 2 ∷ 2 ∷ 3 ∷ 4 ∷ 2 ∷ 1 ∷ 2 ∷ 1 ∷ 0 ∷ []) 1 2 15 0 1
  -- nothing forward works; spare, block 6, since the destination is near
  pub spare_6 : Goes (1 ∷ 3 ∷ 3 ∷ 1 ∷ 1 ∷ 2 ∷ 3 ∷ 1 ∷ 2 ∷ 1 ∷ 2 ∷ 3 ∷ 2 ∷ 4 ∷ 3 ∷ 4 ∷ []) 3 2 9 0 1
  -- the forward call ends at block 4 in network 1, though block 5 would make a hop; spare, block 2
  pub ended_4_early : Goes (2 ∷ 4 ∷ 1 ∷ 2 ∷ 2 ∷ 1 ∷ 0 ∷ 2 ∷ 2 ∷ 1 ∷ 1 ∷ 4 ∷ 1 ∷ 1 ∷ 3 ∷ 3 ∷ []) 9 3 4 1 2
  -- no neighbour works that may be taken
  pub halted : at (2 ∷ 1 ∷ 1 ∷ 3 ∷ 2 ∷ 2 ∷ 1 ∷ 1 ∷ 2 ∷ 2 ∷ 3 ∷ 1 ∷ 1 ∷ 3 ∷ 2 ∷ 3 ∷ []) 5 2 11 ≡ Halted
  -- far from the destination an ordinarily unsafe node enters no strongly unsafe one, forward or spare
  pub halted_far : at (3 ∷ 2 ∷ 2 ∷ 2 ∷ 3 ∷ 0 ∷ 2 ∷ 3 ∷ 2 ∷ 1 ∷ 3 ∷ 2 ∷ 3 ∷ 2 ∷ 1 ∷ 2 ∷ []) 2 4 9 ≡ Halted
  -- the forward call ends at block 6, and no dimension is spare
  pub halted_6 : at (3 ∷ 3 ∷ 3 ∷ 2 ∷ 2 ∷ 2 ∷ 3 ∷ 2 ∷ 3 ∷ 1 ∷ 1 ∷ 4 ∷ 3 ∷ 1 ∷ 2 ∷ 2 ∷ []) 12 5 3 ≡ Halted
  -- both calls end at block 4
  pub halted_4 : at (2 ∷ 3 ∷ 3 ∷ 2 ∷ 1 ∷ 1 ∷ 1 ∷ 3 ∷ 2 ∷ 3 ∷ 3 ∷ 1 ∷ 1 ∷ 1 ∷ 3 ∷ 2 ∷ []) 3 5 4 ≡ Halted
  -- six hops of a cube of dimension 3 in one network, three up and three down
  pub longest : hops_on 3 1 (label_in (1 ∷ 2 ∷ 1 ∷ 2 ∷ 0 ∷ 3 ∷ 1 ∷ 0 ∷ [])) 5 0 ≡ 6
  -- as its list has them
  pub longest_list : hop_list 3 1 (label_in (1 ∷ 2 ∷ 1 ∷ 2 ∷ 0 ∷ 3 ∷ 1 ∷ 0 ∷ [])) 5 0 ≡ 2 ∷ 1 ∷ 0 ∷ 0 ∷ 1 ∷ 2 ∷ []
  -- the question of one hop names the phase by its network and direction
  pub phase-of : (p : ℕ) → phase_of (p / 2) (p % 2) ≡ p
