-- The refusals of the questions by networks, in the words of RULES (Refusal numbers), as specs/Refusals.antt has those of the others. Proved in
-- proofs/NetworkRefusals.antt.
use Rattle.std.specs.Prelude.{[], ◌∷◌, ◌⊎◌, ◌≡◌, ℕ, ◌+◌, ◌*◌, ◌/◌, ◌≤◌, ◌<◌}
use Rattle.cube.specs.Cube.{flip}
use Rattle.hop.specs.declared.Decision.TheVariants.{Hop}
use Rattle.walk.specs.Walk.{row_bytes}
use Rattle.blocks.specs.Blocks.{hop_in}
use Rattle.blocks.specs.Phase.{after, phase_of}
use Rattle.hop_networks.specs.Hopping.{hopped_in}
use Rattle.walk_networks.specs.Crossing as C
use Rattle.promises.specs.Refusals.{Given, HopWhen, WalkWhen}
use Rattle.cube.specs.Refused.{refused}

-- how many networks a board has, "1 to 5"
abbrev pub Board : (N : ℕ) → Type 0
Board N = (1 ≤ N) × (N ≤ 5)

-- "the next hop would need a network that the board lacks": it is decided at c in phase p, and its network is N or more
abbrev pub Needs : (n N : ℕ) (lab : ℕ → ℕ) (d p c : ℕ) → Type 0
Needs n N lab d p c = (i : ℕ) × (hop_in n lab d p c ≡ Hop i) × (N ≤ after p c i / 2)

-- ---- a hop by networks: "1, 15, 19, 2, 5, 4, 6, 16", of which 15 and 16 are its own. 15: "the number of networks is not 1 to 5; for one hop, too, the board lacks
-- the message's network, or its direction is above 1"

abbrev pub HopNetworksWhen : (n N j c d w g m : ℕ) (lab : ℕ → ℕ) → ℕ → Type 0
HopNetworksWhen n N j c d w g m lab k =
    HopWhen n j c d m lab k
    ⊎ ((k ≡ 15) × ((¬ (Board N)) ⊎ (N ≤ w) ⊎ (1 < g)))
    ⊎ ((k ≡ 16) × Needs n N lab d (phase_of w g) c)

abbrev pub HopNetworksGiven : (n N j c d w g m : ℕ) (lab : ℕ → ℕ) → ℕ → Type 0
HopNetworksGiven n N j c d w g m lab = Given (HopNetworksWhen n N j c d w g m lab) (1 ∷ 15 ∷ 19 ∷ 2 ∷ 5 ∷ 4 ∷ 6 ∷ 16 ∷ [])

-- ---- a walk by networks, with a hop list of `room` bytes: "1, 15, 19, 2, 13, 5, 4, 6, 7, 16", those of a walk without 8, and 15, 13 and 16 of its own. 13: "a hop
-- list has room for fewer than 2 × n × networks hops"

-- from the source, in network 0 and going up, k hops are decided one after the other, each in a network of the board, and then one that needs another: at i
-- is the node after i hops and phase i the message's phase there
abbrev pub RunsOut : (n N : ℕ) (lab : ℕ → ℕ) (d s : ℕ) → Type 0
RunsOut n N lab d s =
    (at phase : ℕ → ℕ) × (k : ℕ) × (at 0 ≡ s) × (phase 0 ≡ 0)
    × ((i : ℕ) → i < k
    → (h : ℕ) × (hop_in n lab d (phase i) (at i) ≡ Hop h) × (at (i + 1) ≡ flip h (at i)) × (phase (i + 1) ≡ after (phase i) (at i) h) × (phase (i + 1) / 2 < N))
    × Needs n N lab d (phase k) (at k)

abbrev pub WalkNetworksWhen : (n N j s d m room : ℕ) (lab : ℕ → ℕ) → ℕ → Type 0
WalkNetworksWhen n N j s d m room lab k =
    WalkWhen n j s d m row_bytes lab k
    ⊎ ((k ≡ 15) × (¬ (Board N)))
    ⊎ ((k ≡ 13) × (room < 2 * n * N))
    ⊎ ((k ≡ 16) × RunsOut n N lab d s)

abbrev pub WalkNetworksGiven : (n N j s d m room : ℕ) (lab : ℕ → ℕ) → ℕ → Type 0
WalkNetworksGiven n N j s d m room lab =
    Given (WalkNetworksWhen n N j s d m room lab) (1 ∷ 15 ∷ 19 ∷ 2 ∷ 13 ∷ 5 ∷ 4 ∷ 6 ∷ 7 ∷ 16 ∷ [])

-- each is given then and not otherwise
pub record NetworkRefusals : Type 1 where
  pub hop : (n N j c d w g m : ℕ) (lab : ℕ → ℕ) → HopNetworksGiven n N j c d w g m lab (refused (hopped_in n N j c d w g m lab))
  pub walk : (n N j s d m room : ℕ) (lab : ℕ → ℕ) → WalkNetworksGiven n N j s d m room lab (refused (C.crossing n N j s d m room lab))
