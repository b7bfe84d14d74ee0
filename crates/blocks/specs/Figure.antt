-- Algorithm ROUTE_C in the words of RULES (Virtual networks): what each block of FORWARD asks of a dimension, when its hop is made, and the decision that
-- follows. lab are the labels, c the node and d the destination; the message is in network w, and goes up where g is 0, down where g is 1. Nothing here rests
-- on the table that the blocks are computed by; that the decision is the one of these words is proved in proofs/Figure.antt, and that they allow no other in
-- proofs/Alone.antt.
use Rattle.std.specs.Prelude.{Bool, true, false, ◌⊎◌, ◌≡◌, ℕ, suc, ◌+◌, ◌*◌, ◌≤◌, ◌<◌}
use Rattle.cube.specs.Cube.{bit, dist, flip}
use Rattle.scans.specs.Hit.{Forward, MayEnterStrong, NotFaulty, Safe, SafeOrOrdinary, Spare}
use Rattle.scans.specs.Picks.{Misses, Picks}
use Rattle.scans.specs.Scans.{forward, spare}
use Rattle.hop.specs.declared.Decision.{Decision}
use Rattle.hop.specs.declared.Decision.TheVariants.{Deliver, Hop, Halted}
use Rattle.blocks.specs.Blocks.{hop_in}
use Rattle.blocks.specs.Board.{numbered}
use Rattle.blocks.specs.Phase.{phase_of}

-- ---- directions

-- "a hop goes up where it changes the bit from 0 to 1, else down"
abbrev pub Up : (c i : ℕ) → Type 0
Up c i = bit i c ≡ false

abbrev pub Down : (c i : ℕ) → Type 0
Down c i = bit i c ≡ true

-- the hop goes in the message's direction, or in the other
abbrev pub Onward : (g c i : ℕ) → Type 0
Onward g c i = ((g ≡ 0) × Up c i) ⊎ ((g ≡ 1) × Down c i)

abbrev pub Turning : (g c i : ℕ) → Type 0
Turning g c i = ((g ≡ 0) × Down c i) ⊎ ((g ≡ 1) × Up c i)

-- in which network it is made: "a hop in the message's direction stays in its network, and so does one that turns from up to down; one that turns from down to up
-- takes the next network"
pub data Network (w g c i : ℕ) : ℕ → Type 0 where
  stays : Onward g c i → Network w g c i w
  turns_down : g ≡ 0 → Down c i → Network w g c i w
  turns_up : g ≡ 1 → Up c i → Network w g c i (suc w)

-- ---- one call of FORWARD

-- it is called for the forward or for the spare dimensions
pub data OnSide (c d i : ℕ) : Bool → Type 0 where
  ahead : Forward c d i → OnSide c d i forward
  aside : Spare c d i → OnSide c d i spare

-- a block finds a dimension
pub data Finds (lab : ℕ → ℕ) (c d g : ℕ) (side : Bool) : (block i : ℕ) → Type 0 where
  -- "the message's" direction, "is safe"
  block1 : {i : ℕ} → OnSide c d i side → Onward g c i → Safe (lab (flip i c)) → Finds lab c d g side 1 i
  -- "the other", "is safe"
  block2 : {i : ℕ} → OnSide c d i side → Turning g c i → Safe (lab (flip i c)) → Finds lab c d g side 2 i
  -- "the message's", "is safe or ordinarily unsafe"
  block3 : {i : ℕ} → OnSide c d i side → Onward g c i → SafeOrOrdinary (lab (flip i c)) → Finds lab c d g side 3 i
  -- "the other", "is safe or ordinarily unsafe"
  block4 : {i : ℕ} → OnSide c d i side → Turning g c i → SafeOrOrdinary (lab (flip i c)) → Finds lab c d g side 4 i
  -- "the message's", "is not faulty, and c is strongly unsafe or l ≤ 2"
  block5 : {i : ℕ} → OnSide c d i side → Onward g c i → NotFaulty (lab (flip i c)) → MayEnterStrong lab c d → Finds lab c d g side 5 i
  -- "the other", "is not faulty, and c is strongly unsafe or l ≤ 2"
  block6 : {i : ℕ} → OnSide c d i side → Turning g c i → NotFaulty (lab (flip i c)) → MayEnterStrong lab c d → Finds lab c d g side 6 i

-- "it hops", at distance l
pub data Hops (l w g : ℕ) : (block : ℕ) → Type 0 where
  always1 : Hops l w g 1
  always2 : Hops l w g 2
  always3 : Hops l w g 3
  -- "from up; from down in network 0, or where l ≤ 2"
  hops4 : (g ≡ 0) ⊎ (w ≡ 0) ⊎ (l ≤ 2) → Hops l w g 4
  always5 : Hops l w g 5
  -- "from up; from down where l ≤ 2"
  hops6 : (g ≡ 0) ⊎ (l ≤ 2) → Hops l w g 6

-- "six blocks in order, lowest dimension first, and the first that finds a dimension ends it": block s, which finds dimension i
pub record First (n : ℕ) (lab : ℕ → ℕ) (c d g : ℕ) (side : Bool) (s i : ℕ) : Type 0 where
  pub dimension : i < n
  pub finds : Finds lab c d g side s i
  pub lowest : (j : ℕ) → j < i → ¬ (Finds lab c d g side s j)
  pub earlier : (t : ℕ) → t < s → (j : ℕ) → j < n → ¬ (Finds lab c d g side t j)

-- the call makes the hop across dimension i
abbrev pub Forwards : (n : ℕ) (lab : ℕ → ℕ) (c d w g : ℕ) (side : Bool) (i : ℕ) → Type 0
Forwards n lab c d w g side i = (s : ℕ) × First n lab c d g side s i × Hops (dist c d) w g s

-- it makes none: no block finds a dimension, or "a block that finds a dimension and may not hop ends that call without a hop"
pub data Passes (n : ℕ) (lab : ℕ → ℕ) (c d w g : ℕ) (side : Bool) : Type 0 where
  none : ((s j : ℕ) → j < n → ¬ (Finds lab c d g side s j)) → Passes n lab c d w g side
  barred : (s i : ℕ) → First n lab c d g side s i → ¬ (Hops (dist c d) w g s) → Passes n lab c d w g side

-- ---- the decision

-- the hop across dimension i: "at distance 1, the hop to a draining destination is tried", which is scan 0 of Algorithm ROUTE. "Then FORWARD is called for the
-- forward dimensions and, where that makes no hop, for the spare ones"
pub data Taken (n : ℕ) (lab : ℕ → ℕ) (c d w g i : ℕ) : Type 0 where
  home : Picks n lab c d 0 i → Taken n lab c d w g i
  forwarded : Misses n lab c d 0 → Forwards n lab c d w g forward i → Taken n lab c d w g i
  derouted : Misses n lab c d 0 → Passes n lab c d w g forward → Forwards n lab c d w g spare i → Taken n lab c d w g i

-- the decision as it is reported: "distance 0 delivers", "each hop reports network and dimension: network × 16 + dimension", and "a message that no call forwards is
-- halted"
pub data Chosen (n : ℕ) (lab : ℕ → ℕ) (c d w g : ℕ) : Decision → Type 0 where
  arrived : dist c d ≡ 0 → Chosen n lab c d w g Deliver
  took : {i k : ℕ} → 0 < dist c d → Taken n lab c d w g i → Network w g c i k → Chosen n lab c d w g (Hop (k * 16 + i))
  stopped : 0 < dist c d → Misses n lab c d 0 → Passes n lab c d w g forward → Passes n lab c d w g spare → Chosen n lab c d w g Halted

-- the decision is so chosen, and no other decision is
pub record HopChosen (n : ℕ) (lab : ℕ → ℕ) (c d w g : ℕ) : Type 0 where
  pub chosen : g ≤ 1 → Chosen n lab c d w g (numbered (phase_of w g) c (hop_in n lab d (phase_of w g) c))
  pub alone : (x y : Decision) → Chosen n lab c d w g x → Chosen n lab c d w g y → x ≡ y
