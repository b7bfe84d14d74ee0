-- Walks by networks (RULES, Virtual networks), read off what a caller has in hand: the answer, and the bytes of the hop list, each network * 16 + dimension.
-- Proved of the definitions in proofs/Networks.antt.
use Rattle.std.specs.Prelude.{cond, List, ◌⊎◌, ◌≢◌, ◌≡◌, ℕ, zero, suc, ◌+◌, ◌*◌, ◌/◌, ◌%◌, ◌≤◌, ◌<◌, get_or, length, Result, Ok}
use Rattle.cube.specs.Cube.{bit, dist, flip}
use Rattle.cube.specs.declared.refusals.Refusal.{Refusal}
use Rattle.jobs.specs.Jobs.{label_bytes}
use Rattle.rule.specs.Cabinet.{Cabinet}
use Rattle.hop.specs.declared.Decision.{Decision}
use Rattle.hop.specs.declared.Decision.TheVariants.{Deliver, Hop, Halted}
use Rattle.blocks.specs.Board.{most_hops}
use Rattle.blocks.specs.Phase.{Channel, order, phase_of}
use Rattle.hop_networks.specs.Hopping.{hopped_in}
use Rattle.walk_networks.specs.Crossing.{cross_refusal, crossing, hops_after, hops_of}
use Rattle.walk_networks.specs.declared.Crossed.{Crossed}
use Rattle.walk_networks.specs.declared.Crossed.TheVariants as crossed
use Rattle.theorems.specs.Words.{Accepted, SomeSafe, Takes, Works, label_at}

-- ---- what the bytes say

-- a message as a board has it: its node, its network, and 1 where it goes down
pub record Spot : Type 0 where
  pub node : ℕ
  pub network : ℕ
  pub down : ℕ

-- it after the hop h: across the dimension, in the network of the hop, and down where the bit was 1
unfoldable pub across : (h : ℕ) → Spot → Spot
across h q = record { node = flip (h % 16) q.node; network = h / 16; down = cond (bit (h % 16) q.node) 1 0 }

-- the message after the first k hops of a list, from s: it starts in network 0, going up
unfoldable pub along : (list : List ℕ) (s k : ℕ) → Spot
along list s zero = record { node = s; network = 0; down = 0 }
along list s (suc k) = across (get_or list k 0) (along list s k)

-- "the pair of network and direction", as one number
abbrev pub pair_at : (list : List ℕ) (s k : ℕ) → ℕ
pair_at list s k = let q : Spot = along list s k in phase_of q.network q.down

-- the channel of the hop h from node c
abbrev pub channel_of : (c h : ℕ) → Channel
channel_of c h = record { net = h / 16; node = c; dim = h % 16 }

-- the hop question is not refused there, and decides so
abbrev pub DecidesIn : (n N j d m : ℕ) (lab : ℕ → ℕ) (q : Spot) → Decision → Type 0
DecidesIn n N j d m lab q x = hopped_in n N j q.node d q.network q.down m lab ≡ Ok x

-- ---- every walk that is not refused, whatever the labels

pub record Crosses (n N j s d m : ℕ) (lab : ℕ → ℕ) (before : List ℕ) (x : Result Crossed Refusal) (after : List ℕ) : Type 0 where
  -- it repeats the hop question: each byte is that question's answer where the message is,
  pub steps : (k : ℕ) → k < hops_of x → DecidesIn n N j d m lab (along after s k) (Hop (get_or after k 0))
  -- and at the end the answer is how it ended, delivered at d
  pub ends :
      (DecidesIn n N j d m lab (along after s (hops_of x)) Deliver × (x ≡ Ok (crossed.Delivered (hops_of x))) × ((along after s (hops_of x)).node ≡ d))
      ⊎ (DecidesIn n N j d m lab (along after s (hops_of x)) Halted × (x ≡ Ok (crossed.Halted (hops_of x))))
  -- no node before the last is labelled faulty or draining, and the last only where it is the destination
  pub enters : (k : ℕ) → k < hops_of x → lab (along after s k).node ≤ 2
  pub ends_in : (lab (along after s (hops_of x)).node ≤ 2) ⊎ ((along after s (hops_of x)).node ≡ d)
  -- "at most 2 × n × networks hops"
  pub few : hops_of x ≤ 2 * n * N
  -- "the pair of network and direction never goes back along a walk,
  pub never_back : (i k : ℕ) → i ≤ k → k ≤ hops_of x → pair_at after s i ≤ pair_at after s k
  -- all up hops of a network coming before its down hops",
  pub up_first :
      (i k : ℕ) → i < hops_of x → k < hops_of x → (along after s (suc i)).network ≡ (along after s (suc k)).network
      → (along after s (suc i)).down ≡ 0 → (along after s (suc k)).down ≡ 1 → i < k
  -- "and no channel is used twice"
  pub once : (i k : ℕ) → i < k → k < hops_of x → (along after s i).node ≡ (along after s k).node → get_or after i 0 ≢ get_or after k 0
  -- "the places behind the last hop keep their content"
  pub behind : (i : ℕ) → hops_of x ≤ i → get_or after i 0 ≡ get_or before i 0
  pub long : length after ≡ length before

abbrev pub WalkCrosses : Type 0
WalkCrosses =
    (n N j s d m : ℕ) (lab : ℕ → ℕ) (before : List ℕ) → cross_refusal n N j s d m (length before) lab ≡ 0
    → Crosses n N j s d m lab before (crossing n N j s d m (length before) lab) (hops_after n N j s d m lab before)

-- "a board with more networks walks the same route wherever a smaller number delivered", or halted
abbrev pub MoreNetworks : Type 0
MoreNetworks =
    (n N M j s d m : ℕ) (lab : ℕ → ℕ) (before before' : List ℕ) → cross_refusal n N j s d m (length before) lab ≡ 0 → N ≤ M → M ≤ 5
    → most_hops n M ≤ length before'
    → (crossing n M j s d m (length before') lab ≡ crossing n N j s d m (length before) lab)
    × ((k : ℕ) → k < hops_of (crossing n N j s d m (length before) lab)
    → get_or (hops_after n M j s d m lab before') k 0 ≡ get_or (hops_after n N j s d m lab before) k 0)

-- every hop of every message raises the order of its channels: from any node, network and direction, by any labels, on any board
abbrev pub HopsRise : Type 0
HopsRise =
    (n N N' j j' d m m' : ℕ) (lab lab' : ℕ → ℕ) (q : Spot) (h h' : ℕ) → DecidesIn n N j d m lab q (Hop h) → DecidesIn n N' j' d m' lab' (across h q) (Hop h')
    → order n (channel_of q.node h) < order n (channel_of (across h q).node h')

-- ---- theorem 7 of Chiu and Wu 1994: five networks deliver, with the labels of an accepted cabinet where some node is safe

pub record Delivers5 (K : Cabinet) (lab : ℕ → ℕ) (s d : ℕ) (x : Result Crossed Refusal) (after : List ℕ) : Type 0 where
  pub delivered : x ≡ Ok (crossed.Delivered (hops_of x))
  pub there : (along after s (hops_of x)).node ≡ d
  -- every node before the last works, and the last is the destination, which works or drains
  pub works : (k : ℕ) → k < hops_of x → Works K (along after s k).node
  -- in the distance and an even number of hops more, at most twice the source's label: so exactly the distance from a safe source
  pub even : (e : ℕ) × (e ≤ lab s) × (hops_of x ≡ dist s d + 2 * e)
  pub exact : lab s ≡ 0 → hops_of x ≡ dist s d

abbrev pub FiveDeliver : Type 0
FiveDeliver =
    (K : Cabinet) (j : ℕ) → Accepted K j → SomeSafe K.n (label_at K) → (s d : ℕ) → Works K s → Takes K d → (before : List ℕ)
    → most_hops K.n 5 ≤ length before
    → Delivers5 K (label_at K) s d (crossing K.n 5 j s d (label_bytes K.n) (length before) (label_at K))
    (hops_after K.n 5 j s d (label_bytes K.n) (label_at K) before)
