-- Walks by networks (RULES, Virtual networks), of whatever the contracts allow: the refusals, that the walk repeats the hop question, the laws of every walk,
-- that no messages wait for one another in a circle, and theorem 7 of Chiu and Wu 1994. lib is the library, as Rattle or as C calls it; `along list s k` is
-- the message after the first k bytes of a hop list. Proved in proofs/Networks.antt.
use Rattle.std.specs.Prelude.{List, ◌≢◌, ◌≡◌, ℕ, suc, ◌*◌, ◌^◌, ◌≤◌, ◌<◌, get_or, length, Result, Ok, Err}
use Rattle.cube.specs.Cube.{flip}
use Rattle.jobs.specs.Jobs.{half, label_for}
use Rattle.rule.specs.Cabinet.{Cabinet}
use Rattle.enough.specs.Enough.{FewOut}
use Rattle.hop.specs.declared.Decision.{Decision}
use Rattle.hop.specs.declared.Decision.TheVariants.{Deliver, Hop, Halted}
use Rattle.blocks.specs.Figure.{Chosen}
use Rattle.blocks.specs.Phase.{Channel, order}
use Rattle.walk_networks.specs.Crossing as C
use Rattle.walk_networks.specs.declared.Crossed.{Crossed}
use Rattle.walk_networks.specs.declared.Crossed.TheVariants as crossed
use Rattle.theorems.specs.Networks.{Crosses, Delivers5, Spot, across, along, channel_of}
use Rattle.theorems.specs.Words.{SomeSafe, Takes, Works}
use Rattle.promises.specs.Jobs.{SameTo}
use Rattle.promises.specs.Library.{Library}
use Rattle.promises.specs.NetworkRefusals.{HopNetworksGiven, WalkNetworksGiven}
use Rattle.promises.specs.Refusals.{Job}
use Rattle.cube.specs.declared.refusals.Refusal.{Refusal}
use Rattle.cube.specs.Refused.{refused}

-- a message waits for the channel `wanted` while it holds the channel `held`: it was forwarded by the hop question from one node to the next, hop i by the
-- number `h i`; each node asked by labels, a job and a board of its own; it still holds the channel of an earlier hop, and its next hop is decided
pub record Waiting (lib : Library) (n : ℕ) (held wanted : Channel) : Type 0 where
  pub d : ℕ
  pub last : ℕ
  pub at : ℕ → Spot
  pub h : ℕ → ℕ
  pub moves : (i : ℕ) → i < last → at (suc i) ≡ across (h i) (at i)
  pub asked :
      (i : ℕ) → i ≤ last
      → (N j : ℕ) × (buffer : List ℕ) × lib.hops_networks n N j (at i).node d (at i).network (at i).down buffer (Ok (Hop (h i)))
  pub earlier : ℕ
  pub before : earlier < last
  pub holds : held ≡ channel_of (at earlier).node (h earlier)
  pub wants : wanted ≡ channel_of (at last).node (h last)

pub record Networks (lib : Library) : Type 0 where
  -- ---- the refusals, and that a refused walk writes nothing

  pub hop-refusal :
      {n N j c d w g : ℕ} {buffer : List ℕ} {x : Result Decision Refusal} → lib.hops_networks n N j c d w g buffer x
      → HopNetworksGiven n N j c d w g (length buffer) (label_for n j buffer) (refused x)
  pub walk-refusal :
      {n N j s d : ℕ} {buffer before after : List ℕ} {x : Result Crossed Refusal} → lib.walks_networks n N j s d buffer before x after
      → WalkNetworksGiven n N j s d (length buffer) (length before) (label_for n j buffer) (refused x)
  pub kept :
      {n N j s d : ℕ} {r : Refusal} {buffer before after : List ℕ} → lib.walks_networks n N j s d buffer before (Err r) after → after ≡ before
  -- ---- the decision, its network and its dimension are those of the figure's words, "lowest dimension first"
  pub chosen :
      {n N j c d w g : ℕ} {buffer : List ℕ} {x : Decision} → lib.hops_networks n N j c d w g buffer (Ok x)
      → Chosen n (label_for n j buffer) c d w g x
  -- ---- what the answers depend on: of a hop, on the labels of the node and its neighbours in the job's half,
  pub hop_local :
      {n N j c d w g : ℕ} {buffer buffer' : List ℕ} {x x' : Result Decision Refusal} → lib.hops_networks n N j c d w g buffer x → lib.hops_networks n N j c d w g buffer' x'
      → length buffer ≡ length buffer' → label_for n j buffer c ≡ label_for n j buffer' c
      → ((i : ℕ) → i < n → label_for n j buffer (flip i c) ≡ label_for n j buffer' (flip i c)) → x ≡ x'
  -- of a hop and of a walk, on the job's half and on no byte of the other's; and of what stood in the list the answer depends on the length alone
  pub hop_own :
      {n N j c d w g : ℕ} {l l' : List ℕ} {x x' : Result Decision Refusal} → lib.hops_networks n N j c d w g l x → lib.hops_networks n N j c d w g l' x' → SameTo n j l l'
      → x ≡ x'
  pub walk_own :
      {n N j s d : ℕ} {l l' before before' after after' : List ℕ} {x x' : Result Crossed Refusal} → lib.walks_networks n N j s d l before x after
      → lib.walks_networks n N j s d l' before' x' after' → SameTo n j l l' → length before ≡ length before' → (x ≡ x') × (before ≡ before' → after ≡ after')
  -- and neither job is favoured
  pub hop_alike :
      {n N i j c d w g : ℕ} {l l' : List ℕ} {x x' : Result Decision Refusal} → Job i → Job j → lib.hops_networks n N i c d w g l x → lib.hops_networks n N j c d w g l' x'
      → length l ≡ length l' → half i (2 ^ n) l ≡ half j (2 ^ n) l' → x ≡ x'
  pub walk_alike :
      {n N i j s d : ℕ} {l l' before after after' : List ℕ} {x x' : Result Crossed Refusal} → Job i → Job j → lib.walks_networks n N i s d l before x after
      → lib.walks_networks n N j s d l' before x' after' → length l ≡ length l' → half i (2 ^ n) l ≡ half j (2 ^ n) l' → (x ≡ x') × (after ≡ after')
  -- ---- every walk that is not refused, whatever the labels: `Crosses` has its steps, its end, the nodes that it enters, "the pair of network and direction never
  -- goes back", "at most 2 × n × networks hops", "no channel is used twice", and the bytes behind the hops
  pub crosses :
      {n N j s d : ℕ} {buffer before after : List ℕ} {x : Result Crossed Refusal} → lib.walks_networks n N j s d buffer before x after → refused x ≡ 0
      → Crosses n N j s d (length buffer) (label_for n j buffer) before x after
  -- so it repeats the hop question: asked where the message is, this answers the next byte,
  pub steps :
      {n N j s d k : ℕ} {buffer before after : List ℕ} {x : Result Crossed Refusal} {y : Result Decision Refusal} → lib.walks_networks n N j s d buffer before x after → refused x ≡ 0
      → k < C.hops_of x → lib.hops_networks n N j (along after s k).node d (along after s k).network (along after s k).down buffer y
      → y ≡ Ok (Hop (get_or after k 0))
  -- and after the last how the walk ended
  pub delivered :
      {n N j s d h : ℕ} {buffer before after : List ℕ} {y : Result Decision Refusal} → lib.walks_networks n N j s d buffer before (Ok (crossed.Delivered h)) after
      → lib.hops_networks n N j (along after s h).node d (along after s h).network (along after s h).down buffer y
      → (y ≡ Ok Deliver) × ((along after s h).node ≡ d)
  pub halted :
      {n N j s d h : ℕ} {buffer before after : List ℕ} {y : Result Decision Refusal} → lib.walks_networks n N j s d buffer before (Ok (crossed.Halted h)) after
      → lib.hops_networks n N j (along after s h).node d (along after s h).network (along after s h).down buffer y → y ≡ Ok Halted
  -- "a board with more networks walks the same route wherever a smaller number delivered", or halted
  pub more :
      {n N M j s d : ℕ} {buffer before before' after after' : List ℕ} {x x' : Result Crossed Refusal} → lib.walks_networks n N j s d buffer before x after
      → refused x ≡ 0 → N ≤ M → M ≤ 5 → 2 * n * M ≤ length before' → lib.walks_networks n M j s d buffer before' x' after'
      → (x' ≡ x) × ((k : ℕ) → k < C.hops_of x → get_or after' k 0 ≡ get_or after k 0)
  -- ---- no circle of waiting: one order of the channels, which every hop of every message raises, by whatever labels, jobs and boards each node decides,
  pub rises :
      {n N N' j j' d h h' : ℕ} {buffer buffer' : List ℕ} (q : Spot)
      → lib.hops_networks n N j q.node d q.network q.down buffer (Ok (Hop h))
      → lib.hops_networks n N' j' (across h q).node d (across h q).network (across h q).down buffer' (Ok (Hop h'))
      → order n (channel_of q.node h) < order n (channel_of (across h q).node h')
  -- so no messages wait, each for a channel that the next one holds, in a circle; and messages that wait there are
  pub no_circle : {n : ℕ} (held : ℕ → Channel) (m : ℕ) → ((k : ℕ) → k ≤ m → Waiting lib n (held k) (held (suc k))) → held (suc m) ≢ held 0
  pub waits : Waiting lib 3 (record { net = 0; node = 0; dim = 2 }) (record { net = 0; node = 4; dim = 1 })
  -- ---- theorem 7: with the labels that labelling left, where some node is safe, five networks deliver
  pub five :
      {K : Cabinet} {j exchanges s d : ℕ} {before buffer list after : List ℕ} {x : Result Crossed Refusal} → lib.labels K j before (Ok exchanges) buffer
      → SomeSafe K.n (label_for K.n j buffer) → Works K s → Takes K d → 10 * K.n ≤ length list
      → lib.walks_networks K.n 5 j s d buffer list x after → Delivers5 K (label_for K.n j buffer) s d x after
  -- as it is where few nodes are out of work
  pub few_out :
      {K : Cabinet} {j exchanges s d : ℕ} {before buffer list after : List ℕ} {x : Result Crossed Refusal} → lib.labels K j before (Ok exchanges) buffer
      → FewOut K → Works K s → Takes K d → 10 * K.n ≤ length list
      → lib.walks_networks K.n 5 j s d buffer list x after → Delivers5 K (label_for K.n j buffer) s d x after
