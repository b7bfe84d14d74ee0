-- The course of a message by Algorithm ROUTE_C, place by place, whatever board it is on: n is the dimension, lab the labels, d the destination, s the source.
-- It starts in phase 0, which is network 0, going up.
use Rattle.std.specs.Prelude.{false, ◌≡◌, ℕ, zero, suc, ◌+◌, ◌*◌, ◌≤◌, ◌<◌}
use Rattle.cube.specs.Cube.{dist, flip}
use Rattle.walk.specs.Walk.{stops}
use Rattle.hop.specs.declared.Decision.{Decision}
use Rattle.hop.specs.declared.Decision.TheVariants.{Deliver, Hop, Halted}
use Rattle.blocks.specs.Phase.{after, Channel, channel}
use Rattle.blocks.specs.Blocks.{hop_in}

pub record Place : Type 0 where
  pub node : ℕ
  pub phase : ℕ

-- where a decision leads
unfoldable pub moved : Decision → Place → Place
moved Deliver q = q
moved (Hop i) q = record { node = flip i q.node; phase = after q.phase q.node i }
moved Halted q = q

-- the place after k hops
unfoldable pub place : (n : ℕ) (lab : ℕ → ℕ) (d s k : ℕ) → Place
place n lab d s zero = record { node = s; phase = 0 }
place n lab d s (suc k) = let q : Place = place n lab d s k in moved (hop_in n lab d q.phase q.node) q

abbrev pub spot : (n : ℕ) (lab : ℕ → ℕ) (d s k : ℕ) → ℕ
spot n lab d s k = (place n lab d s k).node

abbrev pub phase : (n : ℕ) (lab : ℕ → ℕ) (d s k : ℕ) → ℕ
phase n lab d s k = (place n lab d s k).phase

-- the decision after k hops
abbrev pub turn : (n : ℕ) (lab : ℕ → ℕ) (d s k : ℕ) → Decision
turn n lab d s k = hop_in n lab d (phase n lab d s k) (spot n lab d s k)

-- the first k decisions are hops
abbrev pub Runs : (n : ℕ) (lab : ℕ → ℕ) (d s k : ℕ) → Type 0
Runs n lab d s k = (j : ℕ) → j < k → stops (turn n lab d s j) ≡ false

-- the channel of the hop across dimension i that is made after k hops
abbrev pub channel_at : (n : ℕ) (lab : ℕ → ℕ) (d s k i : ℕ) → Channel
channel_at n lab d s k i = channel (phase n lab d s k) (spot n lab d s k) i

-- it arrives, by at most `most` pairs of hops more than the distance, and in no phase above `top`
pub record Arrives (n : ℕ) (lab : ℕ → ℕ) (d s most top : ℕ) : Type 0 where
  pub hops : ℕ
  pub runs : Runs n lab d s hops
  pub ended : turn n lab d s hops ≡ Deliver
  pub there : spot n lab d s hops ≡ d
  pub extra : ℕ
  pub few : extra ≤ most
  pub exact : hops ≡ dist s d + 2 * extra
  -- the nodes before the last work: a draining one forwards nothing
  pub works : (k : ℕ) → k < hops → lab (spot n lab d s k) ≤ 2
  pub phases : (k : ℕ) → k ≤ hops → phase n lab d s k ≤ top
