-- Phases and channels of Algorithm ROUTE_C (RULES, Virtual networks). A message crosses the networks in order, and each network first up (a bit from 0 to 1),
-- then down: its phase is twice the network, and one more where it goes down. A hop keeps the phase or adds one to it.
use Rattle.std.specs.Prelude.{Bool, cond, ℕ, suc, ◌+◌, ◌*◌, ◌-◌, ◌/◌, ◌%◌, eqb}
use Rattle.std.specs.Bool.{xor}
use Rattle.std.specs.Int.Count.{ones}
use Rattle.cube.specs.Cube.{bit, flip}

-- the phase of a message in that network, 1 for down and 0 for up
abbrev pub phase_of : (network down : ℕ) → ℕ
phase_of network down = 2 * network + down

-- phase p goes down
unfoldable pub down : ℕ → Bool
down p = eqb (p % 2) 1

-- the hop from c across dimension i goes in the other direction than phase p
unfoldable pub turns : (p c i : ℕ) → Bool
turns p c i = xor (bit i c) (down p)

-- the phase in which that hop is made: from up to down in the same network, from down to up in the next
unfoldable pub after : (p c i : ℕ) → ℕ
after p c i = cond (turns p c i) (suc p) p

-- the hop as it is reported: its network * 16 + its dimension
unfoldable pub channel_number : (p c i : ℕ) → ℕ
channel_number p c i = after p c i / 2 * 16 + i

-- how far the phase has come at x: the ones of x, or, going down, the zeros
unfoldable pub climbed : (n p x : ℕ) → ℕ
climbed n p x = cond (down p) (n - ones x) (ones x)

-- what rises with every hop, whatever the labels
unfoldable pub height : (n p x : ℕ) → ℕ
height n p x = p * n + climbed n p x

-- a channel: from that node across that dimension, in that network
pub record Channel : Type 0 where
  pub net : ℕ
  pub node : ℕ
  pub dim : ℕ

-- the channel of the hop from c across dimension i, for a message in phase p
abbrev pub channel : (p c i : ℕ) → Channel
channel p c i = record { net = after p c i / 2; node = c; dim = i }

-- the height at the channel's far end: a function of the channel alone
unfoldable pub order : (n : ℕ) → Channel → ℕ
order n h = height n (2 * h.net + cond (bit h.dim h.node) 1 0) (flip h.dim h.node)
