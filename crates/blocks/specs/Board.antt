-- The walk on a board with N networks: it goes on until a decision is no hop, or is a hop that needs a network that the board lacks.
use Rattle.std.specs.Prelude.{Bool, false, ◌||◌, List, ℕ, ◌*◌, leb}
use Rattle.cube.specs.Count.{least}
use Rattle.cube.specs.Tables.{tab}
use Rattle.hop.specs.Hop.{decision_value}
use Rattle.hop.specs.declared.Decision.{Decision}
use Rattle.hop.specs.declared.Decision.TheVariants.{Deliver, Hop, Halted}
use Rattle.walk.specs.Walk.{stops}
use Rattle.blocks.specs.Phase.{after, channel_number}
use Rattle.blocks.specs.Course.{phase, spot, turn}

-- a decision at c in phase p as it is reported: with the number of its hop in place of the dimension
unfoldable pub numbered : (p c : ℕ) → Decision → Decision
numbered p c Deliver = Deliver
numbered p c (Hop i) = Hop (channel_number p c i)
numbered p c Halted = Halted

-- it is a hop that needs a network that the board lacks
unfoldable pub beyond : (N p c : ℕ) → Decision → Bool
beyond N p c Deliver = false
beyond N p c (Hop i) = leb (2 * N) (after p c i)
beyond N p c Halted = false

-- ---- the walk from s to d

-- most hops: n in each phase
abbrev pub most_hops : (n N : ℕ) → ℕ
most_hops n N = 2 * n * N

-- it ends after k hops
unfoldable pub ends_on : (n N : ℕ) (lab : ℕ → ℕ) (d s k : ℕ) → Bool
ends_on n N lab d s k = stops (turn n lab d s k) || beyond N (phase n lab d s k) (spot n lab d s k) (turn n lab d s k)

-- how many hops it makes
unfoldable pub hops_on : (n N : ℕ) (lab : ℕ → ℕ) (d s : ℕ) → ℕ
hops_on n N lab d s = least (most_hops n N) (ends_on n N lab d s)

-- the decision after the last of them: a hop, where the board lacks its network
unfoldable pub last_on : (n N : ℕ) (lab : ℕ → ℕ) (d s : ℕ) → Decision
last_on n N lab d s = turn n lab d s (hops_on n N lab d s)

-- the number of the hop that is made after k hops, and those of all
unfoldable pub number_at : (n : ℕ) (lab : ℕ → ℕ) (d s k : ℕ) → ℕ
number_at n lab d s k = decision_value (numbered (phase n lab d s k) (spot n lab d s k) (turn n lab d s k))

unfoldable pub hop_list : (n N : ℕ) (lab : ℕ → ℕ) (d s : ℕ) → List ℕ
hop_list n N lab d s = tab (hops_on n N lab d s) (number_at n lab d s)
