-- What is shown of Algorithm ROUTE_C (RULES, Virtual networks). `EveryWalk` and `Unblocked` hold WHATEVER THE LABELS, good or not; then theorem 7 of Chiu
-- and Wu 1994. Proved in proofs/Laws.antt.
use Rattle.std.specs.Prelude.{true, false, ◌⊎◌, ◌≢◌, ◌≡◌, ℕ, suc, ◌*◌, ◌^◌, ◌≤◌, ◌<◌}
use Rattle.std.specs.Int.Count.{ones}
use Rattle.cube.specs.Cube.{flip}
use Rattle.rule.specs.Good.{Good}
use Rattle.scans.specs.Progress.{Receives}
use Rattle.walk.specs.Walk.{stops}
use Rattle.hop.specs.declared.Decision.TheVariants.{Deliver, Hop}
use Rattle.blocks.specs.Phase.{after, down, channel, order}
use Rattle.blocks.specs.Blocks.{hop_in}
use Rattle.blocks.specs.Course.{spot, phase, turn, Runs, Arrives, channel_at}
use Rattle.blocks.specs.Board.{ends_on, hops_on, last_on, most_hops}

-- every walk, from s to d
pub record EveryWalk (n : ℕ) (lab : ℕ → ℕ) (d s : ℕ) : Type 0 where
  -- a hop keeps the phase or adds one, so the phase never goes back
  pub keeps_or_adds : (k : ℕ) → Runs n lab d s (suc k) → (phase n lab d s (suc k) ≡ phase n lab d s k) ⊎ (phase n lab d s (suc k) ≡ suc (phase n lab d s k))
  pub never_back : (j k : ℕ) → j ≤ k → Runs n lab d s k → phase n lab d s j ≤ phase n lab d s k
  -- a hop of a phase that goes up adds one to the ones of the node, and of one that goes down takes one away
  pub ones_step :
      (k : ℕ) → Runs n lab d s (suc k)
      → ((down (phase n lab d s (suc k)) ≡ false) × (ones (spot n lab d s (suc k)) ≡ suc (ones (spot n lab d s k))))
      ⊎ ((down (phase n lab d s (suc k)) ≡ true) × (ones (spot n lab d s k) ≡ suc (ones (spot n lab d s (suc k)))))
  -- with the networks below N it has at most 2 * n * N hops
  pub bounded : (k N : ℕ) → Runs n lab d s k → phase n lab d s k < 2 * N → k ≤ most_hops n N
  -- it uses no channel twice
  pub once :
      (j k i m : ℕ) → j < k → Runs n lab d s k → turn n lab d s j ≡ Hop i → turn n lab d s k ≡ Hop m → channel_at n lab d s j i ≢ channel_at n lab d s k m
  -- on a board with N networks it comes to an end: with a decision that is no hop, or at a hop that needs a network that the board lacks
  pub ends : (N : ℕ) → 0 < N → ends_on n N lab d s (hops_on n N lab d s) ≡ true
  -- a board with more networks makes the same walk, where the smaller one lacked none
  pub same_walk : (N M : ℕ) → 0 < N → N ≤ M → stops (last_on n N lab d s) ≡ true → hops_on n M lab d s ≡ hops_on n N lab d s

-- no messages block one another (the condition of Dally and Seitz): the channels stand in one order, which rises with every hop of every message, from any node
-- and phase, be the labels the same at the next node or not. What follows for messages that wait is said of the contracts, in crates/promises
abbrev pub Unblocked : (n : ℕ) → Type 0
Unblocked n =
    (lab lab' : ℕ → ℕ) (d p c i j : ℕ) → c < 2 ^ n → hop_in n lab d p c ≡ Hop i → hop_in n lab' d (after p c i) (flip i c) ≡ Hop j
    → order n (channel p c i) < order n (channel (after p c i) (flip i c) j)

-- the walk arrives, by at most twice as many hops more than the distance as the source's label, and a board with five networks is enough
pub record FiveEnough (n : ℕ) (lab : ℕ → ℕ) (s d : ℕ) : Type 0 where
  pub arrives : Arrives n lab d s (lab s) 9
  pub delivers : (N : ℕ) → 5 ≤ N → last_on n N lab d s ≡ Deliver
  pub same_hops : (N : ℕ) → 5 ≤ N → hops_on n N lab d s ≡ arrives.hops

abbrev pub Theorem7 : Type 0
Theorem7 =
    (n : ℕ) (lab : ℕ → ℕ) → Good n lab → (x : ℕ) → x < 2 ^ n → lab x ≡ 0 → (s d : ℕ) → s < 2 ^ n → lab s ≤ 2 → d < 2 ^ n → Receives (lab d)
    → FiveEnough n lab s d
