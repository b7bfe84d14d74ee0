-- "No frame passes a node twice" (RULES, No node twice), for any way `go` of deciding at a node. A decision depends on the node alone: a frame that came to a
-- node again would go on from there as it did the first time, and so would go round for ever. Proved in proofs/Once.antt.
use Rattle.std.specs.Prelude.{true, ◌≢◌, ◌≡◌, ℕ, ◌+◌, ◌≤◌, ◌<◌}
use Rattle.cube.specs.Cube.{flip}
use Rattle.hop.specs.declared.Decision.{Decision}
use Rattle.hop.specs.declared.Decision.TheVariants.{Hop}
use Rattle.walk.specs.Walk.{hops, last, spot, stops}

-- a frame is forwarded t times, from node `at 0` to `at 1` and so on: each time a hop is decided, and the next node is across its dimension. `decides x a` says
-- that a is decided at node x
abbrev pub Forwarded : (decides : ℕ → Decision → Type 0) (at : ℕ → ℕ) (t : ℕ) → Type 0
Forwarded decides at t = (k : ℕ) → k < t → (i : ℕ) × decides (at k) (Hop i) × (at (k + 1) ≡ flip i (at k))

pub record Once (go : ℕ → Decision) : Type 0 where
  -- a frame that is forwarded t times, and for which no hop is decided then, was at no node twice;
  pub frame :
      (at : ℕ → ℕ) (t : ℕ) → Forwarded (λ x a. go x ≡ a) at t → stops (go (at t)) ≡ true → (k m : ℕ) → k < m → m ≤ t → at k ≢ at m
  -- so neither was a walk that is delivered or halted
  pub walk : (n s : ℕ) → stops (last n go s) ≡ true → (k m : ℕ) → k < m → m ≤ hops n go s → spot go s k ≢ spot go s m
