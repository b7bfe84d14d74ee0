-- The next hop, as demand 2 says it (RULES, One hop): the one that Algorithm ROUTE picks from a node's label and its neighbours' labels, lowest dimension
-- first. c is the node, d the destination, lab the labels. Proved in proofs/Decision.antt.
use Rattle.std.specs.Prelude.{◌≡◌, ℕ, ◌<◌}
use Rattle.cube.specs.Cube.{dist}
use Rattle.scans.specs.Picks.{NonePicks, Picks}
use Rattle.hop.specs.Hop.{hop}
use Rattle.hop.specs.declared.Decision.{Decision}
use Rattle.hop.specs.declared.Decision.TheVariants.{Deliver, Hop, Halted}

-- deliver at distance 0 and nothing more; otherwise hop across the dimension that a scan picks, and halted where none picks one
pub data Picked (n : ℕ) (lab : ℕ → ℕ) (c d : ℕ) : Decision → Type 0 where
  arrived : dist c d ≡ 0 → Picked n lab c d Deliver
  took : {i : ℕ} (s : ℕ) → 0 < dist c d → Picks n lab c d s i → Picked n lab c d (Hop i)
  stopped : 0 < dist c d → NonePicks n lab c d → Picked n lab c d Halted

-- the decision is so picked, and no other decision is
pub record HopPicked (n : ℕ) (lab : ℕ → ℕ) (c d : ℕ) : Type 0 where
  pub picked : Picked n lab c d (hop n lab c d)
  pub alone : (x y : Decision) → Picked n lab c d x → Picked n lab c d y → x ≡ y
