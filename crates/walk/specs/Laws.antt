-- The travelling message (RULES, Walk), as laws of `moved`. Proved in proofs/Laws.antt.
use Rattle.std.specs.Prelude.{◌≡◌, ℕ, ◌+◌}
use Rattle.cube.specs.Cube.{flip}
use Rattle.hop.specs.declared.Decision.TheVariants.{Hop}
use Rattle.walk.specs.Walk.{moved, route, spot, turn}
use Rattle.walk.specs.declared.Message.{Message}

-- the message of the walk from s to d after k hops: "current node, destination, hops so far"
abbrev pub message_after : (n : ℕ) (lab : ℕ → ℕ) (d s k : ℕ) → Message
message_after n lab d s k = record { at = spot (route n lab d) s k; to = d; hops = k }

pub record MessageLaws : Type 0 where
  -- it crosses to the neighbour, keeps its destination and counts the hop
  pub crosses : (m : Message) (i : ℕ) → (moved m i).at ≡ flip i m.at
  pub keeps : (m : Message) (i : ℕ) → (moved m i).to ≡ m.to
  pub counts : (m : Message) (i : ℕ) → (moved m i).hops ≡ m.hops + 1
  -- "moving it gives the message back one hop on": across the dimension of the walk's own decision
  pub one_on :
      (n : ℕ) (lab : ℕ → ℕ) (d s k i : ℕ) → turn (route n lab d) s k ≡ Hop i → moved (message_after n lab d s k) i ≡ message_after n lab d s (k + 1)
