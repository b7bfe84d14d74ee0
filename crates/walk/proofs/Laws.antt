-- The laws of the travelling message: the walk's node after one hop more is the neighbour that the message is moved to.
use mathlib.Core.Path.{◌≡◌, refl, sym, ap}
use Prim.Native.Nat.{ℕ, ◌+◌}
use Rattle.hop.specs.declared.Decision.TheVariants.{Hop}
use Rattle.walk.specs.Laws.{MessageLaws, message_after}
use Rattle.walk.specs.Walk.{moved, route, turn}
use Rattle.walk.proofs.Steps.{spot_next}

one_on : (n : ℕ) (lab : ℕ → ℕ) (d s k i : ℕ) → turn (route n lab d) s k ≡ Hop i → moved (message_after n lab d s k) i ≡ message_after n lab d s (k + 1)
unfolding moved
one_on n lab d s k i e = ap (λ (x : ℕ). record { at = x; to = d; hops = k + 1 }) (sym (spot_next (route n lab d) s k i e))

pub message_laws : MessageLaws
unfolding moved
message_laws = record { crosses = λ m i. refl; keeps = λ m i. refl; counts = λ m i. refl; one_on = one_on }
