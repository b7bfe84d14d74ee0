-- Suppose that a frame is at one node after k hops and again after m, k < m. From both it goes on alike. It ends t - m hops after the second time; so as many
-- hops after the first time it stands at its last node, where no hop is decided. But that is before its last hop, and there one was.
use mathlib.Core.Bool.{true}
use mathlib.Core.Logic.{◌≢◌}
use mathlib.Core.Path.{◌≡◌, ap, ◌∙◌}
use Prim.Native.Nat.{ℕ, zero, suc, ◌+◌, ◌-◌, ◌≤◌, ◌<◌}
use native.Mathlib.Omega.{arith}
use Rattle.cube.proofs.Bools.{clash}
use Rattle.hop.specs.declared.Decision.{Decision}
use Rattle.walk.specs.Once.{Forwarded, Once}
use Rattle.walk.specs.Walk.{hops, last, spot, stops, turn}
use Rattle.walk.proofs.Steps.{hops-on, is_hop, spot_next}

module _ (go : ℕ → Decision) where
  module _ (at : ℕ → ℕ) (t : ℕ) (forwarded : Forwarded (λ x a. go x ≡ a) at t) where
    -- from one node it goes on alike
    alike : (k m : ℕ) → k < m → at k ≡ at m → (r : ℕ) → m + r ≤ t → at (k + r) ≡ at (m + r)
    alike k m l e zero h =
        let p : k + 0 ≡ k = omega arith in
        let q : m + 0 ≡ m = omega arith in
        cc
    alike k m l e (suc r) h =
        let same = alike k m l e r (omega arith) in
        let one = forwarded (k + r) (omega arith) in
        let other = forwarded (m + r) (omega arith) in
        let p : k + suc r ≡ k + r + 1 = omega arith in
        let q : m + suc r ≡ m + r + 1 = omega arith in
        cc

    frame : stops (go (at t)) ≡ true → (k m : ℕ) → k < m → m ≤ t → at k ≢ at m
    unfolding stops
    frame ends k m l h e =
        let left = t - m in
        let all : m + left ≡ t = omega (arith, h) in
        let there = alike k m l e left (omega arith) ∙ ap at all in
        clash (ap (λ (x : ℕ). stops (go x)) there ∙ ends) (ap stops (forwarded (k + left) (omega arith)).1)

  walk : (n s : ℕ) → stops (last n go s) ≡ true → (k m : ℕ) → k < m → m ≤ hops n go s → spot go s k ≢ spot go s m
  unfolding last turn
  walk n s = frame (spot go s) (hops n go s) (λ k h. let r = is_hop (turn go s k) (hops-on n go s k h) in (r.0, r.1, spot_next go s k r.0 r.1))

  pub once : Once go
  once = record { frame = frame; walk = walk }
