-- Directions and networks, in the figure's words and by the phase: a message in network w, going up where g is 0 and down where it is 1.
use mathlib.Core.Path.{◌≡◌, refl, ap, ◌∙◌}
use mathlib.Core.Logic.{◌⊎◌, inl, inr, ⊎_elim}
use mathlib.Core.Bool.{true, false, not, xor}
use Prim.Native.Nat.{ℕ, zero, suc, ◌/◌, ◌≤◌}
use native.Mathlib.Omega.{arith}
use Rattle.cube.proofs.Bools.{either}
use Rattle.blocks.specs.Figure.{Network, Onward, Turning, stays, turns_down, turns_up}
use Rattle.blocks.specs.Phase.{after, down, phase_of, turns}
use Rattle.blocks.proofs.Phases.{after_keep, after_turn, even_up, keep_bit, odd_down, turn_bit}

module _ (w g : ℕ) (hg : g ≤ 1) where
  abbrev p : ℕ
  p = phase_of w g

  pub up_or_down : (g ≡ 0) ⊎ (g ≡ 1)
  up_or_down = go g hg
    where
      go : (g : ℕ) → g ≤ 1 → (g ≡ 0) ⊎ (g ≡ 1)
      go zero h = inl refl
      go (suc zero) h = inr refl
      go (suc (suc g)) h = absurd (omega arith)

  pub is_up : g ≡ 0 → down p ≡ false
  is_up e = even_up p (omega arith)

  pub is_down : g ≡ 1 → down p ≡ true
  is_down e = odd_down p (omega arith)

  module _ (c i : ℕ) where
    pub onward : turns p c i ≡ false → Onward g c i
    onward e = ⊎_elim (λ (z : g ≡ 0). inl (z, keep_bit p c i e ∙ is_up z)) (λ (z : g ≡ 1). inr (z, keep_bit p c i e ∙ is_down z)) up_or_down

    pub turning : turns p c i ≡ true → Turning g c i
    turning e =
        ⊎_elim (λ (z : g ≡ 0). inl (z, turn_bit p c i e ∙ ap not (is_up z))) (λ (z : g ≡ 1). inr (z, turn_bit p c i e ∙ ap not (is_down z))) up_or_down

    pub keeps : Onward g c i → turns p c i ≡ false
    unfolding turns xor
    keeps (inl z) = rw (z.1, is_up z.0)
    keeps (inr z) = rw (z.1, is_down z.0)

    pub bends : Turning g c i → turns p c i ≡ true
    unfolding turns xor
    bends (inl z) = rw (z.1, is_up z.0)
    bends (inr z) = rw (z.1, is_down z.0)

    pub network : Network w g c i (after p c i / 2)
    network = go (either (turns p c i))
      where
        turned : turns p c i ≡ true → Turning g c i → Network w g c i (after p c i / 2)
        turned e (inl z) = let k : after p c i / 2 ≡ w = omega (arith, after_turn p c i e, z.0) in rw k (turns_down z.0 z.1)
        turned e (inr z) = let k : after p c i / 2 ≡ suc w = omega (arith, after_turn p c i e, z.0) in rw k (turns_up z.0 z.1)

        go : (turns p c i ≡ true) ⊎ (turns p c i ≡ false) → Network w g c i (after p c i / 2)
        go (inl e) = turned e (turning e)
        go (inr e) = let k : after p c i / 2 ≡ w = omega (arith, after_keep p c i e, hg) in rw k (stays (onward e))
