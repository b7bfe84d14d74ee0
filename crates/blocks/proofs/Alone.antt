-- Two decisions of the figure's words are one: neither block is the earlier, and then neither dimension is the lower; and a hop has one network.
use mathlib.Core.Path.{◌≡◌, refl, ap}
use mathlib.Core.Logic.{inl, inr}
use mathlib.Core.Bool.{Bool}
use Prim.Native.Nat.{ℕ, ◌+◌, ◌*◌, ◌<◌}
use native.Mathlib.Omega.{arith}
use Rattle.cube.proofs.Bools.{clash}
use Rattle.scans.specs.Picks.{Misses, Picks}
use Rattle.scans.specs.Scans.{forward, spare}
use Rattle.hop.specs.declared.Decision.{Decision}
use Rattle.hop.specs.declared.Decision.TheVariants.{Hop}
use Rattle.blocks.specs.Figure.{Chosen, First, Forwards, Network, Onward, Passes, Taken, Up}
use Rattle.blocks.specs.Figure.{arrived, barred, derouted, forwarded, home, none, stays, stopped, took, turns_down, turns_up}

module _ (n : ℕ) (lab : ℕ → ℕ) (c d w g : ℕ) where
  no_turn : (i : ℕ) → Onward g c i → g ≡ 1 → Up c i → ⊥
  no_turn i (inl z) e u = omega (arith, z.0)
  no_turn i (inr z) e u = clash z.1 u

  one_network : {i k m : ℕ} → Network w g c i k → Network w g c i m → k ≡ m
  one_network (stays _) (stays _) = refl
  one_network (stays _) (turns_down _ _) = refl
  one_network {i} (stays o) (turns_up e u) = absurd (no_turn i o e u)
  one_network (turns_down _ _) (stays _) = refl
  one_network (turns_down _ _) (turns_down _ _) = refl
  one_network (turns_down e _) (turns_up f _) = absurd (omega arith)
  one_network {i} (turns_up e u) (stays o) = absurd (no_turn i o e u)
  one_network (turns_up f _) (turns_down e _) = absurd (omega arith)
  one_network (turns_up _ _) (turns_up _ _) = refl

  module _ (side : Bool) where
    one_block : {s t i j : ℕ} → First n lab c d g side s i → First n lab c d g side t j → ¬ (s < t)
    one_block {s} {t} {i} {j} p q l = q.earlier s l i p.dimension p.finds

    same_block : {s t i j : ℕ} → First n lab c d g side s i → First n lab c d g side t j → t ≡ s
    same_block p q = omega (arith, one_block p q, one_block q p)

    one_hop : {i j : ℕ} → Forwards n lab c d w g side i → Forwards n lab c d w g side j → ¬ (i < j)
    one_hop {i} {j} p q l = q.1.lowest i l (rw (same_block p.1 q.1) p.1.finds)

    never_both : {i : ℕ} → Forwards n lab c d w g side i → ¬ (Passes n lab c d w g side)
    never_both {i} p (none m) = m p.0 i p.1.dimension p.1.finds
    never_both p (barred t j q h) = h (rw (same_block p.1 q) p.2)

  never_home : {i : ℕ} → Picks n lab c d 0 i → ¬ (Misses n lab c d 0)
  never_home {i} p m = m i p.dimension p.hits

  one_taken : {i j : ℕ} → Taken n lab c d w g i → Taken n lab c d w g j → ¬ (i < j)
  one_taken {i} {j} (home p) (home q) l = q.lowest i l p.hits
  one_taken (home p) (forwarded m _) l = never_home p m
  one_taken (home p) (derouted m _ _) l = never_home p m
  one_taken (forwarded m _) (home p) l = never_home p m
  one_taken (forwarded _ p) (forwarded _ q) l = one_hop forward p q l
  one_taken (forwarded _ p) (derouted _ q _) l = never_both forward p q
  one_taken (derouted m _ _) (home p) l = never_home p m
  one_taken (derouted _ q _) (forwarded _ p) l = never_both forward p q
  one_taken (derouted _ _ p) (derouted _ _ q) l = one_hop spare p q l

  never_stopped : {i : ℕ} → Taken n lab c d w g i → Misses n lab c d 0 → Passes n lab c d w g forward → ¬ (Passes n lab c d w g spare)
  never_stopped (home p) m f s = never_home p m
  never_stopped (forwarded _ p) m f s = never_both forward p f
  never_stopped (derouted _ _ p) m f s = never_both spare p s

  pub alone : (x y : Decision) → Chosen n lab c d w g x → Chosen n lab c d w g y → x ≡ y
  alone x y (arrived e) (arrived _) = refl
  alone x y (arrived e) (took far _ _) = absurd (omega arith)
  alone x y (arrived e) (stopped far _ _ _) = absurd (omega arith)
  alone x y (took far _ _) (arrived e) = absurd (omega arith)
  alone x y (took {i} {k} _ p a) (took {i = j} {k = m} _ q b) =
      let e : i ≡ j = omega (arith, one_taken p q, one_taken q p) in
      let f : k ≡ m = one_network a (rw e b) in
      let z : k * 16 + i ≡ m * 16 + j = omega arith in
      ap Hop z
  alone x y (took _ p _) (stopped _ m f s) = absurd (never_stopped p m f s)
  alone x y (stopped far _ _ _) (arrived e) = absurd (omega arith)
  alone x y (stopped _ m f s) (took _ p _) = absurd (never_stopped p m f s)
  alone x y (stopped _ _ _ _) (stopped _ _ _ _) = refl
