-- The decision is what the scans pick: at distance 0 deliver, else the first scan that takes a dimension gives the hop. Two picks are one: neither
-- scan is the earlier, and then neither dimension is the lower.
use mathlib.Core.Path.{◌≡◌, refl, ap}
use mathlib.Core.Logic.{◌⊎◌, inl, inr}
use mathlib.Core.Bool.{true, false}
use Prim.Native.Nat.{ℕ, ◌<◌}
use native.Mathlib.Omega.{arith}
use lib.Dec.{eqb, ltb}
use borrow.Author.Tests.{eqb-true, eqb-false, ltb-true, ltb-false}
use Rattle.cube.specs.Cube.{dist}
use Rattle.cube.proofs.Bools.{either}
use Rattle.scans.specs.Picks.{Picks}
use Rattle.scans.specs.Scans.{no_scan}
use Rattle.scans.proofs.Picking.{first_picks, first_scan_at, lowest_at, none_picks}
use Rattle.hop.specs.Hop.{answer, decide, hop}
use Rattle.hop.specs.declared.Decision.{Decision}
use Rattle.hop.specs.declared.Decision.TheVariants.{Hop}
use Rattle.theorems.specs.Picked.{HopPicked, Picked, arrived, took, stopped}

module _ (n : ℕ) (lab : ℕ → ℕ) (c d : ℕ) where
  abbrev first : ℕ
  first = first_scan_at n lab c d

  pub picked : Picked n lab c d (hop n lab c d)
  unfolding hop decide answer
  picked = go (either (eqb (dist c d) 0)) (either (ltb first no_scan))
    where
      far : eqb (dist c d) 0 ≡ false → 0 < dist c d
      far a = omega (arith, eqb-false (dist c d) 0 a)

      go : (eqb (dist c d) 0 ≡ true) ⊎ (eqb (dist c d) 0 ≡ false) → (ltb first no_scan ≡ true) ⊎ (ltb first no_scan ≡ false)
          → Picked n lab c d (answer (dist c d) first (lowest_at n lab c d first))
      go (inl a) _ = rw a (arrived (eqb-true (dist c d) 0 a))
      go (inr a) (inl b) = rw (a, b) (took first (far a) (first_picks n lab c d (ltb-true first no_scan b)))
      go (inr a) (inr b) = rw (a, b) (stopped (far a) (none_picks n lab c d (ltb-false first no_scan b)))

  -- ---- no other is

  one_scan : {s t i j : ℕ} → Picks n lab c d s i → Picks n lab c d t j → ¬ (s < t)
  one_scan p q l = q.earlier _ l _ p.dimension p.hits

  one_pick : {s t i j : ℕ} → Picks n lab c d s i → Picks n lab c d t j → ¬ (i < j)
  one_pick {s} {t} {i} {j} p q l = q.lowest i l (rw same p.hits)
    where
      same : t ≡ s
      same = omega (arith, one_scan p q, one_scan q p)

  alone : (x y : Decision) → Picked n lab c d x → Picked n lab c d y → x ≡ y
  alone x y (arrived e) (arrived _) = refl
  alone x y (arrived e) (took _ far _) = absurd (omega arith)
  alone x y (arrived e) (stopped far _) = absurd (omega arith)
  alone x y (took _ far _) (arrived e) = absurd (omega arith)
  alone x y (took {i} s _ p) (took {i = j} t _ q) = let z : i ≡ j = omega (arith, one_pick p q, one_pick q p) in ap Hop z
  alone x y (took s _ p) (stopped _ m) = absurd (m s _ p.dimension p.hits)
  alone x y (stopped far _) (arrived e) = absurd (omega arith)
  alone x y (stopped _ m) (took s _ p) = absurd (m s _ p.dimension p.hits)
  alone x y (stopped _ _) (stopped _ _) = refl

  pub hop_picked : HopPicked n lab c d
  hop_picked = record { picked = picked; alone = alone }
