-- Labels without a 4: one of them is above 4 exactly where it is above 3, and scan 0 takes nothing.
use mathlib.Core.Bool.{true, false}
use mathlib.Core.Logic.{⊎_elim, ◌≢◌}
use mathlib.Core.Path.{◌≡◌, sym, ◌∙◌}
use Prim.Native.Nat.{ℕ}
use native.Mathlib.Omega.{arith}
use lib.Dec.{eqb, ltb}
use borrow.Author.Tests.{ne_eqb, le-ltb, lt-ltb, ltb-true, ltb-false}
use Rattle.cube.specs.Cube.{flip}
use Rattle.cube.specs.Tables.{highest}
use Rattle.cube.proofs.Bools.{either, is_false}
use Rattle.scans.specs.Scans.{takes}
use Rattle.hop.proofs.Scanning.{suits_last}

-- a labelling that has none
abbrev pub NoFour : (lab : ℕ → ℕ) → Type 0
NoFour lab = (x : ℕ) → lab x ≢ 4

pub above_same : (y : ℕ) → y ≢ 4 → ltb highest y ≡ ltb 3 y
above_same y d =
    ⊎_elim (λ (t : ltb 3 y ≡ true). lt-ltb highest y (omega (arith, ltb-true 3 y t, d)) ∙ sym t)
    (λ (t : ltb 3 y ≡ false). le-ltb highest y (omega (arith, ltb-false 3 y t)) ∙ sym t) (either (ltb 3 y))

module _ (n : ℕ) (lab : ℕ → ℕ) (none : NoFour lab) where
  pub none_first : (c d own i : ℕ) → takes c d own (λ i. lab (flip i c)) 0 i ≡ false
  unfolding takes
  none_first c d own i = is_false (λ t. none (flip i c) (suits_last n c d own (λ i. lab (flip i c)) i t).1)

  pub not_four : (x : ℕ) → eqb (lab x) 4 ≡ false
  not_four x = ne_eqb (lab x) 4 (none x)
