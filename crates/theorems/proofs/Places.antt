-- The row's places: each up to the hop count holds the node after as many hops, and the others zero.
use mathlib.Core.Path.{◌≡◌, ◌∙◌}
use mathlib.Core.Logic.{◌⊎◌, inl, inr}
use mathlib.Core.Bool.{true, false, cond}
use Prim.Native.Nat.{ℕ, ◌≤◌, ◌<◌}
use native.Mathlib.Omega.{arith}
use lib.Dec.{leb, ltb}
use lib.ListN.{get_or, get_or-eq_default}
use borrow.Author.Tests.{le-leb, lt-leb, ltb-false, ltb-true}
use Rattle.cube.proofs.Front.{get_d_tab, length_tab}
use Rattle.cube.proofs.Bools.{either}
use Rattle.hop.specs.declared.Decision.{Decision}
use Rattle.walk.specs.Walk.{hops, row, spot}
use Rattle.walk.proofs.Steps.{hops_within}

module _ (n : ℕ) (go : ℕ → Decision) (s : ℕ) where
  pub row_used : n ≤ 12 → (k : ℕ) → k ≤ hops n go s → get_or (row n go s) k 0 ≡ spot go s k
  unfolding row
  row_used small k h =
      get_d_tab 17 (λ j. cond (leb j (hops n go s)) (spot go s j) 0) k (omega (arith, hops_within n go s)) ∙ rw (le-leb k (hops n go s) h)

  pub row_unused : (k : ℕ) → hops n go s < k → get_or (row n go s) k 0 ≡ 0
  unfolding row
  row_unused k h = by (either (ltb k 17))
    where
      by : (ltb k 17 ≡ true) ⊎ (ltb k 17 ≡ false) → get_or (row n go s) k 0 ≡ 0
      by (inl a) = get_d_tab 17 (λ j. cond (leb j (hops n go s)) (spot go s j) 0) k (ltb-true k 17 a) ∙ rw (lt-leb k (hops n go s) h)
      by (inr a) =
          get_or-eq_default (row n go s) 0 {n = k} (rw (length_tab 17 (λ j. cond (leb j (hops n go s)) (spot go s j) 0)) (ltb-false k 17 a))
