-- How the loop is proved under the eyes of a watcher: where a turn begins, it is what it is after the rounds that are over.
use mathlib.Core.Path.{◌≡◌, refl, ap, ◌∙◌}
use mathlib.Core.List.{List}
use Prim.Native.Nat.{ℕ, ◌+◌, ◌^◌}
use native.Mathlib.Numerals.{add-one}
use Rattle.cube.specs.Tables.{tab}
use Rattle.rule.specs.Cabinet.{Cabinet}
use Rattle.passes.specs.Passes.{swept}
use Rattle.passes.proofs.Standing.{Stands}
use Rattle.labels.specs.Watched.{looked, round_table}
use Rattle.labels.proofs.Loop.{Turn}

-- where a turn begins
pub record Watched {W : Type 0} (after : W → List ℕ → ℕ → W) (Fits : W → ℕ → Type 0) (K : Cabinet) (first : W) (l : List ℕ) (counted : ℕ) (w : W) : Type 0 where
  pub turn : Turn K l counted
  pub seen : w ≡ looked after K first turn.over
  pub fits : Fits w (2 ^ K.n)

-- the table that a sweep leaves
pub round_is : (K : Cabinet) (r : ℕ) (l l₁ : List ℕ) → Stands K l r → l₁ ≡ tab (2 ^ K.n) (swept K.n K.rule l) → l₁ ≡ round_table K r
unfolding round_table
round_is K r l l₁ T e = e ∙ ap (λ (t : List ℕ). tab (2 ^ K.n) (swept K.n K.rule t)) T.table

module _ {W : Type 0} (after : W → List ℕ → ℕ → W) (K : Cabinet) (first : W) (r : ℕ) where
  pub looked_first : first ≡ looked after K first 0
  unfolding looked
  looked_first = refl

  pub looked_next : (w v : W) (l : List ℕ) (counted : ℕ) → w ≡ looked after K first r → l ≡ round_table K r → counted ≡ r + 1 → v ≡ after w l counted
      → v ≡ looked after K first (r + 1)
  unfolding looked
  looked_next w v l counted ew el ec ev = rw (add-one r) (ev ∙ rw (ew, el, ec))
