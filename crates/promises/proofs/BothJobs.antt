-- What a buffer holds once both jobs are labelled in it, each half by its own job's cabinet.
use mathlib.Core.List.{List}
use mathlib.Core.Path.{◌≡◌}
use Prim.Native.Nat.{ℕ, ◌^◌}
use Rattle.jobs.specs.Jobs.{half}
use Rattle.rule.specs.Cabinet.{Cabinet, labels_of}

abbrev pub BothHold : Cabinet → Cabinet → List ℕ → Type 0
BothHold K₀ K₁ after = (half 0 (2 ^ K₀.n) after ≡ labels_of K₀) × (half 1 (2 ^ K₁.n) after ≡ labels_of K₁)

pub both_hold : (K₀ K₁ : Cabinet) (after : List ℕ) → half 0 (2 ^ K₀.n) after ≡ labels_of K₀ → half 1 (2 ^ K₁.n) after ≡ labels_of K₁ → BothHold K₀ K₁ after
both_hold K₀ K₁ after p q = (p, q)
