-- The scans look at the labels of c's n neighbours and at no others: labels that agree there are scanned alike.
use mathlib.Core.Path.{◌≡◌}
use Prim.Native.Nat.{ℕ, ◌<◌}
use lib.Dec.{ltb}
use Rattle.cube.proofs.Search.{least_same}
use Rattle.scans.specs.Scans.{first_scan, lowest, no_scan, suits, takes}

module _ (n c d own : ℕ) (near near' : ℕ → ℕ) (same : (i : ℕ) → i < n → near i ≡ near' i) where
  takes_same : (s i : ℕ) → i < n → takes c d own near s i ≡ takes c d own near' s i
  unfolding takes suits
  takes_same s i h = rw (same i h)

  pub lowest_same : (s : ℕ) → lowest n c d own near s ≡ lowest n c d own near' s
  unfolding lowest
  lowest_same s = least_same n (takes c d own near s) (takes c d own near' s) (takes_same s)

  pub first_same : first_scan n c d own near ≡ first_scan n c d own near'
  unfolding first_scan
  first_same = least_same no_scan (λ s. ltb (lowest n c d own near s) n) (λ s. ltb (lowest n c d own near' s) n) (λ s _. rw (lowest_same s))
