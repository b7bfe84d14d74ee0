-- What a delivered walk has more than the distance is even: its pairs of hops.
use mathlib.Core.Path.{◌≡◌}
use Prim.Native.Nat.{ℕ, ◌+◌, ◌*◌, ◌≤◌}
use native.Mathlib.Omega.{arith}
use Rattle.cube.specs.Cube.{dist}
use Rattle.walk.specs.Walk.{hops, route}
use Rattle.walk.specs.declared.Walked.{Walked}
use Rattle.theorems.proofs.Walks.{Delivers}

pub extra_even : (n : ℕ) (lab : ℕ → ℕ) (d s : ℕ) (w : Walked) → w.hops ≡ hops n (route n lab d) s
    → Delivers n lab d s (lab s) → (e : ℕ) × (e ≤ lab s) × (w.hops ≡ dist s d + 2 * e)
extra_even n lab d s w is D = (D.extra, omega (arith, D.few), omega (arith, D.exact))
