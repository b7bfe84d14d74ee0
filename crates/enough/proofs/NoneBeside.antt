-- So none is safe with n of them out of work, the neighbours of node 0 (proofs/Beside.antt); and they are n, since fewer would leave one safe.
use mathlib.Core.Path.{◌≡◌, refl}
use mathlib.Core.Bool.{Bool}
use Prim.Native.Nat.{ℕ, ◌^◌, ◌≤◌, ◌<◌}
use native.Mathlib.Omega.{arith}
use lib.Pow.{pow_pos}
use Rattle.cube.specs.Count.{count}
use Rattle.cube.specs.Cube.{dist, flip}
use Rattle.cube.proofs.Bools.{clash}
use Rattle.cube.proofs.Cube.{flip_lt}
use Rattle.cube.proofs.Search.{count_named}
use Rattle.enough.specs.Enough.{LeavesSafe, beside_zero}
use Rattle.enough.proofs.Beside.{unsafe}
use Rattle.enough.proofs.Enough.{enough}

module _ (n : ℕ) (two : 2 ≤ n) where
  abbrev F : ℕ → Bool
  F = beside_zero n

  pub three : LeavesSafe n 3 F → ⊥
  three (x, h, e) = clash e (unsafe n two (dist x 0) x h refl)

  pub three_out : count (2 ^ n) F ≡ n
  unfolding beside_zero
  three_out = omega (arith, count_named (2 ^ n) n (λ i. flip i 0) (λ i l. flip_lt n i 0 l (pow_pos n)), no_fewer)
    where
      no_fewer : ¬ (count (2 ^ n) F < n)
      no_fewer h = three ((enough n F).three h)
