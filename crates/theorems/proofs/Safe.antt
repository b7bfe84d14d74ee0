-- A source from which each hop is one nearer, whatever the destination: a safe one. Seen from it the rank is the distance.
use mathlib.Core.Path.{◌≡◌}
use Prim.Native.Nat.{ℕ, ◌≤◌}
use native.Mathlib.Omega.{arith}
use Rattle.cube.specs.Cube.{dist}
use Rattle.scans.specs.Progress.{rank}
use Rattle.scans.proofs.Progress.{rank_le}

abbrev pub FromSafe : (lab : ℕ → ℕ) (s : ℕ) → Type 0
FromSafe lab s = lab s ≡ 0

pub rank_safe : (lab : ℕ → ℕ) (d s : ℕ) → FromSafe lab s → rank lab d s ≤ dist s d
rank_safe lab d s e = omega (arith, rank_le lab d s, e)
