-- How many places of C's row count: those of the nodes that a walk of so many hops visits.
use mathlib.Core.Path.{◌≡◌}
use Prim.Native.Nat.{ℕ, ◌+◌, ◌<◌}
use native.Mathlib.Omega.{arith}
use Rattle.hcube.specs.Decoded.{value_part}

abbrev pub places : ℕ → ℕ
places r = value_part r + 1

pub within_hops : (r hops i : ℕ) → hops ≡ value_part r → i < places r → i < hops + 1
within_hops r hops i e h = omega arith
