-- `plain_near` looks at the neighbours until one has no mark. Invariant: those across the dimensions passed are marked or do not work.
use mathlib.Core.Path.{◌≡◌}
use mathlib.Core.Bool.{false}
use Prim.Native.Nat.{ℕ, ◌^◌, ◌<◌}
use Rattle.cube.specs.Cube.{flip}
use Rattle.passes.specs.Passes.{plain_in}
use Rattle.passes.proofs.Node.plain_near.Given as goal

abbrev pub invariant-loop-k : goal.invariant-loop-k
invariant-loop-k l = ((j : ℕ) → j < l.looked → plain_in l.self.labels.now (flip j l.self.x) ≡ false) × (l.bit ≡ 2 ^ l.looked) × (l.looked ≡ l._k)
