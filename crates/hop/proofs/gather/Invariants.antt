-- `gather`: the first i places hold the labels of those neighbours, the others 0, and none of them is above the labels joined.
use mathlib.Core.Path.{◌≡◌}
use Prim.Native.Nat.{ℕ, ◌≤◌, ◌<◌}
use lib.ListN.{replicate}
use Rattle.cube.specs.Cube.{flip}
use Rattle.cube.specs.Tables.{label_in}
use Rattle.cube.proofs.Front.{front}
use Rattle.hop.proofs.gather.Given as goal

abbrev pub invariant-loop-i : goal.invariant-loop-i
invariant-loop-i l =
    (l.near ≡ front (λ k. label_in l.labels.bytes.now (flip k l.c)) l.i (replicate 12 0)) × ((k : ℕ) → k < l.i → label_in l.labels.bytes.now (flip k l.c) ≤ l.joined)
