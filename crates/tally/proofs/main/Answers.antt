use mathlib.Core.Path.{◌≡◌}
use Prim.Native.Nat.{ℕ, ◌+◌, ◌*◌, ◌^◌, ◌≤◌}
use native.Mathlib.Omega.{arith}
use lib.ListN.{length-take}
use lib.Pow.{pow_mono}
use Rattle.tally.proofs.main.Goals as goal

-- a cube has at most 16 nodes, so six counters for each number of faults are at most the 102
few : (n r : ℕ) → n ≤ 4 → r ≡ 2 ^ n → 6 * (r + 1) ≤ 102
few n r h e = omega (arith, pow_mono {i = n} {j = 4} h)

pub slice_bounds-counters-end : goal.slice_bounds-counters-end
slice_bounds-counters-end c = omega (arith, few _ _ (omega arith) c.nodes.ensures)

pub slice_bounds-say_cube-end : goal.slice_bounds-say_cube-end
slice_bounds-say_cube-end c = simp length-take (omega (arith, few c.loop-n.n _ (omega arith) c.nodes.ensures))

pub say_cube-requires : goal.say_cube-requires
say_cube-requires c = ((omega arith, omega arith), simp length-take (omega (arith, few c.loop-n.n _ (omega arith) c.nodes.ensures, c.nodes.ensures)))
