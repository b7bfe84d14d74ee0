-- How many turns may still come, on good labels with a safe node. With the phase they come to 9 at most, at every place of a walk: so five networks
-- are enough.
use Rattle.std.specs.Prelude.{Bool, true, false, cond, ◌&&◌, ◌||◌, ℕ, ◌+◌, ◌*◌, ◌≤◌, min, eqb, leb}
use Rattle.std.specs.Bool.{beq}
use Rattle.cube.specs.Count.{count}
use Rattle.cube.specs.Cube.{apart, dist}
use Rattle.blocks.specs.Phase.{turns}

-- the forward dimensions at c that turn, or that do not
unfoldable pub ways : (n d p c : ℕ) (turning : Bool) → ℕ
ways n d p c turning = count n (λ i. apart i c d && beq (turns p c i) turning)

-- the turns that may still come from a safe node, with a forward dimensions in the phase's direction and b in the other: at most two for each of
-- the b, two for each of the a and one more, and five. (A safe node turns only where its a dimensions all lead to unsafe nodes, so a ≤ 2.)
unfoldable pub bends : (a b : ℕ) → ℕ
bends a b = min (2 * b) (min (2 * a + 1) 5)

-- the same at any node of a walk: where it is neither safe nor next door to d, 6 for an ordinarily unsafe node, which is met in phase 3 or below,
-- and 8 for a strongly unsafe one, which is met in phase 1 or below
unfoldable pub still : (n : ℕ) (lab : ℕ → ℕ) (d p c : ℕ) → ℕ
still n lab d p c =
    cond (leb (dist c d) 1 || eqb (lab c) 0) (bends (ways n d p c false) (ways n d p c true)) (4 + 2 * lab c)

-- THE INVARIANT of theorem 7, at node c in phase p
abbrev pub Room : (n : ℕ) (lab : ℕ → ℕ) (d p c : ℕ) → Type 0
Room n lab d p c = p + still n lab d p c ≤ 9
