-- Numbers joined by `|`: none is above the whole. So a loop that joins what it reads has at its end a bound of all of it.
use mathlib.Core.Logic.{⊎_elim}
use mathlib.Core.Path.{◌≡◌, ap}
use Prim.Native.Nat.{ℕ, ◌+◌, ◌≤◌, ◌<◌}
use native.Mathlib.Omega.{arith}
use lib.Bits.{bit_or, or_add_and, and_le_l, and_le_r}
use Rattle.cube.proofs.Count.{below_suc}

or_bounds : (a b : ℕ) → (a ≤ bit_or a b) × (b ≤ bit_or a b)
or_bounds a b = (omega (arith, or_add_and a b, and_le_r a b), omega (arith, or_add_and a b, and_le_l a b))

-- all numbers so far, and one more
pub joined_next : (f : ℕ → ℕ) (any y i : ℕ) → ((j : ℕ) → j < i → f j ≤ any) → y ≡ f i → (j : ℕ) → j < i + 1 → f j ≤ bit_or any y
joined_next f any y i bound e j h =
    let o = or_bounds any y in
    ⊎_elim (λ (q : j ≡ i). omega (arith, ap f q, o.1)) (λ (l : j < i). omega (arith, bound j l, o.0)) (below_suc (omega arith))
