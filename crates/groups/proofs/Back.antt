-- What is written as a number reads back: a number of two groups since its halves make it again.
use mathlib.Core.List.{List, ◌∷◌, ◌++◌}
use mathlib.Core.Path.{◌≡◌, ap}
use Prim.Native.Nat.{ℕ, suc, ◌+◌, ◌*◌, ◌/◌, ◌%◌, ◌≤◌, ◌<◌}
use native.Mathlib.Omega.{arith}
use lib.Dec.{ltb}
use lib.ListN.{length}
use borrow.Author.Tests.{le-ltb, lt-leb, ltb-false, ne_eqb}
use Rattle.cube.proofs.Bools.{by_cases}
use Rattle.std.specs.Prelude.{Ok}
use Rattle.groups.specs.Number.{groups_of, number_at, two_groups}

two_back : (v : ℕ) (rest : List ℕ) → v < 16384 → 128 ≤ v → number_at ((128 + v % 128) ∷ v / 128 ∷ rest) 0 ≡ Ok (v, 2)
unfolding number_at two_groups
two_back v rest h l =
    let made : (128 + v % 128) % 128 + v / 128 * 128 ≡ v = omega arith in
    rw (
      lt-leb (suc (suc (length rest))) 0 (omega arith),
      lt-leb (suc (suc (length rest))) 1 (omega arith),
      le-ltb (128 + v % 128) 128 (omega arith),
      ne_eqb (v / 128) 0 (omega arith),
      lt-leb 128 (v / 128) (omega arith),
    ) (ap (λ (x : ℕ). Ok (x, 2)) made)

pub back : (v : ℕ) (rest : List ℕ) → v < 16384 → number_at (groups_of v ++ rest) 0 ≡ Ok (v, length (groups_of v))
unfolding groups_of number_at
back v rest h =
    by_cases (λ (g : List ℕ). number_at (g ++ rest) 0 ≡ Ok (v, length g)) (ltb v 128) (λ e. rw (lt-leb (suc (length rest)) 0 (omega arith), e))
    (λ e. two_back v rest h (ltb-false v 128 e))
