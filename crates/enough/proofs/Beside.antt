-- Where the n neighbours of node 0 do not work no node is safe by rule 3: 0 has them all, those at distance 2 from 0 have two of them, and those farther away
-- have three neighbours nearer 0, of which none is safe.
use mathlib.Core.Path.{◌≡◌, refl, sym, ap, ◌∙◌}
use mathlib.Core.Bool.{Bool, true, false, not}
use Prim.Native.Nat.{ℕ, zero, suc, ◌^◌, ◌≤◌, ◌<◌}
use native.Mathlib.Omega.{arith}
use lib.Dec.{eqb}
use lib.Pow.{pow_pos}
use borrow.Author.Tests.{eq-eqb}
use Rattle.cube.specs.Count.{count}
use Rattle.cube.specs.Cube.{apart, dist, flip}
use Rattle.cube.proofs.Bools.{clash, is_false}
use Rattle.cube.proofs.Count.{count_all, count_le}
use Rattle.cube.proofs.Cube.{dist_count, dist_fall, dist_zero, flip_lt, neighbour}
use Rattle.cube.proofs.Search.{some_hit}
use Rattle.rule.specs.Closed.{Closed}
use Rattle.rule.specs.Rule.{safe}
use Rattle.rule.proofs.Largest.{safe_closed}
use Rattle.enough.specs.Enough.{beside_zero}

module _ (n : ℕ) (two : 2 ≤ n) where
  abbrev F : ℕ → Bool
  F = beside_zero n

  abbrev H : ℕ → Bool
  H = safe n 3 F

  C : Closed n 3 F H
  C = safe_closed n 3 F

  beside : (i : ℕ) → i < n → F (flip i 0) ≡ true
  unfolding beside_zero
  beside i h = some_hit n (λ j. eqb (flip i 0) (flip j 0)) i h (eq-eqb (flip i 0) (flip i 0) refl)

  at_one : (x : ℕ) → x < 2 ^ n → dist x 0 ≡ 1 → F x ≡ true
  at_one x h e = let (i, l, _, q) = neighbour n x 0 h (pow_pos n) e in ap F q ∙ beside i l

  -- the neighbours nearer 0 are as many as the distance
  nearer : (m x : ℕ) → x < 2 ^ n → dist x 0 ≡ suc m → (p : ℕ → Bool) → ((y : ℕ) → y < 2 ^ n → dist y 0 ≡ m → p y ≡ true) → suc m ≤ count n (λ i. p (flip i x))
  nearer m x h e p f =
      omega (
        arith,
        dist_count n x 0 h (pow_pos n),
        count_le n (λ i. apart i x 0) (λ i. p (flip i x))
            (λ i l a. f (flip i x) (flip_lt n i x l h) (omega (arith, dist_fall n i x 0 h (pow_pos n) l a))),
      )

  pub unsafe : (m x : ℕ) → x < 2 ^ n → dist x 0 ≡ m → H x ≡ false
  unsafe zero x h e = is_false go
    where
      go : H x ≡ true → ⊥
      go t =
          let z = dist_zero n x 0 h (pow_pos n) e in
          omega (
            arith,
            C.few_out 0 (pow_pos n) (ap H (sym z) ∙ t),
            count_le n (λ _. true) (λ i. F (flip i 0)) (λ i l _. beside i l),
            count_all n,
          )
  unsafe (suc zero) x h e = is_false (λ t. clash (at_one x h e) (C.works x h t))
  unsafe (suc (suc zero)) x h e = is_false (λ t. omega (arith, C.few_out x h t, nearer 1 x h e F at_one))
  unsafe (suc (suc (suc m))) x h e =
      is_false (λ t. omega (arith, C.few_outside x h t, nearer (suc (suc m)) x h e (λ y. not (H y)) (λ y l d. ap not (unsafe (suc (suc m)) y l d))))
