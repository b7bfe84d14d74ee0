-- The laws of the cube that specs/Laws.antt states. A node is given by its bits, so one whose bits are those of a neighbour is that neighbour.
use mathlib.Core.Bool.{Bool, true, false, not, xor}
use mathlib.Core.Logic.{⊎_elim, ◌≢◌}
use mathlib.Core.Path.{◌≡◌, refl, sym, ap, ◌∙◌}
use Prim.Native.Nat.{ℕ, zero, suc, ◌+◌, ◌^◌, ◌<◌}
use native.Mathlib.Decide.{ℕ_discrete}
use native.Mathlib.Nat.{pow-suc}
use native.Mathlib.Omega.{arith}
use borrow.Author.Tests.{not-false}
use lib.Pow.{pow-lt}
use Rattle.cube.specs.Cube.{apart, bit, dist, flip}
use Rattle.cube.specs.Laws.{CubeLaws}
use Rattle.cube.proofs.Bools.{clash, either, xor_not}
use Rattle.cube.proofs.Cube.{
  apart_bits,
  apart_same,
  bit_flip_same,
  bit_flip_other,
  bits_same,
  dist_count,
  dist_fall,
  dist_self,
  dist_zero,
  flip_lt,
  xor_eq,
}

crossed : (i x : ℕ) → bit i (flip i x) ≡ not (bit i x)
crossed i x = bit_flip_same i x ∙ xor_not (bit i x)

kept : (i j x : ℕ) → j ≢ i → bit j (flip i x) ≡ bit j x
kept i j x = bit_flip_other j i x

-- ---- two bits that differ, and two that agree

other : (a b : Bool) → a ≢ b → b ≡ not a
other true true d = absurd (d refl)
other true false d = refl
other false true d = refl
other false false d = absurd (d refl)

xor_same : (a : Bool) → xor a a ≡ false
unfolding xor
xor_same true = refl
xor_same false = refl

module _ (i x y : ℕ) where
  pub agree_apart : bit i x ≡ bit i y → apart i x y ≡ false
  agree_apart e = apart_bits i x y ∙ rw e (xor_same (bit i y))

  pub apart_agree : apart i x y ≡ false → bit i x ≡ bit i y
  apart_agree a = xor_eq (bit i x) (bit i y) (sym (apart_bits i x y) ∙ a)

  pub apart_differ : apart i x y ≡ true → bit i x ≢ bit i y
  apart_differ a e = clash a (agree_apart e)

  pub differ_apart : bit i x ≢ bit i y → apart i x y ≡ true
  differ_apart d = ⊎_elim (λ (t : apart i x y ≡ true). t) (λ (t : apart i x y ≡ false). absurd (d (apart_agree t))) (either (apart i x y))

-- ---- a node that differs from x in bit i alone

module _ (n i x y : ℕ) (hx : x < 2 ^ n) (hy : y < 2 ^ n) (h : i < n) (d : bit i x ≢ bit i y) (same : (j : ℕ) → j < n → j ≢ i → bit j x ≡ bit j y) where
  only : y ≡ flip i x
  only = bits_same n y (flip i x) hy (flip_lt n i x h hx) go
    where
      go : (j : ℕ) → j < n → bit j y ≡ bit j (flip i x)
      go j l =
          elim (ℕ_discrete j i) [
            | yes e ↦ rw e (other (bit i x) (bit i y) d ∙ sym (crossed i x))
            | no k ↦ sym (same j l k) ∙ sym (kept i j x k)
          ]

-- ---- one at distance 1: any two numbers are nodes of a cube that is large enough

below_power : (x : ℕ) → x < 2 ^ x
below_power zero = omega arith
below_power (suc x) = omega (arith, below_power x, pow-suc 2 x)

module _ (i x y : ℕ) where
  abbrev large : ℕ
  large = suc (i + x + y)

  in_large : (z : ℕ) → z < large → z < 2 ^ large
  in_large z h = omega (arith, below_power z, pow-lt h)

  nearer : apart i x y ≡ true → dist x y ≡ suc (dist (flip i x) y)
  nearer = dist_fall large i x y (in_large x (omega arith)) (in_large y (omega arith)) (omega arith)

  pub one_across : apart i x y ≡ true → dist x y ≡ 1 → flip i x ≡ y
  one_across a e =
      dist_zero large (flip i x) y (flip_lt large i x (omega arith) (in_large x (omega arith))) (in_large y (omega arith)) (omega (arith, nearer a))

  pub across_one : flip i x ≡ y → (apart i x y ≡ true) × (dist x y ≡ 1)
  across_one e = (a, omega (arith, nearer a, ap (λ z. dist z y) e, dist_self y))
    where
      a : apart i x y ≡ true
      a = not-false (apart i x y) (sym (apart_same i x y) ∙ ap (λ z. apart i z y) e ∙ agree_apart i y y refl)

pub cube_laws : CubeLaws
cube_laws =
    record {
      crossed = crossed;
      kept = kept;
      only = only;
      differ = λ i x y. (apart_differ i x y, differ_apart i x y);
      distance = dist_count;
      one = λ i x y. (across_one i x y, λ r. one_across i x y r.0 r.1);
    }
