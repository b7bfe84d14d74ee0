-- The bits of a fault table that addresses make: setting node a's bit changes that bit and no other, so a table of zeros with the bits of addresses
-- set has node k's bit exactly where k is one of the addresses.
use mathlib.Core.Path.{◌≡◌, refl, sym, ap, ◌∙◌}
use mathlib.Core.Logic.{◌⊎◌, inl, inr}
use mathlib.Core.Bool.{true, false, xor, ◌||◌, or-false, or_assoc}
use mathlib.Core.List.{List, [], ◌∷◌}
use Prim.Native.Nat.{ℕ, zero, suc, ◌+◌, ◌*◌, ◌/◌, ◌%◌, ◌^◌, ◌<◌}
use native.Mathlib.Omega.{arith}
use native.Mathlib.Decide.{ℕ_discrete}
use lib.Bits.{bit_or, or_shr, or_mod, xor_zero_l}
use lib.Dec.{eqb, ltb}
use lib.ListN.{length, get_or, replicate, length-replicate, get_or-replicate, get_or-eq_default}
use lib.Seq.{get_or-set_same, get_or-set_other}
use borrow.Author.Tests.{ltb-true, ltb-false, eq-eqb, ne_eqb}
use Rattle.cube.specs.Cube.{bit, flip}
use Rattle.cube.specs.Tables.{node_bit}
use Rattle.cube.proofs.Bools.{either}
use Rattle.cube.proofs.Cube.{bit_none, bit_flip_same, bit_flip_other}
use Rattle.notice.specs.Addresses.{rising, among, with_bit, with_bits}
use Rattle.notice.proofs.Rising.{rises}
use Rattle.notice.proofs.Passes.{length_with}

-- ---- single bits

odd_or : (a b : ℕ) → eqb (bit_or a b % 2) 1 ≡ (eqb (a % 2) 1 || eqb (b % 2) 1)
odd_or a b = rw (or_mod a b 1) (go (a % 2) (b % 2) (omega arith) (omega arith))
  where
    go : (x y : ℕ) → x < 2 → y < 2 → eqb (bit_or x y) 1 ≡ (eqb x 1 || eqb y 1)
    go zero zero h l = refl
    go zero (suc zero) h l = refl
    go zero (suc (suc y)) h l = absurd (omega arith)
    go (suc zero) zero h l = refl
    go (suc zero) (suc zero) h l = refl
    go (suc zero) (suc (suc y)) h l = absurd (omega arith)
    go (suc (suc x)) y h l = absurd (omega arith)

bit-or : (i x y : ℕ) → bit i (bit_or x y) ≡ (bit i x || bit i y)
unfolding bit
bit-or i x y = rw (or_shr x y i) (odd_or (x / 2 ^ i) (y / 2 ^ i))

-- a power of two is 0 with one bit changed
power_flip : (j : ℕ) → 2 ^ j ≡ flip j 0
unfolding flip
power_flip j = sym (xor_zero_l (2 ^ j))

bit_power : (i j : ℕ) → bit i (2 ^ j) ≡ eqb i j
unfolding xor
bit_power i j = elim (ℕ_discrete i j) [
  | yes e ↦ ap (bit i) (power_flip j) ∙ rw (e, bit_flip_same, bit_none) (sym (eq-eqb j j refl))
  | no d ↦ ap (bit i) (power_flip j) ∙ bit_flip_other i j 0 d ∙ bit_none i ∙ sym (ne_eqb i j d)
]

-- ---- a table's bits

-- nodes in one byte are told apart by their places in it
same_byte : (k a : ℕ) → k / 8 ≡ a / 8 → eqb (k % 8) (a % 8) ≡ eqb k a
same_byte k a e = elim (ℕ_discrete k a) [
  | yes p ↦ eq-eqb (k % 8) (a % 8) (omega arith) ∙ sym (eq-eqb k a p)
  | no d ↦ ne_eqb (k % 8) (a % 8) (λ q. d (omega arith)) ∙ sym (ne_eqb k a d)
]

-- setting node a's bit sets that bit and changes no other
pub bit_with : (t : List ℕ) (a k : ℕ) → a / 8 < length t → node_bit (with_bit t a) k ≡ (node_bit t k || eqb k a)
unfolding node_bit with_bit
bit_with t a k h = elim (ℕ_discrete (k / 8) (a / 8)) [
  | yes e ↦ rw (e, get_or-set_same) (bit-or (k % 8) (get_or t (a / 8) 0) (2 ^ (a % 8)) ∙ rw (bit_power, same_byte k a e))
  | no d ↦ rw (get_or-set_other t (a / 8) (k / 8) _ 0 d, ne_eqb k a (λ q. d (ap (λ (j : ℕ). j / 8) q))) (sym (or-false (bit (k % 8) (get_or t (k / 8) 0))))
]

pub length_bits : (t l : List ℕ) → length (with_bits t l) ≡ length t
unfolding with_bits
length_bits t [] = refl
length_bits t (a ∷ l) = length_bits (with_bit t a) l ∙ length_with t a

pub bits_with : (t : List ℕ) (base : ℕ) (l : List ℕ) (k : ℕ) → rising base (8 * length t) l ≡ true → node_bit (with_bits t l) k ≡ (node_bit t k || among l k)
unfolding with_bits among
bits_with t base [] k e = sym (or-false (node_bit t k))
bits_with t base (a ∷ l) k e =
    let r = rises base (8 * length t) a l e in
    bits_with (with_bit t a) (a + 1) l k (rw (length_with t a) r.2) ∙ rw (bit_with t a k (omega (arith, r.1))) (or_assoc (node_bit t k) (eqb k a) (among l k))

zeros_bit : (n k : ℕ) → node_bit (replicate n 0) k ≡ false
unfolding node_bit
zeros_bit n k = rw (byte (either (ltb (k / 8) n))) (bit_none (k % 8))
  where
    byte : (ltb (k / 8) n ≡ true) ⊎ (ltb (k / 8) n ≡ false) → ◌≡◌ {A = ℕ} (get_or (replicate n 0) (k / 8) 0) 0
    byte (inl a) = get_or-replicate n (k / 8) 0 0 (ltb-true (k / 8) n a)
    byte (inr a) = get_or-eq_default (replicate n 0) 0 (omega (arith, length-replicate {A = ℕ} n 0, ltb-false (k / 8) n a))

-- a cleared table with the bits of addresses set
pub bits_among : (n base : ℕ) (l : List ℕ) (k : ℕ) → rising base (8 * n) l ≡ true → node_bit (with_bits (replicate n 0) l) k ≡ among l k
bits_among n base l k e = bits_with (replicate n 0) base l k (rw (length-replicate {A = ℕ} n 0) e) ∙ rw (zeros_bit n k)
