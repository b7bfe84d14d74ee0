-- The sizes of a fault table, and its unused bits: from dimension 3 on every bit stands for a node; below it the unused bits are the
-- high part of the one byte.
use mathlib.Core.Path.{◌≡◌, refl, sym, ap, ◌∙◌}
use mathlib.Core.Logic.{◌⊎◌, inl, inr}
use mathlib.Core.Bool.{Bool, true, false, not, ◌&&◌, and-false}
use mathlib.Core.List.{List, ◌∷◌}
use Prim.Native.Nat.{ℕ, zero, suc, ◌+◌, ◌-◌, ◌*◌, ◌/◌, ◌%◌, ◌^◌, ◌≤◌, ◌<◌}
use native.Mathlib.Omega.{arith}
use native.Mathlib.Nat.{mul-div_cancel, zero-lt-suc}
use lib.Dec.{leb, ltb, eqb}
use lib.ListN.{length, drop, get_or, replicate, length-replicate, get_or-replicate, take, get_or-eq_default}
use lib.Pow.{pow-add, pow_mono, pow_pos, shr_lt}
use borrow.Author.Tests.{le-leb, lt-leb, eq-eqb, ne_eqb, leb-true, leb-false, ltb-true, ltb-false}
use Rattle.cube.specs.Count.{some}
use Rattle.cube.specs.Cube.{bit}
use Rattle.cube.specs.Tables.{is_dimension, table_len, node_bit, unused_set}
use Rattle.cube.proofs.Bools.{either, clash, and_true}
use Rattle.cube.proofs.Search.{both_found, none_some, some_none, some_same}
use Rattle.cube.proofs.Cube.{bit_none, bit_shift, bits_same}

-- ---- the dimension

pub dimension_is : (n : ℕ) → is_dimension n ≡ true → (1 ≤ n) × (n ≤ 12)
unfolding is_dimension
dimension_is n e = let r = and_true (leb 1 n) (leb n 12) e in (leb-true 1 n r.0, leb-true n 12 r.1)

-- a cube of at most 12 dimensions has at most 4096 nodes
pub nodes_few : (n : ℕ) → n ≤ 12 → 2 ^ n ≤ 4096
nodes_few n h = pow_mono h

-- ---- the length

pub len_small : (n : ℕ) → n ≤ 3 → table_len n ≡ 1
unfolding table_len
len_small n h = rw (le-leb n 3 h)

pub len_large : (n : ℕ) → 3 < n → table_len n ≡ 2 ^ n / 8
unfolding table_len
len_large n h = rw (lt-leb n 3 h)

eighths : (n : ℕ) → 3 ≤ n → 2 ^ n ≡ 2 ^ (n - 3) * 8
eighths n h = let z : n ≡ n - 3 + 3 = omega arith in ap (λ (k : ℕ). 2 ^ k) z ∙ pow-add 2 (n - 3) 3

-- from dimension 3 on every bit of a fault table stands for a node
pub table_full : (n : ℕ) → 3 ≤ n → 8 * table_len n ≡ 2 ^ n
table_full n h = go (either (leb n 3))
  where
    go : (leb n 3 ≡ true) ⊎ (leb n 3 ≡ false) → 8 * table_len n ≡ 2 ^ n
    go (inl a) =
        let z : 3 ≡ n = omega (arith, leb-true n 3 a) in
        omega (arith, len_small n (leb-true n 3 a), ap (λ (k : ℕ). 2 ^ k) z)
    go (inr a) = omega (arith, len_large n (leb-false n 3 a), eighths n h, ap (λ (x : ℕ). x / 8) (eighths n h), mul-div_cancel (2 ^ (n - 3)) (zero-lt-suc 7))

-- every node has its bit in a fault table
pub table_room : (n : ℕ) → 2 ^ n ≤ 8 * table_len n
table_room n = go (either (leb 3 n))
  where
    go : (leb 3 n ≡ true) ⊎ (leb 3 n ≡ false) → 2 ^ n ≤ 8 * table_len n
    go (inl a) = omega (arith, table_full n (leb-true 3 n a))
    go (inr a) = omega (arith, leb-false 3 n a, len_small n (omega (arith, leb-false 3 n a)), pow_mono {i = n} {j = 3} (omega (arith, leb-false 3 n a)))

pub node_room : (n k m : ℕ) → m ≡ table_len n → k < 2 ^ n → k / 8 < m
node_room n k m e h = omega (arith, table_room n)

-- a fault table has at most 512 bytes
pub table_few : (n : ℕ) → n ≤ 12 → table_len n ≤ 512
table_few n h = go (either (leb 3 n))
  where
    go : (leb 3 n ≡ true) ⊎ (leb 3 n ≡ false) → table_len n ≤ 512
    go (inl a) = omega (arith, table_full n (leb-true 3 n a), nodes_few n h)
    go (inr a) = omega (arith, leb-false 3 n a, len_small n (omega (arith, leb-false 3 n a)))

-- a front part of a table of zeros is one
pub zeros_front : (k m : ℕ) → k ≤ m → take k (replicate m 0) ≡ replicate {A = ℕ} k 0
zeros_front zero m h = refl
zeros_front (suc k) zero h = absurd (omega arith)
zeros_front (suc k) (suc m) h = ap (λ (l : List ℕ). 0 ∷ l) (zeros_front k m (omega arith))

-- and so is the rest behind such a part
pub zeros_behind : (k m j : ℕ) → m ≡ k + j → drop k (replicate m 0) ≡ replicate {A = ℕ} j 0
zeros_behind zero m j e = let z : m ≡ j = omega (arith, e) in ap (λ (i : ℕ). replicate i 0) z
zeros_behind (suc k) zero j e = absurd (omega (arith, e))
zeros_behind (suc k) (suc m) j e = zeros_behind k m j (omega (arith, e))

-- a table of zeros has no node's bit set, and no unused one
pub zeros_none : (m k : ℕ) → node_bit (replicate m 0) k ≡ false
unfolding node_bit
zeros_none m k = ap (bit (k % 8)) (byte (either (ltb (k / 8) m))) ∙ bit_none (k % 8)
  where
    byte : (ltb (k / 8) m ≡ true) ⊎ (ltb (k / 8) m ≡ false) → get_or {A = ℕ} (replicate m 0) (k / 8) 0 ≡ 0
    byte (inl a) = get_or-replicate m (k / 8) 0 0 (ltb-true (k / 8) m a)
    byte (inr a) = get_or-eq_default (replicate m 0) 0 {n = k / 8} (omega (arith, length-replicate {A = ℕ} m 0, ltb-false (k / 8) m a))

pub zeros_unused : (n m : ℕ) → unused_set n (replicate m 0) ≡ false
unfolding unused_set
zeros_unused n m =
    some_none (8 * length (replicate m 0)) (λ k. leb (2 ^ n) k && node_bit (replicate m 0) k) (λ k _. rw (zeros_none m k) (and-false (leb (2 ^ n) k)))

-- ---- the unused bits

pub unused_none : (n : ℕ) (t : List ℕ) → 3 ≤ n → length t ≡ table_len n → unused_set n t ≡ false
unfolding unused_set
unused_none n t h e = some_none (8 * length t) (λ k. leb (2 ^ n) k && node_bit t k) (λ k l. rw (lt-leb (2 ^ n) k (omega (arith, table_full n h))))

-- a number whose bits from m on are clear is below 2 ^ m
clear_above : (m x : ℕ) → x / 2 ^ m ≡ 0 → (i : ℕ) → m ≤ i → bit i x ≡ false
clear_above m x e i h =
    let z : m + (i - m) ≡ i = omega arith in
    ap (λ (j : ℕ). bit j x) (sym z) ∙ sym (bit_shift m (i - m) x) ∙ rw e (bit_none (i - m))

above_clear : (b m x : ℕ) → m ≤ b → x < 2 ^ b → ((i : ℕ) → m ≤ i → i < b → bit i x ≡ false) → x / 2 ^ m ≡ 0
above_clear b m x h hx f =
    let z : b ≡ (b - m) + m = omega arith in
    let l : x < 2 ^ ((b - m) + m) = omega (arith, hx, ap (λ (k : ℕ). 2 ^ k) z) in
    bits_same (b - m) (x / 2 ^ m) 0 (shr_lt (b - m) m l) (pow_pos (b - m)) (λ i k. bit_shift m i x ∙ f (m + i) (omega arith) (omega arith) ∙ sym (bit_none i))

-- a number of b bits has one set at m or above exactly where, shifted down past the bits below m, it is not 0
pub shifted : (b m x : ℕ) → m ≤ b → x < 2 ^ b → not (eqb (x / 2 ^ m) 0) ≡ some b (λ i. leb m i && bit i x)
shifted b m x h hx = go (either (some b (λ i. leb m i && bit i x)))
  where
    go : (some b (λ i. leb m i && bit i x) ≡ true) ⊎ (some b (λ i. leb m i && bit i x) ≡ false)
        → not (eqb (x / 2 ^ m) 0) ≡ some b (λ i. leb m i && bit i x)
    go (inl a) =
        let r = both_found b (leb m) (λ i. bit i x) a in
        ap not (ne_eqb (x / 2 ^ m) 0 (λ z. clash r.3 (clear_above m x z r.0 (leb-true m r.0 r.2)))) ∙ sym a
    go (inr a) =
        let none = none_some b (λ i. leb m i && bit i x) a in
        ap not (eq-eqb (x / 2 ^ m) 0 (above_clear b m x h hx (λ i l k. rw (le-leb m i l) at (none i k)))) ∙ sym a

module _ (n : ℕ) (t : List ℕ) (small : n < 3) (sized : length t ≡ table_len n) (fits : get_or t 0 0 < 256) where
  bit_here : (k : ℕ) → k < 8 → node_bit t k ≡ bit k (get_or t 0 0)
  unfolding node_bit
  bit_here k h =
      let q : k / 8 ≡ 0 = omega arith in
      let r : k % 8 ≡ k = omega arith in
      rw (q, r)

  -- below dimension 3 an unused bit is set exactly where the byte, shifted down past the nodes' bits, is not 0
  pub unused_byte : not (eqb (get_or t 0 0 / 2 ^ (2 ^ n)) 0) ≡ unused_set n t
  unfolding unused_set
  unused_byte =
      let one : 8 * length t ≡ 8 = omega (arith, len_small n (omega arith)) in
      shifted 8 (2 ^ n) (get_or t 0 0) (pow_mono {i = n} {j = 3} (omega arith)) fits
      ∙ some_same 8 (λ i. leb (2 ^ n) i && bit i (get_or t 0 0)) (λ i. leb (2 ^ n) i && node_bit t i)
      (λ i h. ap (λ (b : Bool). leb (2 ^ n) i && b) (sym (bit_here i h)))
      ∙ ap (λ (m : ℕ). some m (λ i. leb (2 ^ n) i && node_bit t i)) (sym one)
