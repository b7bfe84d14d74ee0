-- A fault table is given by its bits: bytes with the same eight bits are the same. So a cleared table with the bits of the faulty nodes set is the table that
-- names them, as no bit of it stands for anything else.
use mathlib.Core.Path.{◌≡◌, sym, ◌∙◌}
use mathlib.Core.List.{List, [], ◌∷◌}
use Prim.Native.Nat.{ℕ, zero, suc, ◌+◌, ◌*◌, ◌/◌, ◌%◌, ◌^◌, ◌≤◌, ◌<◌}
use native.Mathlib.Omega.{arith}
use lib.Bits.{or_lt}
use lib.Dec.{leb}
use lib.ListN.{length, get_or, set, replicate, length-replicate}
use lib.Pow.{pow-lt}
use lib.Seq.{ext_get_or}
use Rattle.cube.specs.Cube.{bit}
use Rattle.cube.specs.Tables.{node_bit}
use Rattle.cube.proofs.Bools.{either}
use Rattle.cube.proofs.Cube.{bits_same}
use Rattle.cube.proofs.Tables.{table_room}
use Rattle.notice.specs.Addresses.{with_bit, with_bits}
use Rattle.notice.proofs.Bits.{length_bits, bits_among}
use Rattle.notice.proofs.Rising.{rising_wider}
use Rattle.spelling.specs.Spelled.{faulty_nodes}
use Rattle.spelling.specs.Laws.{Bytes, IsTable}
use Rattle.spelling.proofs.Nodes.{nodes_among, nodes_rise}

-- ---- setting bits leaves bytes

pub bytes_set : (t : List ℕ) (j x : ℕ) → Bytes t → x < 256 → Bytes (set t j x)
bytes_set [] j x b h i = b i
bytes_set (y ∷ t) zero x b h zero = h
bytes_set (y ∷ t) zero x b h (suc i) = b (suc i)
bytes_set (y ∷ t) (suc j) x b h zero = b zero
bytes_set (y ∷ t) (suc j) x b h (suc i) = bytes_set t j x (λ k. b (suc k)) h i

pub bytes_zeros : (m : ℕ) → Bytes (replicate m 0)
bytes_zeros zero i = omega arith
bytes_zeros (suc m) zero = omega arith
bytes_zeros (suc m) (suc i) = bytes_zeros m i

pub bytes_bits : (t l : List ℕ) → Bytes t → Bytes (with_bits t l)
unfolding with_bit with_bits
bytes_bits t [] b = b
bytes_bits t (a ∷ l) b =
    let h : 2 ^ (a % 8) < 256 = pow-lt {i = a % 8} {j = 8} (omega arith) in
    bytes_bits (with_bit t a) l (bytes_set t (a / 8) _ b (or_lt 8 (get_or t (a / 8) 0) (2 ^ (a % 8)) (b (a / 8)) h))

-- ---- the same bits

bit_at : (t : List ℕ) (i j : ℕ) → j < 8 → node_bit t (i * 8 + j) ≡ bit j (get_or t i 0)
unfolding node_bit
bit_at t i j h =
    let q : (i * 8 + j) / 8 ≡ i = omega arith in
    let r : (i * 8 + j) % 8 ≡ j = omega arith in
    rw (q, r)

pub same_table : (t u : List ℕ) → length t ≡ length u → Bytes t → Bytes u → ((k : ℕ) → k < 8 * length t → node_bit t k ≡ node_bit u k) → t ≡ u
same_table t u e b c same =
    ext_get_or 0 t u e
    (λ i h. bits_same 8 (get_or t i 0) (get_or u i 0) (b i) (c i) (λ j l. sym (bit_at t i j l) ∙ same (i * 8 + j) (omega arith) ∙ bit_at u i j l))

-- ---- the faulty nodes

module _ (n : ℕ) (faults : List ℕ) (is : IsTable n faults) where
  pub table_again : Bytes faults → with_bits (replicate (length faults) 0) (faulty_nodes n faults) ≡ faults
  table_again bytes =
      let zeros : List ℕ = replicate (length faults) 0 in
      let sized = length_bits zeros (faulty_nodes n faults) ∙ length-replicate {A = ℕ} (length faults) 0 in
      let room : 2 ^ n ≤ 8 * length faults = omega (arith, is.sized, table_room n) in
      same_table (with_bits zeros (faulty_nodes n faults)) faults sized
      (bytes_bits zeros (faulty_nodes n faults) (bytes_zeros (length faults))) bytes
      (λ k h. bits_among (length faults) 0 (faulty_nodes n faults) k (rising_wider 0 (2 ^ n) (8 * length faults) (faulty_nodes n faults) room (nodes_rise n faults is))
      ∙ nodes_among n faults is k (omega (arith, sized)) (either (leb (2 ^ n) k)))
