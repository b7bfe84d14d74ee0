-- The worked notices. Short ones are computed. That of one far node goes by its table, which is made of that node; the longest, where every node is faulty, has
-- one byte for each node, as each stands right behind the one before.
use mathlib.Core.Path.{◌≡◌, refl, ap, ◌∙◌}
use mathlib.Core.Bool.{Bool, true}
use mathlib.Core.List.{[], ◌∷◌}
use Prim.Native.Nat.{ℕ, zero, suc, ◌+◌, ◌-◌, ◌/◌, ◌%◌, ◌^◌, ◌<◌}
use native.Mathlib.Omega.{arith}
use lib.ListN.{length, replicate, get_or-replicate}
use lib.Pow.{pow_pos}
use Rattle.cube.specs.Cube.{bit}
use Rattle.cube.specs.Tables.{node_bit}
use Rattle.cube.proofs.Count.{count_all, count_same}
use Rattle.cube.proofs.Cube.{bit_low, bit_suc}
use Rattle.groups.specs.Number.{groups_of}
use Rattle.notice.specs.Addresses.{rising, with_bit, with_bits}
use Rattle.notice.proofs.Bits.{bits_among}
use Rattle.spelling.specs.Spelled.{having, address_bytes, faulty_nodes, notice_bytes}
use Rattle.spelling.proofs.Having.{having_count, having_is}
use Rattle.spelling.proofs.Notice.{notice_length}

pub listing : notice_bytes 4 (0x14 ∷ 0x81 ∷ []) ≡ 0x04 ∷ 0x04 ∷ 0x02 ∷ 0x01 ∷ 0x03 ∷ 0x06 ∷ []
unfolding bit node_bit groups_of having address_bytes notice_bytes
listing = refl

pub none : notice_bytes 4 (0 ∷ 0 ∷ []) ≡ 0x04 ∷ 0x00 ∷ []
unfolding bit node_bit groups_of having address_bytes notice_bytes
none = refl

-- ---- one far node

far_node : faulty_nodes 8 (with_bit (replicate 32 0) 200) ≡ 200 ∷ []
unfolding rising with_bits
far_node =
    having_is 256 (node_bit (with_bit (replicate 32 0) 200)) 256 0 (200 ∷ []) refl refl (λ i _ _. bits_among 32 0 (200 ∷ []) i refl)

pub far : notice_bytes 8 (with_bit (replicate 32 0) 200) ≡ 0x08 ∷ 0x01 ∷ 0xC8 ∷ 0x01 ∷ []
unfolding groups_of address_bytes notice_bytes
far = rw far_node

-- ---- every node

bit_ones : (n i : ℕ) → i < n → bit i (2 ^ n - 1) ≡ true
bit_ones zero i h = absurd (omega arith)
bit_ones (suc n) zero h =
    let z : (2 ^ suc n - 1) % 2 ≡ 1 = omega (arith, pow_pos n) in
    bit_low (2 ^ suc n - 1) ∙ rw z
bit_ones (suc n) (suc i) h =
    let z : (2 ^ suc n - 1) / 2 ≡ 2 ^ n - 1 = omega (arith, pow_pos n) in
    bit_suc i (2 ^ suc n - 1) ∙ rw z (bit_ones n i (omega arith))

every : (k : ℕ) → k < 4096 → node_bit (replicate 512 255) k ≡ true
unfolding node_bit
every k h = rw (get_or-replicate {A = ℕ} 512 (k / 8) 255 0 (omega arith)) (bit_ones 8 (k % 8) (omega arith))

-- from any node on
one_byte_each : (left k : ℕ) (p : ℕ → Bool) → ((i : ℕ) → i < k + left → p i ≡ true) → length (address_bytes k (having left k p)) ≡ left
unfolding groups_of having address_bytes
one_byte_each zero k p all = refl
one_byte_each (suc left) k p all =
    let z : k - k ≡ 0 = omega arith in
    rw (all k (omega arith), z) (ap suc (one_byte_each left (k + 1) p (λ i h. all i (omega arith))))

pub longest : length (notice_bytes 12 (replicate 512 255)) ≡ 4099
unfolding groups_of
longest =
    let total = having_count 4096 (node_bit (replicate 512 255)) ∙ count_same 4096 (node_bit (replicate 512 255)) (λ _. true) every ∙ count_all 4096 in
    notice_length 12 (replicate 512 255) ∙ rw (total, one_byte_each 4096 0 (node_bit (replicate 512 255)) every)
