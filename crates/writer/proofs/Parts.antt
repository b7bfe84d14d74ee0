-- The three parts of a notice, dimension, count and addresses: their lengths make up its length, and written one behind the other they are the notice.
use mathlib.Core.Bool.{Bool}
use mathlib.Core.List.{List, [], ◌∷◌, ◌++◌}
use mathlib.Core.Path.{◌≡◌, sym, ap, ◌∙◌}
use Prim.Native.Nat.{ℕ, zero, suc, ◌+◌, ◌*◌, ◌-◌, ◌^◌, ◌≤◌}
use native.Mathlib.Omega.{arith}
use lib.ListN.{length, length-append}
use Rattle.cube.specs.Over.{over}
use Rattle.cube.specs.Tables.{node_bit}
use Rattle.cube.proofs.Bools.{by_cases}
use Rattle.cube.proofs.Over.{over_front}
use Rattle.cube.proofs.Tables.{nodes_few}
use Rattle.groups.specs.Number.{groups_of}
use Rattle.spelling.specs.Sinks.{Counted, Written}
use Rattle.spelling.specs.Spelled.{address_bytes, faulty_nodes, having, notice_bytes}
use Rattle.spelling.proofs.Sinks.{write_left, write_more}
use Rattle.writer.proofs.Passes.{few_groups}

-- ---- they are short

few_having : (p : ℕ → Bool) (left k : ℕ) → length (having left k p) ≤ left
unfolding having
few_having p zero k = omega arith
few_having p (suc left) k =
    let h = few_having p left (k + 1) in
    by_cases (λ (l : List ℕ). length l ≤ suc left) (p k) (λ e. omega (arith, h)) (λ e. omega (arith, h))

few_addresses : (base : ℕ) (l : List ℕ) → length (address_bytes base l) ≤ 2 * length l
unfolding address_bytes
few_addresses base [] = omega arith
few_addresses base (x ∷ l) =
    omega (arith, few_addresses (x + 1) l, few_groups (x - base), length-append (groups_of (x - base)) (address_bytes (x + 1) l))

few_nodes : (p : ℕ → Bool) (size : ℕ) → length (having size 0 p) ≤ size
few_nodes p size = few_having p size 0

few_bytes : (p : ℕ → Bool) (size : ℕ) → length (address_bytes 0 (having size 0 p)) ≤ 2 * size
few_bytes p size = omega (arith, few_addresses 0 (having size 0 p), few_having p size 0)

-- ---- a cube that was measured

-- an n-cube, and how many nodes of it a table names
pub record Sized (n : ℕ) (faults : List ℕ) (count : ℕ) : Type 0 where
  pub small : n ≤ 12
  pub counted : count ≡ length (faulty_nodes n faults)

pub addresses_fit : {n : ℕ} (faults : List ℕ) → n ≤ 12 → length (address_bytes 0 (faulty_nodes n faults)) ≤ 8192
addresses_fit {n} faults h = omega (arith, few_bytes (node_bit faults) (2 ^ n), nodes_few n h)

module _ {n : ℕ} {faults : List ℕ} {count : ℕ} (S : Sized n faults count) where
  abbrev addresses : List ℕ
  addresses = address_bytes 0 (faulty_nodes n faults)

  -- so the numbers are small
  pub count_few : count ≤ 4096
  count_few = omega (arith, S.counted, few_nodes (node_bit faults) (2 ^ n), nodes_few n S.small)

  pub addresses_few : length addresses ≤ 8192
  addresses_few = addresses_fit faults S.small

  spelled : notice_bytes n faults ≡ groups_of n ++ groups_of count ++ addresses
  unfolding notice_bytes
  spelled = rw S.counted

  pub notice_length : length (groups_of n) + length (groups_of count) + length addresses ≡ length (notice_bytes n faults)
  notice_length =
      omega (arith, ap length spelled, length-append (groups_of n ++ groups_of count) addresses, length-append (groups_of n) (groups_of count))

  -- counted one after the other, in whatever order
  pub counted : {a b c : ℕ} → Counted 0 addresses a → Counted a (groups_of n) b → Counted b (groups_of count) c → c ≡ length (notice_bytes n faults)
  counted one two three = omega (arith, one.counted, two.counted, three.counted, notice_length)

  -- ---- written into a buffer that has room

  module _ (out : List ℕ) (room : length (notice_bytes n faults) ≤ length out) where
    pub first_room : length (groups_of n) ≤ length out - 0
    first_room = omega (arith, notice_length)

    module _ {one : List ℕ} {second : ℕ} (a : Written out 0 (groups_of n) one second) where
      pub second_room : length (groups_of count) ≤ length one - second
      second_room = omega (arith, notice_length, write_left a)

      module _ {two : List ℕ} {start : ℕ} (b : Written one second (groups_of count) two start) where
        pub third_room : length addresses ≤ length two - start
        third_room = omega (arith, notice_length, write_left a, write_left b)

        -- all three are the notice
        pub all_written : {three : List ℕ} {end : ℕ} → Written two start addresses three end → three ≡ over (notice_bytes n faults) out
        all_written c =
            (write_more (write_more a b) c).bytes
            ∙ over_front ((groups_of n ++ groups_of count) ++ addresses) out
            ∙ ap (λ (w : List ℕ). over w out) (sym spelled)
