-- A notice is of bytes: the groups of a number below 16,384 are, and its numbers are no larger than there are nodes.
use mathlib.Core.List.{List, [], ◌∷◌, ◌++◌}
use mathlib.Core.Bool.{true}
use mathlib.Core.Path.{◌≡◌}
use Prim.Native.Nat.{ℕ, zero, suc, ◌+◌, ◌-◌, ◌/◌, ◌%◌, ◌^◌, ◌≤◌, ◌<◌}
use native.Mathlib.Omega.{arith}
use lib.Dec.{ltb}
use lib.ListN.{length}
use borrow.Author.Tests.{ltb-true}
use Rattle.cube.specs.Tables.{node_bit}
use Rattle.cube.proofs.Bools.{by_cases}
use Rattle.cube.proofs.Count.{count_bound}
use Rattle.cube.proofs.Tables.{nodes_few}
use Rattle.groups.specs.Number.{groups_of}
use Rattle.notice.specs.Addresses.{rising}
use Rattle.notice.proofs.Rising.{rises}
use Rattle.spelling.specs.Laws.{Bytes, IsTable}
use Rattle.spelling.specs.Spelled.{address_bytes, faulty_nodes, notice_bytes}
use Rattle.spelling.proofs.Having.{having_count}
use Rattle.spelling.proofs.Nodes.{nodes_rise}

pub bytes_none : Bytes []
bytes_none i = omega arith

pub bytes_cons : (x : ℕ) (l : List ℕ) → x < 256 → Bytes l → Bytes (x ∷ l)
bytes_cons x l h b zero = h
bytes_cons x l h b (suc i) = b i

pub bytes_both : (l m : List ℕ) → Bytes l → Bytes m → Bytes (l ++ m)
bytes_both [] m b c = c
bytes_both (x ∷ l) m b c = bytes_cons x (l ++ m) (b 0) (bytes_both l m (λ i. b (suc i)) c)

groups_bytes : (v : ℕ) → v < 16384 → Bytes (groups_of v)
unfolding groups_of
groups_bytes v h =
    by_cases Bytes (ltb v 128) (λ e. bytes_cons v [] (omega (arith, ltb-true v 128 e)) bytes_none)
    (λ e. bytes_cons (128 + v % 128) (v / 128 ∷ []) (omega arith) (bytes_cons (v / 128) [] (omega arith) bytes_none))

addresses_bytes : (base size : ℕ) (l : List ℕ) → size ≤ 4096 → rising base size l ≡ true → Bytes (address_bytes base l)
unfolding address_bytes
addresses_bytes base size [] h up = bytes_none
addresses_bytes base size (x ∷ l) h up =
    let r = rises base size x l up in
    bytes_both (groups_of (x - base)) (address_bytes (x + 1) l) (groups_bytes (x - base) (omega (arith, r.1))) (addresses_bytes (x + 1) size l h r.2)

pub notice-bytes : (n : ℕ) (faults : List ℕ) → IsTable n faults → Bytes (notice_bytes n faults)
unfolding notice_bytes
notice-bytes n faults is =
    let small = nodes_few n is.dimension.1 in
    let m : ℕ = length (faulty_nodes n faults) in
    let few : m ≤ 2 ^ n = omega (arith, having_count (2 ^ n) (node_bit faults), count_bound (2 ^ n) (node_bit faults)) in
    bytes_both (groups_of n ++ groups_of m) (address_bytes 0 (faulty_nodes n faults))
    (bytes_both (groups_of n) (groups_of m) (groups_bytes n (omega (arith, is.dimension.1))) (groups_bytes m (omega arith)))
    (addresses_bytes 0 (2 ^ n) (faulty_nodes n faults) small (nodes_rise n faults is))
