-- The notice of a table, read: its numbers stand one behind the other, so each is read at its place. And a notice that was read, spelled: each of its numbers
-- is spelled as the bytes that it took, so together they are all that the notice took.
use mathlib.Core.Path.{◌≡◌, refl, sym, ap, ◌∙◌}
use mathlib.Core.List.{List, ◌++◌, append_assoc}
use Prim.Native.Nat.{ℕ, ◌+◌, ◌-◌, ◌^◌, ◌≤◌}
use native.Mathlib.Omega.{arith}
use lib.ListN.{length, take, drop, replicate, length-append, length-drop}
use lib.Seq.{drop-drop, get_or-drop, take_all, take_at}
use borrow.Author.Tests.{le-leb, le-ltb}
use Rattle.cube.specs.Count.{count}
use Rattle.cube.specs.Refusal.{first}
use Rattle.cube.specs.Tables.{is_dimension, node_bit}
use Rattle.cube.proofs.Count.{count_bound}
use Rattle.cube.proofs.Tables.{nodes_few}
use Rattle.groups.specs.Number.{groups_of}
use Rattle.std.specs.Prelude.{Ok}
use Rattle.notice.specs.Tests.{count_tests, dimension_tests}
use Rattle.notice.specs.Addresses.{with_bits}
use Rattle.notice.specs.Notice.{a_notice, count_at, dimension_at, notice_of, noticed, addresses_of, table_after}
use Rattle.notice.proofs.Agree.{same_accepted}
use Rattle.notice.proofs.Cases.{tested_passes}
use Rattle.notice.proofs.Laws.{notice_laws}
use Rattle.notice.proofs.Opened.{addresses_are, opened_dimension, opened_notice, opened_rest}
use Rattle.notice.proofs.Outcomes.{Outcome, outcome_notice, rest_good}
use Rattle.spelling.specs.Spelled.{address_bytes, faulty_nodes, notice_bytes}
use Rattle.spelling.specs.Laws.{Bytes, IsTable, ReadsBack}
use Rattle.spelling.proofs.Numbers.{number_here, behind_here, number_spelled}
use Rattle.spelling.proofs.Addresses.{ReadHere, read_here, addresses_spelled}
use Rattle.spelling.proofs.Having.{having_count, having_is}
use Rattle.spelling.proofs.Nodes.{nodes_rise}
use Rattle.spelling.proofs.Tables.{bytes_bits, bytes_zeros, table_again}

-- ---- the notice of a table, before any other bytes

pub notice_length : (n : ℕ) (faults : List ℕ)
    → length (notice_bytes n faults)
    ≡ length (groups_of n) + length (groups_of (length (faulty_nodes n faults))) + length (address_bytes 0 (faulty_nodes n faults))
unfolding notice_bytes
notice_length n faults = simp length-append

module _ (n : ℕ) (faults behind : List ℕ) (is : IsTable n faults) where
  abbrev nodes : List ℕ
  nodes = faulty_nodes n faults

  abbrev s : List ℕ
  s = notice_bytes n faults ++ behind

  -- where the count begins, and where the addresses do
  abbrev at : ℕ
  at = 0 + length (groups_of n)

  abbrev start : ℕ
  start = at + length (groups_of (length nodes))

  from_dimension : drop 0 s ≡ groups_of n ++ (groups_of (length nodes) ++ (address_bytes 0 nodes ++ behind))
  unfolding notice_bytes
  from_dimension = simp append_assoc

  from_count : drop at s ≡ groups_of (length nodes) ++ (address_bytes 0 nodes ++ behind)
  from_count = behind_here s 0 n _ from_dimension

  -- the bytes of the addresses and all behind them, as the address reader is handed them
  abbrev part : List ℕ
  part = take (length s - start) (drop start s)

  from_addresses : drop 0 part ≡ address_bytes 0 nodes ++ behind
  from_addresses =
      take_all (length s - start) (drop start s) (omega (arith, length-drop start s)) ∙ behind_here s at (length nodes) _ from_count

  total : length nodes ≡ count (2 ^ n) (node_bit faults)
  total = having_count (2 ^ n) (node_bit faults)

  few : length nodes ≤ 2 ^ n
  few = omega (arith, total, count_bound (2 ^ n) (node_bit faults))

  small : 2 ^ n ≤ 4096
  small = nodes_few n is.dimension.1

  dimension_read : Ok (n, at) ≡ dimension_at s
  unfolding dimension_at first is_dimension
  dimension_read =
      let d = is.dimension in
      tested_passes dimension_tests 0 (sym (number_here s 0 n _ from_dimension (omega (arith, d.1)))) (rw (le-leb 1 n d.0, le-leb n 12 d.1))

  count_read : Ok (length nodes, start) ≡ count_at n s at
  unfolding count_at first
  count_read =
      tested_passes (count_tests n) at (sym (number_here s at (length nodes) _ from_count (omega (arith, few, small)))) (rw (le-ltb (2 ^ n) (length nodes) few))

  addresses_read : ReadHere nodes part 0 0 (2 ^ n)
  addresses_read = read_here nodes part behind 0 0 (2 ^ n) small (nodes_rise n faults is) from_addresses

  long : start + (0 + length (address_bytes 0 nodes)) ≡ length (notice_bytes n faults)
  long = omega (arith, notice_length n faults)

  outcome : (before : List ℕ) → length before ≡ length faults
      → Outcome s before (a_notice n (count (2 ^ n) (node_bit faults)) (length (notice_bytes n faults))) (with_bits (replicate (length faults) 0) nodes)
  outcome before same =
      let found = rest_good n s at count_read refl (sym addresses_read.ends) in
      rw (← total, ← long, ← same)
      (outcome_notice s dimension_read found before (same ∙ is.sized) refl (ap (with_bits (replicate (length before) 0)) (sym addresses_read.are)))

  pub reads_back : ReadsBack n faults s (length (notice_bytes n faults))
  reads_back = record {
    answer = λ before same. sym (outcome before same).answer;
    table = λ before same bytes. sym (outcome before same).table ∙ table_again n faults is bytes;
  }

-- ---- an accepted notice

-- the front of a list, before its part from k on
before_part : (a s : List ℕ) (k : ℕ) → k ≤ length s → s ≡ a ++ drop k s → a ≡ take k s
before_part a s k h e =
    sym (ap (take k) e ∙ take_at a (drop k s) k (omega (arith, ap length e, length-append a (drop k s), length-drop k s)))

module _ (s before : List ℕ) (n m taken : ℕ) (e : noticed s before ≡ a_notice n m taken) where
  nodes_are : faulty_nodes n (table_after s before) ≡ addresses_of s
  nodes_are =
      having_is (2 ^ n) (node_bit (table_after s before)) (2 ^ n) 0 (addresses_of s) (omega arith) (notice_laws.accepted s before n m taken e).rises
      (λ i _ _. (notice_laws.written s before n m taken e).bits i)

  pub is_table : IsTable n (table_after s before)
  is_table =
      let w = notice_laws.written s before n m taken e in
      record { dimension = (notice_laws.accepted s before n m taken e).dimension; sized = w.sized; unused = w.unused }

  pub table_bytes : Bytes (table_after s before)
  unfolding table_after
  table_bytes = rw e (bytes_bits (replicate (length before) 0) (addresses_of s) (bytes_zeros (length before)))

  module _ (bytes : Bytes s) where
    bytes_from : (k : ℕ) → Bytes (drop k s)
    bytes_from k i = rw (get_or-drop k s i 0) (bytes (k + i))

    parts : s ≡ groups_of n ++ (groups_of m ++ (address_bytes 0 (addresses_of s) ++ drop taken s))
    unfolding notice_of
    parts =
        let o = opened_notice (dimension_at s) s n m taken (same_accepted s before n m taken e) in
        let d = opened_dimension s n o.at o.dimension in
        let p = opened_rest n s o.at m o.start taken o.rest in
        let l = addresses_are n s o.at m o.start taken o.dimension o.rest in
        let dimension = number_spelled s 0 n o.at bytes d.number in
        let count = number_spelled s o.at m o.start bytes p.count in
        let addresses = addresses_spelled m (drop o.start s) 0 0 (2 ^ n) p.base p.taken (bytes_from o.start) p.addresses in
        let end : drop p.taken (drop o.start s) ≡ drop taken s = drop-drop p.taken o.start s ∙ ap (λ (k : ℕ). drop k s) p.ends in
        cc

    pub spelled : notice_bytes n (table_after s before) ≡ take taken s
    unfolding notice_bytes
    spelled =
        let a = notice_laws.accepted s before n m taken e in
        before_part (notice_bytes n (table_after s before)) s taken a.within (parts ∙ sym (rw (nodes_are, a.counted) (simp append_assoc)))
