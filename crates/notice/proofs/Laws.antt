-- The laws of a notice that specs/Laws.antt states. The table's bits are exactly the addresses: it was cleared, and then each address set its own. The
-- worked numbers are computed.
use mathlib.Core.Path.{◌≡◌, refl, sym, ap, ◌∙◌}
use mathlib.Core.Logic.{inr}
use mathlib.Core.Bool.{Bool, true, false, ◌&&◌}
use mathlib.Core.List.{List}
use Prim.Native.Nat.{ℕ, ◌+◌, ◌*◌, ◌^◌}
use native.Mathlib.Omega.{arith}
use lib.Dec.{leb}
use lib.ListN.{length, replicate, length-replicate}
use borrow.Author.Tests.{le-ltb, leb-true}
use Rattle.std.specs.Prelude.{Ok, Err}
use Rattle.cube.specs.Refusal.{first}
use Rattle.cube.specs.declared.refusals.Refusal.{Refusal}
use Rattle.cube.specs.Tables.{is_dimension, table_len, node_bit, unused_set}
use Rattle.cube.proofs.Count.{count_same}
use Rattle.cube.proofs.Search.{some_none}
use Rattle.cube.proofs.Tables.{table_room}
use Rattle.groups.specs.Number.{further, number_at, two_groups}
use Rattle.notice.specs.Tests.{tested, length_tests}
use Rattle.notice.specs.Addresses.{addresses_end, addresses_at, among, with_bit, with_bits}
use Rattle.notice.specs.Notice.{a_notice, a_rest, count_at, dimension_at, rest_at, notice_from, notice_of, noticed, addresses_of, table_after, tail_at}
use Rattle.notice.specs.Laws.{NoneFaulty, NoticeLaws, ReadNotice, TableOf}
use Rattle.notice.proofs.Rising.{rising_wider, not_among, count_among}
use Rattle.notice.proofs.Bits.{length_bits, bits_among}
use Rattle.notice.proofs.Opened.{addresses_are, opened_notice, opened_sized}
use Rattle.notice.proofs.Outcomes.{notice_good, sized_value}
use Rattle.notice.proofs.Agree.{accepted, dimension_place, dimension_read, dimension_refused, same_notice, tail_behind, tail_empty}
use Rattle.notice.proofs.Refusals.{refused_notice, sized_refused}

kept : (s t : List ℕ) (r : Refusal) (at : ℕ) → noticed s t ≡ Err (r, at) → table_after s t ≡ t
unfolding table_after
kept s t r at e = rw e

module _ (s t : List ℕ) (n m taken : ℕ) (e : noticed s t ≡ a_notice n m taken) where
  read : ReadNotice s n m taken
  read = accepted s t n m taken e

  right_length : length t ≡ table_len n
  unfolding noticed
  right_length =
      let o = opened_notice (tested (length_tests t) 0 (dimension_at s)) s n m taken e in
      (opened_sized s t n o.at o.dimension).1

  made : table_after s t ≡ with_bits (replicate (length t) 0) (addresses_of s)
  unfolding table_after
  made = rw e

  bits_after : (k : ℕ) → node_bit (table_after s t) k ≡ among (addresses_of s) k
  bits_after k =
      ap (λ (u : List ℕ). node_bit u k) made
      ∙ bits_among (length t) 0 (addresses_of s) k
      (rising_wider 0 (2 ^ n) (8 * length t) (addresses_of s) (omega (arith, right_length, table_room n)) read.rises)

  none_unused : (k : ℕ) → (leb (2 ^ n) k && node_bit (table_after s t) k) ≡ false
  none_unused k = go (leb (2 ^ n) k) refl
    where
      go : (b : Bool) → leb (2 ^ n) k ≡ b → (b && node_bit (table_after s t) k) ≡ false
      go true l = bits_after k ∙ not_among 0 (2 ^ n) (addresses_of s) k read.rises (inr (leb-true (2 ^ n) k l))
      go false l = refl

  table : TableOf n m (addresses_of s) (table_after s t)
  unfolding unused_set
  table = record {
    sized = ap length made ∙ length_bits (replicate (length t) 0) (addresses_of s) ∙ length-replicate {A = ℕ} (length t) 0 ∙ right_length;
    bits = bits_after;
    total =
        count_same (2 ^ n) (node_bit (table_after s t)) (among (addresses_of s)) (λ k h. bits_after k)
        ∙ count_among 0 (2 ^ n) (addresses_of s) read.rises
        ∙ read.counted;
    unused = some_none (8 * length (table_after s t)) (λ k. leb (2 ^ n) k && node_bit (table_after s t) k) (λ k h. none_unused k);
  }

-- ---- a count of zero: there is no address to read, and no bit to set

module _ (s t : List ℕ) (n at next : ℕ) (dimension : dimension_at s ≡ Ok (n, at)) (sized : length t ≡ table_len n) (zero : number_at s at ≡ Ok (0, next)) where
  no_addresses : rest_at n s at ≡ a_rest 0 next next
  unfolding rest_at count_at tested first addresses_end further
  no_addresses = let z : next + 0 ≡ next = omega arith in rw (zero, le-ltb (2 ^ n) 0 (omega arith), z)

  ends : noticed s t ≡ a_notice n 0 next
  unfolding noticed
  ends = sym (notice_good s (sized_value s (sym dimension) t sized) (sym no_addresses))

  none_faulty : NoneFaulty s t n next
  unfolding addresses_at with_bits
  none_faulty = record {
    answer = ends;
    clear = made s t n 0 next ends ∙ ap (with_bits (replicate (length t) 0)) (addresses_are n s at 0 next next dimension no_addresses);
    tail = tail_behind s t n 0 next ends;
  }

pub notice_laws : NoticeLaws
unfolding first is_dimension table_len number_at two_groups further tested addresses_end addresses_at with_bit with_bits dimension_at count_at rest_at notice_from notice_of
    noticed addresses_of table_after tail_at
notice_laws = record {
  accepted = accepted;
  written = table;
  none_faulty = none_faulty;
  kept = kept;
  refused = refused_notice;
  dimension_refused = dimension_refused;
  dimension_place = dimension_place;
  dimension_sizes = sized_refused;
  dimension_read = dimension_read;
  same_notice = same_notice;
  tail_behind = tail_behind;
  tail_empty = tail_empty;
  listing_answer = refl;
  listing_nodes = refl;
  listing_table = refl;
  listing_tail = refl;
  two_first = refl;
  nine_then = refl;
  eleven_place = refl;
  ten_place = refl;
  twelve_place = refl;
  end_place = refl;
}
