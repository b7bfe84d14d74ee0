-- The repaired table has the bits of the old faults and of the named nodes, and no other: a named node is a neighbour, so it is a node. It has the old table's
-- length, and no bit of it stands for anything else.
use mathlib.Core.Bool.{Bool, true, false, not, ◌&&◌, ◌||◌}
use mathlib.Core.List.{List}
use mathlib.Core.Logic.{◌⊎◌, inl, inr}
use mathlib.Core.Path.{◌≡◌, sym, ap, ◌∙◌}
use Prim.Native.Nat.{ℕ, ◌*◌, ◌^◌, ◌<◌}
use native.Mathlib.Omega.{arith}
use lib.Dec.{eqb, leb, ltb}
use lib.ListN.{length}
use borrow.Author.Tests.{eqb-true, leb-true, ltb-true, ltb-false}
use Rattle.cube.specs.Cube.{bit, flip}
use Rattle.cube.specs.Tables.{node_bit, table_len, unused_set}
use Rattle.cube.proofs.Bools.{and_true, either, is_false}
use Rattle.cube.proofs.Cube.{flip_lt}
use Rattle.cube.proofs.Search.{none_some, some_found, some_none}
use Rattle.cube.proofs.Tables.{table_room}
use Rattle.notice.specs.Addresses.{among, rising}
use Rattle.notice.proofs.Bits.{bits_with, length_bits}
use Rattle.notice.proofs.Rising.{not_among, rising_wider}
use Rattle.spelling.specs.Laws.{Bytes, IsTable}
use Rattle.spelling.specs.Spelled.{having}
use Rattle.spelling.proofs.Having.{having_among, having_rises}
use Rattle.spelling.proofs.Tables.{bytes_bits}
use Rattle.repair.specs.Repaired.{mask_of, named, named_by, names, repaired}

-- whom a node names is a node
pub names_within : (n mask w k : ℕ) → w < 2 ^ n → names n mask w k ≡ true → k < 2 ^ n
unfolding names
names_within n mask w k h e =
    let (i, l, t) = some_found n (λ j. bit j mask && eqb (flip j w) k) e in
    let is : flip i w ≡ k = eqb-true (flip i w) k (and_true (bit i mask) (eqb (flip i w) k) t).1 in
    omega (arith, is, flip_lt n i w l h)

module _ (n : ℕ) (faults masks : List ℕ) where
  pub named_within : (k : ℕ) → named n faults masks k ≡ true → k < 2 ^ n
  unfolding named named_by
  named_within k e =
      let (w, l, t) = some_found (2 ^ n) (named_by n faults masks k) e in
      names_within n (mask_of masks w) w k l (and_true (not (node_bit faults w)) (names n (mask_of masks w) w k) t).1

  named_rise : rising 0 (2 ^ n) (having (2 ^ n) 0 (named n faults masks)) ≡ true
  named_rise = having_rises (2 ^ n) (named n faults masks) (2 ^ n) 0 (omega arith)

  named_among : (k : ℕ) → (ltb k (2 ^ n) ≡ true) ⊎ (ltb k (2 ^ n) ≡ false)
      → among (having (2 ^ n) 0 (named n faults masks)) k ≡ named n faults masks k
  named_among k (inl a) = having_among (2 ^ n) (named n faults masks) (2 ^ n) 0 k (omega arith) (omega arith) (ltb-true k (2 ^ n) a)
  named_among k (inr a) =
      not_among 0 (2 ^ n) (having (2 ^ n) 0 (named n faults masks)) k named_rise (inr (ltb-false k (2 ^ n) a))
      ∙ sym (is_false (λ e. omega (arith, named_within k e, ltb-false k (2 ^ n) a)))

  pub repaired_sized : length (repaired n faults masks) ≡ length faults
  unfolding repaired
  repaired_sized = length_bits faults (having (2 ^ n) 0 (named n faults masks))

  pub repaired_bytes : Bytes faults → Bytes (repaired n faults masks)
  unfolding repaired
  repaired_bytes b = bytes_bits faults (having (2 ^ n) 0 (named n faults masks)) b

  module _ (sized : length faults ≡ table_len n) where
    pub repaired_bit : (k : ℕ) → node_bit (repaired n faults masks) k ≡ (node_bit faults k || named n faults masks k)
    unfolding repaired
    repaired_bit k =
        bits_with faults 0 (having (2 ^ n) 0 (named n faults masks)) k
        (rising_wider 0 (2 ^ n) (8 * length faults) (having (2 ^ n) 0 (named n faults masks)) (omega (arith, sized, table_room n)) named_rise)
        ∙ ap (λ (b : Bool). node_bit faults k || b) (named_among k (either (ltb k (2 ^ n))))

    unused_bit : unused_set n faults ≡ false → (k : ℕ) → k < 8 * length faults → (leb (2 ^ n) k ≡ true) ⊎ (leb (2 ^ n) k ≡ false)
        → (leb (2 ^ n) k && node_bit (repaired n faults masks) k) ≡ false
    unfolding unused_set
    unused_bit u k h (inl t) =
        let old : node_bit faults k ≡ false = rw t at (none_some (8 * length faults) (λ j. leb (2 ^ n) j && node_bit faults j) u k h) in
        let new : named n faults masks k ≡ false = is_false (λ e. omega (arith, named_within k e, leb-true (2 ^ n) k t)) in
        rw (t, repaired_bit k, old, new)
    unused_bit u k h (inr t) = rw t

    pub repaired_unused : unused_set n faults ≡ false → unused_set n (repaired n faults masks) ≡ false
    unfolding unused_set
    repaired_unused u =
        some_none (8 * length (repaired n faults masks)) (λ k. leb (2 ^ n) k && node_bit (repaired n faults masks) k)
        (λ k h. unused_bit u k (omega (arith, repaired_sized)) (either (leb (2 ^ n) k)))

  pub repaired_is_table : IsTable n faults → IsTable n (repaired n faults masks)
  repaired_is_table is =
      record { dimension = is.dimension; sized = repaired_sized ∙ is.sized; unused = repaired_unused is.sized is.unused }
