-- The laws of asking the neighbours.
use mathlib.Core.Bool.{true, false, not, ◌&&◌, ◌||◌}
use mathlib.Core.List.{List, []}
use mathlib.Core.Logic.{◌⊎◌, inl, inr}
use mathlib.Core.Path.{◌≡◌, refl, sym, ap, ◌∙◌}
use Prim.Native.Nat.{ℕ, ◌^◌, ◌<◌}
use native.Mathlib.Omega.{arith}
use lib.ListN.{replicate}
use Rattle.cube.specs.Cube.{bit}
use Rattle.cube.specs.Tables.{node_bit}
use Rattle.cube.proofs.Bools.{clash, either, or_false, or_left, or_none, or_right, or_true}
use Rattle.cube.proofs.Cube.{bit_none}
use Rattle.cube.proofs.Front.{tab_cong}
use Rattle.cube.proofs.Search.{least_same, some_same}
use Rattle.notice.specs.Addresses.{among, rising, with_bits}
use Rattle.spelling.specs.Laws.{Bytes, IsTable}
use Rattle.spelling.specs.Spelled.{having}
use Rattle.spelling.proofs.Having.{having_among, having_is, having_rises}
use Rattle.spelling.proofs.Tables.{same_table}
use Rattle.repair.specs.Laws.{Holds, NamesNode, RepairLaws}
use Rattle.repair.specs.Repaired.{added, mask_of, named, named_by, namer_of, namers, names, repaired}
use Rattle.repair.proofs.Bits.{repaired_bit, repaired_bytes, repaired_is_table, repaired_sized}
use Rattle.repair.proofs.Worked as worked
use Rattle.repair.proofs.Words.{and_none, is_named, namer, no_rows, not_added, not_named, others, row, row_sized}

-- ---- the table

module _ (n : ℕ) (faults masks : List ℕ) (is : IsTable n faults) where
  there : (k : ℕ) → (node_bit faults k ≡ true) ⊎ ((w : ℕ) × NamesNode n faults masks w k) → node_bit (repaired n faults masks) k ≡ true
  there k (inl e) = repaired_bit n faults masks is.sized k ∙ or_left (named n faults masks k) e
  there k (inr (w, N)) = repaired_bit n faults masks is.sized k ∙ or_right (node_bit faults k) (is_named n faults masks N)

  whence : (k : ℕ) → node_bit (repaired n faults masks) k ≡ true → (node_bit faults k ≡ true) ⊎ ((w : ℕ) × NamesNode n faults masks w k)
  whence k e = go (or_true (node_bit faults k) (named n faults masks k) (sym (repaired_bit n faults masks is.sized k) ∙ e))
    where
      go : (node_bit faults k ≡ true) ⊎ (named n faults masks k ≡ true) → (node_bit faults k ≡ true) ⊎ ((w : ℕ) × NamesNode n faults masks w k)
      go (inl a) = inl a
      go (inr a) = inr (namer n faults masks k a)

  no_more : (k : ℕ) → node_bit (repaired n faults masks) k ≡ true → node_bit faults k ≡ false → (w : ℕ) × NamesNode n faults masks w k
  no_more k e old = go (whence k e)
    where
      go : (node_bit faults k ≡ true) ⊎ ((w : ℕ) × NamesNode n faults masks w k) → (w : ℕ) × NamesNode n faults masks w k
      go (inl a) = absurd (clash a old)
      go (inr x) = x

  holds : Holds n faults masks (repaired n faults masks)
  holds = record { old = λ k e. there k (inl e); new = λ w k N. there k (inr (w, N)) }

  smallest : (t : List ℕ) → Holds n faults masks t → (k : ℕ) → node_bit (repaired n faults masks) k ≡ true → node_bit t k ≡ true
  smallest t H k e = go (whence k e)
    where
      go : (node_bit faults k ≡ true) ⊎ ((w : ℕ) × NamesNode n faults masks w k) → node_bit t k ≡ true
      go (inl a) = H.old k a
      go (inr (w, N)) = H.new w k N

  -- ---- once more: whoever works in the repaired table worked in the old one

  before : {w k : ℕ} → NamesNode n (repaired n faults masks) masks w k → NamesNode n faults masks w k
  before {w} N =
      let r = or_false (node_bit faults w) (named n faults masks w) (sym (repaired_bit n faults masks is.sized w) ∙ N.works) in
      record { node = N.node; works = r.0; across = N.across; dimension = N.dimension; marked = N.marked; neighbour = N.neighbour }

  in_already : (k : ℕ) → named n (repaired n faults masks) masks k ≡ true → node_bit (repaired n faults masks) k ≡ true
  in_already k e = let (w, N) = namer n (repaired n faults masks) masks k e in there k (inr (w, before N))

  again_bit : (k : ℕ) → node_bit (repaired n (repaired n faults masks) masks) k ≡ node_bit (repaired n faults masks) k
  again_bit k =
      repaired_bit n (repaired n faults masks) masks (repaired_sized n faults masks ∙ is.sized) k
      ∙ go (either (named n (repaired n faults masks) masks k))
    where
      go : (named n (repaired n faults masks) masks k ≡ true) ⊎ (named n (repaired n faults masks) masks k ≡ false)
          → (node_bit (repaired n faults masks) k || named n (repaired n faults masks) masks k) ≡ node_bit (repaired n faults masks) k
      go (inl a) = or_right (node_bit (repaired n faults masks) k) a ∙ sym (in_already k a)
      go (inr a) = or_none (node_bit (repaired n faults masks) k) a

  again_table : Bytes faults → repaired n (repaired n faults masks) masks ≡ repaired n faults masks
  again_table b =
      let t = repaired n faults masks in
      let bytes = repaired_bytes n faults masks b in
      same_table (repaired n t masks) t (repaired_sized n t masks) (repaired_bytes n t masks bytes) bytes
      (λ k _. again_bit k)

  again_row : namers n (repaired n faults masks) masks ≡ replicate (2 ^ n) 0
  again_row = no_rows n (repaired n faults masks) masks (λ k _. go k (either (named n (repaired n faults masks) masks k)))
    where
      go : (k : ℕ) → (named n (repaired n faults masks) masks k ≡ true) ⊎ (named n (repaired n faults masks) masks k ≡ false)
          → added n (repaired n faults masks) masks k ≡ false
      go k (inl a) = rw (in_already k a)
      go k (inr a) = and_none (not (node_bit (repaired n faults masks) k)) a

-- ---- nobody names anyone

module _ (n : ℕ) (faults masks : List ℕ) (z : (w : ℕ) → w < 2 ^ n → mask_of masks w ≡ 0) where
  silent : (w k : ℕ) → ¬ (NamesNode n faults masks w k)
  silent w k N = clash N.marked (ap (bit N.across) (z w N.node) ∙ bit_none N.across)

  stays : repaired n faults masks ≡ faults
  unfolding repaired with_bits among rising
  stays =
      ap (with_bits faults)
      (having_is (2 ^ n) (named n faults masks) (2 ^ n) 0 [] (omega arith) refl (λ k _ _. not_named n faults masks k (λ w N. silent w k N)))

  no_row : namers n faults masks ≡ replicate (2 ^ n) 0
  no_row = no_rows n faults masks (λ k _. not_added n faults masks k (inr (λ w N. silent w k N)))

-- ---- whose masks are heard

module _
    (n : ℕ) (faults masks masks' : List ℕ) (same : (w : ℕ) → w < 2 ^ n → node_bit faults w ≡ false → mask_of masks w ≡ mask_of masks' w) where
  same_by : (k w : ℕ) → w < 2 ^ n → named_by n faults masks k w ≡ named_by n faults masks' k w
  unfolding named_by
  same_by k w h = go (either (node_bit faults w))
    where
      go : (node_bit faults w ≡ true) ⊎ (node_bit faults w ≡ false)
          → (not (node_bit faults w) && names n (mask_of masks w) w k) ≡ (not (node_bit faults w) && names n (mask_of masks' w) w k)
      go (inl a) = rw a
      go (inr a) = rw (a, same w h a)

  same_named : (k : ℕ) → named n faults masks k ≡ named n faults masks' k
  unfolding named
  same_named k = some_same (2 ^ n) (named_by n faults masks k) (named_by n faults masks' k) (same_by k)

  same_repaired : repaired n faults masks ≡ repaired n faults masks'
  unfolding repaired
  same_repaired =
      let p = named n faults masks in
      let q = named n faults masks' in
      ap (with_bits faults)
      (having_is (2 ^ n) p (2 ^ n) 0 (having (2 ^ n) 0 q) (omega arith) (having_rises (2 ^ n) q (2 ^ n) 0 (omega arith))
      (λ k _ h. same_named k ∙ sym (having_among (2 ^ n) q (2 ^ n) 0 k (omega arith) (omega arith) h)))

  same_row : namers n faults masks ≡ namers n faults masks'
  unfolding namers namer_of
  same_row =
      tab_cong (2 ^ n) (namer_of n faults masks) (namer_of n faults masks')
      (λ k h. rw (same_named k, least_same (2 ^ n) (named_by n faults masks k) (named_by n faults masks' k) (same_by k)))

-- ---- all of them

pub repair_laws : RepairLaws
repair_laws =
    record {
      node = λ n faults masks k is. (whence n faults masks is k, there n faults masks is k);
      row = row;
      others = others;
      row_sized = row_sized;
      unheard = λ n faults masks masks' same. (same_repaired n faults masks masks' same, same_row n faults masks masks' same);
      again = λ n faults masks is b. (again_table n faults masks is b, again_row n faults masks is);
      holds = holds;
      least = λ n faults masks t is H. smallest n faults masks is t H;
      no_more = λ n faults masks k is. no_more n faults masks is k;
      none = λ n faults masks z. (stays n faults masks z, no_row n faults masks z);
      table = repaired_is_table;
      bytes = repaired_bytes;
      listing = worked.listing;
      listing_row = worked.listing_row;
      both = worked.both;
      first_only = worked.first_only;
      second_only = worked.second_only;
    }
