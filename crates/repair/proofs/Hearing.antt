-- Hearing one node, dimension by dimension: its four turns. Where the mask's bit is not set, or the neighbour is in the table already, nothing changes;
-- otherwise the neighbour comes in, and no node but it.
use mathlib.Core.Bool.{true, false, cond, not, ◌&&◌, ◌||◌}
use mathlib.Core.List.{List, [], ◌∷◌}
use mathlib.Core.Logic.{◌⊎◌, inl, inr, ◌≢◌}
use mathlib.Core.Path.{◌≡◌, refl, sym, ap, subst, ◌∙◌}
use Prim.Native.Nat.{ℕ, ◌+◌, ◌/◌, ◌%◌, ◌^◌, ◌<◌}
use native.Mathlib.Omega.{arith}
use lib.Dec.{eqb}
use lib.ListN.{length, get_or, set, length-set}
use lib.Seq.{get_or-set_same, get_or-set_other}
use native.Mathlib.Numerals.{add-one}
use borrow.Author.Tests.{eq-eqb, eqb-true, eqb-false, ne_eqb}
use Rattle.cube.specs.Cube.{bit, flip}
use Rattle.cube.specs.Tables.{node_bit}
use Rattle.cube.proofs.Bools.{either, or_false, or_none, or_right, or_true}
use Rattle.cube.proofs.Cube.{bit_none}
use Rattle.cube.proofs.Search.{some_none, some_suc}
use Rattle.notice.specs.Addresses.{with_bit, with_bits}
use Rattle.notice.proofs.Bits.{bit_with}
use Rattle.notice.proofs.Passes.{length_with}
use Rattle.spelling.specs.Laws.{Bytes}
use Rattle.spelling.proofs.Tables.{bytes_bits}
use Rattle.repair.specs.Hearing.{Heard, heard_mask}
use Rattle.repair.specs.Repaired.{mask_of, names}

-- ---- whom a mask names, one dimension more

module _ (i mask w k : ℕ) where
  names_next : names (i + 1) mask w k ≡ (names i mask w k || (bit i mask && eqb (flip i w) k))
  unfolding names
  names_next = rw add-one (some_suc i (λ j. bit j mask && eqb (flip j w) k))

  names_silent : bit i mask ≡ false → names (i + 1) mask w k ≡ names i mask w k
  names_silent e = names_next ∙ or_none (names i mask w k) (rw e)

  names_another : eqb (flip i w) k ≡ false → names (i + 1) mask w k ≡ names i mask w k
  names_another e = names_next ∙ or_none (names i mask w k) (go (either (bit i mask)))
    where
      go : (bit i mask ≡ true) ⊎ (bit i mask ≡ false) → (bit i mask && eqb (flip i w) k) ≡ false
      go (inl b) = rw (b, e)
      go (inr b) = rw b

  names_this : bit i mask ≡ true → eqb (flip i w) k ≡ true → names (i + 1) mask w k ≡ true
  names_this b e = names_next ∙ or_right (names i mask w k) (rw (b, e))

pub names_nothing : (i w k : ℕ) → names i 0 w k ≡ false
unfolding names
names_nothing i w k = some_none i (λ j. bit j 0 && eqb (flip j w) k) (λ j _. rw (bit_none j))

-- ---- the turns

bytes_with : (t : List ℕ) (a : ℕ) → Bytes t → Bytes (with_bit t a)
unfolding with_bits
bytes_with t a b = bytes_bits t (a ∷ []) b

names_none : (mask w k : ℕ) → names 0 mask w k ≡ false
unfolding names
names_none mask w k = some_none 0 (λ j. bit j mask && eqb (flip j w) k) (λ j h. absurd (omega arith))

-- where nobody is named nothing changes
module _ (n mask w : ℕ) (t r : List ℕ) (nobody : (k : ℕ) → names n mask w k ≡ false) where
  row_kept : (k : ℕ) → (node_bit t k ≡ true) ⊎ (node_bit t k ≡ false) → cond (not (node_bit t k) && names n mask w k) (w + 1) (get_or r k 0) ≡ get_or r k 0
  row_kept k (inl a) = rw a
  row_kept k (inr a) = rw (a, nobody k)

  heard_nobody : Heard n mask w t r t r
  heard_nobody =
      record {
        table = λ k. sym (or_none (node_bit t k) (nobody k));
        row = λ k. sym (row_kept k (either (node_bit t k)));
        table_sized = refl;
        row_sized = refl;
        bytes = λ b. b;
      }

pub heard_start : (mask w : ℕ) (t r : List ℕ) → Heard 0 mask w t r t r
heard_start mask w t r = heard_nobody 0 mask w t r (names_none mask w)

pub heard_nothing : (n w : ℕ) (t r : List ℕ) → Heard n 0 w t r t r
heard_nothing n w t r = heard_nobody n 0 w t r (names_nothing n w)

module _ {i mask w : ℕ} {t r t' r' : List ℕ} (H : Heard i mask w t r t' r') where
  -- whoever else is named, as before
  same_table : (k : ℕ) → names (i + 1) mask w k ≡ names i mask w k → node_bit t' k ≡ (node_bit t k || names (i + 1) mask w k)
  same_table k e = H.table k ∙ rw e

  same_row : (k : ℕ) → names (i + 1) mask w k ≡ names i mask w k
      → get_or r' k 0 ≡ cond (not (node_bit t k) && names (i + 1) mask w k) (w + 1) (get_or r k 0)
  same_row k e = H.row k ∙ rw e

  pub heard_silent : bit i mask ≡ false → Heard (i + 1) mask w t r t' r'
  heard_silent e =
      record {
        table = λ k. same_table k (names_silent i mask w k e);
        row = λ k. same_row k (names_silent i mask w k e);
        table_sized = H.table_sized;
        row_sized = H.row_sized;
        bytes = H.bytes;
      }

  module _ (b : bit i mask ≡ true) where
    -- the neighbour is in the table already
    heard_again : node_bit t' (flip i w) ≡ true → Heard (i + 1) mask w t r t' r'
    heard_again in-it =
        record {
          table = λ k. table k (either (eqb (flip i w) k));
          row = λ k. row k (either (eqb (flip i w) k));
          table_sized = H.table_sized;
          row_sized = H.row_sized;
          bytes = H.bytes;
        }
      where
        is_in : (k : ℕ) → eqb (flip i w) k ≡ true → node_bit t' k ≡ true
        is_in k e = ap (node_bit t') (sym (eqb-true (flip i w) k e)) ∙ in-it

        table : (k : ℕ) → (eqb (flip i w) k ≡ true) ⊎ (eqb (flip i w) k ≡ false) → node_bit t' k ≡ (node_bit t k || names (i + 1) mask w k)
        table k (inl e) = is_in k e ∙ sym (or_right (node_bit t k) (names_this i mask w k b e))
        table k (inr e) = same_table k (names_another i mask w k e)

        said : (k : ℕ) → (node_bit t k ≡ true) ⊎ (names i mask w k ≡ true) → names (i + 1) mask w k ≡ true
            → cond (not (node_bit t k) && names i mask w k) (w + 1) (get_or r k 0) ≡ cond (not (node_bit t k) && names (i + 1) mask w k) (w + 1) (get_or r k 0)
        said k (inl a) e = rw a
        said k (inr a) e = rw (a, e)

        row : (k : ℕ) → (eqb (flip i w) k ≡ true) ⊎ (eqb (flip i w) k ≡ false)
            → get_or r' k 0 ≡ cond (not (node_bit t k) && names (i + 1) mask w k) (w + 1) (get_or r k 0)
        row k (inl e) = H.row k ∙ said k (or_true _ _ (sym (H.table k) ∙ is_in k e)) (names_this i mask w k b e)
        row k (inr e) = same_row k (names_another i mask w k e)

    -- it comes in
    heard_new : node_bit t' (flip i w) ≡ false → flip i w / 8 < length t' → flip i w < length r' → {t'' : List ℕ} → t'' ≡ with_bit t' (flip i w)
        → Heard (i + 1) mask w t r t'' (set r' (flip i w) (w + 1))
    heard_new out room place {t''} is =
        record {
          table = λ k. ap (λ (s : List ℕ). node_bit s k) is ∙ bit_with t' (flip i w) k room ∙ table k (either (eqb (flip i w) k));
          row = λ k. row k (either (eqb (flip i w) k));
          table_sized = ap length is ∙ length_with t' (flip i w) ∙ H.table_sized;
          row_sized = length-set r' (flip i w) (w + 1) ∙ H.row_sized;
          bytes = λ f. subst Bytes (sym is) (bytes_with t' (flip i w) (H.bytes f));
        }
      where
        table : (k : ℕ) → (eqb (flip i w) k ≡ true) ⊎ (eqb (flip i w) k ≡ false)
            → (node_bit t' k || eqb k (flip i w)) ≡ (node_bit t k || names (i + 1) mask w k)
        table k (inl e) =
            or_right (node_bit t' k) (eq-eqb k (flip i w) (sym (eqb-true (flip i w) k e))) ∙ sym (or_right (node_bit t k) (names_this i mask w k b e))
        table k (inr e) =
            or_none (node_bit t' k) (ne_eqb k (flip i w) (λ h. eqb-false (flip i w) k e (sym h))) ∙ same_table k (names_another i mask w k e)

        row : (k : ℕ) → (eqb (flip i w) k ≡ true) ⊎ (eqb (flip i w) k ≡ false)
            → get_or (set r' (flip i w) (w + 1)) k 0 ≡ cond (not (node_bit t k) && names (i + 1) mask w k) (w + 1) (get_or r k 0)
        row k (inl e) =
            let h = eqb-true (flip i w) k e in
            let was = or_false (node_bit t k) (names i mask w k) (sym (H.table k) ∙ ap (node_bit t') (sym h) ∙ out) in
            ap (λ (j : ℕ). get_or (set r' (flip i w) (w + 1)) j 0) (sym h) ∙ get_or-set_same r' (flip i w) (w + 1) 0 place
            ∙ rw (was.0, names_this i mask w k b e)
        row k (inr e) =
            get_or-set_other r' (flip i w) k (w + 1) 0 (λ h. eqb-false (flip i w) k e (sym h)) ∙ same_row k (names_another i mask w k e)

    -- the neighbour k is put in where it is not there yet
    pub heard_named : {k : ℕ} → k ≡ flip i w → k / 8 < length t' → k < length r' → {t'' r'' : List ℕ}
        → t'' ≡ cond (node_bit t' k) t' (with_bit t' k) → r'' ≡ cond (node_bit t' k) r' (set r' k (w + 1)) → Heard (i + 1) mask w t r t'' r''
    heard_named {k} e room place {t''} {r''} is row_is = go (either (node_bit t' k))
      where
        go : (node_bit t' k ≡ true) ⊎ (node_bit t' k ≡ false) → Heard (i + 1) mask w t r t'' r''
        go (inl a) =
            let same : t'' ≡ t' = is ∙ (rw a) in
            let row_same : r'' ≡ r' = row_is ∙ (rw a) in
            rw (same, row_same) (heard_again (ap (node_bit t') (sym e) ∙ a))
        go (inr a) =
            let new : t'' ≡ with_bit t' (flip i w) = is ∙ rw (a, e) in
            let row_new : r'' ≡ set r' (flip i w) (w + 1) = row_is ∙ rw (a, e) in
            rw row_new (heard_new (ap (node_bit t') (sym e) ∙ a) (omega (arith, e, room)) (omega (arith, e, place)) new)

-- ---- a mask's bit, as the code tests it

pub bit_set : (i mask : ℕ) → mask / 2 ^ i % 2 ≡ 1 → bit i mask ≡ true
unfolding bit
bit_set i mask e = eq-eqb (mask / 2 ^ i % 2) 1 e

pub bit_clear : (i mask : ℕ) → mask / 2 ^ i % 2 ≢ 1 → bit i mask ≡ false
unfolding bit
bit_clear i mask d = ne_eqb (mask / 2 ^ i % 2) 1 d

-- ---- the mask by which a node is heard

module _ (faults masks : List ℕ) (w : ℕ) where
  pub heard_silent_mask : mask_of masks w ≡ 0 → heard_mask faults masks w ≡ 0
  unfolding heard_mask
  heard_silent_mask e = go (either (node_bit faults w))
    where
      go : (node_bit faults w ≡ true) ⊎ (node_bit faults w ≡ false) → cond (node_bit faults w) 0 (mask_of masks w) ≡ 0
      go (inl a) = rw a
      go (inr a) = rw a e

  pub heard_faulty_mask : node_bit faults w ≡ true → heard_mask faults masks w ≡ 0
  unfolding heard_mask
  heard_faulty_mask e = rw e

  pub heard_working_mask : node_bit faults w ≡ false → heard_mask faults masks w ≡ mask_of masks w
  unfolding heard_mask
  heard_working_mask e = rw e
