-- Hearing the nodes in rising order: behind node w the table has the old faults and whom the nodes below w name, and the row has the lowest of these. At the
-- end this is the repaired table, and the row of the namers.
use mathlib.Core.Bool.{Bool, true, false, cond, not, ◌&&◌, ◌||◌, or_assoc}
use mathlib.Core.List.{List}
use mathlib.Core.Logic.{◌⊎◌, inl, inr}
use mathlib.Core.Path.{◌≡◌, refl, sym, ap, subst, ◌∙◌}
use Prim.Native.Nat.{ℕ, zero, suc, ◌+◌, ◌^◌, ◌≤◌, ◌<◌}
use native.Mathlib.Numerals.{add-one}
use native.Mathlib.Omega.{arith}
use lib.ListN.{length, get_or, replicate, length-replicate}
use lib.Seq.{ext_get_or}
use Rattle.cube.specs.Count.{least, some}
use Rattle.cube.specs.Tables.{node_bit, tab, table_len}
use Rattle.cube.proofs.Bools.{either, or_none}
use Rattle.cube.proofs.Front.{get_d_tab, length_tab}
use Rattle.cube.proofs.Search.{some_none, some_suc}
use Rattle.spelling.specs.Laws.{Bytes}
use Rattle.spelling.proofs.Tables.{same_table}
use Rattle.repair.specs.Hearing.{HeardBy, heard_mask}
use Rattle.repair.specs.Repaired.{mask_of, named, named_by, namer_of, namers, names, repaired}
use Rattle.repair.proofs.Hearing.{names_nothing}
use Rattle.repair.proofs.Bits.{repaired_bit, repaired_bytes, repaired_sized}

-- the lowest below w that has p, and one more; 0 where none has, or where the node is an old fault
unfoldable pub lowest : (old : Bool) (w : ℕ) (p : ℕ → Bool) → ℕ
lowest old w p = cond (not old && some w p) (suc (least w p)) 0

-- the table is t and the row r
pub record Asking (n : ℕ) (faults masks t r : List ℕ) (w : ℕ) : Type 0 where
  pub upto : w ≤ 2 ^ n
  pub table : (k : ℕ) → node_bit t k ≡ (node_bit faults k || some w (named_by n faults masks k))
  pub row : (k : ℕ) → get_or r k 0 ≡ lowest (node_bit faults k) w (named_by n faults masks k)
  pub table_sized : length t ≡ length faults
  pub row_sized : length r ≡ 2 ^ n
  pub bytes : Bytes faults → Bytes t

zeros : (m k : ℕ) → ◌≡◌ {A = ℕ} (get_or (replicate m 0) k 0) 0
zeros zero k = refl
zeros (suc m) zero = refl
zeros (suc m) (suc k) = zeros m k

none_below : (p : ℕ → Bool) → some 0 p ≡ false
none_below p = some_none 0 p (λ i h. absurd (omega arith))

lowest_none : (old : Bool) (p : ℕ → Bool) → lowest old 0 p ≡ 0
unfolding lowest
lowest_none true p = refl
lowest_none false p = rw (none_below p)

pub ask_start : (n : ℕ) (faults masks : List ℕ) → Asking n faults masks faults (replicate (2 ^ n) 0) 0
ask_start n faults masks =
    record {
      upto = omega arith;
      table = λ k. sym (or_none (node_bit faults k) (none_below (named_by n faults masks k)));
      row = λ k. zeros (2 ^ n) k ∙ sym (lowest_none (node_bit faults k) (named_by n faults masks k));
      table_sized = refl;
      row_sized = length-replicate {A = ℕ} (2 ^ n) 0;
      bytes = λ b. b;
    }

-- ---- one node more

module _ (w : ℕ) (p : ℕ → Bool) where
  least_next : least (suc w) p ≡ cond (some w p) (least w p) (cond (p w) w (suc w))
  unfolding least some
  least_next = refl

  -- w is heard, or names nobody: it is the lowest where it has p and none below it has
  lowest_next : (old m : Bool) → p w ≡ m → cond (not (old || some w p) && m) (w + 1) (lowest old w p) ≡ lowest old (suc w) p
  unfolding lowest
  lowest_next true m e = refl
  lowest_next false m e = go (either (some w p)) (either m)
    where
      go : (some w p ≡ true) ⊎ (some w p ≡ false) → (m ≡ true) ⊎ (m ≡ false)
          → cond (not (some w p) && m) (w + 1) (cond (some w p) (suc (least w p)) 0) ≡ cond (some (suc w) p) (suc (least (suc w) p)) 0
      go (inl a) _ = rw (some_suc, least_next, a)
      go (inr a) (inl b) = rw (some_suc, least_next, a, e, b, add-one)
      go (inr a) (inr b) = rw (some_suc, a, e, b)

-- a node that does not work names nobody, by a mask of 0
named_heard : (n : ℕ) (faults masks : List ℕ) (k w : ℕ) → named_by n faults masks k w ≡ names n (heard_mask faults masks w) w k
unfolding named_by heard_mask
named_heard n faults masks k w = go (either (node_bit faults w))
  where
    go : (node_bit faults w ≡ true) ⊎ (node_bit faults w ≡ false)
        → (not (node_bit faults w) && names n (mask_of masks w) w k) ≡ names n (cond (node_bit faults w) 0 (mask_of masks w)) w k
    go (inl a) = rw a (sym (names_nothing n w k))
    go (inr a) = rw a

module _ {n w : ℕ} {faults masks result row : List ℕ} (A : Asking n faults masks result row w) (h : w < 2 ^ n) where
  pub ask_next : {t r : List ℕ} → HeardBy n faults masks w result row t r → Asking n faults masks t r (w + 1)
  ask_next {t} {r} H =
      subst (Asking n faults masks t r) (sym (add-one w))
      record {
        upto = omega arith;
        table = λ k.
            H.table k
            ∙ rw (A.table k, some_suc w (named_by n faults masks k), named_heard n faults masks k w)
            (or_assoc (node_bit faults k) (some w (named_by n faults masks k)) (names n (heard_mask faults masks w) w k));
        row = λ k.
            H.row k
            ∙ rw (A.table k, A.row k)
            (lowest_next w (named_by n faults masks k) (node_bit faults k) (names n (heard_mask faults masks w) w k) (named_heard n faults masks k w));
        table_sized = H.table_sized ∙ A.table_sized;
        row_sized = H.row_sized ∙ A.row_sized;
        bytes = λ b. H.bytes (A.bytes b);
      }

-- ---- all of them

module _ {n w : ℕ} {faults masks result row : List ℕ} (A : Asking n faults masks result row w) (h : 2 ^ n ≤ w) where
  all : w ≡ 2 ^ n
  all = omega (arith, A.upto)

  pub ask_table : length faults ≡ table_len n → Bytes faults → result ≡ repaired n faults masks
  unfolding named
  ask_table sized b =
      same_table result (repaired n faults masks) (A.table_sized ∙ sym (repaired_sized n faults masks)) (A.bytes b) (repaired_bytes n faults masks b)
      (λ k _. A.table k ∙ ap (λ (m : ℕ). node_bit faults k || some m (named_by n faults masks k)) all ∙ sym (repaired_bit n faults masks sized k))

  pub ask_row : row ≡ namers n faults masks
  unfolding namers namer_of named lowest
  ask_row =
      ext_get_or 0 row (tab (2 ^ n) (namer_of n faults masks)) (A.row_sized ∙ sym (length_tab (2 ^ n) (namer_of n faults masks)))
      (λ k l. A.row k ∙ ap (λ (m : ℕ). lowest (node_bit faults k) m (named_by n faults masks k)) all
      ∙ sym (get_d_tab (2 ^ n) (namer_of n faults masks) k (omega (arith, A.row_sized))))
