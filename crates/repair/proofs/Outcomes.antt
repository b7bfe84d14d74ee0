-- What repairing answers and leaves, by the tests in their order: a refusal leaves result and row as they were, and where nothing is refused they are the
-- repaired table and the row of the namers.
use mathlib.Core.Bool.{true, false}
use mathlib.Core.List.{List}
use mathlib.Core.Logic.{◌≢◌}
use mathlib.Core.Path.{◌≡◌, refl, sym, ap, ◌∙◌}
use Prim.Native.Nat.{ℕ, ◌^◌, ◌≤◌}
use native.Mathlib.Decide.{ℕ_discrete}
use lib.ListN.{length}
use borrow.Author.Tests.{eq-eqb, eqb-true, le-leb, ne_eqb, not-false}
use Rattle.cube.specs.Refusal.{first}
use Rattle.cube.specs.Tables.{is_dimension, table_len, unused_set}
use Rattle.cube.proofs.Refusal.{first_le, first_none}
use Rattle.cube.proofs.Tables.{dimension_is}
use Rattle.spelling.specs.Laws.{IsTable}
use Rattle.repair.specs.Repaired.{namers, repaired, strays}
use Rattle.repair.specs.Repairing.{namers_after, repair_refusal, repair_tests, result_after}
use Rattle.repair.proofs.Bits.{repaired_sized}
use Rattle.repair.proofs.Words.{row_sized}

-- ---- the number, by the tests

module _ (n : ℕ) (faults masks : List ℕ) (result row : ℕ) where
  pub nothing_wrong : is_dimension n ≡ true → length faults ≡ table_len n → length masks ≡ 2 ^ n → result ≡ table_len n → row ≡ 2 ^ n → unused_set n faults ≡ false
      → strays n masks ≡ false → repair_refusal n faults masks result row ≡ 0
  unfolding repair_refusal first
  nothing_wrong d f m r w u h =
      rw (
        d,
        eq-eqb (length faults) (table_len n) f,
        eq-eqb (length masks) (2 ^ n) m,
        eq-eqb result (table_len n) r,
        eq-eqb row (2 ^ n) w,
        u,
        h,
      )

  -- ---- from the number

  -- nothing is refused
  pub record Accepted : Type 0 where
    pub table : IsTable n faults
    pub masked : length masks ≡ 2 ^ n
    pub resulting : result ≡ table_len n
    pub rowed : row ≡ 2 ^ n
    pub none : strays n masks ≡ false

  pub accepted : repair_refusal n faults masks result row ≡ 0 → Accepted
  unfolding repair_refusal
  accepted z =
      let t = first_none 17 (repair_tests n faults masks result row) refl z in
      record {
        table =
            record {
              dimension = dimension_is n (not-false _ t.0);
              sized = eqb-true _ _ (not-false _ t.1.0);
              unused = t.1.1.1.1.1.0;
            };
        masked = eqb-true _ _ (not-false _ t.1.1.0);
        resulting = eqb-true _ _ (not-false _ t.1.1.1.0);
        rowed = eqb-true _ _ (not-false _ t.1.1.1.1.0);
        none = t.1.1.1.1.1.1.0;
      }

  pub taken : Accepted → repair_refusal n faults masks result row ≡ 0
  unfolding is_dimension
  taken a =
      let t = a.table in
      nothing_wrong (rw (le-leb 1 n t.dimension.0, le-leb n 12 t.dimension.1)) t.sized a.masked a.resulting a.rowed t.unused a.none

  pub refusal_few : repair_refusal n faults masks result row ≤ 17
  unfolding repair_refusal
  refusal_few = first_le 17 (repair_tests n faults masks result row) refl

-- ---- result and row, by the number

module _ (n : ℕ) (faults masks result row : List ℕ) where
  abbrev refusal : ℕ
  refusal = repair_refusal n faults masks (length result) (length row)

  pub result_kept : refusal ≢ 0 → result ≡ result_after n faults masks result row
  unfolding result_after
  result_kept h = rw (ne_eqb refusal 0 h)

  pub row_kept : refusal ≢ 0 → row ≡ namers_after n faults masks result row
  unfolding namers_after
  row_kept h = rw (ne_eqb refusal 0 h)

  pub result_made : refusal ≡ 0 → repaired n faults masks ≡ result_after n faults masks result row
  unfolding result_after
  result_made e = rw e

  pub row_made : refusal ≡ 0 → namers n faults masks ≡ namers_after n faults masks result row
  unfolding namers_after
  row_made e = rw e

  -- either way they have the lengths that they had
  pub result_long : length (result_after n faults masks result row) ≡ length result
  result_long = elim (ℕ_discrete refusal 0) [
    | yes z ↦
        let a = accepted n faults masks (length result) (length row) z in
        ap length (sym (result_made z)) ∙ repaired_sized n faults masks ∙ a.table.sized ∙ sym a.resulting
    | no d ↦ ap length (sym (result_kept d))
  ]

  pub row_long : length (namers_after n faults masks result row) ≡ length row
  row_long = elim (ℕ_discrete refusal 0) [
    | yes z ↦ ap length (sym (row_made z)) ∙ row_sized n faults masks ∙ sym (accepted n faults masks (length result) (length row) z).rowed
    | no d ↦ ap length (sym (row_kept d))
  ]
