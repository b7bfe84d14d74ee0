-- Repairing a table (RULES, Asking the neighbours): the refusals in their order, and what the two lent buffers hold then.
use Rattle.std.specs.Prelude.{cond, not, List, [], ◌∷◌, ℕ, ◌^◌, eqb, length}
use Rattle.cube.specs.Refusal.{Test, first, ◌⇒◌}
use Rattle.cube.specs.Tables.{is_dimension, table_len, unused_set}
use Rattle.repair.specs.Repaired.{namers, repaired, strays}

-- what is handed: the dimension, the old table and the masks, with the numbers that the result and the row have room for
module _ (n : ℕ) (faults masks : List ℕ) (result row : ℕ) where
  -- "1, 2 (fault table, masks, result, row), 3, then 17"
  abbrev pub repair_tests : List Test
  repair_tests =
      not (is_dimension n) ⇒ 1
      ∷ not (eqb (length faults) (table_len n)) ⇒ 2
      ∷ not (eqb (length masks) (2 ^ n)) ⇒ 2
      ∷ not (eqb result (table_len n)) ⇒ 2
      ∷ not (eqb row (2 ^ n)) ⇒ 2
      ∷ unused_set n faults ⇒ 3
      ∷ strays n masks ⇒ 17
      ∷ []

  unfoldable pub repair_refusal : ℕ
  repair_refusal = first repair_tests

-- "result and row keep their content" where it is refused
module _ (n : ℕ) (faults masks result row : List ℕ) where
  unfoldable pub result_after : List ℕ
  result_after = cond (eqb (repair_refusal n faults masks (length result) (length row)) 0) (repaired n faults masks) result

  unfoldable pub namers_after : List ℕ
  namers_after = cond (eqb (repair_refusal n faults masks (length result) (length row)) 0) (namers n faults masks) row
