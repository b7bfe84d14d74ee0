-- The refusals of repairing a table are those that the words give, test by test.
use mathlib.Core.Path.{◌≡◌}
use mathlib.Core.Bool.{true, false, not}
use mathlib.Core.List.{List}
use mathlib.Core.Logic.{◌≢◌, ◌↔◌}
use Prim.Native.Nat.{ℕ, ◌^◌}
use lib.Dec.{eqb, leb}
use lib.ListN.{length}
use borrow.Author.Tests.{le-leb, leb-true}
use Rattle.cube.specs.Cube.{bit}
use Rattle.cube.specs.Refusal.{first}
use Rattle.cube.specs.Tables.{is_dimension, table_len, unused_set}
use Rattle.cube.proofs.Bools.{clash}
use Rattle.cube.proofs.Search.{both_found, both_hit, some_found, some_hit}
use Rattle.repair.specs.Repaired.{mask_of, stray_bit, strays}
use Rattle.repair.specs.Repairing.{repair_refusal}
use Rattle.promises.specs.Refusals.{RepairGiven, RepairWhen, none, repair_1, repair_17, repair_3}
use Rattle.promises.specs.Refusals.{repair_2_faults, repair_2_masks, repair_2_result, repair_2_row}
use Rattle.promises.proofs.Given.{also_test, eqb_says, not_says, one_test, unused_says, wrong_dimension, wrong_table}

module _ (n : ℕ) (faults masks : List ℕ) (result row : ℕ) where
  abbrev When : ℕ → Type 0
  When = RepairWhen n faults masks result row

  wrong_number : (m : ℕ) → (not (eqb m (2 ^ n)) ≡ true) ↔ (m ≢ 2 ^ n)
  wrong_number m = not_says (eqb m (2 ^ n)) (eqb_says m (2 ^ n))

  says_17 : strays n masks ≡ true → When 17
  unfolding strays stray_bit
  says_17 e =
      let (w, h, t) = some_found (length masks) (λ v. stray_bit n (mask_of masks v)) e in
      let (i, l, a, b) = both_found 16 (leb n) (λ j. bit j (mask_of masks w)) t in
      repair_17 w i h (leb-true n i a) l b

  said_17 : When 17 → strays n masks ≡ true
  unfolding strays stray_bit
  said_17 (repair_17 w i h a l b) =
      some_hit (length masks) (λ v. stray_bit n (mask_of masks v)) w h (both_hit 16 (leb n) (λ j. bit j (mask_of masks w)) i l (le-leb n i a) b)

  said_1 : When 1 → not (is_dimension n) ≡ true
  said_1 (repair_1 d) = (wrong_dimension n).1 d

  said_3 : When 3 → unused_set n faults ≡ true
  said_3 (repair_3 u) = (unused_says n faults).1 u

  -- where the other lengths are right, a wrong one is the row's
  said_row : not (eqb (length faults) (table_len n)) ≡ false → not (eqb (length masks) (2 ^ n)) ≡ false → not (eqb result (table_len n)) ≡ false
      → When 2 → not (eqb row (2 ^ n)) ≡ true
  said_row f m r (repair_2_faults l) = absurd (clash ((wrong_table n (length faults)).1 l) f)
  said_row f m r (repair_2_masks l) = absurd (clash ((wrong_number (length masks)).1 l) m)
  said_row f m r (repair_2_result l) = absurd (clash ((wrong_table n result).1 l) r)
  said_row f m r (repair_2_row l) = (wrong_number row).1 l

  pub repair_given : RepairGiven n faults masks result row (repair_refusal n faults masks result row)
  unfolding repair_refusal first
  repair_given =
      one_test _ (λ e. repair_1 ((wrong_dimension n).0 e)) said_1
      (also_test _ (λ e. repair_2_faults ((wrong_table n (length faults)).0 e))
      (λ f. also_test _ (λ e. repair_2_masks ((wrong_number (length masks)).0 e))
      (λ m. also_test _ (λ e. repair_2_result ((wrong_table n result).0 e))
      (λ r. one_test _ (λ e. repair_2_row ((wrong_number row).0 e)) (said_row f m r)
      (one_test _ (λ e. repair_3 ((unused_says n faults).0 e)) said_3 (one_test _ says_17 said_17 none))))))
