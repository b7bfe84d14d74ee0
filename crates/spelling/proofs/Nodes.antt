-- The faulty nodes of a table, as they stand in its notice: they rise, and they are the nodes whose bits are set.
use mathlib.Core.Path.{◌≡◌, sym, ◌∙◌}
use mathlib.Core.Logic.{◌⊎◌, inl, inr}
use mathlib.Core.Bool.{true, false, ◌&&◌}
use mathlib.Core.List.{List}
use Prim.Native.Nat.{ℕ, ◌*◌, ◌^◌, ◌<◌}
use native.Mathlib.Omega.{arith}
use lib.Dec.{leb}
use lib.ListN.{length}
use borrow.Author.Tests.{leb-true, leb-false}
use Rattle.cube.specs.Tables.{node_bit, unused_set}
use Rattle.cube.proofs.Search.{none_some}
use Rattle.notice.specs.Addresses.{rising, among}
use Rattle.notice.proofs.Rising.{not_among}
use Rattle.spelling.specs.Spelled.{faulty_nodes}
use Rattle.spelling.specs.Laws.{IsTable}
use Rattle.spelling.proofs.Having.{having_among, having_rises}

module _ (n : ℕ) (faults : List ℕ) (is : IsTable n faults) where
  pub nodes_rise : rising 0 (2 ^ n) (faulty_nodes n faults) ≡ true
  nodes_rise = having_rises (2 ^ n) (node_bit faults) (2 ^ n) 0 (omega arith)

  pub nodes_among : (k : ℕ) → k < 8 * length faults → (leb (2 ^ n) k ≡ true) ⊎ (leb (2 ^ n) k ≡ false) → among (faulty_nodes n faults) k ≡ node_bit faults k
  unfolding unused_set
  nodes_among k h (inl t) =
      not_among 0 (2 ^ n) (faulty_nodes n faults) k nodes_rise (inr (leb-true (2 ^ n) k t))
      ∙ sym (rw t at (none_some (8 * length faults) (λ j. leb (2 ^ n) j && node_bit faults j) is.unused k h))
  nodes_among k h (inr t) = having_among (2 ^ n) (node_bit faults) (2 ^ n) 0 k (omega arith) (omega arith) (leb-false (2 ^ n) k t)
