-- `table_refusal` tests in the order of `fault_tests`.
use mathlib.Core.Path.{◌≡◌, sym, ◌∙◌}
use mathlib.Core.Bool.{true}
use native.Mathlib.Omega.{arith}
use lib.Dec.{eqb}
use lib.ListN.{length}
use borrow.Author.Tests.{eq-eqb, ne_eqb}
use Rattle.cube.specs.Refusal.{first}
use Rattle.cube.specs.Tables.{is_dimension, table_len}
use Rattle.cube.proofs.Tables.{dimension_is}
use Rattle.writer.proofs.table_refusal.Goals as goal
use Rattle.writer.proofs.table_refusal.Goals.{Else-faults-table_len, Else-not-is_dimension}

dimension : (c : Else-not-is_dimension) → is_dimension c.args.n ≡ true
dimension c = sym c.is_dimension.ensures ∙ c.if-not-is_dimension.false

sized : (c : Else-faults-table_len) → eqb (length c.args.faults.now) (table_len c.args.n) ≡ true
sized c = eq-eqb _ _ (c.if-faults-table_len.false ∙ c.table_len.ensures)

pub returns-then-not-is_dimension : goal.returns-then-not-is_dimension
unfolding first
returns-then-not-is_dimension c = rw (sym c.is_dimension.ensures ∙ c.if-not-is_dimension.true)

pub table_len-requires : goal.table_len-requires
table_len-requires c = omega (arith, (dimension_is _ (dimension c)).1)

pub returns-then-faults-table_len : goal.returns-then-faults-table_len
unfolding first
returns-then-faults-table_len c = rw (dimension (goal.at.returns-then-faults-table_len c).Else-not-is_dimension, ne_eqb _ _ (λ q. c.if-faults-table_len.true (q ∙ sym c.table_len.ensures)))

pub returns-then-unused_set : goal.returns-then-unused_set
unfolding first
returns-then-unused_set c = rw (dimension (goal.at.returns-then-unused_set c).Else-not-is_dimension, sized (goal.at.returns-then-unused_set c).Else-faults-table_len, sym c.unused_set.ensures ∙ c.if-unused_set.true)

pub returns : goal.returns
unfolding first
returns c = rw (dimension (goal.at.returns c).Else-not-is_dimension, sized (goal.at.returns c).Else-faults-table_len, sym c.unused_set.ensures ∙ c.if-unused_set.false)
