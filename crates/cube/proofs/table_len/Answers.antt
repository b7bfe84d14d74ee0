-- `table_len` is `table_len`, case by case.
use mathlib.Core.Path.{sym, ap, ◌∙◌}
use Prim.Native.Nat.{ℕ, ◌/◌}
use Rattle.cube.proofs.Tables.{len_small, len_large}
use Rattle.cube.proofs.table_len.Goals as goal

pub returns-then-n-le3 : goal.returns-then-n-le3
returns-then-n-le3 c = sym (len_small c.args.n c.if-n-le3.true)

pub returns-else-n-le3 : goal.returns-else-n-le3
returns-else-n-le3 c = ap (λ (x : ℕ). x / 8) c.nodes.ensures ∙ sym (len_large c.args.n c.if-n-le3.false)
