-- `unused_set`: from dimension 3 on there is no unused bit; below it the byte is shifted down past the nodes' bits.
use mathlib.Core.Path.{sym, ap, ◌∙◌}
use mathlib.Core.Bool.{not}
use Prim.Native.Nat.{ℕ, ◌/◌, ◌^◌}
use native.Mathlib.Omega.{arith}
use lib.Dec.{eqb}
use lib.ListN.{get_or}
use lib.Pow.{pow-lt}
use Rattle.std.proofs.Common.{rules}
use Rattle.cube.proofs.Tables.{len_small, unused_none, unused_byte}
use Rattle.cube.proofs.unused_set.Goals as goal

pub returns-then-n-ge3 : goal.returns-then-n-ge3
returns-then-n-ge3 c = sym (unused_none c.args.n c.args.t.now c.if-n-ge3.true c.requires)

pub bounds-t-0 : goal.bounds-t-0
bounds-t-0 c = omega (arith, len_small c.args.n (omega arith), c.requires)

pub overflow_shr-result : goal.overflow_shr-result
overflow_shr-result c = omega (arith, pow-lt {i = c.args.n} {j = 3} (omega arith))

pub returns : goal.returns
returns c =
    ap (λ (m : ℕ). not (eqb (get_or c.args.t.now 0 0 / 2 ^ m) 0)) c.nodes.ensures
    ∙ unused_byte c.args.n c.args.t.now (omega arith) c.requires (search (rules, c.type_inv.t 0))
