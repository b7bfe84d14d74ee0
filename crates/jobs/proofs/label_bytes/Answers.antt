-- `label_bytes` is twice the nodes, which does not wrap below dimension 63.
use mathlib.Core.Path.{ap}
use Prim.Native.Nat.{ℕ, ◌*◌, ◌≤◌}
use native.Mathlib.Omega.{arith}
use lib.Pow.{pow_mono}
use Rattle.jobs.specs.Jobs.{label_bytes}
use Rattle.jobs.proofs.label_bytes.Goals as goal

pub overflow_mul-result : goal.overflow_mul-result
overflow_mul-result c = let h : c.args.n ≤ 62 = omega (arith, c.requires) in omega (arith, c.nodes.ensures, pow_mono h)

pub returns : goal.returns
unfolding label_bytes
returns c = ap (λ (k : ℕ). 2 * k) c.nodes.ensures
