-- `set_bit` sets bit k mod 8 of byte k / 8, as `with_bit` does: `1 << (k % 8)` does not wrap in a byte.
use mathlib.Core.Path.{ap, ◌∙◌}
use Prim.Native.Nat.{ℕ, ◌/◌, ◌%◌}
use native.Mathlib.Nat.{one-mul}
use native.Mathlib.Omega.{arith}
use lib.Bits.{bit_or}
use lib.ListN.{set, get_or}
use lib.Pow.{shl_exact}
use Rattle.notice.specs.Addresses.{with_bit}
use Rattle.notice.proofs.set_bit.Goals as goal

pub returns : goal.returns
unfolding with_bit
returns c =
    let a = c.args in
    ap (λ (b : ℕ). set a.faults.now (a.k / 8) (bit_or (get_or a.faults.now (a.k / 8) 0) b))
    (shl_exact 1 (a.k % 8) 8 (omega arith) (omega arith) ∙ one-mul _)
