-- `row_byte`: of the two bytes of a node, low byte first, the even places have the first.
use mathlib.Core.Bool.{cond}
use Prim.Native.Nat.{ℕ, zero, suc, ◌/◌, ◌%◌, ◌<◌}
use native.Mathlib.Omega.{arith}
use lib.Dec.{eqb}
use Rattle.std.proofs.Common.{◌≡◌, refl, slice_index_or}
use Rattle.std.specs.Int.{to_le_bytes, w16}
use Rattle.hcube.specs.Answers.{row_byte}
use Rattle.hcube.proofs.row_byte.Goals as goal

two_bytes : (v b : ℕ) → b < 2 → slice_index_or (to_le_bytes w16 v) b 0 ≡ cond (eqb b 0) (v % 256) (v / 256 % 256)
two_bytes v zero h = refl
two_bytes v (suc zero) h = refl
two_bytes v (suc (suc b)) h = absurd (omega arith)

pub returns : goal.returns
unfolding row_byte
returns c = rw c.to_le_bytes.ensures (two_bytes _ (c.args.k % 2) (omega arith))
