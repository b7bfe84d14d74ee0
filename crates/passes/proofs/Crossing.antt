-- A loop over the dimensions that doubles a bit beside them: at dimension i the bit is 2 ^ i, so the node that differs from x in this bit is its neighbour.
use mathlib.Core.Path.{◌≡◌, ap}
use Prim.Native.Nat.{ℕ, ◌+◌, ◌*◌, ◌^◌}
use lib.Bits.{bit_xor}
use lib.Pow.{pow-add}
use Rattle.cube.specs.Cube.{flip}

module _ (i bit : ℕ) (e : bit ≡ 2 ^ i) where
  pub across : (x : ℕ) → bit_xor x bit ≡ flip i x
  unfolding flip
  across x = ap (bit_xor x) e

  pub doubled : bit * 2 ≡ 2 ^ (i + 1)
  doubled = rw (pow-add 2 i 1, e)
