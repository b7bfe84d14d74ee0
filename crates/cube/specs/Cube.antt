-- The cube (RULES, What is built): its nodes are the numbers below 2 ^ n, and crossing dimension i changes bit i.
use Rattle.std.specs.Prelude.{Bool, ℕ, ◌/◌, ◌%◌, ◌^◌, eqb}
use Rattle.std.specs.Int.Bits.{bit_xor}
use Rattle.std.specs.Int.Count.{ones}

-- bit i of x
unfoldable pub bit : ℕ → ℕ → Bool
bit i x = eqb (x / 2 ^ i % 2) 1

-- the neighbour of x across dimension i
unfoldable pub flip : ℕ → ℕ → ℕ
flip i x = bit_xor x (2 ^ i)

-- x and y differ in dimension i: a forward dimension; the others are spare
unfoldable pub apart : ℕ → ℕ → ℕ → Bool
apart i x y = bit i (bit_xor x y)

-- the Hamming distance: the count of ones in the exclusive-or of two numbers
unfoldable pub dist : ℕ → ℕ → ℕ
dist x y = ones (bit_xor x y)
