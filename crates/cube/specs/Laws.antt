-- What RULES says of the cube (What is built), as laws of its definitions. Proved in proofs/Laws.antt.
use Rattle.std.specs.Prelude.{true, not, ◌≢◌, ◌↔◌, ◌≡◌, ℕ, ◌^◌, ◌<◌}
use Rattle.cube.specs.Count.{count}
use Rattle.cube.specs.Cube.{apart, bit, dist, flip}

pub record CubeLaws : Type 0 where
  -- neighbours across dimension i differ in bit i,
  pub crossed : (i x : ℕ) → bit i (flip i x) ≡ not (bit i x)
  -- and in no other;
  pub kept : (i j x : ℕ) → j ≢ i → bit j (flip i x) ≡ bit j x
  -- and nodes whose numbers differ in bit i and in no other are neighbours across it
  pub only :
      (n i x y : ℕ) → x < 2 ^ n → y < 2 ^ n → i < n → bit i x ≢ bit i y → ((j : ℕ) → j < n → j ≢ i → bit j x ≡ bit j y)
      → y ≡ flip i x
  -- a dimension in which two nodes differ is one in which their bits do
  pub differ : (i x y : ℕ) → (apart i x y ≡ true) ↔ (bit i x ≢ bit i y)
  -- the count of ones in the exclusive-or of two nodes is the number of dimensions in which they differ
  pub distance : (n x y : ℕ) → x < 2 ^ n → y < 2 ^ n → dist x y ≡ count n (λ i. apart i x y)
  -- and the neighbour across dimension i is the node that differs in it and is at distance 1
  pub one : (i x y : ℕ) → (flip i x ≡ y) ↔ ((apart i x y ≡ true) × (dist x y ≡ 1))
