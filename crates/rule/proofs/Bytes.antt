-- What a label byte says, over any set S of safe nodes that work: every node has one of the four labels, 0 stands exactly at the nodes of
-- S and `byte` exactly at those that do not work, 1 has a neighbour in S and 2 has none. `label_of` goes by these very tests.
use mathlib.Core.Path.{◌≡◌}
use mathlib.Core.Logic.{◌⊎◌, inl, inr}
use mathlib.Core.Bool.{Bool, true, false}
use Prim.Native.Nat.{ℕ, ◌^◌, ◌≤◌, ◌<◌}
use native.Mathlib.Omega.{arith}
use Rattle.cube.specs.Count.{some}
use Rattle.cube.specs.Cube.{flip}
use Rattle.cube.proofs.Bools.{either, clash}
use Rattle.cube.proofs.Search.{some_found, none_some}
use Rattle.rule.specs.Rule.{label_of}

module _ (n : ℕ) (F : ℕ → Bool) (byte : ℕ → ℕ) (S : ℕ → Bool) where
  pub data Label (x : ℕ) : Type 0 where
    is-out : F x ≡ true → label_of n F byte S x ≡ byte x → Label x
    is_safe : F x ≡ false → S x ≡ true → label_of n F byte S x ≡ 0 → Label x
    is-ordinary : F x ≡ false → S x ≡ false → (i : ℕ) → i < n → S (flip i x) ≡ true → label_of n F byte S x ≡ 1 → Label x
    is_strong : F x ≡ false → S x ≡ false → ((i : ℕ) → i < n → S (flip i x) ≡ false) → label_of n F byte S x ≡ 2 → Label x

  -- every node has one of the four labels
  pub four : (x : ℕ) → Label x
  unfolding label_of
  four x = go (either (F x)) (either (S x)) (either (some n (λ i. S (flip i x))))
    where
      go : (F x ≡ true) ⊎ (F x ≡ false) → (S x ≡ true) ⊎ (S x ≡ false)
          → (some n (λ i. S (flip i x)) ≡ true) ⊎ (some n (λ i. S (flip i x)) ≡ false) → Label x
      go (inl a) _ _ = is-out a (rw (a, label_of))
      go (inr a) (inl b) _ = is_safe a b (rw (a, label_of, b))
      go (inr a) (inr b) (inl c) = let r = some_found n (λ i. S (flip i x)) c in is-ordinary a b r.0 r.1 r.2 (rw (a, label_of, b, c))
      go (inr a) (inr b) (inr c) = is_strong a b (none_some n (λ i. S (flip i x)) c) (rw (a, label_of, b, c))

  -- a node that does not work has its own byte
  pub out-byte : (x : ℕ) → F x ≡ true → label_of n F byte S x ≡ byte x
  unfolding label_of
  out-byte x e = rw (e, label_of)

  pub bytes_le : (m : ℕ) → 2 ≤ m → (x : ℕ) → byte x ≤ m → label_of n F byte S x ≤ m
  bytes_le m h x l = go (four x)
    where
      go : Label x → label_of n F byte S x ≤ m
      go (is-out a b) = omega arith
      go (is_safe a b c) = omega arith
      go (is-ordinary a b i j s c) = omega arith
      go (is_strong a b f c) = omega arith

  module _ (works : (x : ℕ) → x < 2 ^ n → S x ≡ true → F x ≡ false) (high : (x : ℕ) → F x ≡ true → 3 ≤ byte x) where
    pub zero_safe : (x : ℕ) → label_of n F byte S x ≡ 0 → S x ≡ true
    zero_safe x e = go (four x)
      where
        go : Label x → S x ≡ true
        go (is-out a b) = absurd (omega (arith, high x a))
        go (is_safe a b c) = b
        go (is-ordinary a b i h s c) = absurd (omega arith)
        go (is_strong a b f c) = absurd (omega arith)

    pub safe_zero : (x : ℕ) → x < 2 ^ n → S x ≡ true → label_of n F byte S x ≡ 0
    safe_zero x h e = go (four x)
      where
        go : Label x → label_of n F byte S x ≡ 0
        go (is-out a b) = absurd (clash a (works x h e))
        go (is_safe a b c) = c
        go (is-ordinary a b i l s c) = absurd (clash e b)
        go (is_strong a b f c) = absurd (clash e b)

    -- a byte of 3 or more is that of a node that does not work
    pub byte_out : (x : ℕ) → 3 ≤ label_of n F byte S x → F x ≡ true
    byte_out x l = go (four x)
      where
        go : Label x → F x ≡ true
        go (is-out a b) = a
        go (is_safe a b c) = absurd (omega arith)
        go (is-ordinary a b i h s c) = absurd (omega arith)
        go (is_strong a b f c) = absurd (omega arith)

    -- an ordinarily unsafe node has a safe neighbour,
    pub ordinary_near : (x : ℕ) → label_of n F byte S x ≡ 1 → (i : ℕ) × (i < n) × (S (flip i x) ≡ true)
    ordinary_near x e = go (four x)
      where
        go : Label x → (i : ℕ) × (i < n) × (S (flip i x) ≡ true)
        go (is-out a b) = absurd (omega (arith, high x a))
        go (is_safe a b c) = absurd (omega arith)
        go (is-ordinary a b i h s c) = (i, h, s)
        go (is_strong a b f c) = absurd (omega arith)

    -- a strongly unsafe one has none
    pub strong_none : (x : ℕ) → label_of n F byte S x ≡ 2 → (i : ℕ) → i < n → S (flip i x) ≡ false
    strong_none x e = go (four x)
      where
        go : Label x → (i : ℕ) → i < n → S (flip i x) ≡ false
        go (is-out a b) = absurd (omega (arith, high x a))
        go (is_safe a b c) = absurd (omega arith)
        go (is-ordinary a b i h s c) = absurd (omega arith)
        go (is_strong a b f c) = f
