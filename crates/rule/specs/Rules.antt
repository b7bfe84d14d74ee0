-- The two rules (RULES, Labels), 2 of Lee and Hayes and 3 of Chiu and Wu: what one rule's labels say of the other's. F are the nodes that do not work.
-- Proved in proofs/Rules.antt.
use Rattle.std.specs.Prelude.{Bool, true, false, ◌⊎◌, ◌≡◌, ℕ, ◌^◌, ◌≤◌, ◌<◌}
use Rattle.cube.specs.Cube.{flip}
use Rattle.rule.specs.Rule.{label, safe}

pub record Rules (n : ℕ) (F : ℕ → Bool) : Type 0 where
  -- "a node safe with 2 is safe with 3": of any two numbers, a node that is safe with the lower is safe with the higher,
  pub safe_stays : (j k : ℕ) → j ≤ k → (x : ℕ) → x < 2 ^ n → safe n j F x ≡ true → safe n k F x ≡ true
  -- and no node's label is larger with the higher
  pub label_falls : (j k : ℕ) → j ≤ k → (byte : ℕ → ℕ) (x : ℕ) → x < 2 ^ n → label n k F byte x ≤ label n j F byte x
  -- with rule 2, where some node is safe each node is safe or has a safe neighbour,
  pub near_safe :
      (s : ℕ) → s < 2 ^ n → safe n 2 F s ≡ true
      → (x : ℕ) → x < 2 ^ n → (safe n 2 F x ≡ true) ⊎ ((i : ℕ) × (i < n) × (safe n 2 F (flip i x) ≡ true))
  -- so that no working node is strongly unsafe
  pub none_strong :
      (s : ℕ) → s < 2 ^ n → safe n 2 F s ≡ true → (byte : ℕ → ℕ) (x : ℕ) → x < 2 ^ n → F x ≡ false → label n 2 F byte x ≤ 1
