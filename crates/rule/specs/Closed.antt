-- The sets of demand 2 (RULES, Labels), and that the safe nodes are the largest of them. Proved in proofs/Largest.antt.
use Rattle.std.specs.Prelude.{Bool, true, false, not, ◌≡◌, ℕ, ◌^◌, ◌≤◌, ◌<◌}
use Rattle.cube.specs.Count.{count}
use Rattle.cube.specs.Cube.{flip}
use Rattle.rule.specs.Rule.{safe}

-- H is a set of working nodes, each with at most one neighbour that does not work and fewer than k neighbours outside H
-- (k = 3: at most two)
pub record Closed (n k : ℕ) (F H : ℕ → Bool) : Type 0 where
  pub works : (x : ℕ) → x < 2 ^ n → H x ≡ true → F x ≡ false
  pub few_out : (x : ℕ) → x < 2 ^ n → H x ≡ true → count n (λ i. F (flip i x)) ≤ 1
  pub few_outside : (x : ℕ) → x < 2 ^ n → H x ≡ true → count n (λ i. not (H (flip i x))) < k

-- the safe nodes are such a set, and every such set is a part of it
pub record Largest (n k : ℕ) (F : ℕ → Bool) : Type 0 where
  pub closed : Closed n k F (safe n k F)
  pub largest : (H : ℕ → Bool) → Closed n k F H → (x : ℕ) → x < 2 ^ n → H x ≡ true → safe n k F x ≡ true
