-- The four facts of a label table (RULES, Labels) on which all routing rests: 0 safe, 1 ordinarily unsafe, 2 strongly unsafe, 3 and more not working; and that
-- the labels have them. Proved in proofs/Good.antt.
use Rattle.std.specs.Prelude.{Bool, true, ◌≡◌, ℕ, ◌^◌, ◌≤◌, ◌<◌, leb}
use Rattle.cube.specs.Count.{count}
use Rattle.cube.specs.Cube.{flip}
use Rattle.rule.specs.Rule.{label}

pub record Good (n : ℕ) (lab : ℕ → ℕ) : Type 0 where
  -- a safe node has at most one neighbour that does not work, and at most two that are not safe
  pub few_out : (x : ℕ) → x < 2 ^ n → lab x ≡ 0 → count n (λ i. leb 3 (lab (flip i x))) ≤ 1
  pub few_unsafe : (x : ℕ) → x < 2 ^ n → lab x ≡ 0 → count n (λ i. leb 1 (lab (flip i x))) ≤ 2
  -- an ordinarily unsafe node has a safe neighbour, a strongly unsafe one has none
  pub ordinary : (x : ℕ) → x < 2 ^ n → lab x ≡ 1 → (i : ℕ) × (i < n) × (lab (flip i x) ≡ 0)
  pub strong : (x i : ℕ) → x < 2 ^ n → i < n → lab x ≡ 2 → lab (flip i x) ≡ 0 → ⊥

-- the labels are good, for any rule number up to 3, any nodes that do not work, and any bytes of 3 and more for these
abbrev pub LabelsGood : Type 0
LabelsGood = (n k : ℕ) (F : ℕ → Bool) (byte : ℕ → ℕ) → ((x : ℕ) → F x ≡ true → 3 ≤ byte x) → k ≤ 3 → Good n (label n k F byte)
