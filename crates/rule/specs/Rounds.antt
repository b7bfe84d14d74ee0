-- The rounds in the words of RULES (Labels), that they come to rest, and that `rounds` says when. Proved in proofs/Rounds.antt.
use Rattle.std.specs.Prelude.{Bool, true, false, ◌||◌, ◌⊎◌, ◌↔◌, ◌≡◌, ℕ, suc, ◌^◌, ◌≤◌, ◌<◌}
use Rattle.cube.specs.Count.{count}
use Rattle.cube.specs.Cube.{flip}
use Rattle.rule.specs.Rule.{marked, rounds, working}

-- "two or more neighbours that do not work, or k or more that do not work or are unsafe", with the marks m
abbrev pub Unsafe : (n k : ℕ) (F m : ℕ → Bool) (x : ℕ) → Type 0
Unsafe n k F m x = (2 ≤ count n (λ i. F (flip i x))) ⊎ (k ≤ count n (λ i. F (flip i x) || m (flip i x)))

pub record Marks (n k : ℕ) (F : ℕ → Bool) : Type 0 where
  -- "Round 0 has no unsafe node"
  pub none : (x : ℕ) → marked n k F 0 x ≡ false
  -- "Round r + 1 marks each working node that meets the rule with the marks of round r", and the marks stay
  pub next : (r x : ℕ) → (marked n k F (suc r) x ≡ true) ↔ ((marked n k F r x ≡ true) ⊎ ((F x ≡ false) × Unsafe n k F (marked n k F r) x))

-- round r + 1 brings something new: it marks some node that had no mark;
abbrev pub BringsNew : (n k : ℕ) (F : ℕ → Bool) (r : ℕ) → Type 0
BringsNew n k F r = (x : ℕ) × (x < 2 ^ n) × (marked n k F r x ≡ false) × (marked n k F (suc r) x ≡ true)

-- it brings nothing new: it leaves every node as it was
abbrev pub BringsNothing : (n k : ℕ) (F : ℕ → Bool) (r : ℕ) → Type 0
BringsNothing n k F r = (x : ℕ) → x < 2 ^ n → marked n k F (suc r) x ≡ marked n k F r x

pub record Rested (n k : ℕ) (F : ℕ → Bool) : Type 0 where
  -- each of so many rounds marks some node that had no mark,
  pub loud : (r : ℕ) → r < rounds n k F → BringsNew n k F r
  -- the next one marks nothing new, and no later one does,
  pub still : (r : ℕ) → rounds n k F ≤ r → BringsNothing n k F r
  -- and they are no more than the working nodes
  pub ceiling : rounds n k F ≤ working n F
