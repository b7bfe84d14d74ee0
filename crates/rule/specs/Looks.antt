-- How many of its neighbours the test of a node looks at, lowest dimension first (RULES, Labels): no more than settle it. Proved in proofs/Looks.antt.
use Rattle.std.specs.Prelude.{Bool, true, ◌↔◌, ◌≡◌, ℕ, ◌≤◌, ◌<◌}
use Rattle.cube.specs.Count.{least, some}
use Rattle.cube.specs.Cube.{flip}
use Rattle.rule.specs.Rounds.{Unsafe}
use Rattle.rule.specs.Rule.{meets}

-- the test of the rule at x: the least number of neighbours that settles it, and n where no smaller one does. So many are enough where two of them do not
-- work, or k do not work or are marked: which is the rule, asked of so many dimensions
unfoldable pub looks : (n k : ℕ) (F m : ℕ → Bool) (x : ℕ) → ℕ
looks n k F m x = least n (λ j. meets j k F m x)

-- the test whether x has a neighbour in S: here one of them is enough
unfoldable pub looks_near : (n : ℕ) (S : ℕ → Bool) (x : ℕ) → ℕ
looks_near n S x = least n (λ j. some j (λ i. S (flip i x)))

-- one of the first j neighbours of x is in S
abbrev pub Near : (S : ℕ → Bool) (x j : ℕ) → Type 0
Near S x j = (i : ℕ) × (i < j) × (S (flip i x) ≡ true)

-- a test of a node holds or not, and so many neighbours were looked at. `Enough j` says that the first j of the n neighbours settle it
pub record Looked (n : ℕ) (Enough : ℕ → Type 0) (holds : Bool) (looked : ℕ) : Type 0 where
  pub verdict : (holds ≡ true) ↔ Enough n
  -- never more than n,
  pub within : looked ≤ n
  -- fewer only where these settle it,
  pub early : looked < n → Enough looked
  -- and as soon as they do: no fewer would
  pub soonest : (j : ℕ) → j < looked → Enough j → ⊥

pub record LooksLaws : Type 0 where
  pub rule : (n k : ℕ) (F m : ℕ → Bool) (x : ℕ) → Looked n (λ j. Unsafe j k F m x) (meets n k F m x) (looks n k F m x)
  pub near : (n : ℕ) (S : ℕ → Bool) (x : ℕ) → Looked n (Near S x) (some n (λ i. S (flip i x))) (looks_near n S x)
