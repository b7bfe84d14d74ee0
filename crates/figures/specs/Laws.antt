-- What is true of the figures (RULES, The tally), in cubes of every dimension that the library takes. Proved in proofs/.
use Rattle.std.specs.Prelude.{List, ◌≡◌, ℕ, zero, suc, ◌+◌, ◌-◌, ◌*◌, ◌^◌, ◌<◌, eqb, get_or}
use Rattle.cube.specs.Count.{count}
use Rattle.cube.specs.Cube.{bit, dist}
use Rattle.rule.specs.Cabinet.{faulty, plain}
use Rattle.walk.specs.declared.Walked.{Walked}
use Rattle.theorems.specs.Words.{Accepted, Works, walk_of}
use Rattle.figures.specs.Figures.{cube_of, faults_of, is_kind, tables, table_of, total}
use Rattle.figures.specs.Sum.{sum}

-- "the tables counted are all tables": each number below 2 ^ (2 ^ n) is one that labelling takes, and each that it takes has one such number
pub record AllTables (n : ℕ) : Type 0 where
  pub accepted : (t : ℕ) → t < tables n → Accepted (cube_of n t) 0
  pub every : (faults : List ℕ) → ((i : ℕ) → get_or faults i 0 < 256) → Accepted (plain n 3 faults) 0 → (t : ℕ) × (t < tables n) × (table_of n t ≡ faults)
  pub once : (t u : ℕ) → t < tables n → u < tables n → table_of n t ≡ table_of n u → t ≡ u
  -- node x is faulty in the table whose number has bit x
  pub node : (t x : ℕ) → x < 2 ^ n → faulty (cube_of n t) x ≡ bit x t

-- a walk between nodes that are l apart "falls in exactly one of the four"
abbrev pub OneKind : (w : Walked) (l : ℕ) → Type 0
OneKind w l = count 4 (λ k. is_kind k w l) ≡ 1

-- how many sets of m there are among k
unfoldable pub choose : (k m : ℕ) → ℕ
choose k zero = 1
choose zero (suc m) = 0
choose (suc k) (suc m) = choose k m + choose k (suc m)

pub record Sums (n : ℕ) : Type 0 where
  pub one_kind :
      (t : ℕ) → t < tables n → (s d : ℕ) → Works (cube_of n t) s → Works (cube_of n t) d
      → OneKind (walk_of (cube_of n t) 0 s d) (dist s d)
  -- "the four walk counts sum to tables × working × working for every number of faults",
  pub walks : (m : ℕ) → total n m 2 + total n m 3 + total n m 4 + total n m 5 ≡ total n m 0 * (2 ^ n - m) * (2 ^ n - m)
  -- "where tables is the number of fault tables with that many faults":
  pub tables_with : (m : ℕ) → total n m 0 ≡ count (tables n) (λ t. eqb (faults_of (cube_of n t)) m)
  pub chosen : (m : ℕ) → total n m 0 ≡ choose (2 ^ n) m
  -- "their sum over the faults is 2^(2^n)"
  pub all : sum (2 ^ n + 1) (λ m. total n m 0) ≡ 2 ^ (2 ^ n)
  -- with fewer faults than the cube has dimensions some node is safe in every table, and no walk halts
  pub few_safe : (m : ℕ) → m < n → total n m 1 ≡ 0
  pub few_arrive : (m : ℕ) → m < n → total n m 5 ≡ 0
