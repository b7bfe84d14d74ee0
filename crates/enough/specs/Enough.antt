-- How many nodes may be out of work and some node still be safe (RULES, When frames arrive): theorem 4 of Chiu and Wu 1994, which is for rule 3, and what the
-- older rule allows. Proved in proofs/Enough.antt and proofs/NotEnough.antt.
use Rattle.std.specs.Prelude.{Bool, true, cond, ◌⊎◌, ◌≡◌, ℕ, zero, suc, ◌+◌, ◌*◌, ◌/◌, ◌^◌, ◌≤◌, ◌<◌, eqb, ltb}
use Rattle.cube.specs.Count.{count, some}
use Rattle.cube.specs.Cube.{flip}
use Rattle.cube.specs.Tables.{label_in}
use Rattle.rule.specs.Cabinet.{Cabinet, labels_of, out}
use Rattle.rule.specs.Rule.{safe}

-- F are the nodes that do not work, whichever they are. By the rule k some node is safe
abbrev pub LeavesSafe : (n k : ℕ) (F : ℕ → Bool) → Type 0
LeavesSafe n k F = (x : ℕ) × (x < 2 ^ n) × (safe n k F x ≡ true)

pub record Enough (n : ℕ) (F : ℕ → Bool) : Type 0 where
  -- by rule 3, if fewer than n do not work;
  pub three : count (2 ^ n) F < n → LeavesSafe n 3 F
  -- by rule 2, if twice as many are fewer than n + 2
  pub two : 2 * count (2 ^ n) F < n + 2 → LeavesSafe n 2 F

-- ---- and with one more there may be none

-- the n neighbours of node 0
unfoldable pub beside_zero : (n : ℕ) (x : ℕ) → Bool
beside_zero n x = some n (λ i. eqb x (flip i 0))

-- node 0, and for each two dimensions the node across both from it, for the last of an odd n the node across that one: 0, 3, 12, 48, ..
unfoldable pub stone : (n k : ℕ) → ℕ
stone n zero = 0
stone n (suc k) = cond (ltb (suc (2 * k)) n) (flip (suc (2 * k)) (flip (2 * k) 0)) (flip (2 * k) 0)

unfoldable pub stones : (n : ℕ) (x : ℕ) → Bool
stones n x = some (suc ((n + 1) / 2)) (λ k. eqb x (stone n k))

pub record NotEnough (n : ℕ) : Type 0 where
  -- by rule 3: n of them, in every cube from n = 2 on;
  pub three_out : 2 ≤ n → count (2 ^ n) (beside_zero n) ≡ n
  pub three : 2 ≤ n → LeavesSafe n 3 (beside_zero n) → ⊥
  -- by rule 2: the least number of them whose double is not below n + 2, in every cube
  pub two_out : (n + 2 ≤ 2 * count (2 ^ n) (stones n)) × (2 * count (2 ^ n) (stones n) ≤ n + 3)
  pub two : LeavesSafe n 2 (stones n) → ⊥

-- ---- a cabinet, as one job has it

-- how many nodes are out of work: faulty, draining, or closed by the job
abbrev pub out_of_work : Cabinet → ℕ
out_of_work K = count (2 ^ K.n) (out K)

-- so few that some node is safe, by its rule
abbrev pub FewOut : Cabinet → Type 0
FewOut K = ((K.rule ≡ 3) × (out_of_work K < K.n)) ⊎ ((K.rule ≡ 2) × (2 * out_of_work K < K.n + 2))

-- and then a byte of its label table is 0
abbrev pub FewOutSafe : Type 0
FewOutSafe = (K : Cabinet) → FewOut K → (x : ℕ) × (x < 2 ^ K.n) × (label_in (labels_of K) x ≡ 0)
