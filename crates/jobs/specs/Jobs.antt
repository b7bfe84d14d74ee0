-- Two jobs on one cabinet (RULES, Tables and the notice): "both label tables stand in one lent buffer, job 0 first". Where m is the length of a label table,
-- the half of job j is the m bytes of the buffer l from j * m on.
use Rattle.std.specs.Prelude.{Bool, List, ◌++◌, ◌≡◌, ℕ, ◌*◌, ◌^◌, ◌≤◌, ◌<◌, ltb, drop, take}
use Rattle.cube.specs.Tables.{label_in}

-- a job is 0 or 1
unfoldable pub is_job : ℕ → Bool
is_job j = ltb j 2

-- the bytes of a label buffer of an n-cube: both halves
unfoldable pub label_bytes : ℕ → ℕ
label_bytes n = 2 * 2 ^ n

-- the half of job j
unfoldable pub half : (j m : ℕ) (l : List ℕ) → List ℕ
half j m l = take m (drop (j * m) l)

-- the buffer l with the table h as the half of job j: what stands before that half, h, and what stands behind it
unfoldable pub with_half : (j m : ℕ) (h l : List ℕ) → List ℕ
with_half j m h l = take (j * m) l ++ (h ++ drop m (drop (j * m) l))

-- the label of node x that job j has in the label buffer l of an n-cube
abbrev pub label_for : (n j : ℕ) (l : List ℕ) (x : ℕ) → ℕ
label_for n j l = label_in (half j (2 ^ n) l)

-- a buffer of m bytes has a half of job j for an n-cube: what the functions that take it apart may assume
pub record Halved (n j m : ℕ) : Type 0 where
  pub small : n ≤ 12
  pub job : j < 2
  pub sized : m ≡ label_bytes n
