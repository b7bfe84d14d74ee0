-- What it means that the scans pick a dimension (RULES, One hop), with the labels lab. Proved of `first_scan` and `lowest` in proofs/Picking.antt.
use Rattle.std.specs.Prelude.{ℕ, ◌<◌}
use Rattle.scans.specs.Hit.{Hit}

-- scan s hits no dimension
abbrev pub Misses : (n : ℕ) (lab : ℕ → ℕ) (c d s : ℕ) → Type 0
Misses n lab c d s = (j : ℕ) → j < n → ¬ (Hit lab c d s j)

-- scan s picks dimension i: it hits it and no lower one, and no earlier scan hits any
pub record Picks (n : ℕ) (lab : ℕ → ℕ) (c d s i : ℕ) : Type 0 where
  pub dimension : i < n
  pub hits : Hit lab c d s i
  pub lowest : (j : ℕ) → j < i → ¬ (Hit lab c d s j)
  pub earlier : (t : ℕ) → t < s → Misses n lab c d t

-- no scan picks
abbrev pub NonePicks : (n : ℕ) (lab : ℕ → ℕ) (c d : ℕ) → Type 0
NonePicks n lab c d = (s : ℕ) → Misses n lab c d s
