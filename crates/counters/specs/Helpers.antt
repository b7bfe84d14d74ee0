-- What the functions behind `tally` say: numbers that are added to lent counters, and what they may assume of the table that they count.
use Rattle.std.specs.Prelude.{cond, not, ◌&&◌, List, ◌≡◌, ℕ, ◌+◌, ◌/◌, ◌%◌, ◌^◌, ◌≤◌, ◌<◌, get_or, length}
use Rattle.cube.specs.Count.{count, least}
use Rattle.cube.specs.Tables.{tab}
use Rattle.jobs.specs.Jobs.{half, label_bytes, label_for}
use Rattle.rule.specs.Cabinet.{Cabinet, labels_of, out, plain}
use Rattle.walk.specs.Walk.{row_bytes, walked}
use Rattle.walk.specs.declared.Walked.{Walked}
use Rattle.theorems.specs.Words.{Accepted}
use Rattle.figures.specs.Figures.{adds, columns, goes, is_kind}
use Rattle.figures.specs.Sum.{sum}
use Rattle.counters.specs.declared.WalkKind.{WalkKind}
use Rattle.counters.specs.declared.WalkKind.TheVariants.{FourMore, Halted, Least, TwoMore}

-- m counters l, with f i added to each
unfoldable pub plus : (m : ℕ) (f : ℕ → ℕ) (l : List ℕ) → List ℕ
plus m f l = tab m (λ i. get_or l i 0 + f i)

-- what table t of an n-cube adds to counter i
abbrev pub table_adds : (n t i : ℕ) → ℕ
table_adds n t i = adds n (i / columns) (i % columns) t

-- l are m counters to which b can be added without overflow
pub record Room (m b : ℕ) (l : List ℕ) : Type 0 where
  pub sized : length l ≡ m
  pub below : (i : ℕ) → get_or l i 0 + b < 2 ^ 32

-- the label buffer holds, as job 0's, the labels of the fault table, which labelling accepts for a cube that is tallied
pub record Tallying (n : ℕ) (faults labels : List ℕ) : Type 0 where
  pub small : (1 ≤ n) × (n ≤ 4)
  pub accepted : Accepted (plain n 3 faults) 0
  pub sized : length labels ≡ label_bytes n
  pub labelled : half 0 (2 ^ n) labels ≡ labels_of (plain n 3 faults)

-- of the walks of kind k, those from s to working nodes below m, and those of the working sources below m
abbrev pub walks_to : (K : Cabinet) (s m k : ℕ) → ℕ
walks_to K s m k = count m (λ d. not (out K d) && goes K k s d)

abbrev pub walks_from : (K : Cabinet) (m k : ℕ) → ℕ
walks_from K m k = sum m (λ s. cond (out K s) 0 (walks_to K s (2 ^ K.n) k))

-- the walk that job 0 goes with a label buffer
abbrev pub walk_in : (n s d : ℕ) (labels : List ℕ) → Walked
walk_in n s d labels = walked n 0 s d (length labels) row_bytes (label_for n 0 labels)

-- the place of a kind's counter
abbrev pub place : WalkKind → ℕ
place Least = 0
place TwoMore = 1
place FourMore = 2
place Halted = 3

-- the least kind that a walk between nodes that are l apart has
unfoldable pub kind_of : (w : Walked) (l : ℕ) → ℕ
kind_of w l = least 4 (λ k. is_kind k w l)
