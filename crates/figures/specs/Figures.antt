-- What the tally counts (RULES, The tally): the fault tables of an n-cube, the figures of one table, and those of all tables with one number of faults.
use Rattle.std.specs.Prelude.{Bool, true, false, cond, not, ◌&&◌, List, [], ◌∷◌, ℕ, zero, suc, ◌+◌, ◌*◌, ◌/◌, ◌%◌, ◌^◌, eqb, get_or}
use Rattle.cube.specs.Count.{count, some}
use Rattle.cube.specs.Cube.{dist}
use Rattle.cube.specs.Tables.{tab, table_len}
use Rattle.rule.specs.Cabinet.{Cabinet, faulty, out, plain}
use Rattle.walk.specs.declared.Ending.{Ending}
use Rattle.walk.specs.declared.Ending.TheVariants as ending
use Rattle.walk.specs.declared.Walked.{Walked}
use Rattle.theorems.specs.Words.{label_at, walk_of}
use Rattle.figures.specs.Sum.{sum}

-- ---- the tables: there are 2 ^ (2 ^ n), and they are numbered

abbrev pub tables : (n : ℕ) → ℕ
tables n = 2 ^ (2 ^ n)

-- the k low bytes of a number, the lowest first
unfoldable pub bytes_of : (k t : ℕ) → List ℕ
bytes_of zero t = []
bytes_of (suc k) t = t % 256 ∷ bytes_of k (t / 256)

-- table t is the number t in bytes: node x is faulty where bit x of t is set
abbrev pub table_of : (n t : ℕ) → List ℕ
table_of n t = bytes_of (table_len n) t

-- "under rule 3, no draining, nothing closed"
abbrev pub cube_of : (n t : ℕ) → Cabinet
cube_of n t = plain n 3 (table_of n t)

-- ---- the figures of one table

abbrev pub faults_of : Cabinet → ℕ
faults_of K = count (2 ^ K.n) (faulty K)

abbrev pub any_safe : Cabinet → Bool
any_safe K = some (2 ^ K.n) (λ x. eqb (label_at K x) 0)

-- how many "ordered pairs of working nodes" have p: to each working source each working node is a destination, the source too
unfoldable pub pairs : (K : Cabinet) (p : ℕ → ℕ → Bool) → ℕ
pairs K p = sum (2 ^ K.n) (λ s. cond (out K s) 0 (count (2 ^ K.n) (λ d. not (out K d) && p s d)))

abbrev pub is_delivered : Ending → Bool
is_delivered ending.Delivered = true
is_delivered ending.Halted = false
is_delivered (ending.Refused k) = false

abbrev pub is_halted : Ending → Bool
is_halted ending.Delivered = false
is_halted ending.Halted = true
is_halted (ending.Refused k) = false

-- the four kinds of a walk between nodes that are l apart: 0, 1 and 2 were "delivered with 0, 2 and 4 extra hops", 3 "halted"
unfoldable pub is_kind : (k : ℕ) (w : Walked) (l : ℕ) → Bool
is_kind k w l = cond (eqb k 3) (is_halted w.ending) (is_delivered w.ending && eqb w.hops (l + 2 * k))

-- the walk from s to d, which is one of job 0, is of kind k
abbrev pub goes : (K : Cabinet) (k s d : ℕ) → Bool
goes K k s d = is_kind k (walk_of K 0 s d) (dist s d)

abbrev pub walks_of : (K : Cabinet) (k : ℕ) → ℕ
walks_of K k = pairs K (goes K k)

-- what a table adds to the line of its number of faults: "tables, tables with no safe node, walks .. delivered with 0, 2 and 4 extra hops, walks halted"
unfoldable pub figures : Cabinet → List ℕ
figures K = 1 ∷ cond (any_safe K) 0 1 ∷ walks_of K 0 ∷ walks_of K 1 ∷ walks_of K 2 ∷ walks_of K 3 ∷ []

abbrev pub figure : (c : ℕ) → Cabinet → ℕ
figure c K = get_or (figures K) c 0

-- ---- the figures of all tables

abbrev pub columns : ℕ
columns = 6

-- number c in the line of m faults: what table t adds to it, its figure if it has so many faults, and the sum over all tables
abbrev pub adds : (n m c t : ℕ) → ℕ
adds n m c t = cond (eqb (faults_of (cube_of n t)) m) (figure c (cube_of n t)) 0

unfoldable pub total : (n m c : ℕ) → ℕ
total n m c = sum (tables n) (adds n m c)

-- the counters of a dimension: six for each number of faults, 0 to 2 ^ n, line by line
abbrev pub counters_of : (n : ℕ) → ℕ
counters_of n = columns * (2 ^ n + 1)

unfoldable pub tally_of : (n : ℕ) → List ℕ
tally_of n = tab (counters_of n) (λ i. total n (i / columns) (i % columns))
