-- The words that the demands share: of a cabinet that labelling accepts, of its nodes, and of the walks with its labels.
use Rattle.std.specs.Prelude.{false, ◌≢◌, ◌≡◌, ℕ, ◌+◌, ◌^◌, ◌<◌, get_or}
use Rattle.cube.specs.Tables.{label_in}
use Rattle.jobs.specs.Jobs.{label_bytes}
use Rattle.rule.specs.Cabinet.{Cabinet, faulty, labels_of, out}
use Rattle.labels.specs.Labelling.{label_refusal}
use Rattle.walk.specs.Walk.{row_bytes, walked}
use Rattle.walk.specs.declared.Walked.{Walked}

-- labelling accepts the cabinet for job j, with a label buffer of the right length
abbrev pub Accepted : (K : Cabinet) (j : ℕ) → Type 0
Accepted K j = label_refusal K j (label_bytes K.n) ≡ 0

-- x is a node that works
abbrev pub Works : (K : Cabinet) (x : ℕ) → Type 0
Works K x = (x < 2 ^ K.n) × (out K x ≡ false)

-- x is a node that takes the frames addressed to it: it works, or drains, and is neither faulty nor closed
abbrev pub Takes : (K : Cabinet) (x : ℕ) → Type 0
Takes K x = (x < 2 ^ K.n) × (faulty K x ≡ false)

-- the label byte that labelling writes for node x, in the half of its job
abbrev pub label_at : (K : Cabinet) (x : ℕ) → ℕ
label_at K = label_in (labels_of K)

-- some node of an n-cube is safe, by the labels lab
abbrev pub SomeSafe : (n : ℕ) (lab : ℕ → ℕ) → Type 0
SomeSafe n lab = (x : ℕ) × (x < 2 ^ n) × (lab x ≡ 0)

-- the walk's answer with those labels, for job j, and the node at place k of its row
abbrev pub walk_of : (K : Cabinet) (j s d : ℕ) → Walked
walk_of K j s d = walked K.n j s d (label_bytes K.n) row_bytes (label_at K)

abbrev pub place : Walked → ℕ → ℕ
place w k = get_or w.row k 0

-- "the places of a walk's row that are used (the first ones, one more than its hop count)" (RULES, No node twice), and that no node stands twice among them
abbrev pub used_places : Walked → ℕ
used_places w = w.hops + 1

abbrev pub NoneTwice : Walked → Type 0
NoneTwice w = (k m : ℕ) → k < m → m < used_places w → place w k ≢ place w m
