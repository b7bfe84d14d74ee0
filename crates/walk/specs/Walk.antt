-- The walk (RULES, Walk): hops from the source until a decision is no hop. It is given place by place, for any way `go` of deciding at a node: `spot` is the
-- node after k hops from s and `turn` the decision there; the hop count, the row and the ending are read off them. The library's walk goes by the hop decision:
-- n is the dimension, lab the labels and d the destination. The question `walked` is asked for a job of any label buffer: m is the buffer's length, j the job,
-- and lab x the byte of node x in the job's half.
use Rattle.std.specs.Prelude.{Bool, true, false, cond, not, List, [], ◌∷◌, ◌++◌, ℕ, zero, suc, ◌+◌, ◌^◌, eqb, leb, ltb, replicate}
use Rattle.cube.specs.Count.{least, some}
use Rattle.cube.specs.Cube.{flip}
use Rattle.cube.specs.Refusal.{Test, first, ◌⇒◌}
use Rattle.cube.specs.Refused.{number, refusal}
use Rattle.cube.specs.declared.refusals.Refusal.TheVariants.{Hops}
use Rattle.cube.specs.Tables.{highest, tab}
use Rattle.hop.specs.Hop.{hop, node_tests, size_tests}
use Rattle.hop.specs.declared.Decision.{Decision}
use Rattle.hop.specs.declared.Decision.TheVariants.{Deliver, Hop, Halted}
use Rattle.walk.specs.declared.Ending.{Ending}
use Rattle.walk.specs.declared.Ending.TheVariants as ending
use Rattle.walk.specs.declared.Message.{Message}
use Rattle.walk.specs.declared.Walked.{Walked}

-- where a decision at x leads
unfoldable pub onto : Decision → ℕ → ℕ
onto Deliver x = x
onto (Hop i) x = flip i x
onto Halted x = x

-- a decision that is no hop ends the walk
unfoldable pub stops : Decision → Bool
stops Deliver = true
stops (Hop i) = false
stops Halted = true

-- the node after k hops
unfoldable pub spot : (go : ℕ → Decision) (s k : ℕ) → ℕ
spot go s zero = s
spot go s (suc k) = let x : ℕ = spot go s k in onto (go x) x

-- the decision after k hops
unfoldable pub turn : (go : ℕ → Decision) (s k : ℕ) → Decision
turn go s k = go (spot go s k)

-- how many hops: up to the first decision that is no hop, and at most n + 4
unfoldable pub hops : (n : ℕ) (go : ℕ → Decision) (s : ℕ) → ℕ
hops n go s = least (n + 4) (λ k. stops (turn go s k))

-- the decision after the last hop
unfoldable pub last : (n : ℕ) (go : ℕ → Decision) (s : ℕ) → Decision
last n go s = turn go s (hops n go s)

-- the 17 places of the row: the nodes visited, and zeros
unfoldable pub row : (n : ℕ) (go : ℕ → Decision) (s : ℕ) → List ℕ
row n go s = tab 17 (λ k. cond (leb k (hops n go s)) (spot go s k) 0)

-- the hop decision on the way to d
abbrev pub route : (n : ℕ) (lab : ℕ → ℕ) (d : ℕ) → ℕ → Decision
route n lab d x = hop n lab x d

-- ---- the question

-- the bytes of a row that is lent: two for each place
abbrev pub row_bytes : ℕ
row_bytes = 34

-- the refusals that the labels of the job's half give: no walk begins at a node that does not work, and none goes to a faulty one
abbrev pub table_tests : (n s d : ℕ) (lab : ℕ → ℕ) → List Test
table_tests n s d lab =
    some (2 ^ n) (λ x. ltb highest (lab x)) ⇒ 4
    ∷ leb 3 (lab s) ⇒ 6
    ∷ eqb (lab d) 3 ⇒ 7
    ∷ []

-- that of a walk that goes on after n + 4 hops
abbrev pub hops_tests : (n s d : ℕ) (lab : ℕ → ℕ) → List Test
hops_tests n s d lab = not (stops (last n (route n lab d) s)) ⇒ 8 ∷ []

-- all of them in order, 1, 19, 2 (labels, then row), 5, 4, 6, 7, 8, for a caller who lends a row of `room` bytes
abbrev pub walk_tests : (n j s d m room : ℕ) (lab : ℕ → ℕ) → List Test
walk_tests n j s d m room lab =
    size_tests n j m ++ (not (eqb room row_bytes) ⇒ 2 ∷ node_tests n s d)
    ++ (table_tests n s d lab ++ hops_tests n s d lab)

unfoldable pub walk_refusal : (n j s d m room : ℕ) (lab : ℕ → ℕ) → ℕ
walk_refusal n j s d m room lab = first (walk_tests n j s d m room lab)

-- how a walk ends, by its last decision. (One whose last decision is a hop is refused, by the table.)
abbrev pub ending_of : Decision → Ending
ending_of Deliver = ending.Delivered
ending_of (Hop i) = ending.Refused Hops
ending_of Halted = ending.Halted

-- the answer: the walk, or the refusal, which has hop count 0 and a row of zeros
unfoldable pub walk_from : (n : ℕ) (go : ℕ → Decision) (s : ℕ) → Walked
walk_from n go s = record { row = row n go s; hops = hops n go s; ending = ending_of (last n go s) }

unfoldable pub refused : ℕ → Walked
refused k = record { row = replicate 17 0; hops = 0; ending = ending.Refused (refusal k) }

unfoldable pub walked : (n j s d m room : ℕ) (lab : ℕ → ℕ) → Walked
walked n j s d m room lab = cond (eqb (walk_refusal n j s d m room lab) 0) (walk_from n (route n lab d) s) (refused (walk_refusal n j s d m room lab))

-- the travelling message one hop on, across dimension i
unfoldable pub moved : Message → ℕ → Message
moved m i = record { at = flip i m.at; to = m.to; hops = m.hops + 1 }

-- the numbers for the cases (RULES, To C); the value is the hop count
abbrev pub refusal_of : Ending → ℕ
refusal_of ending.Delivered = 0
refusal_of ending.Halted = 0
refusal_of (ending.Refused r) = number r

abbrev pub kind_of : Ending → ℕ
kind_of ending.Delivered = 0
kind_of ending.Halted = 1
kind_of (ending.Refused r) = 0
