-- One hop (RULES, One hop, Refusal numbers): the decision that Algorithm ROUTE takes at a node, and its refusals.
-- The decision is a function of n, c, d, c's own label and the labels of its n neighbours, and of nothing else: `hop` takes these from the labels
-- of all nodes. The question `hopped` is asked for a job of any label buffer: m is the buffer's length, j the job, and lab x the byte of node x in the
-- job's half.
use Rattle.std.specs.Prelude.{Bool, cond, not, ◌&&◌, ◌||◌, List, [], ◌∷◌, ◌++◌, ℕ, ◌^◌, eqb, leb, ltb, Result, Ok, Err}
use Rattle.cube.specs.Count.{some}
use Rattle.cube.specs.Cube.{dist, flip}
use Rattle.cube.specs.Refusal.{Test, first, ◌⇒◌}
use Rattle.cube.specs.Refused.{answered, refused}
use Rattle.cube.specs.Tables.{highest, is_dimension}
use Rattle.jobs.specs.Jobs.{is_job, label_bytes}
use Rattle.cube.specs.declared.refusals.Refusal.{Refusal}
use Rattle.scans.specs.Scans.{first_scan, lowest, no_scan}
use Rattle.hop.specs.declared.Decision.{Decision}
use Rattle.hop.specs.declared.Decision.TheVariants.{Deliver, Hop, Halted}

-- ---- the decision at c for the destination d. own is c's label, and near i the label of the neighbour across dimension i.

-- at distance l, where scan s picked dimension i
unfoldable pub answer : (l s i : ℕ) → Decision
answer l s i = cond (eqb l 0) Deliver (cond (ltb s no_scan) (Hop i) Halted)

unfoldable pub decide : (n c d own : ℕ) (near : ℕ → ℕ) → Decision
decide n c d own near = answer (dist c d) (first_scan n c d own near) (lowest n c d own near (first_scan n c d own near))

-- the decision with the labels lab
unfoldable pub hop : (n : ℕ) (lab : ℕ → ℕ) (c d : ℕ) → Decision
hop n lab c d = decide n c d (lab c) (λ i. lab (flip i c))

-- ---- the question

-- its refusals, by parts: of the dimension, the job and a label buffer of m bytes; of two nodes; of c's label and those of its neighbours, of which one may be
-- above the highest: at a faulty node nothing is decided, and at a draining one only that what is addressed to it has arrived
abbrev pub job_tests : (n j m : ℕ) → List Test
job_tests n j m =
    not (is_job j) ⇒ 19
    ∷ not (eqb m (label_bytes n)) ⇒ 2
    ∷ []

abbrev pub size_tests : (n j m : ℕ) → List Test
size_tests n j m = not (is_dimension n) ⇒ 1 ∷ job_tests n j m

abbrev pub node_tests : (n a b : ℕ) → List Test
node_tests n a b = (leb (2 ^ n) a || leb (2 ^ n) b) ⇒ 5 ∷ []

abbrev pub label_tests : (c d own : ℕ) (high : Bool) → List Test
label_tests c d own high =
    (ltb highest own || high) ⇒ 4
    ∷ eqb own 3 ⇒ 6
    ∷ (eqb own 4 && not (eqb c d)) ⇒ 6
    ∷ []

abbrev pub near_tests : (n c d own : ℕ) (near : ℕ → ℕ) → List Test
near_tests n c d own near = label_tests c d own (some n (λ i. ltb highest (near i)))

-- and in order: 1, 19, 2, 5, 4, 6
abbrev pub hop_tests : (n j c d m : ℕ) (lab : ℕ → ℕ) → List Test
hop_tests n j c d m lab = size_tests n j m ++ (node_tests n c d ++ near_tests n c d (lab c) (λ i. lab (flip i c)))

unfoldable pub hop_refusal : (n j c d m : ℕ) (lab : ℕ → ℕ) → ℕ
hop_refusal n j c d m lab = first (hop_tests n j c d m lab)

-- the answer: the decision, or the refusal
unfoldable pub hopped : (n j c d m : ℕ) (lab : ℕ → ℕ) → Result Decision Refusal
hopped n j c d m lab = answered (hop_refusal n j c d m lab) (hop n lab c d)

-- the numbers for the cases (RULES, To C)
abbrev pub decision_kind : Decision → ℕ
decision_kind Deliver = 0
decision_kind (Hop i) = 1
decision_kind Halted = 2

abbrev pub decision_value : Decision → ℕ
decision_value Deliver = 0
decision_value (Hop i) = i
decision_value Halted = 0

abbrev pub refusal_of : Result Decision Refusal → ℕ
refusal_of a = refused a

abbrev pub kind_of : Result Decision Refusal → ℕ
kind_of (Ok x) = decision_kind x
kind_of (Err r) = 0

abbrev pub value_of : Result Decision Refusal → ℕ
value_of (Ok x) = decision_value x
value_of (Err r) = 0
