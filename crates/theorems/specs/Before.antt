-- What the library answered before there were draining nodes and jobs (RULES, Which nodes work), by the definitions that stood then: labelling was lent the
-- fault table alone and one label table, 3 was the highest label, and nothing came before scan 1. A board on which no node drains and the job closes none
-- is answered, in the half of its job, as before. Proved in proofs/Before.antt and proofs/BeforeLabels.antt.
use Rattle.std.specs.Prelude.{Bool, true, false, cond, not, ◌&&◌, ◌||◌, List, [], ◌∷◌, ◌++◌, ◌≢◌, ◌≡◌, ℕ, ◌*◌, ◌^◌, eqb, leb, ltb, get_or, length, Result}
use Rattle.std.specs.Bool.{beq}
use Rattle.cube.specs.Count.{least, some}
use Rattle.cube.specs.Cube.{apart, dist, flip}
use Rattle.cube.specs.Refusal.{Test, first, ◌⇒◌}
use Rattle.cube.specs.Refused.{answered}
use Rattle.cube.specs.declared.refusals.Refusal.{Refusal}
use Rattle.cube.specs.Tables.{empty_table, is_dimension, node_bit, tab, table_len, unused_set}
use Rattle.jobs.specs.Jobs.{half}
use Rattle.rule.specs.Cabinet.{cabinet, is_rule, plain}
use Rattle.rule.specs.Rule.{exchanges, label}
use Rattle.scans.specs.Scans.{forward, no_scan, spare}
use Rattle.labels.specs.Labelling.{labelled, labels_after}
use Rattle.hop.specs.Hop.{answer, hopped, node_tests}
use Rattle.hop.specs.declared.Decision.{Decision}
use Rattle.walk.specs.Walk.{last, refused, row_bytes, stops, walk_from, walked}
use Rattle.walk.specs.declared.Walked.{Walked}
use Rattle.theorems.specs.Words.{label_at}

-- ---- labelling: the faulty nodes alone did not work, and their byte was 3

abbrev pub label_tests_then : (n rule : ℕ) (faults : List ℕ) (m : ℕ) → List Test
label_tests_then n rule faults m =
    not (is_dimension n) ⇒ 1
    ∷ not (is_rule rule) ⇒ 18
    ∷ not (eqb (length faults) (table_len n)) ⇒ 2
    ∷ not (eqb m (2 ^ n)) ⇒ 2
    ∷ unused_set n faults ⇒ 3
    ∷ []

abbrev pub labelled_then : (n rule : ℕ) (faults : List ℕ) (m : ℕ) → Result ℕ Refusal
labelled_then n rule faults m = answered (first (label_tests_then n rule faults m)) (exchanges n rule (node_bit faults))

abbrev pub labels_after_then : (n rule : ℕ) (faults before : List ℕ) → List ℕ
labels_after_then n rule faults before =
    cond (eqb (first (label_tests_then n rule faults (length before))) 0) (tab (2 ^ n) (label n rule (node_bit faults) (λ _. 3))) before

-- ---- one hop: a label table of m bytes had one for each node

abbrev pub size_tests_then : (n m : ℕ) → List Test
size_tests_then n m =
    not (is_dimension n) ⇒ 1
    ∷ not (eqb m (2 ^ n)) ⇒ 2
    ∷ []

-- a scan took a dimension of its side whose neighbour's label was at most top, and the line before scan 1 was empty

pub record ScanThen : Type 0 where
  pub side : Bool
  pub top : ℕ
  pub allowed : Bool

abbrev pub scan_of_then : (side : Bool) (top : ℕ) (allowed : Bool) → ScanThen
scan_of_then side top allowed = record { side = side; top = top; allowed = allowed }

abbrev pub scans_then : (l own : ℕ) → List ScanThen
scans_then l own =
    scan_of_then forward 0 false
    ∷ scan_of_then forward 0 true
    ∷ scan_of_then forward 1 true
    ∷ scan_of_then forward 2 (eqb own 2 || leb l 2)
    ∷ scan_of_then spare 0 true
    ∷ scan_of_then spare 1 true
    ∷ []

abbrev pub suits_then : (c d : ℕ) (near : ℕ → ℕ) (z : ScanThen) (i : ℕ) → Bool
suits_then c d near z i = z.allowed && (beq (apart i c d) z.side && leb (near i) z.top)

abbrev pub lowest_then : (n c d own : ℕ) (near : ℕ → ℕ) (s : ℕ) → ℕ
lowest_then n c d own near s = least n (suits_then c d near (get_or (scans_then (dist c d) own) s (scan_of_then forward 0 false)))

abbrev pub first_scan_then : (n c d own : ℕ) (near : ℕ → ℕ) → ℕ
first_scan_then n c d own near = least no_scan (λ s. ltb (lowest_then n c d own near s) n)

abbrev pub hop_then : (n : ℕ) (lab : ℕ → ℕ) (c d : ℕ) → Decision
hop_then n lab c d =
    let near : ℕ → ℕ = λ i. lab (flip i c) in
    let s : ℕ = first_scan_then n c d (lab c) near in
    answer (dist c d) s (lowest_then n c d (lab c) near s)

abbrev pub hop_tests_then : (n c d m : ℕ) (lab : ℕ → ℕ) → List Test
hop_tests_then n c d m lab =
    size_tests_then n m
    ++ (node_tests n c d
    ++ ((ltb 3 (lab c) || some n (λ i. ltb 3 (lab (flip i c)))) ⇒ 4
    ∷ eqb (lab c) 3 ⇒ 6
    ∷ []))

abbrev pub hopped_then : (n c d m : ℕ) (lab : ℕ → ℕ) → Result Decision Refusal
hopped_then n c d m lab = answered (first (hop_tests_then n c d m lab)) (hop_then n lab c d)

-- ---- the walk, by those hops

abbrev pub route_then : (n : ℕ) (lab : ℕ → ℕ) (d : ℕ) → ℕ → Decision
route_then n lab d x = hop_then n lab x d

abbrev pub walk_tests_then : (n s d m room : ℕ) (lab : ℕ → ℕ) → List Test
walk_tests_then n s d m room lab =
    size_tests_then n m ++ (not (eqb room row_bytes) ⇒ 2 ∷ node_tests n s d)
    ++ (some (2 ^ n) (λ x. ltb 3 (lab x)) ⇒ 4
    ∷ eqb (lab s) 3 ⇒ 6
    ∷ eqb (lab d) 3 ⇒ 7
    ∷ not (stops (last n (route_then n lab d) s)) ⇒ 8
    ∷ [])

abbrev pub walked_then : (n s d m room : ℕ) (lab : ℕ → ℕ) → Walked
walked_then n s d m room lab =
    let k : ℕ = first (walk_tests_then n s d m room lab) in cond (eqb k 0) (walk_from n (route_then n lab d) s) (refused k)

-- ---- as before

-- j is a job, and where a label table of m bytes was lent, a buffer of two such tables is lent now
pub record AsBefore (j : ℕ) : Type 0 where
  -- labelling that is lent two empty tables answers what it did, and leaves in the half of its job what it left, refused or not,
  pub label : (n rule m : ℕ) (faults : List ℕ) → labelled (plain n rule faults) j (2 * m) ≡ labelled_then n rule faults m
  pub labels :
      (n rule m : ℕ) (faults before : List ℕ) → length before ≡ 2 * m
      → half j m (labels_after (plain n rule faults) j before) ≡ labels_after_then n rule faults (half j m before)
  -- and no label is 4, whatever the job closes;
  pub no_four : (n rule : ℕ) (faults closed : List ℕ) (x : ℕ) → label_at (cabinet n rule faults (empty_table n) closed) x ≢ 4
  -- and with labels among which there is no 4, right or wrong, a hop and a walk are answered as they were
  pub hop : (n c d m : ℕ) (lab : ℕ → ℕ) → ((x : ℕ) → lab x ≢ 4) → hopped n j c d (2 * m) lab ≡ hopped_then n c d m lab
  pub walk : (n s d m room : ℕ) (lab : ℕ → ℕ) → ((x : ℕ) → lab x ≢ 4) → walked n j s d (2 * m) room lab ≡ walked_then n s d m room lab
