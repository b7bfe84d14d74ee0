-- Demand 2: the labels are those of Chiu and Wu (RULES, Labels). K is a cabinet as one job has it, lab x the label byte of its node x in that job's half, and
-- exchanges the number of exchanges. Where Chiu and Wu say faulty, a node that does not work is meant: faulty, draining (A4) or closed by the job (A10).
use Rattle.std.specs.Prelude.{Bool, true, false, ◌↔◌, ◌≡◌, ℕ, ◌^◌, ◌≤◌, ◌<◌, eqb}
use Rattle.cube.specs.Cube.{flip}
use Rattle.cube.specs.Tables.{node_bit}
use Rattle.rule.specs.Cabinet.{Cabinet, drains, faulty, out}
use Rattle.rule.specs.Closed.{Closed}
use Rattle.rule.specs.Exchanges.{Exchanged}
use Rattle.rule.specs.Rounds.{BringsNothing}
use Rattle.rule.specs.Rule.{marked}

pub record Demand2 (K : Cabinet) (lab : ℕ → ℕ) (exchanges : ℕ) : Type 0 where
  -- of all sets of working nodes in which each has at most one neighbour that does not work and fewer neighbours outside the set than the rule's number
  -- (with rule 3: at most two), the safe nodes form the largest. (Such a set is called closed, which has nothing to do with the nodes that a job closes)
  pub closed : Closed K.n K.rule (out K) (λ x. eqb (lab x) 0)
  pub largest : (H : ℕ → Bool) → Closed K.n K.rule (out K) H → (x : ℕ) → x < 2 ^ K.n → H x ≡ true → lab x ≡ 0
  -- a node that is faulty or closed has label 3, one that drains 4 ("a node in both is faulty"), and a working one a lower label;
  pub faulty : (x : ℕ) → x < 2 ^ K.n → faulty K x ≡ true → lab x ≡ 3
  pub drains : (x : ℕ) → x < 2 ^ K.n → drains K x ≡ true → lab x ≡ 4
  pub works : (x : ℕ) → x < 2 ^ K.n → out K x ≡ false → lab x ≤ 2
  -- "closed counts as faulty and gets label byte 3, over draining too"
  pub shut : (x : ℕ) → x < 2 ^ K.n → node_bit K.closed x ≡ true → lab x ≡ 3
  -- an unsafe node without a safe neighbour is strongly unsafe; any other unsafe node is ordinarily unsafe
  pub ordinary : (x : ℕ) → x < 2 ^ K.n → lab x ≡ 1 → (i : ℕ) × (i < K.n) × (lab (flip i x) ≡ 0)
  pub strong : (x i : ℕ) → x < 2 ^ K.n → i < K.n → lab x ≡ 2 → lab (flip i x) ≡ 0 → ⊥
  -- "the labels are those reached when a round marks nothing new": the safe nodes are the working ones that have no mark then,
  pub safe : (x : ℕ) → x < 2 ^ K.n → (lab x ≡ 0) ↔ ((out K x ≡ false) × (marked K.n K.rule (out K) exchanges x ≡ false))
  -- "the number of exchanges, the quiet one included": each before the last brought something new, and the last did not;
  pub counted : Exchanged K.n K.rule (out K) exchanges
  -- and no later one would. (How many there can be: HowLong.antt)
  pub still : (r : ℕ) → exchanges ≤ r → BringsNothing K.n K.rule (out K) r
