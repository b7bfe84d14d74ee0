-- The tally (RULES, The tally), of whatever its contract allows, and that every walk falls in exactly one of its four kinds, of whatever those of labelling and
-- of the walk allow. Proved in proofs/Tallies.antt.
use Rattle.std.specs.Prelude.{List, [], ◌∷◌, ◌≢◌, ◌≡◌, ℕ, ◌+◌, ◌-◌, ◌*◌, ◌^◌, ◌≤◌, ◌<◌, eqb, get_or, length, Result, Ok}
use Rattle.cube.specs.Allowed.{May}
use Rattle.cube.specs.Count.{count}
use Rattle.cube.specs.Cube.{dist}
use Rattle.rule.specs.Cabinet.{Cabinet}
use Rattle.walk.specs.Walk.{row_bytes}
use Rattle.walk.specs.declared.Walked.{Walked}
use Rattle.theorems.specs.Words.{Works}
use Rattle.figures.specs.Figures.{cube_of, faults_of, tables, total}
use Rattle.figures.specs.Laws.{OneKind, choose}
use Rattle.figures.specs.Sum.{sum}
use Rattle.counters.proofs.Functions as counters
use Rattle.promises.specs.Library.{Library}
use Rattle.promises.specs.Refusals.{Given}
use Rattle.cube.specs.declared.refusals.Refusal.{Refusal}
use Rattle.cube.specs.Refused.{refused}

-- ---- the refusals in words, where m counters are lent: "1 for a dimension outside 1 to 4, 2 for counters of another length"

pub data TallyWhen (n m : ℕ) : ℕ → Type 0 where
  tally_1 : ¬ ((1 ≤ n) × (n ≤ 4)) → TallyWhen n m 1
  tally_2 : m ≢ 6 * (2 ^ n + 1) → TallyWhen n m 2

abbrev pub TallyGiven : (n m : ℕ) → ℕ → Type 0
TallyGiven n m = Given (TallyWhen n m) (1 ∷ 2 ∷ [])

-- ---- the function

-- number c of the line of m faults: 0 is "tables", 1 "tables with no safe node", and 2 to 5 are the walks
abbrev pub line_at : (counters : List ℕ) (m c : ℕ) → ℕ
line_at l m c = get_or l (6 * m + c) 0

pub record Tallies : Type 0 where
  pub answers : (n : ℕ) (before : List ℕ) → (x : Result (Unit {0}) Refusal) × (after : List ℕ) × May counters.tally (n, before) x after
  pub refusal : {n : ℕ} {x : Result (Unit {0}) Refusal} {before after : List ℕ} → May counters.tally (n, before) x after → TallyGiven n (length before) (refused x)
  pub kept : {n : ℕ} {x : Result (Unit {0}) Refusal} {before after : List ℕ} → May counters.tally (n, before) x after → refused x ≢ 0 → after ≡ before
  pub sized : {n : ℕ} {x : Result (Unit {0}) Refusal} {before after : List ℕ} → May counters.tally (n, before) x after → length after ≡ length before
  -- not refused, each counter is the sum of its figure over all tables with so many faults, whatever it held before
  pub counter :
      {n : ℕ} {before after : List ℕ} → May counters.tally (n, before) (Ok tt) after → (m c : ℕ) → m ≤ 2 ^ n → c < 6 → line_at after m c ≡ total n m c
  -- "the four walk counts sum to tables × working × working for every number of faults",
  pub walks :
      {n : ℕ} {before after : List ℕ} → May counters.tally (n, before) (Ok tt) after → (m : ℕ) → m ≤ 2 ^ n
      → line_at after m 2 + line_at after m 3 + line_at after m 4 + line_at after m 5 ≡ line_at after m 0 * (2 ^ n - m) * (2 ^ n - m)
  -- "where tables is the number of fault tables with that many faults", which is how many sets of so many nodes there are;
  pub tables_with :
      {n : ℕ} {before after : List ℕ} → May counters.tally (n, before) (Ok tt) after → (m : ℕ) → m ≤ 2 ^ n
      → (line_at after m 0 ≡ count (tables n) (λ t. eqb (faults_of (cube_of n t)) m)) × (line_at after m 0 ≡ choose (2 ^ n) m)
  -- "the tables counted are all tables: their sum over the faults is 2^(2^n)"
  pub all : {n : ℕ} {before after : List ℕ} → May counters.tally (n, before) (Ok tt) after → sum (2 ^ n + 1) (λ m. line_at after m 0) ≡ 2 ^ (2 ^ n)
  -- with fewer faults than dimensions every table has a safe node, and no walk halts
  pub few :
      {n : ℕ} {before after : List ℕ} → May counters.tally (n, before) (Ok tt) after → (m : ℕ) → m < n → (line_at after m 1 ≡ 0) × (line_at after m 5 ≡ 0)

-- ---- every walk

-- "every walk falls in exactly one of the four": with the labels that labelling leaves of any cabinet, for either job, between any two working nodes
pub record FourKinds (lib : Library) : Type 0 where
  pub one :
      {K : Cabinet} {j exchanges s d : ℕ} {before buffer : List ℕ} {w : Walked} → lib.labels K j before (Ok exchanges) buffer
      → Works K s → Works K d → lib.walks K.n j s d buffer row_bytes w → OneKind w (dist s d)
