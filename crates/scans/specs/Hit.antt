-- The five scans in the words of RULES (One hop), and as scan 0 the hop before them: what each asks of a dimension i at a node c on the
-- way to d, with the labels lab. Nothing here rests on the table that the scans are computed by; that the table says the same is proved in proofs/Hit.antt.
use Rattle.std.specs.Prelude.{Bool, true, ◌⊎◌, ◌≢◌, ◌↔◌, ◌≡◌, ℕ, ◌≤◌}
use Rattle.cube.specs.Cube.{bit, dist, flip}
use Rattle.scans.specs.Scans.{takes}

-- "a forward dimension is one in which c and d differ; the others are spare"
abbrev pub Forward : (c d i : ℕ) → Type 0
Forward c d i = bit i c ≢ bit i d

abbrev pub Spare : (c d i : ℕ) → Type 0
Spare c d i = bit i c ≡ bit i d

-- "0 safe, 1 ordinarily unsafe, 2 strongly unsafe, 3 faulty", and 4 draining, which "in all five scans" counts as faulty, as would any byte above it
abbrev pub Safe : (label : ℕ) → Type 0
Safe label = label ≡ 0

abbrev pub SafeOrOrdinary : (label : ℕ) → Type 0
SafeOrOrdinary label = label ≤ 1

abbrev pub Strong : (label : ℕ) → Type 0
Strong label = label ≡ 2

abbrev pub NotFaulty : (label : ℕ) → Type 0
NotFaulty label = label ≤ 2

abbrev pub Draining : (label : ℕ) → Type 0
Draining label = label ≡ 4

-- "c strongly unsafe or l ≤ 2"
abbrev pub MayEnterStrong : (lab : ℕ → ℕ) (c d : ℕ) → Type 0
MayEnterStrong lab c d = Strong (lab c) ⊎ (dist c d ≤ 2)

-- a scan hits a dimension
pub data Hit (lab : ℕ → ℕ) (c d : ℕ) : (scan i : ℕ) → Type 0 where
  -- "before the scans, a hop at distance 1 to a draining destination": the neighbour is the destination, and it drains
  scan0 : {i : ℕ} → flip i c ≡ d → Draining (lab d) → Hit lab c d 0 i
  -- "forward, neighbour safe"
  scan1 : {i : ℕ} → Forward c d i → Safe (lab (flip i c)) → Hit lab c d 1 i
  -- "forward, neighbour safe or ordinarily unsafe"
  scan2 : {i : ℕ} → Forward c d i → SafeOrOrdinary (lab (flip i c)) → Hit lab c d 2 i
  -- "forward, neighbour not faulty, and (c strongly unsafe or l ≤ 2)"
  scan3 : {i : ℕ} → Forward c d i → NotFaulty (lab (flip i c)) → MayEnterStrong lab c d → Hit lab c d 3 i
  -- "spare, neighbour safe"
  scan4 : {i : ℕ} → Spare c d i → Safe (lab (flip i c)) → Hit lab c d 4 i
  -- "spare, neighbour safe or ordinarily unsafe"
  scan5 : {i : ℕ} → Spare c d i → SafeOrOrdinary (lab (flip i c)) → Hit lab c d 5 i

-- by the table: scan s at c takes dimension i
abbrev pub takes_at : (lab : ℕ → ℕ) (c d s i : ℕ) → Bool
takes_at lab c d = takes c d (lab c) (λ j. lab (flip j c))

-- the table says the same
abbrev pub TableHits : Type 0
TableHits = (lab : ℕ → ℕ) (c d s i : ℕ) → (takes_at lab c d s i ≡ true) ↔ Hit lab c d s i
