-- What a walk needs of the scans (RULES, When frames arrive, No node twice): every pick leads to a node that works, or to the destination, and lowers a
-- measure, and where nothing is picked there is a reason. Good labels give it with three measures. Proved in proofs/Progress.antt.
use Rattle.std.specs.Prelude.{cond, true, ◌⊎◌, ◌≢◌, ◌≡◌, ℕ, ◌+◌, ◌*◌, ◌^◌, ◌≤◌, ◌<◌, leb}
use Rattle.cube.specs.Cube.{apart, dist, flip}
use Rattle.rule.specs.Good.{Good}
use Rattle.scans.specs.Hit.{Draining}
use Rattle.scans.specs.Picks.{NonePicks, Picks}

-- a node that works, or is the destination; and such a node of the cube
abbrev pub WorksOrEnds : (lab : ℕ → ℕ) (d x : ℕ) → Type 0
WorksOrEnds lab d x = (lab x ≤ 2) ⊎ (x ≡ d)

abbrev pub Inside : (n : ℕ) (lab : ℕ → ℕ) (d x : ℕ) → Type 0
Inside n lab d x = (x < 2 ^ n) × WorksOrEnds lab d x

-- a label of one that takes the frames addressed to it: it works, or drains
abbrev pub Receives : (label : ℕ) → Type 0
Receives label = (label ≤ 2) ⊎ Draining label

pub record Progress (n : ℕ) (lab : ℕ → ℕ) (d : ℕ) (measure : ℕ → ℕ) (Stuck : ℕ → Type 0) : Type 0 where
  pub inside : (c s i : ℕ) → Inside n lab d c → 0 < dist c d → Picks n lab c d s i → Inside n lab d (flip i c)
  pub falls : (c s i : ℕ) → Inside n lab d c → 0 < dist c d → Picks n lab c d s i → measure (flip i c) < measure c
  pub stuck : (c : ℕ) → Inside n lab d c → 0 < dist c d → NonePicks n lab c d → Stuck c

-- the measure that falls with every hop: the distance, and from 2 on twice the label besides
unfoldable pub rank : (lab : ℕ → ℕ) (d x : ℕ) → ℕ
rank lab d x = cond (leb (dist x d) 1) (dist x d) (dist x d + 2 * lab x)

-- on good labels, towards a destination that works or drains
pub record GoodProgress (n : ℕ) (lab : ℕ → ℕ) (d : ℕ) : Type 0 where
  -- the rank falls, and nothing is picked only where no node is safe;
  pub by_rank : Progress n lab d (rank lab d) (λ _. (x : ℕ) → x < 2 ^ n → lab x ≢ 0)
  -- where the destination is safe, the distance falls, and something is always picked;
  pub to_safe : lab d ≡ 0 → Progress n lab d (λ c. dist c d) (λ _. ⊥)
  -- where no node is safe, the distance falls, and nothing is picked only two or more away, where no neighbour nearer the destination works
  pub in_the_dark :
      ((x : ℕ) → x < 2 ^ n → lab x ≢ 0)
      → Progress n lab d (λ c. dist c d) (λ c. (1 < dist c d) × ((i : ℕ) → i < n → apart i c d ≡ true → 2 < lab (flip i c)))

abbrev pub ScansProgress : Type 0
ScansProgress = (n : ℕ) (lab : ℕ → ℕ) → Good n lab → (d : ℕ) → d < 2 ^ n → Receives (lab d) → GoodProgress n lab d
