-- The walk "starts at the source and repeats hops" (RULES, Walk): said of every label table that the walk accepts, right or wrong, and in the answers that the
-- hop question gives on the same table. Proved in proofs/Repeats.antt.
use Rattle.std.specs.Prelude.{◌⊎◌, ◌≡◌, ℕ, ◌+◌, ◌≤◌, ◌<◌, Ok}
use Rattle.cube.specs.Cube.{flip}
use Rattle.hop.specs.Hop.{hopped}
use Rattle.hop.specs.declared.Decision.{Decision}
use Rattle.hop.specs.declared.Decision.TheVariants.{Deliver, Hop, Halted}
use Rattle.walk.specs.Walk.{walk_refusal, walked}
use Rattle.walk.specs.declared.Ending.TheVariants as ending
use Rattle.walk.specs.declared.Walked.{Walked}
use Rattle.theorems.specs.Words.{NoneTwice, place}

-- the hop question at x is not refused, and decides so
abbrev pub Decides : (n j d m : ℕ) (lab : ℕ → ℕ) (x : ℕ) → Decision → Type 0
Decides n j d m lab x a = hopped n j x d m lab ≡ Ok a

pub record Repeats (n j s d m : ℕ) (lab : ℕ → ℕ) (w : Walked) : Type 0 where
  pub starts : place w 0 ≡ s
  -- each place but the last: a hop is decided there, and the next place is the neighbour across its dimension
  pub steps : (k : ℕ) → k < w.hops → (i : ℕ) × (i < n) × Decides n j d m lab (place w k) (Hop i) × (place w (k + 1) ≡ flip i (place w k))
  -- the last: deliver or halted is decided there, and so the walk ended
  pub ends :
      (Decides n j d m lab (place w w.hops) Deliver × (w.ending ≡ ending.Delivered))
      ⊎ (Decides n j d m lab (place w w.hops) Halted × (w.ending ≡ ending.Halted))
  -- "at most 17 node numbers in a fixed row of places, unused ones zero"
  pub few : w.hops ≤ n + 4
  pub unused : (k : ℕ) → w.hops < k → place w k ≡ 0
  -- no place before the last is labelled faulty or draining, and the last only where it is the destination
  pub enters : (k : ℕ) → k < w.hops → lab (place w k) ≤ 2
  pub ends_in : (lab (place w w.hops) ≤ 2) ⊎ (place w w.hops ≡ d)
  -- "no node stands twice", delivered or halted (RULES, No node twice)
  pub once : NoneTwice w

abbrev pub WalkRepeats : Type 0
WalkRepeats =
    (n j s d m room : ℕ) (lab : ℕ → ℕ) → walk_refusal n j s d m room lab ≡ 0 → Repeats n j s d m lab (walked n j s d m room lab)
