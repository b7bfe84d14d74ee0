-- Demand 3: walks arrive (RULES, When frames arrive). K is a cabinet as one job has it, which labelling accepts, and lab the labels that it then has; s, the
-- source, is a working node and d, the destination, one that works or drains (`Takes`); w is the walk's answer with those labels.
use Rattle.std.specs.Prelude.{true, ◌⊎◌, ◌≡◌, ℕ, ◌+◌, ◌*◌, ◌≤◌, ◌<◌}
use Rattle.cube.specs.declared.refusals.Refusal.{Refusal}
use Rattle.cube.specs.Cube.{apart, dist, flip}
use Rattle.rule.specs.Cabinet.{Cabinet, out}
use Rattle.scans.specs.Progress.{rank}
use Rattle.hop.specs.Hop.{hop}
use Rattle.hop.specs.declared.Decision.TheVariants.{Deliver, Hop, Halted}
use Rattle.walk.specs.declared.Ending.TheVariants as ending
use Rattle.walk.specs.declared.Walked.{Walked}
use Rattle.theorems.specs.Words.{Accepted, NoneTwice, SomeSafe, Takes, Works, label_at, place, walk_of}

-- the hop count is the number of steps that ROUTE takes: the row begins at the source, each place is the decision's own at the place before,
-- and the walk ends where the decision says so; every node before the last works, and so does the last unless it is the destination
pub record Stepped (K : Cabinet) (lab : ℕ → ℕ) (d s : ℕ) (w : Walked) : Type 0 where
  pub begins : place w 0 ≡ s
  pub steps :
      (k : ℕ) → k < w.hops → (i : ℕ) × (i < K.n) × (hop K.n lab (place w k) d ≡ Hop i) × (place w (k + 1) ≡ flip i (place w k))
  pub works : (k : ℕ) → k < w.hops → Works K (place w k)
  pub last_works : Works K (place w w.hops) ⊎ (place w w.hops ≡ d)
  pub unused : (k : ℕ) → w.hops < k → place w k ≡ 0

-- delivered: the destination is the last place
pub record Arrives (K : Cabinet) (lab : ℕ → ℕ) (d : ℕ) (w : Walked) : Type 0 where
  pub ending : w.ending ≡ ending.Delivered
  pub decided : hop K.n lab (place w w.hops) d ≡ Deliver
  pub there : place w w.hops ≡ d

-- halted: every neighbour of the last place that is nearer the destination is faulty, closed or draining, and none of them is the destination
pub record Stuck (K : Cabinet) (lab : ℕ → ℕ) (d : ℕ) (w : Walked) : Type 0 where
  pub ending : w.ending ≡ ending.Halted
  pub decided : hop K.n lab (place w w.hops) d ≡ Halted
  pub far : 2 ≤ dist (place w w.hops) d
  pub why : (i : ℕ) → i < K.n → apart i (place w w.hops) d ≡ true → out K (flip i (place w w.hops)) ≡ true

pub record Walks (K : Cabinet) (lab : ℕ → ℕ) (s d : ℕ) (w : Walked) : Type 0 where
  pub stepped : Stepped K lab d s w
  -- if any node is safe the walk arrives,
  pub arrives : SomeSafe K.n lab → Arrives K lab d w
  -- and the hops number exactly the Hamming distance where either end is safe,
  pub exact : (lab s ≡ 0) ⊎ (lab d ≡ 0) → w.hops ≡ dist s d
  -- at most two more from an ordinarily unsafe source, at most four more from a strongly unsafe one
  pub ordinary : SomeSafe K.n lab → lab s ≡ 1 → w.hops ≤ dist s d + 2
  pub strong : SomeSafe K.n lab → lab s ≡ 2 → w.hops ≤ dist s d + 4
  -- if no node is safe it arrives in exactly the distance, or halts where every neighbour nearer the destination is faulty, closed or draining
  pub none_safe :
      (SomeSafe K.n lab → ⊥) → (Arrives K lab d w × (w.hops ≡ dist s d)) ⊎ Stuck K lab d w
  -- a delivered walk has the distance and an even number of hops more, at most twice the source's label
  pub even : w.ending ≡ ending.Delivered → (e : ℕ) × (e ≤ lab s) × (w.hops ≡ dist s d + 2 * e)
  -- it is never refused, with 8 or otherwise
  pub never_refused : (r : Refusal) → w.ending ≡ ending.Refused r → ⊥
  -- "no node stands twice among the places of a walk's row that are used", delivered or halted (RULES, No node twice)
  pub once : NoneTwice w
  -- with every hop the rank falls, which is the distance, and from 2 on twice the label besides;
  pub falls : (k : ℕ) → k < w.hops → rank lab d (place w (k + 1)) < rank lab d (place w k)
  -- and where either end is safe, or no node is, the distance falls, by one
  pub nearer :
      (lab s ≡ 0) ⊎ (lab d ≡ 0) ⊎ (SomeSafe K.n lab → ⊥) → (k : ℕ) → k < w.hops → dist (place w (k + 1)) d + 1 ≡ dist (place w k) d

-- for either job, with the labels of an accepted cabinet, from a working node to one that takes the frames addressed to it
abbrev pub Demand3 : Type 0
Demand3 = (K : Cabinet) (j : ℕ) → Accepted K j → (s d : ℕ) → Works K s → Takes K d → Walks K (label_at K) s d (walk_of K j s d)
