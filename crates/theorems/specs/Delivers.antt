-- A cabinet with few nodes out of work delivers every frame (RULES, When frames arrive): theorem 4 of Chiu and Wu 1994, with demand 3. Proved in
-- proofs/Delivers.antt.
use Rattle.std.specs.Prelude.{◌⊎◌, ◌≡◌, ℕ, ◌+◌, ◌≤◌}
use Rattle.cube.specs.Cube.{dist}
use Rattle.rule.specs.Cabinet.{Cabinet}
use Rattle.enough.specs.Enough.{FewOut}
use Rattle.walk.specs.declared.Walked.{Walked}
use Rattle.theorems.specs.Demand3.{Arrives}
use Rattle.theorems.specs.Words.{Accepted, Takes, Works, label_at, walk_of}

-- the walk w from s to d arrives, within demand 3's bounds
pub record Delivers (K : Cabinet) (lab : ℕ → ℕ) (s d : ℕ) (w : Walked) : Type 0 where
  pub arrives : Arrives K lab d w
  pub exact : (lab s ≡ 0) ⊎ (lab d ≡ 0) → w.hops ≡ dist s d
  pub ordinary : lab s ≡ 1 → w.hops ≤ dist s d + 2
  pub strong : lab s ≡ 2 → w.hops ≤ dist s d + 4

-- for either job, with the labels of an accepted cabinet, from a working node to one that takes the frames addressed to it
abbrev pub FewOutDelivers : Type 0
FewOutDelivers = (K : Cabinet) (j : ℕ) → Accepted K j → FewOut K → (s d : ℕ) → Works K s → Takes K d → Delivers K (label_at K) s d (walk_of K j s d)
