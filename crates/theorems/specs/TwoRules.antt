-- A site that moves from the rule of Lee and Hayes, 2, to that of Chiu and Wu, 3 (RULES, Labels): what its labels were and what they are now. And what the
-- older rule has and the newer has not: with it, where some node is safe, no node is strongly unsafe. Proved in proofs/TwoRules.antt.
use Rattle.std.specs.Prelude.{cond, ◌≡◌, ℕ, ◌+◌, ◌*◌, ◌^◌, ◌≤◌, ◌<◌, eqb}
use Rattle.cube.specs.Cube.{dist}
use Rattle.rule.specs.Cabinet.{Cabinet, by_rule}
use Rattle.walk.specs.declared.Ending.TheVariants.{Delivered}
use Rattle.walk.specs.declared.Walked.{Walked}
use Rattle.theorems.specs.Demand3.{Walks}
use Rattle.theorems.specs.Words.{Accepted, SomeSafe, Takes, Works, label_at, walk_of}

-- how many hops more than the distance demand 3 allows a walk from s to d where some node is safe: none to or from a safe node, otherwise two from an
-- ordinarily unsafe source and four from a strongly unsafe one
unfoldable pub more : (lab : ℕ → ℕ) (s d : ℕ) → ℕ
more lab s d = cond (eqb (lab d) 0) 0 (2 * lab s)

-- the labels only get better
pub record OnlyBetter (n : ℕ) (old new : ℕ → ℕ) : Type 0 where
  -- "a node safe with 2 is safe with 3",
  pub safe_stays : (x : ℕ) → x < 2 ^ n → old x ≡ 0 → new x ≡ 0
  -- no node's label is larger than it was,
  pub label_falls : (x : ℕ) → x < 2 ^ n → new x ≤ old x
  -- and no walk's bound has grown
  pub bound_falls : (s d : ℕ) → s < 2 ^ n → d < 2 ^ n → more new s d ≤ more old s d

-- where some node is safe, no working node is strongly unsafe
abbrev pub NoneStrong : (K : Cabinet) (lab : ℕ → ℕ) → Type 0
NoneStrong K lab = SomeSafe K.n lab → (x : ℕ) → Works K x → lab x ≤ 1

pub record TwoRules : Type 0 where
  pub better : (K : Cabinet) → OnlyBetter K.n (label_at (by_rule 2 K)) (label_at (by_rule 3 K))
  -- no frame is lost by it: a walk that was delivered still is
  pub still_delivered :
      (K : Cabinet) (j : ℕ) → Accepted (by_rule 3 K) j → (s d : ℕ) → Works K s → Takes K d
      → (walk_of (by_rule 2 K) j s d).ending ≡ Delivered → (walk_of (by_rule 3 K) j s d).ending ≡ Delivered
  pub none_strong : (K : Cabinet) → NoneStrong (by_rule 2 K) (label_at (by_rule 2 K))
  -- demand 3's bounds are that bound
  pub bound :
      (K : Cabinet) (lab : ℕ → ℕ) (s d : ℕ) (w : Walked) → Walks K lab s d w → SomeSafe K.n lab → w.hops ≤ dist s d + more lab s d
