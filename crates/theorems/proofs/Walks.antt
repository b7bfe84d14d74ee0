-- Walks with good labels. The scans give measures that fall with each hop: the rank, and where the destination is safe or no node is, the distance. What a walk
-- that makes progress has by each of them is read here: how it ends, after how many hops, and what falls.
use mathlib.Core.Path.{◌≡◌, ap}
use mathlib.Core.Logic.{◌⊎◌, inl, inr, ⊎_elim, ◌≢◌}
use mathlib.Core.Bool.{true}
use Prim.Native.Nat.{ℕ, ◌+◌, ◌*◌, ◌^◌, ◌≤◌, ◌<◌}
use native.Mathlib.Omega.{arith}
use Rattle.cube.specs.Cube.{flip, apart, dist}
use Rattle.cube.proofs.Count.{count_bound}
use Rattle.cube.proofs.Cube.{dist_count, dist_self}
use Rattle.rule.specs.Good.{Good}
use Rattle.scans.specs.Progress.{GoodProgress, Inside, Progress, Receives, rank}
use Rattle.scans.proofs.Progress.{rank_ge, rank_le, scans_progress}
use Rattle.hop.specs.declared.Decision.TheVariants.{Deliver, Hop, Halted}
use Rattle.walk.specs.Walk.{spot, turn, hops, last, route}
use Rattle.theorems.specs.Words.{SomeSafe}
use Rattle.theorems.proofs.Safe.{FromSafe, rank_safe}
use Rattle.theorems.proofs.Advances.{On, end, end_of, made, not_there, on}

-- the nodes of the walk work, but for the destination, and each hop is its decision's
pub record Kept (n : ℕ) (lab : ℕ → ℕ) (d s : ℕ) : Type 0 where
  pub works : (k : ℕ) → k < hops n (route n lab d) s → (spot (route n lab d) s k < 2 ^ n) × (lab (spot (route n lab d) s k) ≤ 2)
  pub end : Inside n lab d (end_of n lab d s)
  pub steps :
      (k : ℕ) → k < hops n (route n lab d) s
      → (i : ℕ) × (i < n) × (turn (route n lab d) s k ≡ Hop i) × (spot (route n lab d) s (k + 1) ≡ flip i (spot (route n lab d) s k))

-- delivered, with at most `most` pairs of hops more than the distance
pub record Delivers (n : ℕ) (lab : ℕ → ℕ) (d s most : ℕ) : Type 0 where
  pub ended : last n (route n lab d) s ≡ Deliver
  pub there : end_of n lab d s ≡ d
  pub extra : ℕ
  pub few : extra ≤ most
  pub exact : hops n (route n lab d) s ≡ dist s d + 2 * extra

-- halted two or more away, where no neighbour nearer the destination works
pub record Halts (n : ℕ) (lab : ℕ → ℕ) (d s : ℕ) : Type 0 where
  pub ended : last n (route n lab d) s ≡ Halted
  pub far : 1 < dist (end_of n lab d s) d
  pub why : (i : ℕ) → i < n → apart i (end_of n lab d s) d ≡ true → 2 < lab (flip i (end_of n lab d s))

-- after k hops the walk is k nearer
abbrev pub Nears : (n : ℕ) (lab : ℕ → ℕ) (d s : ℕ) → Type 0
Nears n lab d s = (k : ℕ) → k ≤ hops n (route n lab d) s → dist (spot (route n lab d) s k) d + k ≡ dist s d

pub record WalkFacts (n : ℕ) (lab : ℕ → ℕ) (d s : ℕ) : Type 0 where
  pub kept : Kept n lab d s
  pub rank_falls : (k : ℕ) → k < hops n (route n lab d) s → rank lab d (spot (route n lab d) s (k + 1)) < rank lab d (spot (route n lab d) s k)
  pub how : Delivers n lab d s (lab s) ⊎ Halts n lab d s
  -- some node is safe: delivered, with at most as many pairs of extra hops as the source's label (0 safe, 1 ordinarily, 2 strongly unsafe)
  pub some_safe : SomeSafe n lab → Delivers n lab d s (lab s)
  -- the destination is safe: delivered in exactly the distance
  pub to_safe : lab d ≡ 0 → Delivers n lab d s 0
  -- no node is safe: delivered in exactly the distance, or halted
  pub none_safe : (SomeSafe n lab → ⊥) → Delivers n lab d s 0 ⊎ Halts n lab d s
  -- either end is safe, or no node is: each hop is one nearer
  pub nears : FromSafe lab s ⊎ (lab d ≡ 0) ⊎ (SomeSafe n lab → ⊥) → Nears n lab d s

dist_le : (n s d : ℕ) → s < 2 ^ n → d < 2 ^ n → dist s d ≤ n
dist_le n s d hs hd = omega (arith, dist_count n s d hs hd, count_bound n (λ i. apart i s d))

module _ (n : ℕ) (lab : ℕ → ℕ) (G : Good n lab) (d : ℕ) (hd : d < 2 ^ n) (wd : Receives (lab d)) (s : ℕ) (hs : s < 2 ^ n) (ws : lab s ≤ 2) where
  -- what each theorem takes from its measure
  module _ (measure : ℕ → ℕ) (Stuck : ℕ → Type 0) (P : Progress n lab d measure Stuck) (fuel : measure s ≤ n + 4) where
    abbrev here : (k : ℕ) → k ≤ hops n (route n lab d) s → On n lab d hd measure Stuck P s (hs, inl ws) fuel k
    here = on n lab d hd measure Stuck P s (hs, inl ws) fuel

    kept : Kept n lab d s
    kept =
        record {
          works = λ k h.
              let r = (here k (omega arith)).inside in
              (r.0, ⊎_elim (λ (l : lab (spot (route n lab d) s k) ≤ 2). l) (λ q. absurd (not_there n lab d s k h q)) r.1);
          end = (here (hops n (route n lab d) s) (omega arith)).inside;
          steps = λ k h. let r = made n lab d hd measure Stuck P s (hs, inl ws) fuel k h (here k (omega arith)) in (r.i, r.dim, r.decided, r.is);
        }

    delivered : (m : ℕ) → measure s ≤ dist s d + (m + m + 1) → last n (route n lab d) s ≡ Deliver → end_of n lab d s ≡ d → Delivers n lab d s m
    delivered m h e t =
        let o = here (hops n (route n lab d) s) (omega arith) in
        record {
          ended = e;
          there = t;
          extra = o.extra;
          few = omega (arith, o.room, o.even, ap (λ x. dist x d) t, dist_self d);
          exact = omega (arith, o.even, ap (λ x. dist x d) t, dist_self d);
        }

    -- it is delivered, or stuck
    outcome : (m : ℕ) → measure s ≤ dist s d + (m + m + 1)
        → Delivers n lab d s m ⊎ ((last n (route n lab d) s ≡ Halted) × Stuck (end_of n lab d s))
    outcome m h =
        ⊎_elim (λ (e : (last n (route n lab d) s ≡ Deliver) × (end_of n lab d s ≡ d)). inl (delivered m h e.0 e.1))
        (λ (e : (last n (route n lab d) s ≡ Halted) × Stuck (end_of n lab d s)). inr e)
        (end n lab d hd measure Stuck P s (hs, inl ws) fuel)

    falls : (k : ℕ) → k < hops n (route n lab d) s → measure (spot (route n lab d) s (k + 1)) < measure (spot (route n lab d) s k)
    falls k h =
        let r = made n lab d hd measure Stuck P s (hs, inl ws) fuel k h (here k (omega arith)) in
        omega (arith, r.falls, ap measure r.is)

    -- where the measure is the distance at the source, and never less, each hop is one nearer
    nears : ((x : ℕ) → dist x d ≤ measure x) → measure s ≤ dist s d → Nears n lab d s
    nears low l k h = let o = here k h in omega (arith, low (spot (route n lab d) s k), o.room, o.even)

  progress : GoodProgress n lab d
  progress = scans_progress n lab G d hd wd

  near : dist s d ≤ n + 4
  near = omega (arith, dist_le n s d hs hd)

  near_rank : rank lab d s ≤ n + 4
  near_rank = omega (arith, rank_le lab d s, dist_le n s d hs hd)

  abbrev Dark : Type 0
  Dark = (x : ℕ) → x < 2 ^ n → lab x ≢ 0

  -- it is delivered, or no node is safe
  by_rank : Delivers n lab d s (lab s) ⊎ ((last n (route n lab d) s ≡ Halted) × Dark)
  by_rank = outcome (rank lab d) (λ _. Dark) progress.by_rank near_rank (lab s) (omega (arith, rank_le lab d s))

  some_safe : SomeSafe n lab → Delivers n lab d s (lab s)
  some_safe x =
      ⊎_elim (λ (D : Delivers n lab d s (lab s)). D) (λ (e : (last n (route n lab d) s ≡ Halted) × Dark). absurd (e.1 x.0 x.1 x.2)) by_rank

  rank_falls : (k : ℕ) → k < hops n (route n lab d) s
      → rank lab d (spot (route n lab d) s (k + 1)) < rank lab d (spot (route n lab d) s k)
  rank_falls = falls (rank lab d) (λ _. Dark) progress.by_rank near_rank

  from_safe_nears : FromSafe lab s → Nears n lab d s
  from_safe_nears e =
      nears (rank lab d) (λ _. Dark) progress.by_rank near_rank (rank_ge lab d) (rank_safe lab d s e)

  module _ (e : lab d ≡ 0) where
    to_safe : Delivers n lab d s 0
    to_safe =
        ⊎_elim (λ (D : Delivers n lab d s 0). D) (λ (h : (last n (route n lab d) s ≡ Halted) × ⊥). absurd h.1)
        (outcome (λ x. dist x d) (λ _. ⊥) (progress.to_safe e) near 0 (omega arith))

    to_safe_nears : Nears n lab d s
    to_safe_nears = nears (λ x. dist x d) (λ _. ⊥) (progress.to_safe e) near (λ x. omega arith) (omega arith)

  module _ (none : SomeSafe n lab → ⊥) where
    abbrev Stuck : ℕ → Type 0
    Stuck x = (1 < dist x d) × ((i : ℕ) → i < n → apart i x d ≡ true → 2 < lab (flip i x))

    dark : Progress n lab d (λ x. dist x d) Stuck
    dark = progress.in_the_dark (λ x h e. none (x, h, e))

    none_safe : Delivers n lab d s 0 ⊎ Halts n lab d s
    none_safe =
        ⊎_elim (λ (D : Delivers n lab d s 0). inl D)
        (λ (e : (last n (route n lab d) s ≡ Halted) × Stuck (end_of n lab d s)).
        inr (record { ended = e.0; far = e.1.0; why = e.1.1 }))
        (outcome (λ x. dist x d) Stuck dark near 0 (omega arith))

    none_safe_nears : Nears n lab d s
    none_safe_nears = nears (λ x. dist x d) Stuck dark near (λ x. omega arith) (omega arith)

  how : Delivers n lab d s (lab s) ⊎ Halts n lab d s
  how = ⊎_elim inl halted by_rank
    where
      more : Delivers n lab d s 0 → Delivers n lab d s (lab s)
      more D = record { ended = D.ended; there = D.there; extra = D.extra; few = omega (arith, D.few); exact = D.exact }

      halted : (last n (route n lab d) s ≡ Halted) × Dark → Delivers n lab d s (lab s) ⊎ Halts n lab d s
      halted e = ⊎_elim (λ D. inl (more D)) inr (none_safe (λ x. e.1 x.0 x.1 x.2))

  pub walk_facts : WalkFacts n lab d s
  walk_facts =
      record {
        kept = kept (rank lab d) (λ _. Dark) progress.by_rank near_rank;
        rank_falls = rank_falls;
        how = how;
        some_safe = some_safe;
        to_safe = to_safe;
        none_safe = none_safe;
        nears = ⊎_elim from_safe_nears (⊎_elim to_safe_nears none_safe_nears);
      }
