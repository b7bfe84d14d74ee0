-- THEOREM 7 of Chiu and Wu 1994. On good labels with a safe node, Algorithm ROUTE_C brings every message from a node that works to a node that
-- works, by at most twice as many hops more than the distance as the source's label (0 safe, 1 ordinarily, 2 strongly unsafe), and in no phase
-- above 9: five networks are enough. Each hop makes progress (Progress); so the rank, which falls, bounds the hops, and the phase stays in its bound.
use mathlib.Core.Path.{◌≡◌, ap, ◌∙◌}
use mathlib.Core.Logic.{◌⊎◌, inl, inr, ⊎_elim}
use mathlib.Core.Bool.{true, false}
use Prim.Native.Nat.{ℕ, zero, suc, ◌+◌, ◌*◌, ◌^◌, ◌≤◌, ◌<◌}
use native.Mathlib.Omega.{arith}
use Rattle.cube.specs.Cube.{flip, apart, dist}
use Rattle.cube.proofs.Bools.{either, clash}
use Rattle.cube.proofs.Count.{below_suc}
use Rattle.cube.proofs.Cube.{flip_lt, dist_self, dist_fall, dist_rise}
use Rattle.rule.specs.Good.{Good}
use Rattle.scans.specs.Progress.{Receives, rank}
use Rattle.scans.proofs.Progress.{rank_le}
use Rattle.hop.specs.declared.Decision.TheVariants.{Deliver, Hop}
use Rattle.blocks.specs.Turns.{Room}
use Rattle.blocks.specs.Course.{spot, phase, turn, Runs, Arrives}
use Rattle.blocks.proofs.Turns.{still_most}
use Rattle.blocks.proofs.Progress.{Next, arrive, move, next}
use Rattle.blocks.proofs.Rising.{stops_deliver, stops_hop, spot_zero, phase_zero, place_suc}

module _
    (n : ℕ) (lab : ℕ → ℕ) (G : Good n lab) (x : ℕ) (hx : x < 2 ^ n) (ex : lab x ≡ 0)
    (d : ℕ) (hd : d < 2 ^ n) (wd : Receives (lab d)) (s : ℕ) (hs : s < 2 ^ n) (ws : lab s ≤ 2) where
  -- after k hops
  record On (k : ℕ) : Type 0 where
    inside : spot n lab d s k < 2 ^ n
    works : 0 < dist (spot n lab d s k) d → lab (spot n lab d s k) ≤ 2
    room : Room n lab d (phase n lab d s k) (spot n lab d s k)
    falls : k + rank lab d (spot n lab d s k) ≤ rank lab d s
    extra : ℕ
    even : k + dist (spot n lab d s k) d ≡ dist s d + 2 * extra

  coming : (k : ℕ) → On k → Next n lab d (phase n lab d s k) (spot n lab d s k)
  coming k o = next n lab G d hd wd x hx ex (phase n lab d s k) (spot n lab d s k) o.inside o.works o.room

  start : On 0
  start =
      record {
        inside = rw spot_zero hs;
        works = λ _. rw spot_zero ws;
        room = omega (arith, phase_zero n lab d s, still_most n lab d (phase n lab d s 0) (spot n lab d s 0), ap lab (spot_zero n lab d s));
        falls = omega (arith, ap (rank lab d) (spot_zero n lab d s));
        extra = 0;
        even = omega (arith, ap (λ y. dist y d) (spot_zero n lab d s));
      }

  -- a hop changes the distance by one
  parity : (k i : ℕ) → On k → i < n → (m : ℕ) × (suc k + dist (flip i (spot n lab d s k)) d ≡ dist s d + 2 * m)
  parity k i o hi = go (either (apart i (spot n lab d s k) d))
    where
      go : (apart i (spot n lab d s k) d ≡ true) ⊎ (apart i (spot n lab d s k) d ≡ false) → (m : ℕ) × (suc k + dist (flip i (spot n lab d s k)) d ≡ dist s d + 2 * m)
      go (inl a) = (o.extra, omega (arith, o.even, dist_fall n i (spot n lab d s k) d o.inside hd hi a))
      go (inr a) = (suc o.extra, omega (arith, o.even, dist_rise n i (spot n lab d s k) d o.inside hd hi a))

  on : (k : ℕ) → Runs n lab d s k → On k
  on zero f = start
  on (suc k) f = go (on k (λ j h. f j (omega arith)))
    where
      go : On k → On (suc k)
      go o = by (coming k o)
        where
          by : Next n lab d (phase n lab d s k) (spot n lab d s k) → On (suc k)
          by (arrive _ e) = absurd (clash (stops_deliver e) (f k (omega arith)))
          by (move i far hi e w l q) =
              let z = place_suc n lab d s k i e in
              let m = parity k i o hi in
              record {
                inside = rw (ap (λ y. y.node) z) (flip_lt n i (spot n lab d s k) hi o.inside);
                works = rw (ap (λ y. y.node) z) w;
                room = rw (ap (λ y. y.node) z, ap (λ y. y.phase) z) q;
                falls = omega (arith, l, o.falls, ap (λ y. rank lab d y.node) z);
                extra = m.0;
                even = omega (arith, m.1, ap (λ y. dist y.node d) z);
              }

  runs_suc : (k i : ℕ) → Runs n lab d s k → turn n lab d s k ≡ Hop i → Runs n lab d s (suc k)
  runs_suc k i f e j h = ⊎_elim (λ (q : j ≡ k). stops_hop i (ap (turn n lab d s) q ∙ e)) (λ (q : j < k). f j q) (below_suc h)

  -- it comes to an end before the rank is used up, and it ends at d
  ends : (fuel k : ℕ) → rank lab d (spot n lab d s k) ≤ fuel → Runs n lab d s k
      → (m : ℕ) × Runs n lab d s m × (turn n lab d s m ≡ Deliver) × (spot n lab d s m ≡ d)
  ends zero k h f = go (coming k (on k f))
    where
      go : Next n lab d (phase n lab d s k) (spot n lab d s k) → (m : ℕ) × Runs n lab d s m × (turn n lab d s m ≡ Deliver) × (spot n lab d s m ≡ d)
      go (arrive q e) = (k, f, e, q)
      go (move i far hi e w l q) = absurd (omega arith)
  ends (suc fuel) k h f = go (ends fuel (suc k)) (coming k (on k f))
    where
      go : (rank lab d (spot n lab d s (suc k)) ≤ fuel → Runs n lab d s (suc k)
          → (m : ℕ) × Runs n lab d s m × (turn n lab d s m ≡ Deliver) × (spot n lab d s m ≡ d))
          → Next n lab d (phase n lab d s k) (spot n lab d s k) → (m : ℕ) × Runs n lab d s m × (turn n lab d s m ≡ Deliver) × (spot n lab d s m ≡ d)
      go ih (arrive q e) = (k, f, e, q)
      go ih (move i far hi e w l q) = ih (omega (arith, ap (λ y. rank lab d y.node) (place_suc n lab d s k i e))) (runs_suc k i f e)

  pub theorem7 : Arrives n lab d s (lab s) 9
  theorem7 =
      record {
        hops = m;
        runs = f;
        ended = r.2;
        there = r.3;
        extra = o.extra;
        few = omega (arith, o.falls, o.even, rank_le lab d s, ap (λ y. dist y d) r.3, dist_self d);
        exact = omega (arith, o.even, ap (λ y. dist y d) r.3, dist_self d);
        works = works_before;
        phases = λ k h. omega (arith, (on k (λ j l. f j (omega arith))).room);
      }
    where
      r : (m : ℕ) × Runs n lab d s m × (turn n lab d s m ≡ Deliver) × (spot n lab d s m ≡ d)
      r = ends (rank lab d (spot n lab d s 0)) 0 (omega arith) (λ j h. absurd (omega arith))

      m : ℕ
      m = r.0

      f : Runs n lab d s m
      f = r.1

      o : On m
      o = on m f

      works_before : (k : ℕ) → k < m → lab (spot n lab d s k) ≤ 2
      works_before k h = go (on k (λ j l. f j (omega arith)))
        where
          go : On k → lab (spot n lab d s k) ≤ 2
          go q = by (coming k q)
            where
              by : Next n lab d (phase n lab d s k) (spot n lab d s k) → lab (spot n lab d s k) ≤ 2
              by (arrive _ e) = absurd (clash (stops_deliver e) (f k h))
              by (move i far hi e w l z) = q.works far
