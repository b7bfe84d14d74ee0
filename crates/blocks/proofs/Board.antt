-- The walk on a board with N networks, WHATEVER THE LABELS: it comes to an end within 2 * n * N hops; where its last decision is no hop, a board with
-- more networks makes the same walk; and on good labels with a safe node five networks bring every message to its destination.
use mathlib.Core.Path.{◌≡◌, sym, ap, ◌∙◌}
use mathlib.Core.Logic.{⊎_elim}
use mathlib.Core.Bool.{true, false}
use Prim.Native.Nat.{ℕ, zero, suc, ◌*◌, ◌^◌, ◌≤◌, ◌<◌}
use native.Mathlib.Omega.{arith}
use lib.Dec.{leb}
use borrow.Author.Tests.{leb-false, lt-leb}
use Rattle.cube.specs.Count.{least}
use Rattle.cube.proofs.Bools.{or_false, or_left, either, clash}
use Rattle.cube.proofs.Count.{below_suc}
use Rattle.cube.proofs.Search.{Least, the_least, least_is}
use Rattle.rule.specs.Good.{Good}
use Rattle.scans.specs.Progress.{Receives}
use Rattle.walk.specs.Walk.{stops}
use Rattle.blocks.specs.Board.{beyond, ends_on, hops_on, last_on}
use Rattle.blocks.specs.Laws.{FiveEnough}
use Rattle.blocks.specs.Course.{phase, spot, turn, Runs, Arrives}
use Rattle.blocks.proofs.Arrival.{theorem7}
use Rattle.blocks.proofs.Rising.{hops-bound, phase_zero, step, stops_deliver}

module _ (n : ℕ) (lab : ℕ → ℕ) (d s : ℕ) (hs : s < 2 ^ n) where
  -- where the decision is a hop, its network is that of the next place
  pub beyond_is : (N k : ℕ) → stops (turn n lab d s k) ≡ false
      → beyond N (phase n lab d s k) (spot n lab d s k) (turn n lab d s k) ≡ leb (2 * N) (phase n lab d s (suc k))
  unfolding beyond
  beyond_is N k e = let r = step n lab d s hs k e in rw (r.decided, r.phase_is)

  -- after k hops the walk goes on: a hop, and in a network of the board
  goes_on : (N k : ℕ) → ends_on n N lab d s k ≡ false → (stops (turn n lab d s k) ≡ false) × (phase n lab d s (suc k) < 2 * N)
  unfolding ends_on
  goes_on N k e =
      let r = or_false _ _ e in
      (r.0, leb-false (2 * N) (phase n lab d s (suc k)) (sym (beyond_is N k r.0) ∙ r.1))

  keeps_on : (N k : ℕ) → stops (turn n lab d s k) ≡ false → phase n lab d s (suc k) < 2 * N → ends_on n N lab d s k ≡ false
  unfolding ends_on
  keeps_on N k e h = rw (e, beyond_is N k e, lt-leb (2 * N) (phase n lab d s (suc k)) h)

  pub stop_ends : (N k : ℕ) → stops (turn n lab d s k) ≡ true → ends_on n N lab d s k ≡ true
  unfolding ends_on
  stop_ends N k e = or_left (beyond N (phase n lab d s k) (spot n lab d s k) (turn n lab d s k)) e

  module _ (N : ℕ) (some : 0 < N) where
    the_hops : Least (2 * n * N) (ends_on n N lab d s)
    the_hops = the_least (2 * n * N) (ends_on n N lab d s)

    -- the walk on the board
    pub record Walks : Type 0 where
      pub within : hops_on n N lab d s ≤ 2 * n * N
      pub runs : Runs n lab d s (hops_on n N lab d s)
      pub phases : (k : ℕ) → k ≤ hops_on n N lab d s → phase n lab d s k < 2 * N
      pub ends : ends_on n N lab d s (hops_on n N lab d s) ≡ true

    -- where it is known to go on before k
    module _ (k : ℕ) (f : (j : ℕ) → j < k → ends_on n N lab d s j ≡ false) where
      pub on_runs : Runs n lab d s k
      on_runs j h = (goes_on N j (f j h)).0

      on_phases : (j : ℕ) → j ≤ k → phase n lab d s j < 2 * N
      on_phases zero h = omega (arith, phase_zero n lab d s)
      on_phases (suc j) h = (goes_on N j (f j h)).1

      -- it has not gone too far
      pub on_within : k ≤ 2 * n * N
      on_within = hops-bound n lab d s hs k N on_runs (on_phases k (omega arith))

    pub walks : Walks
    unfolding hops_on
    walks =
        record {
          within = the_hops.within;
          runs = on_runs K before;
          phases = on_phases K before;
          ends = ⊎_elim (λ e. e) (λ e. absurd (too_far e)) (either (ends_on n N lab d s K));
        }
      where
        K : ℕ
        K = least (2 * n * N) (ends_on n N lab d s)

        before : (j : ℕ) → j < K → ends_on n N lab d s j ≡ false
        before = the_hops.before

        too_far : ends_on n N lab d s K ≡ false → ⊥
        too_far e =
            let l = on_within (suc K) (λ j h. ⊎_elim (λ (q : j ≡ K). ap (ends_on n N lab d s) q ∙ e) (λ (q : j < K). before j q) (below_suc h)) in
            clash (the_hops.hit l) e

  -- a walk that goes on before k hops and ends there has made k
  pub ends_at : (N k : ℕ) → 0 < N → ((j : ℕ) → j < k → ends_on n N lab d s j ≡ false) → ends_on n N lab d s k ≡ true → hops_on n N lab d s ≡ k
  unfolding hops_on
  ends_at N k some f e = least_is (2 * n * N) (ends_on n N lab d s) k (on_within N some k f) f (λ _. e)

  -- a walk that keeps to the board's networks up to a decision that is no hop ends there
  pub hops_is : (N k : ℕ) → Runs n lab d s k → ((j : ℕ) → j ≤ k → phase n lab d s j < 2 * N) → stops (turn n lab d s k) ≡ true → hops_on n N lab d s ≡ k
  unfolding hops_on
  hops_is N k f g e =
      least_is (2 * n * N) (ends_on n N lab d s) k (hops-bound n lab d s hs k N f (g k (omega arith))) (λ j h. keeps_on N j (f j h) (g (suc j) h))
      (λ _. stop_ends N k e)

  -- more networks, the same walk
  pub same_walk : (N M : ℕ) → 0 < N → N ≤ M → stops (last_on n N lab d s) ≡ true → hops_on n M lab d s ≡ hops_on n N lab d s
  unfolding last_on
  same_walk N M h l e = let w = walks N h in hops_is M (hops_on n N lab d s) w.runs (λ j k. omega (arith, w.phases j k)) e

-- FIVE NETWORKS ARE ENOUGH: on good labels with a safe node the walk on a board with five or more is delivered
module _
    (n : ℕ) (lab : ℕ → ℕ) (G : Good n lab) (x : ℕ) (hx : x < 2 ^ n) (ex : lab x ≡ 0)
    (d : ℕ) (hd : d < 2 ^ n) (wd : Receives (lab d)) (s : ℕ) (hs : s < 2 ^ n) (ws : lab s ≤ 2) where
  A : Arrives n lab d s (lab s) 9
  A = theorem7 n lab G x hx ex d hd wd s hs ws

  same : (N : ℕ) → 5 ≤ N → hops_on n N lab d s ≡ A.hops
  same N h = hops_is n lab d s hs N A.hops A.runs (λ j k. omega (arith, A.phases j k)) (stops_deliver A.ended)

  pub five_enough : FiveEnough n lab s d
  unfolding last_on
  five_enough = record { arrives = A; delivers = λ N h. ap (turn n lab d s) (same N h) ∙ A.ended; same_hops = same }
