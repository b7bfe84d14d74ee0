-- What an answer of the walk by networks may be: a refusal of 19 at most, or a hop count of 120 at most; and what a walk has that is not refused.
use mathlib.Core.Path.{◌≡◌, refl}
use mathlib.Core.Bool.{true}
use mathlib.Core.Logic.{◌≢◌}
use Prim.Native.Nat.{ℕ, ◌^◌, ◌≤◌, ◌<◌}
use native.Mathlib.Omega.{arith}
use lib.Dec.{eqb, leb, ltb}
use borrow.Author.Tests.{eqb-false, eqb-true, leb-false, ltb-false, ltb-true, not-false}
use Rattle.std.specs.Prelude.{Result}
use Rattle.cube.specs.Refused.{refusal}
use Rattle.cube.specs.declared.refusals.Refusal.{Refusal}
use Rattle.cube.specs.Tables.{highest, is_dimension}
use Rattle.cube.proofs.Bools.{by_cases, clash, or_false}
use Rattle.cube.proofs.Refusal.{first_le, first_none}
use Rattle.cube.proofs.Refused.{number_range}
use Rattle.cube.proofs.Search.{none_some}
use Rattle.cube.proofs.Tables.{dimension_is}
use Rattle.jobs.specs.Jobs.{is_job, label_bytes}
use Rattle.hop.specs.Helpers.{Asked}
use Rattle.hop.specs.declared.Decision.{Decision}
use Rattle.hop.specs.declared.Decision.TheVariants.{Deliver, Hop, Halted}
use Rattle.walk.specs.Walk.{stops}
use Rattle.blocks.specs.Board.{hops_on, last_on, most_hops}
use Rattle.blocks.proofs.Board.{walks}
use Rattle.hop_networks.proofs.Refusals.{board_is}
use Rattle.walk_networks.specs.Crossing.{cross_refusal, cross_tests, crossing, ended_by, hops_of, refusal_of, too_short}
use Rattle.walk_networks.specs.declared.Crossed.{Crossed}
use Rattle.walk_networks.proofs.Refusals.{hops_within}
use Rattle.walk_networks.proofs.Steps.{most_few}

pub record CrossGood (n N j s d m room : ℕ) (lab : ℕ → ℕ) : Type 0 where
  pub dimension : is_dimension n ≡ true
  pub some : 0 < N
  pub few : N ≤ 5
  pub placed : Asked n j s d m
  pub room_enough : most_hops n N ≤ room
  pub low : (x : ℕ) → x < 2 ^ n → lab x ≤ highest
  pub source : lab s ≤ 2
  pub target : lab d ≢ 3
  pub ends : stops (last_on n N lab d s) ≡ true

-- a walk that ends is not refused
pub ended_well : (k : ℕ) (x : Decision) → stops x ≡ true → refusal_of (ended_by k x) ≡ 0
unfolding stops ended_by
ended_well k Deliver e = refl
ended_well k (Hop i) e = absurd (clash e refl)
ended_well k Halted e = refl

module _ (n N j s d m room : ℕ) (lab : ℕ → ℕ) where
  pub refusal_le : cross_refusal n N j s d m room lab ≤ 19
  unfolding cross_refusal
  refusal_le = first_le 19 (cross_tests n N j s d m room lab) refl

  pub cross_good : cross_refusal n N j s d m room lab ≡ 0 → CrossGood n N j s d m room lab
  unfolding cross_refusal too_short is_job
  cross_good e =
      let t = first_none 19 (cross_tests n N j s d m room lab) refl e in
      let small = (dimension_is n (not-false _ t.0)).1 in
      let b = board_is N (not-false _ t.1.0) in
      let l = t.1.1 in
      let r = or_false (leb (2 ^ n) s) (leb (2 ^ n) d) l.1.1.1.0 in
      let f = l.1.1.1.1 in
      record {
        dimension = not-false _ t.0;
        some = b.0;
        few = b.1;
        placed =
            record {
              halved = record { small = small; job = ltb-true j 2 (not-false _ l.0); sized = eqb-true m (label_bytes n) (not-false _ l.1.0) };
              first = leb-false (2 ^ n) s r.0;
              second = leb-false (2 ^ n) d r.1;
            };
        room_enough = ltb-false room (most_hops n N) l.1.1.0;
        low = λ x h. ltb-false highest (lab x) (none_some (2 ^ n) (λ y. ltb highest (lab y)) f.0 x h);
        source = let q = leb-false 3 (lab s) f.1.0 in omega arith;
        target = eqb-false (lab d) 3 f.1.1.0;
        ends = not-false _ f.1.1.1.0;
      }

  -- its parts are small
  refusal_ends : (k : ℕ) (x : Decision) → refusal_of (ended_by k x) < 256
  unfolding ended_by
  refusal_ends k Deliver = omega arith
  refusal_ends k (Hop i) = omega arith
  refusal_ends k Halted = omega arith

  pub crossing_small : (refusal_of (crossing n N j s d m room lab) < 256) × (hops_of (crossing n N j s d m room lab) ≤ 120)
  unfolding crossing
  crossing_small =
      by_cases (λ (a : Result Crossed Refusal). (refusal_of a < 256) × (hops_of a ≤ 120)) (eqb (cross_refusal n N j s d m room lab) 0)
      (λ e.
      let g = cross_good (eqb-true (cross_refusal n N j s d m room lab) 0 e) in
      let w = walks n lab d s g.placed.first N g.some in (
        refusal_ends (hops_on n N lab d s) (last_on n N lab d s),
        omega (arith, hops_within (hops_on n N lab d s) (last_on n N lab d s), w.within, most_few n N g.placed.halved.small g.few),
      ))
      (λ _. let r = number_range (refusal (cross_refusal n N j s d m room lab)) in (omega (arith, r.1), omega arith))
