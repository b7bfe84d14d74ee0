-- The parts of a reason are small too: a label is at most 4, a round at most 4097, a dimension or a count of neighbours at most 12, and a scan is one of six.
use mathlib.Core.Bool.{Bool, not}
use mathlib.Core.Path.{◌≡◌, subst}
use Prim.Native.Nat.{ℕ, ◌^◌, ◌≤◌, ◌<◌}
use native.Mathlib.Omega.{arith}
use lib.Dec.{eqb, leb}
use Rattle.std.specs.Prelude.{Ok}
use Rattle.cube.specs.Count.{count}
use Rattle.cube.specs.Cube.{flip}
use Rattle.cube.specs.Tables.{highest}
use Rattle.cube.proofs.Bools.{by_cases}
use Rattle.cube.proofs.Count.{count_bound}
use Rattle.cube.proofs.Refused as cube
use Rattle.rule.specs.Cabinet.{Cabinet, exchanges_of, faulty, out, out_byte}
use Rattle.rule.specs.Rule.{label, marked, safe}
use Rattle.rule.proofs.Cabinet.{exchanges_few, label-bytes, label-in}
use Rattle.causes.specs.Cause.{bad_cause, bad_near, cause_of, cause_with, earlier, nth, out_near, round_of}
use Rattle.causes.specs.declared.Cause.{Cause}
use Rattle.causes.specs.declared.Cause.TheVariants as cause
use Rattle.causes.proofs.Causes.{round_within}
use Rattle.causes.proofs.Nth.{nth_within}
use Rattle.scans.proofs.Picking.{hit_scan}
use Rattle.hop.specs.Hop as H
use Rattle.hop.proofs.Refusals.{hop_good}
use Rattle.labels.proofs.Refusal.{fitting}
use Rattle.why.specs.HopReasons as X
use Rattle.why.specs.NodeReasons as Y
use Rattle.why.specs.declared.HopReason.{HopReason}
use Rattle.why.specs.declared.NodeReason.{NodeReason}
use Rattle.why.specs.declared.NodeReason.TheVariants.{Safe, Unsafe, Out}
use Rattle.why.specs.Laws.{HopExplained, arrived, stopped, took}
use Rattle.why.proofs.Laws.{hop_explained}
use Rattle.why.proofs.Refusal.{accepted}
use Rattle.hcube.specs.Fits.{CauseFits, ReasonFits, ScanFits}

-- ---- a node

pub record NodeFits (a : NodeReason) : Type 0 where
  pub kind : Y.kind_of (Ok a) ≤ highest
  pub value : Y.value_of (Ok a) ≤ 4097
  pub cause : Y.cause_in (Ok a) ≤ 2
  pub first : Y.first_of (Ok a) ≤ 12
  pub second : Y.second_of (Ok a) ≤ 12
  pub third : Y.third_of (Ok a) ≤ 12

pub reason_fits : (a : NodeReason) → NodeFits a → ReasonFits a
reason_fits (Safe x y) f = (f.first, f.second)
reason_fits (Unsafe l r c) f = (f.value, (f.first, f.second, f.third))
reason_fits (Out l) f = tt

cause_few : (c : Cause) → Y.cause_number c ≤ 2
cause_few (cause.Faulty a b) = omega arith
cause_few (cause.Two a b) = omega arith
cause_few (cause.Three a b c) = omega arith

cause_small : (n k : ℕ) (F m : ℕ → Bool) (x : ℕ) → n ≤ 12 → CauseFits (cause_with n k F m x)
unfolding cause_with bad_cause
cause_small n k F m x h =
    by_cases CauseFits (leb 2 (count n (out_near F x))) (λ _. (few (out_near F x) 0, few (out_near F x) 1, omega arith))
    (λ _. by_cases CauseFits (eqb k 2) (λ _. (few (bad_near F m x) 0, few (bad_near F m x) 1, omega arith))
    (λ _. (few (bad_near F m x) 0, few (bad_near F m x) 1, few (bad_near F m x) 2)))
  where
    few : (p : ℕ → Bool) (j : ℕ) → nth n p j ≤ 12
    few p j = omega (arith, nth_within n p j)

module _ (K : Cabinet) (x : ℕ) (small : K.n ≤ 12) (inside : x < 2 ^ K.n) where
  abbrev n : ℕ
  n = K.n

  label_small : label n K.rule (out K) (out_byte K) x ≤ highest
  label_small = omega (arith, label-in K x inside, label-bytes K x inside)

  round_small : round_of n K.rule (out K) x ≤ 4097
  unfolding exchanges_of
  round_small = omega (arith, round_within n K.rule (out K) x, exchanges_few K small)

  reason_small : NodeFits (Y.reason_of K x)
  unfolding Y.reason_of cause_of
  reason_small =
      by_cases NodeFits (out K x) (λ _. of_out)
      (λ _. by_cases NodeFits (safe n K.rule (out K) x) (λ _. of_safe) (λ _. of_unsafe))
    where
      of_out : NodeFits (Out (out_byte K x))
      of_out =
          record {
            kind = by_cases (λ b. b ≤ highest) (faulty K x) (λ _. omega arith) (λ _. omega arith);
            value = omega arith;
            cause = omega arith;
            first = omega arith;
            second = omega arith;
            third = omega arith;
          }

      of_safe : NodeFits (Safe (count n (λ i. out K (flip i x))) (count n (λ i. not (safe n K.rule (out K) (flip i x)))))
      of_safe =
          record {
            kind = omega arith;
            value = omega arith;
            cause = omega arith;
            first = omega (arith, count_bound n (λ i. out K (flip i x)));
            second = omega (arith, count_bound n (λ i. not (safe n K.rule (out K) (flip i x))));
            third = omega arith;
          }

      of_unsafe : NodeFits (Unsafe (label n K.rule (out K) (out_byte K) x) (round_of n K.rule (out K) x) (cause_of n K.rule (out K) x))
      of_unsafe =
          let fits = cause_small n K.rule (out K) (marked n K.rule (out K) (earlier n K.rule (out K) x)) x small in
          record {
            kind = label_small;
            value = round_small;
            cause = cause_few (cause_of n K.rule (out K) x);
            first = fits.0;
            second = fits.1;
            third = fits.2;
          }

pub node_small : (K : Cabinet) (j m x : ℕ) (a : NodeReason) → Y.node_reason K j m x ≡ Ok a → NodeFits a
unfolding Y.node_reason
node_small K j m x a e =
    let p = cube.accepted (Y.node_refusal K j m x) (Y.reason_of K x) a e in
    let q = accepted K j m x p.0 in
    subst NodeFits p.1 (reason_small K x (fitting K j m q.0).halved.small q.1)

-- ---- a hop

explained_small : (n : ℕ) (lab : ℕ → ℕ) (c d : ℕ) (a : HopReason) → HopExplained n lab c d a → n ≤ 12 → ScanFits a
explained_small n lab c d _ (arrived e) h = tt
explained_small n lab c d _ (took {s} {i} far p) h = (hit_scan n lab c d p.hits, omega (arith, p.dimension))
explained_small n lab c d _ (stopped far none) h = tt

pub hop_reason_small : (n j c d m : ℕ) (lab : ℕ → ℕ) (a : HopReason) → X.hop_reason n j c d m lab ≡ Ok a → ScanFits a
unfolding X.hop_reason
hop_reason_small n j c d m lab a e =
    let p = cube.accepted (H.hop_refusal n j c d m lab) (X.explain n c d (lab c) (λ i. lab (flip i c))) a e in
    subst ScanFits p.1 (explained_small n lab c d _ (hop_explained n lab c d) (hop_good n j c d m lab p.0).halved.small)
