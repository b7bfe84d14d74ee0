-- The tally, of whatever its contract allows: the counters are those of the definitions, whose sums are the crate figures'. And the walk that labelling and the
-- walk's contracts allow is the cabinet's, which has one kind.
use Rattle.std.specs.Prelude.{Result, Ok}
use mathlib.Core.Bool.{true, not}
use mathlib.Core.List.{List}
use mathlib.Core.Logic.{◌≢◌, ◌↔◌}
use mathlib.Core.Path.{◌≡◌, refl, sym, ap, subst, ◌∙◌}
use Prim.Native.Nat.{ℕ, zero, suc, ◌+◌, ◌-◌, ◌*◌, ◌/◌, ◌%◌, ◌^◌, ◌≤◌, ◌<◌}
use native.Mathlib.Nat.{two-pow-succ}
use native.Mathlib.Omega.{arith}
use lib.Dec.{eqb}
use lib.ListN.{get_or, length}
use lib.Pow.{pow_pos}
use Rattle.cube.specs.Allowed.{May}
use Rattle.cube.specs.Cube.{dist}
use Rattle.cube.specs.Refusal.{first}
use Rattle.cube.proofs.Contracts.{may, told}
use Rattle.cube.proofs.Front.{get_d_tab}
use Rattle.cube.proofs.Refusal.{first_le}
use Rattle.walk.specs.declared.Walked.{Walked}
use Rattle.figures.specs.Figures.{counters_of, tally_of, total}
use Rattle.figures.specs.Laws.{OneKind, Sums}
use Rattle.figures.proofs.Four.{of_four}
use Rattle.figures.proofs.Laws.{sums}
use Rattle.figures.proofs.Sum.{sum_same}
use Rattle.counters.specs.Tally.{counters_after, is_tallied, tally_refusal, tally_tests}
use Rattle.counters.proofs.Functions as counters
use Rattle.counters.proofs.Outcomes.{counters_kept, counters_long, counters_made, taken}
use Rattle.promises.specs.Library.{Library, rattle, c}
use Rattle.promises.specs.Refusals.{none}
use Rattle.promises.specs.Tallies.{FourKinds, Tallies, TallyGiven, TallyWhen, line_at, tally_1, tally_2}
use Rattle.promises.proofs.Demands.{is_walk, left}
use Rattle.promises.proofs.Given.{and_says, eqb_says, leb_says, not_says, one_test}
use Rattle.promises.proofs.Lent.{lend_mut, one}
use Rattle.promises.proofs.Library.{Faithful, done_is, rattle_faithful, c_faithful}
use Rattle.cube.specs.declared.refusals.Refusal.{Refusal}
use Rattle.cube.specs.Refused.{refused, answered}

-- ---- the refusals

module _ (n m : ℕ) where
  tallied_says : (is_tallied n ≡ true) ↔ ((1 ≤ n) × (n ≤ 4))
  unfolding is_tallied
  tallied_says = and_says _ _ (leb_says 1 n) (leb_says n 4)

  said_1 : TallyWhen n m 1 → not (is_tallied n) ≡ true
  said_1 (tally_1 d) = (not_says (is_tallied n) tallied_says).1 d

  said_2 : TallyWhen n m 2 → not (eqb m (counters_of n)) ≡ true
  said_2 (tally_2 d) = (not_says (eqb m (counters_of n)) (eqb_says m (counters_of n))).1 d

  tally_given : TallyGiven n m (tally_refusal n m)
  unfolding tally_refusal first
  tally_given =
      one_test _ (λ e. tally_1 ((not_says (is_tallied n) tallied_says).0 e)) said_1
      (one_test _ (λ e. tally_2 ((not_says (eqb m (counters_of n)) (eqb_says m (counters_of n))).0 e)) said_2 none)

refusal_few : (n m : ℕ) → tally_refusal n m ≤ 2
unfolding tally_refusal
refusal_few n m = first_le 2 (tally_tests n m) refl

-- ---- the counters

module _ {n : ℕ} {before after : List ℕ} where
  is : {x : Result (Unit {0}) Refusal} → May counters.tally (n, before) x after → (refused x ≡ tally_refusal n (length before)) × (after ≡ counters_after n before)
  is m = let t = told counters.tally_says m in (done_is (omega (arith, refusal_few n (length before))) t.0 refl, t.1)

  kept : {x : Result (Unit {0}) Refusal} → May counters.tally (n, before) x after → refused x ≢ 0 → after ≡ before
  kept m d = let t = is m in t.1 ∙ sym (counters_kept n before (λ z. d (t.0 ∙ z)))

  module _ (m : May counters.tally (n, before) (Ok tt) after) where
    nothing : tally_refusal n (length before) ≡ 0
    nothing = sym (is m).0

    counters_are : after ≡ tally_of n
    counters_are = (is m).1 ∙ sym (counters_made n before nothing)

    S : Sums n
    S = let d = (taken n (length before) nothing).0 in sums n (d.0, omega (arith, d.1))

    counter : (k i : ℕ) → k ≤ 2 ^ n → i < 6 → line_at after k i ≡ total n k i
    unfolding tally_of
    counter k i h l =
        let q : (6 * k + i) / 6 ≡ k = omega arith in
        let r : (6 * k + i) % 6 ≡ i = omega arith in
        ap (λ (s : List ℕ). get_or s (6 * k + i) 0) counters_are ∙ get_d_tab (counters_of n) _ (6 * k + i) (omega arith) ∙ rw (q, r) refl

    walks : (k : ℕ) → k ≤ 2 ^ n
        → line_at after k 2 + line_at after k 3 + line_at after k 4 + line_at after k 5 ≡ line_at after k 0 * (2 ^ n - k) * (2 ^ n - k)
    walks k h =
        rw (
          counter k 0 h (omega arith),
          counter k 2 h (omega arith),
          counter k 3 h (omega arith),
          counter k 4 h (omega arith),
          counter k 5 h (omega arith),
        )
        (S.walks k)

-- a cube has more nodes than dimensions
dimensions_few : (n : ℕ) → n ≤ 2 ^ n
dimensions_few zero = omega arith
dimensions_few (suc n) = omega (arith, dimensions_few n, two-pow-succ n, pow_pos n)

pub tallies : Tallies
tallies =
    record {
      answers = λ n before.
          (_, _, may counters.tally one (n, (lend_mut before, tt)) (answered (tally_refusal n (length before)) tt) (n, (lend_mut (counters_after n before), tt)) (refl, refl));
      refusal = λ {n} {x} {before} m. subst (TallyGiven n (length before)) (sym (is m).0) (tally_given n (length before));
      kept = λ m d. kept m d;
      sized = λ {n} {x} {before} m. ap length (is m).1 ∙ counters_long n before;
      counter = λ m. counter m;
      walks = λ m. walks m;
      tables_with = λ {n} m k h. let e = counter m k 0 h (omega arith) in (e ∙ (S m).tables_with k, e ∙ (S m).chosen k);
      all = λ {n} m. sum_same (2 ^ n + 1) _ _ (λ k h. counter m k 0 (omega arith) (omega arith)) ∙ (S m).all;
      few = λ {n} m k h.
          let below : k ≤ 2 ^ n = omega (arith, dimensions_few n) in
          (counter m k 1 below (omega arith) ∙ (S m).few_safe k h, counter m k 5 below (omega arith) ∙ (S m).few_arrive k h);
    }

-- ---- every walk

kinds : (lib : Library) → Faithful lib → FourKinds lib
kinds lib F =
    record {
      one = λ {K} {j} {exchanges} {s} {d} m hs hd v.
          subst (λ (w : Walked). OneKind w (dist s d)) (sym (is_walk lib F m v)) (of_four K j (left lib F m).accepted s d hs hd);
    }

pub rattle_kinds : FourKinds rattle
rattle_kinds = kinds rattle rattle_faithful

pub c_kinds : FourKinds c
c_kinds = kinds c c_faithful
