-- Each question's refusal is the number that the words give (specs/Refusals.antt). A refusal is the first test that holds, so test by test: it says what its
-- case says, both ways.
use mathlib.Core.Path.{◌≡◌, refl, sym, ap, ◌∙◌}
use mathlib.Core.Logic.{◌⊎◌, inl, inr, ⊎_elim, ◌↔◌, ◌≢◌}
use mathlib.Core.Bool.{Bool, true, false, not, ◌&&◌, ◌||◌}
use Prim.Native.Nat.{ℕ, ◌^◌, ◌≤◌, ◌<◌}
use lib.Dec.{eqb, leb, ltb}
use borrow.Author.Tests.{eqb-false, eqb-true, eq-eqb, le-leb, leb-true}
use Rattle.cube.specs.Count.{some}
use Rattle.cube.specs.Cube.{flip}
use Rattle.cube.specs.Refusal.{first}
use Rattle.cube.specs.Refused.{refused}
use Rattle.cube.specs.Tables.{highest, is_dimension}
use Rattle.cube.proofs.Bools.{clash, either}
use Rattle.cube.proofs.Refusal.{first_le}
use Rattle.cube.proofs.Refused.{refused_is}
use Rattle.jobs.specs.Jobs.{is_job, label_bytes}
use Rattle.hop.specs.Hop as H
use Rattle.walk.specs.Walk as W
use Rattle.why.specs.HopReasons as X
use Rattle.theorems.proofs.Repeats.{walk_repeats}
use Rattle.promises.specs.Refusals.{
  HopGiven,
  HopWhen,
  Refusals,
  WalkGiven,
  WalkWhen,
  hop_1,
  hop_19,
  hop_2,
  hop_4_here,
  hop_4_near,
  hop_5,
  hop_6_draining,
  hop_6_faulty,
  none,
  walk_1,
  walk_19,
  walk_2_labels,
  walk_2_row,
  walk_4,
  walk_5,
  walk_6,
  walk_7,
  walk_8,
}
use Rattle.promises.proofs.Given.{
  also_test,
  and_says,
  eqb_says,
  given_one,
  ltb_says,
  not_says,
  number_is,
  one_test,
  or_says,
  outside,
  some_says,
  wrong_dimension,
  wrong_halves,
  wrong_job,
}
use Rattle.promises.proofs.Eight.{eight}
use Rattle.promises.proofs.RepairRefusals.{repair_given}
use Rattle.promises.proofs.WriteRefusals.{read_list_given, write_given, write_list_given}
use Rattle.promises.proofs.LabelRefusals.{label_given, label-refusal, node_given, node-refusal}
use Rattle.promises.proofs.Notices.{notice_given, notice_one, number_given}
use Rattle.promises.proofs.Sizes.{dimension_given, dimension_one}

-- ---- a hop

module _ (n j c d m : ℕ) (lab : ℕ → ℕ) where
  hop-refusal : H.hop_refusal n j c d m lab ≡ refused (H.hopped n j c d m lab)
  unfolding H.hopped H.hop_refusal
  hop-refusal = sym (refused_is _ (H.hop n lab c d) (first_le 19 (H.hop_tests n j c d m lab) refl))

  -- why it is taken goes by the same number
  pub reason_refusal : H.hop_refusal n j c d m lab ≡ refused (X.hop_reason n j c d m lab)
  unfolding X.hop_reason H.hop_refusal
  reason_refusal = sym (refused_is _ (X.explain n c d (lab c) (λ i. lab (flip i c))) (first_le 19 (H.hop_tests n j c d m lab) refl))

  abbrev near : Bool
  near = some n (λ i. ltb highest (lab (flip i c)))

  pub hop_bytes : ((ltb highest (lab c) || near) ≡ true) ↔ ((4 < lab c) ⊎ ((i : ℕ) × (i < n) × (4 < lab (flip i c))))
  hop_bytes = or_says _ _ (ltb_says 4 (lab c)) (some_says n _ (λ i. 4 < lab (flip i c)) (λ i. ltb_says 4 (lab (flip i c))))

  pub hop_four : (4 < lab c) ⊎ ((i : ℕ) × (i < n) × (4 < lab (flip i c))) → HopWhen n j c d m lab 4
  hop_four (inl h) = hop_4_here h
  hop_four (inr r) = hop_4_near r.0 r.1 r.2

  pub hop_said_1 : HopWhen n j c d m lab 1 → not (is_dimension n) ≡ true
  hop_said_1 (hop_1 w) = (wrong_dimension n).1 w

  pub hop_said_19 : HopWhen n j c d m lab 19 → not (is_job j) ≡ true
  hop_said_19 (hop_19 w) = (wrong_job j).1 w

  pub hop_said_2 : HopWhen n j c d m lab 2 → not (eqb m (label_bytes n)) ≡ true
  hop_said_2 (hop_2 w) = (wrong_halves n m).1 w

  pub hop_said_5 : HopWhen n j c d m lab 5 → (leb (2 ^ n) c || leb (2 ^ n) d) ≡ true
  hop_said_5 (hop_5 w) = (outside n c d).1 w

  pub hop_said_4 : HopWhen n j c d m lab 4 → (ltb highest (lab c) || near) ≡ true
  hop_said_4 (hop_4_here h) = hop_bytes.1 (inl h)
  hop_said_4 (hop_4_near i l h) = hop_bytes.1 (inr (i, l, h))

  pub hop_away : ((eqb (lab c) 4 && not (eqb c d)) ≡ true) ↔ ((lab c ≡ 4) × (c ≢ d))
  hop_away = and_says _ _ (eqb_says (lab c) 4) (not_says _ (eqb_says c d))

  pub hop_said_6 : eqb (lab c) 3 ≡ false → HopWhen n j c d m lab 6 → (eqb (lab c) 4 && not (eqb c d)) ≡ true
  hop_said_6 f (hop_6_faulty e) = absurd (clash (eq-eqb (lab c) 3 e) f)
  hop_said_6 f (hop_6_draining e k) = hop_away.1 (e, k)

  hop_given : HopGiven n j c d m lab (H.hop_refusal n j c d m lab)
  unfolding H.hop_refusal first
  hop_given =
      one_test _ (λ e. hop_1 ((wrong_dimension n).0 e)) hop_said_1
      (one_test _ (λ e. hop_19 ((wrong_job j).0 e)) hop_said_19
      (one_test _ (λ e. hop_2 ((wrong_halves n m).0 e)) hop_said_2
      (one_test _ (λ e. hop_5 ((outside n c d).0 e)) hop_said_5
      (one_test _ (λ e. hop_four (hop_bytes.0 e)) hop_said_4
      (also_test _ (λ e. hop_6_faulty (eqb-true (lab c) 3 e)) (λ f. one_test _ (λ e. let r = hop_away.0 e in hop_6_draining r.0 r.1) (hop_said_6 f) none))))))

-- ---- a walk

module _ (n j s d m room : ℕ) (lab : ℕ → ℕ) where
  few : W.walk_refusal n j s d m room lab ≤ 19
  unfolding W.walk_refusal
  few = first_le 19 (W.walk_tests n j s d m room lab) refl

  walk-refusal : W.walk_refusal n j s d m room lab ≡ W.refusal_of (W.walked n j s d m room lab).ending
  unfolding W.walked W.refused
  walk-refusal =
      ⊎_elim (λ (z : eqb (W.walk_refusal n j s d m room lab) 0 ≡ true). accepted (eqb-true _ _ z))
      (λ (z : eqb (W.walk_refusal n j s d m room lab) 0 ≡ false). rw z (sym (number_is _ (eqb-false _ 0 z) few)))
      (either (eqb (W.walk_refusal n j s d m room lab) 0))
    where
      accepted : W.walk_refusal n j s d m room lab ≡ 0 → W.walk_refusal n j s d m room lab ≡ W.refusal_of (W.walked n j s d m room lab).ending
      accepted z = ⊎_elim (λ e. z ∙ sym (ap W.refusal_of e.1)) (λ e. z ∙ sym (ap W.refusal_of e.1)) (walk_repeats n j s d m room lab z).ends

  pub walk_row : (not (eqb room 34) ≡ true) ↔ (¬ (room ≡ 34))
  walk_row = not_says _ (eqb_says room 34)

  pub walk_bytes : (some (2 ^ n) (λ x. ltb highest (lab x)) ≡ true) ↔ ((x : ℕ) × (x < 2 ^ n) × (4 < lab x))
  walk_bytes = some_says (2 ^ n) _ (λ x. 4 < lab x) (λ x. ltb_says 4 (lab x))

  pub walk_said_1 : WalkWhen n j s d m room lab 1 → not (is_dimension n) ≡ true
  walk_said_1 (walk_1 w) = (wrong_dimension n).1 w

  pub walk_said_19 : WalkWhen n j s d m room lab 19 → not (is_job j) ≡ true
  walk_said_19 (walk_19 w) = (wrong_job j).1 w

  pub walk_said_2 : not (eqb m (label_bytes n)) ≡ false → WalkWhen n j s d m room lab 2 → not (eqb room 34) ≡ true
  walk_said_2 f (walk_2_labels w) = absurd (clash ((wrong_halves n m).1 w) f)
  walk_said_2 f (walk_2_row w) = walk_row.1 w

  pub walk_said_5 : WalkWhen n j s d m room lab 5 → (leb (2 ^ n) s || leb (2 ^ n) d) ≡ true
  walk_said_5 (walk_5 w) = (outside n s d).1 w

  pub walk_said_4 : WalkWhen n j s d m room lab 4 → some (2 ^ n) (λ x. ltb highest (lab x)) ≡ true
  walk_said_4 (walk_4 x l h) = walk_bytes.1 (x, l, h)

  pub walk_said_6 : WalkWhen n j s d m room lab 6 → leb 3 (lab s) ≡ true
  walk_said_6 (walk_6 l) = le-leb 3 (lab s) l

  pub walk_said_7 : WalkWhen n j s d m room lab 7 → eqb (lab d) 3 ≡ true
  walk_said_7 (walk_7 e) = eq-eqb (lab d) 3 e

  pub walk_said_8 : WalkWhen n j s d m room lab 8 → not (W.stops (W.last n (W.route n lab d) s)) ≡ true
  walk_said_8 (walk_8 f) = (eight n lab d s).1 f

  walk_given : WalkGiven n j s d m room lab (W.walk_refusal n j s d m room lab)
  unfolding W.walk_refusal first
  walk_given =
      one_test _ (λ e. walk_1 ((wrong_dimension n).0 e)) walk_said_1
      (one_test _ (λ e. walk_19 ((wrong_job j).0 e)) walk_said_19
      (also_test _ (λ e. walk_2_labels ((wrong_halves n m).0 e)) (λ f. one_test _ (λ e. walk_2_row (walk_row.0 e)) (walk_said_2 f)
      (one_test _ (λ e. walk_5 ((outside n s d).0 e)) walk_said_5
      (one_test _ (λ e. let r = walk_bytes.0 e in walk_4 r.0 r.1 r.2) walk_said_4
      (one_test _ (λ e. walk_6 (leb-true 3 (lab s) e)) walk_said_6
      (one_test _ (λ e. walk_7 (eqb-true (lab d) 3 e)) walk_said_7
      (one_test _ (λ e. walk_8 ((eight n lab d s).0 e)) walk_said_8 none))))))))

-- ---- all of them

pub refusals : Refusals
refusals = record {
  one = λ When order j k. given_one;
  one_notice = notice_one;
  one_dimension = dimension_one;
  labelling = λ K j m. rw (← label-refusal K j m) (label_given K j m);
  hop = λ n j c d m lab. rw (← hop-refusal n j c d m lab) (hop_given n j c d m lab);
  why-node = λ K j m x. rw (← node-refusal K j m x) (node_given K j m x);
  why-hop = λ n j c d m lab. rw (← reason_refusal n j c d m lab) (hop_given n j c d m lab);
  walk = λ n j s d m room lab. rw (← walk-refusal n j s d m room lab) (walk_given n j s d m room lab);
  number = number_given;
  notice = notice_given;
  writing = write_given;
  list_reading = read_list_given;
  list_writing = write_list_given;
  repairing = repair_given;
  dimension = dimension_given;
}
