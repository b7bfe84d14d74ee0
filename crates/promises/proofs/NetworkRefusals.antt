-- The refusals by networks are the numbers that the words give, test by test. A walk is refused with 16 where its last decision is a hop: then each decision
-- before it is one in a network of the board, and it is one that needs another.
use mathlib.Core.Bool.{true, false, not, ◌||◌}
use mathlib.Core.Logic.{◌⊎◌, inl, inr, ◌↔◌, ◌≢◌}
use mathlib.Core.Path.{◌≡◌, refl, sym, ◌∙◌}
use Prim.Native.Nat.{ℕ, ◌*◌, ◌^◌, ◌≤◌, ◌<◌}
use native.Mathlib.Omega.{arith}
use lib.Dec.{eqb, leb}
use borrow.Author.Tests.{eqb-false, eqb-true, leb-false, leb-true, not-false}
use Rattle.std.specs.Prelude.{Result}
use Rattle.cube.specs.Refusal.{first}
use Rattle.cube.specs.Refused.{refused}
use Rattle.cube.specs.declared.refusals.Refusal.{Refusal}
use Rattle.cube.proofs.Bools.{by_cases, or_false}
use Rattle.cube.proofs.Refused.{refused_is}
use Rattle.jobs.specs.Jobs.{label_bytes}
use Rattle.walk.specs.Walk.{row_bytes, stops}
use Rattle.blocks.specs.Blocks.{hop_in}
use Rattle.blocks.specs.Board.{beyond, hops_on, last_on, most_hops, numbered}
use Rattle.blocks.specs.Phase.{phase_of}
use Rattle.hop_networks.specs.Hopping as I
use Rattle.hop_networks.proofs.Outcomes as hops
use Rattle.hop_networks.proofs.Refusals.{board_is}
use Rattle.walk_networks.specs.Crossing as C
use Rattle.walk_networks.specs.declared.Crossed.{Crossed}
use Rattle.walk_networks.proofs.Outcomes.{cross_good, ended_well, refusal_le}
use Rattle.promises.specs.NetworkRefusals.{Board, HopNetworksGiven, HopNetworksWhen, NetworkRefusals, WalkNetworksGiven, WalkNetworksWhen}
use Rattle.promises.specs.Refusals.{
  HopWhen,
  WalkWhen,
  hop_1,
  hop_19,
  hop_2,
  hop_5,
  hop_6_draining,
  hop_6_faulty,
  none,
  walk_1,
  walk_19,
  walk_2_labels,
  walk_2_row,
  walk_4,
  walk_5,
  walk_6,
  walk_7,
}
use Rattle.promises.proofs.Given.{
  also_test,
  and_says,
  leb_says,
  ltb_says,
  not_says,
  number_is,
  one_test,
  or_says,
  outside,
  test_then,
  wrong_dimension,
  wrong_halves,
  wrong_job,
}
use Rattle.promises.proofs.Sixteen.{beyond_says, out_given, out_says}
use Rattle.promises.proofs.Refusals.{
  hop_away,
  hop_bytes,
  hop_four,
  hop_said_1,
  hop_said_19,
  hop_said_2,
  hop_said_4,
  hop_said_5,
  hop_said_6,
  walk_bytes,
  walk_said_1,
  walk_said_19,
  walk_said_4,
  walk_said_5,
  walk_said_6,
  walk_said_7,
}

wrong_board : (N : ℕ) → (not (I.is_board N) ≡ true) ↔ (¬ (Board N))
unfolding I.is_board
wrong_board N = not_says _ (and_says _ _ (leb_says 1 N) (leb_says N 5))

-- ---- a hop

module _ (n N j c d w g m : ℕ) (lab : ℕ → ℕ) where
  abbrev HopCase : ℕ → Type 0
  HopCase = HopNetworksWhen n N j c d w g m lab

  -- a case of another number is one of the hop's
  hop_case : {k : ℕ} → k ≢ 15 → k ≢ 16 → HopCase k → HopWhen n j c d m lab k
  hop_case a b (inl h) = h
  hop_case a b (inr (inl q)) = absurd (a q.0)
  hop_case a b (inr (inr q)) = absurd (b q.0)

  fifteen : (I.lacks N w g ≡ true) ↔ ((¬ (Board N)) ⊎ (N ≤ w) ⊎ (1 < g))
  unfolding I.lacks
  fifteen = or_says _ _ (wrong_board N) (or_says _ _ (leb_says N w) (ltb_says 1 g))

  said_15 : HopCase 15 → I.lacks N w g ≡ true
  said_15 (inl x') = elim x' [ ]
  said_15 (inr (inl q)) = fifteen.1 q.1
  said_15 (inr (inr q)) = absurd (omega (arith, q.0))

  said_16 : HopCase 16 → beyond N (phase_of w g) c (hop_in n lab d (phase_of w g) c) ≡ true
  said_16 (inl x') = elim x' [ ]
  said_16 (inr (inl q)) = absurd (omega (arith, q.0))
  said_16 (inr (inr q)) = (beyond_says n N lab d (phase_of w g) c).1 q.1

  hop_given : HopNetworksGiven n N j c d w g m lab (I.hop_refusal_in n N j c d w g m lab)
  unfolding I.hop_refusal_in first
  hop_given =
      one_test _ (λ e. inl (hop_1 ((wrong_dimension n).0 e))) (λ q. hop_said_1 n j c d m lab (hop_case (λ z. omega arith) (λ z. omega arith) q))
      (one_test _ (λ e. inr (inl (refl, fifteen.0 e))) said_15
      (one_test _ (λ e. inl (hop_19 ((wrong_job j).0 e))) (λ q. hop_said_19 n j c d m lab (hop_case (λ z. omega arith) (λ z. omega arith) q))
      (one_test _ (λ e. inl (hop_2 ((wrong_halves n m).0 e))) (λ q. hop_said_2 n j c d m lab (hop_case (λ z. omega arith) (λ z. omega arith) q))
      (one_test _ (λ e. inl (hop_5 ((outside n c d).0 e))) (λ q. hop_said_5 n j c d m lab (hop_case (λ z. omega arith) (λ z. omega arith) q))
      (one_test _ (λ e. inl (hop_four n j c d m lab ((hop_bytes n j c d m lab).0 e))) (λ q. hop_said_4 n j c d m lab (hop_case (λ z. omega arith) (λ z. omega arith) q))
      (also_test _ (λ e. inl (hop_6_faulty (eqb-true (lab c) 3 e)))
      (λ f. one_test _ (λ e. let r = (hop_away n j c d m lab).0 e in inl (hop_6_draining r.0 r.1))
      (λ q. hop_said_6 n j c d m lab f (hop_case (λ z. omega arith) (λ z. omega arith) q))
      (one_test _ (λ e. inr (inr (refl, (beyond_says n N lab d (phase_of w g) c).0 e))) said_16 none))))))))

  hop-number : I.hop_refusal_in n N j c d w g m lab ≡ refused (I.hopped_in n N j c d w g m lab)
  unfolding I.hopped_in
  hop-number = sym (refused_is _ (numbered (phase_of w g) c (hop_in n lab d (phase_of w g) c)) (hops.refusal_le n N j c d w g m lab))

-- ---- a walk

module _ (n N j s d m room : ℕ) (lab : ℕ → ℕ) where
  abbrev WalkCase : ℕ → Type 0
  WalkCase = WalkNetworksWhen n N j s d m room lab

  walk_case : {k : ℕ} → k ≢ 15 → k ≢ 13 → k ≢ 16 → WalkCase k → WalkWhen n j s d m row_bytes lab k
  walk_case a b c (inl h) = h
  walk_case a b c (inr (inl q)) = absurd (a q.0)
  walk_case a b c (inr (inr (inl q))) = absurd (b q.0)
  walk_case a b c (inr (inr (inr q))) = absurd (c q.0)

  said_15w : WalkCase 15 → not (I.is_board N) ≡ true
  said_15w (inl x') = elim x' [ ]
  said_15w (inr (inl q)) = (wrong_board N).1 q.1
  said_15w (inr (inr (inl q))) = absurd (omega (arith, q.0))
  said_15w (inr (inr (inr q))) = absurd (omega (arith, q.0))

  -- no row is lent, so 2 is for the labels
  said_2w : WalkCase 2 → not (eqb m (label_bytes n)) ≡ true
  said_2w q = labels_alone (walk_case (λ z. omega arith) (λ z. omega arith) (λ z. omega arith) q)
    where
      labels_alone : WalkWhen n j s d m row_bytes lab 2 → not (eqb m (label_bytes n)) ≡ true
      labels_alone (walk_2_labels l) = (wrong_halves n m).1 l
      labels_alone (walk_2_row l) = absurd (l refl)

  said_13w : WalkCase 13 → C.too_short n N room ≡ true
  unfolding C.too_short
  said_13w (inl x') = elim x' [ ]
  said_13w (inr (inl q)) = absurd (omega (arith, q.0))
  said_13w (inr (inr (inl q))) = (ltb_says room (most_hops n N)).1 q.1
  said_13w (inr (inr (inr q))) = absurd (omega (arith, q.0))

  said_16w : s < 2 ^ n → 0 < N → WalkCase 16 → not (stops (last_on n N lab d s)) ≡ true
  said_16w hs h (inl x') = elim x' [ ]
  said_16w hs h (inr (inl q)) = absurd (omega (arith, q.0))
  said_16w hs h (inr (inr (inl q))) = absurd (omega (arith, q.0))
  said_16w hs h (inr (inr (inr q))) = out_given n N lab d s hs h q.1

  walk_given : WalkNetworksGiven n N j s d m room lab (C.cross_refusal n N j s d m room lab)
  unfolding C.cross_refusal C.too_short first
  walk_given =
      one_test _ (λ e. inl (walk_1 ((wrong_dimension n).0 e))) (λ q. walk_said_1 n j s d m row_bytes lab (old (λ z. omega arith) (λ z. omega arith) (λ z. omega arith) q))
      (test_then _ (λ e. inr (inl (refl, (wrong_board N).0 e))) said_15w (λ board.
      one_test _ (λ e. inl (walk_19 ((wrong_job j).0 e))) (λ q. walk_said_19 n j s d m row_bytes lab (old (λ z. omega arith) (λ z. omega arith) (λ z. omega arith) q))
      (one_test _ (λ e. inl (walk_2_labels ((wrong_halves n m).0 e))) said_2w
      (one_test _ (λ e. inr (inr (inl (refl, short e)))) said_13w
      (test_then _ (λ e. inl (walk_5 ((outside n s d).0 e))) (λ q. walk_said_5 n j s d m row_bytes lab (old (λ z. omega arith) (λ z. omega arith) (λ z. omega arith) q))
      (λ within.
      one_test _ (λ e. let r = (walk_bytes n j s d m row_bytes lab).0 e in inl (walk_4 r.0 r.1 r.2))
      (λ q. walk_said_4 n j s d m row_bytes lab (old (λ z. omega arith) (λ z. omega arith) (λ z. omega arith) q))
      (one_test _ (λ e. inl (walk_6 (leb-true 3 (lab s) e))) (λ q. walk_said_6 n j s d m row_bytes lab (old (λ z. omega arith) (λ z. omega arith) (λ z. omega arith) q))
      (one_test _ (λ e. inl (walk_7 (eqb-true (lab d) 3 e))) (λ q. walk_said_7 n j s d m row_bytes lab (old (λ z. omega arith) (λ z. omega arith) (λ z. omega arith) q))
      (one_test _ (λ e. inr (inr (inr (refl, out_says n N lab d s (source within) (networks board) e)))) (said_16w (source within) (networks board))
      none)))))))))
    where
      old : {k : ℕ} → k ≢ 15 → k ≢ 13 → k ≢ 16 → WalkCase k → WalkWhen n j s d m row_bytes lab k
      old = walk_case

      short : C.too_short n N room ≡ true → room < 2 * n * N
      short e = (ltb_says room (most_hops n N)).0 e

      source : (leb (2 ^ n) s || leb (2 ^ n) d) ≡ false → s < 2 ^ n
      source f = leb-false (2 ^ n) s (or_false (leb (2 ^ n) s) (leb (2 ^ n) d) f).0

      networks : not (I.is_board N) ≡ false → 0 < N
      networks f = (board_is N (not-false _ f)).0

  pub walk-number : C.cross_refusal n N j s d m room lab ≡ refused (C.crossing n N j s d m room lab)
  unfolding C.crossing
  walk-number =
      by_cases (λ (a : Result Crossed Refusal). C.cross_refusal n N j s d m room lab ≡ refused a) (eqb (C.cross_refusal n N j s d m room lab) 0)
      (λ z. let ok = eqb-true _ _ z in ok ∙ sym (ended_well (hops_on n N lab d s) (last_on n N lab d s) (cross_good n N j s d m room lab ok).ends))
      (λ z. sym (number_is _ (eqb-false _ 0 z) (refusal_le n N j s d m room lab)))

pub network_refusals : NetworkRefusals
network_refusals =
    record {
      hop = λ n N j c d w g m lab. rw (← hop-number n N j c d w g m lab) (hop_given n N j c d w g m lab);
      walk = λ n N j s d m room lab. rw (← walk-number n N j s d m room lab) (walk_given n N j s d m room lab);
    }
