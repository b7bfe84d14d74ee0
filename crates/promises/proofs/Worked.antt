-- The worked numbers: the definitions computed. The labels are computed once for each cube, and the walks from the computed labels.
use Rattle.std.specs.Prelude.{Result, Ok}
use mathlib.Core.Bool.{true, false}
use mathlib.Core.List.{List, [], ◌∷◌}
use mathlib.Core.Logic.{inl, inr}
use mathlib.Core.Path.{◌≡◌, refl, ap, ◌∙◌}
use Prim.Native.Nat.{ℕ, ◌^◌, ◌<◌}
use native.Mathlib.Omega.{arith}
use lib.Count.{ones}
use Rattle.cube.specs.Count.{count, least, some}
use Rattle.cube.specs.Cube.{bit, flip, apart, dist}
use Rattle.cube.specs.Refusal.{first}
use Rattle.cube.specs.Tables.{tab, is_dimension, table_len, node_bit, unused_set, label_in}
use Rattle.jobs.specs.Jobs.{is_job, label_bytes, with_half}
use Rattle.rule.specs.Cabinet.{Cabinet, exchanges_of, is_rule, labels_of, out}
use Rattle.rule.specs.Exchanges.{late}
use Rattle.rule.specs.Rule.{meets, newly, marked, quiet, working, rounds, exchanges, safe, label_of, label}
use Rattle.scans.specs.Scans.{suits, takes, lowest, first_scan}
use Rattle.rule.proofs.Exchanges.{exchanged}
use Rattle.labels.specs.Labelling.{label_refusal, labelled, labels_after}
use Rattle.labels.proofs.Refusal.{fitting}
use Rattle.hop.specs.Hop.{answer, decide, hop, hop_refusal, hopped}
use Rattle.walk.specs.Walk.{onto, stops, spot, turn, hops, last, row, row_bytes, refused, walk_from, walk_refusal, walked}
use Rattle.walk.specs.declared.Walked.{Walked}
use Rattle.causes.specs.Cause.{bad_cause, cause_of, cause_with, earlier, from, nth, round_of}
use Rattle.why.specs.HopReasons as X
use Rattle.why.specs.HopReasons.{explain, hop_reason}
use Rattle.why.specs.NodeReasons.{reason_of}
use Rattle.why.specs.declared.HopReason.{HopReason}
use Rattle.theorems.specs.Words.{label_at, walk_of}
use Rattle.promises.specs.Worked.{k4, k4_by, k4_closes, k4_closes_both, k4_drains, k4_nine, p2, q3, those, visited, Worked}
use Rattle.promises.proofs.Outcomes.{answered}
use Rattle.cube.specs.declared.refusals.Refusal.{Refusal}
use Rattle.hop.specs.declared.Decision.{Decision}

k4_labels : labels_of k4 ≡ 1 ∷ 0 ∷ 3 ∷ 0 ∷ 3 ∷ 0 ∷ 1 ∷ 0 ∷ 3 ∷ 0 ∷ 1 ∷ 0 ∷ 1 ∷ 0 ∷ 2 ∷ 3 ∷ []
unfolding labels_of label label_of safe rounds working quiet newly meets marked count least some flip tab node_bit bit
k4_labels = refl

q3_labels : labels_of q3 ≡ 2 ∷ 3 ∷ 3 ∷ 2 ∷ 3 ∷ 2 ∷ 2 ∷ 2 ∷ []
unfolding labels_of label label_of safe rounds working quiet newly meets marked count least some flip tab node_bit bit
q3_labels = refl

k4_older_labels : labels_of (k4_by 2) ≡ 2 ∷ 2 ∷ 3 ∷ 2 ∷ 3 ∷ 2 ∷ 2 ∷ 2 ∷ 3 ∷ 2 ∷ 2 ∷ 2 ∷ 2 ∷ 2 ∷ 2 ∷ 3 ∷ []
unfolding labels_of label label_of safe rounds working quiet newly meets marked count least some flip tab node_bit bit
k4_older_labels = refl

k4_drains_labels : labels_of k4_drains ≡ 1 ∷ 0 ∷ 3 ∷ 0 ∷ 3 ∷ 0 ∷ 1 ∷ 0 ∷ 3 ∷ 0 ∷ 1 ∷ 0 ∷ 1 ∷ 0 ∷ 2 ∷ 4 ∷ []
unfolding labels_of label label_of safe rounds working quiet newly meets marked count least some flip tab node_bit bit
k4_drains_labels = refl

k4_nine_labels : labels_of k4_nine ≡ 1 ∷ 0 ∷ 3 ∷ 0 ∷ 3 ∷ 0 ∷ 1 ∷ 0 ∷ 3 ∷ 4 ∷ 2 ∷ 1 ∷ 2 ∷ 1 ∷ 2 ∷ 3 ∷ []
unfolding labels_of label label_of safe rounds working quiet newly meets marked count least some flip tab node_bit bit
k4_nine_labels = refl

k4_closes_labels : labels_of k4_closes ≡ 1 ∷ 0 ∷ 3 ∷ 0 ∷ 3 ∷ 0 ∷ 1 ∷ 0 ∷ 3 ∷ 3 ∷ 2 ∷ 1 ∷ 2 ∷ 1 ∷ 2 ∷ 4 ∷ []
unfolding labels_of label label_of safe rounds working quiet newly meets marked count least some flip tab node_bit bit
k4_closes_labels = refl

k4_shut_labels : labels_of k4_closes_both ≡ 1 ∷ 0 ∷ 3 ∷ 0 ∷ 3 ∷ 0 ∷ 1 ∷ 0 ∷ 3 ∷ 3 ∷ 2 ∷ 1 ∷ 2 ∷ 1 ∷ 2 ∷ 3 ∷ []
unfolding labels_of label label_of safe rounds working quiet newly meets marked count least some flip tab node_bit bit
k4_shut_labels = refl

p2_labels : labels_of p2 ≡ 3 ∷ 2 ∷ 2 ∷ 3 ∷ []
unfolding labels_of label label_of safe rounds working quiet newly meets marked count least some flip tab node_bit bit
p2_labels = refl

-- a hop by the labels of a cabinet is the hop by what they compute to
hop_on : {x : Result Decision Refusal} (K : Cabinet) (j c d m : ℕ) (labels : List ℕ) → labels_of K ≡ labels → hopped K.n j c d m (label_in labels) ≡ x
    → hopped K.n j c d m (label_at K) ≡ x
hop_on K j c d m labels e f = ap (λ (l : List ℕ). hopped K.n j c d m (label_in l)) e ∙ f

-- and so is why
why_on : {x : Result HopReason Refusal} (K : Cabinet) (j c d m : ℕ) (labels : List ℕ) → labels_of K ≡ labels → hop_reason K.n j c d m (label_in labels) ≡ x
    → hop_reason K.n j c d m (label_at K) ≡ x
why_on K j c d m labels e f = ap (λ (l : List ℕ). hop_reason K.n j c d m (label_in l)) e ∙ f

-- a walk on the labels of a cabinet is the walk on what they compute to
on : {w : Walked} (K : Cabinet) (j s d : ℕ) (labels : List ℕ) → labels_of K ≡ labels
    → walked K.n j s d (label_bytes K.n) row_bytes (label_in labels) ≡ w → walk_of K j s d ≡ w
on K j s d labels e f = ap (λ (l : List ℕ). walked K.n j s d (label_bytes K.n) row_bytes (label_in l)) e ∙ f

module _ (K : Cabinet) (j m : ℕ) (accepted : label_refusal K j m ≡ 0) where
  no_faults : ((x : ℕ) → x < 2 ^ K.n → out K x ≡ false) → labelled K j m ≡ Ok 1
  unfolding exchanges_of
  no_faults f =
      answered K j m accepted ∙ ap Ok ((exchanged K.n K.rule (out K)).no_faults (omega (arith, (fitting K j m accepted).rule.0)) f)

  all_faulty : ((x : ℕ) → x < 2 ^ K.n → out K x ≡ true) → labelled K j m ≡ Ok 1
  unfolding exchanges_of
  all_faulty f = answered K j m accepted ∙ ap Ok ((exchanged K.n K.rule (out K)).none_works f)

pub worked : Worked
unfolding those visited walked walk_refusal walk_from refused first row last hops turn spot stops onto hopped hop_refusal hop decide answer first_scan lowest
    takes suits apart dist ones label_in tab is_dimension is_rule table_len unused_set node_bit bit flip some least count labelled label_refusal exchanges_of
    exchanges labels_of label label_of safe rounds working quiet newly meets marked is_job label_bytes labels_after with_half late
    reason_of round_of cause_of earlier cause_with bad_cause nth from hop_reason explain X.answer
worked =
    record {
      table_bytes = refl;
      table_bits = refl;
      k4_faulty = refl;
      k4_round1 = refl;
      k4_round2 = refl;
      k4_exchanges = refl;
      k4_labels = k4_labels;
      k4_strong = refl;
      k4_13_0 = on k4 0 13 0 _ k4_labels refl;
      k4_6_0 = on k4 0 6 0 _ k4_labels refl;
      k4_14_0 = on k4 0 14 0 _ k4_labels refl;
      k4_0_14 = on k4 0 0 14 _ k4_labels refl;
      k4_10_10 = on k4 0 10 10 _ k4_labels refl;
      q3_faulty = refl;
      q3_safe = refl;
      q3_exchanges = refl;
      q3_0_7 = on q3 0 0 7 _ q3_labels refl;
      q3_7_0 = on q3 0 7 0 _ q3_labels refl;
      q3_7_3 = on q3 0 7 3 _ q3_labels refl;
      no_faults = no_faults;
      all_faulty = all_faulty;
      one_safe = refl;
      k4_older_exchanges = refl;
      k4_older_labels = k4_older_labels;
      k4_older_13_0 = on (k4_by 2) 0 13 0 _ k4_older_labels refl;
      c3_faulty = refl;
      c3_older_exchanges = refl;
      c3_older_labels = refl;
      c3_labels = refl;
      c4_older_labels = refl;
      c4_labels = refl;
      k4_drains_exchanges = refl;
      k4_drains_labels = k4_drains_labels;
      k4_0_15 = on k4 0 0 15 _ k4_labels refl;
      k4_drains_0_15 = on k4_drains 0 0 15 _ k4_drains_labels refl;
      k4_drains_15_15 = on k4_drains 0 15 15 _ k4_drains_labels refl;
      k4_drains_15_14 = hop_on k4_drains 0 15 14 32 _ k4_drains_labels refl;
      k4_drains_at_15 = hop_on k4_drains 0 15 15 32 _ k4_drains_labels refl;
      k4_both_labels = refl;
      k4_nine_labels = k4_nine_labels;
      k4_nine_13_0 = on k4_nine 0 13 0 _ k4_nine_labels refl;
      k4_nine_13_9 = on k4_nine 0 13 9 _ k4_nine_labels refl;
      k4_jobs_labels = refl;
      k4_jobs_back = refl;
      k4_shut_labels = k4_shut_labels;
      k4_job_0 = on k4_drains 0 13 0 _ k4_drains_labels refl;
      k4_job_1 = on k4_closes 1 13 0 _ k4_closes_labels refl;
      k4_job_1_15 = on k4_closes 1 0 15 _ k4_closes_labels refl;
      k4_shut_15 = on k4_closes_both 1 0 15 _ k4_shut_labels refl;
      l2_exchanges = refl;
      l2_working = refl;
      k4_late = refl;
      d2_exchanges = refl;
      d2_labels = refl;
      d2_late = refl;
      m3_few = inl (refl, omega arith);
      m3_older_few = inr (refl, omega arith);
      m3_labels = refl;
      q3_out = refl;
      q3_each_out = refl;
      q3_each_labels = refl;
      p2_out = refl;
      p2_labels = p2_labels;
      p2_1_2 = on p2 0 1 2 _ p2_labels refl;
      k4_why_14 = refl;
      k4_why_0 = refl;
      k4_why_1 = refl;
      k4_why_7 = refl;
      k4_why_2 = refl;
      k4_older_why_14 = refl;
      k4_older_why_3 = refl;
      k4_drains_why_15 = refl;
      k4_drains_why_14 = refl;
      k4_drains_why_7 = refl;
      k4_closes_why_11 = refl;
      k4_closes_why_1 = refl;
      k4_why_13_0 = why_on k4 0 13 0 32 _ k4_labels refl;
      k4_why_6_0 = why_on k4 0 6 0 32 _ k4_labels refl;
      k4_drains_why_7_15 = why_on k4_drains 0 7 15 32 _ k4_drains_labels refl;
      r3_at_1 = refl;
      r3_at_0 = refl;
      r3_1_7 = refl;
    }
