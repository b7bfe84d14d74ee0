-- The jobs are alike: which one it is matters for 19 alone.
use mathlib.Core.List.{List}
use mathlib.Core.Path.{◌≡◌}
use Prim.Native.Nat.{ℕ, ◌<◌}
use lib.ListN.{length}
use Rattle.jobs.proofs.Halves.{is-job}
use Rattle.rule.specs.Cabinet.{Cabinet}
use Rattle.labels.specs.Labelling.{label_refusal, labelled}
use Rattle.hop.specs.Hop.{hop_refusal, hopped}
use Rattle.walk.specs.Walk.{walk_refusal, walked}
use Rattle.hop_networks.specs.Hopping.{hop_refusal_in, hopped_in}
use Rattle.walk_networks.specs.Crossing.{cross_refusal, crossing, hops_after}
use Rattle.why.specs.HopReasons.{hop_reason}
use Rattle.why.specs.NodeReasons.{node_reason, node_refusal}

module _ {i j : ℕ} (hi : i < 2) (hj : j < 2) where
  pub label_alike : (K : Cabinet) (m : ℕ) → labelled K i m ≡ labelled K j m
  unfolding labelled label_refusal
  label_alike K m = rw (is-job i hi, is-job j hj)

  pub hop_alike : (n c d m : ℕ) (lab : ℕ → ℕ) → hopped n i c d m lab ≡ hopped n j c d m lab
  unfolding hopped hop_refusal
  hop_alike n c d m lab = rw (is-job i hi, is-job j hj)

  pub why_node_alike : (K : Cabinet) (m x : ℕ) → node_reason K i m x ≡ node_reason K j m x
  unfolding node_reason node_refusal
  why_node_alike K m x = rw (is-job i hi, is-job j hj)

  pub why_hop_alike : (n c d m : ℕ) (lab : ℕ → ℕ) → hop_reason n i c d m lab ≡ hop_reason n j c d m lab
  unfolding hop_reason hop_refusal
  why_hop_alike n c d m lab = rw (is-job i hi, is-job j hj)

  pub walk_alike : (n s d m room : ℕ) (lab : ℕ → ℕ) → walked n i s d m room lab ≡ walked n j s d m room lab
  unfolding walked walk_refusal
  walk_alike n s d m room lab = rw (is-job i hi, is-job j hj)

  pub hop_networks_alike : (n N c d w g m : ℕ) (lab : ℕ → ℕ) → hopped_in n N i c d w g m lab ≡ hopped_in n N j c d w g m lab
  unfolding hopped_in hop_refusal_in
  hop_networks_alike n N c d w g m lab = rw (is-job i hi, is-job j hj)

  pub walk_networks_alike : (n N s d m : ℕ) (lab : ℕ → ℕ) (list : List ℕ)
      → (crossing n N i s d m (length list) lab ≡ crossing n N j s d m (length list) lab) × (hops_after n N i s d m lab list ≡ hops_after n N j s d m lab list)
  unfolding crossing hops_after cross_refusal
  walk_networks_alike n N s d m lab list = (rw (is-job i hi, is-job j hj), rw (is-job i hi, is-job j hj))
