-- What a hop answers, by networks or not, and what a walk by networks answers, come out of their numbers as they were put in.
use mathlib.Core.Path.{◌≡◌, refl, ap}
use Prim.Native.Nat.{ℕ, ◌/◌, ◌≤◌, ◌<◌}
use native.Mathlib.Omega.{arith}
use Rattle.std.specs.Prelude.{Result, Ok, Err}
use Rattle.cube.specs.Refused.{number}
use Rattle.cube.specs.declared.refusals.Refusal.{Refusal}
use Rattle.cube.proofs.Refused as cube
use Rattle.hop.specs.Hop as H
use Rattle.hop.specs.declared.Decision.{Decision}
use Rattle.hop.specs.declared.Decision.TheVariants.{Deliver, Hop, Halted}
use Rattle.blocks.specs.Phase.{after, channel_number}
use Rattle.hop_networks.specs.Hopping.{hop_refusal_in, hopped_in}
use Rattle.hop_networks.proofs.Outcomes.{number_small}
use Rattle.walk_networks.specs.Crossing as C
use Rattle.walk_networks.specs.declared.Crossed.{Crossed}
use Rattle.walk_networks.specs.declared.Crossed.TheVariants as crossed
use Rattle.walk_networks.proofs.Outcomes.{crossing_small}
use Rattle.hcube.specs.Answers.{crossed_number, hop_number, packed}
use Rattle.hcube.specs.Decoded.{cross_part, crossed_from, decision_from, hopped_from, kind_part, network_part, value_part}
use Rattle.hcube.specs.Fits.{CrossedFits, HopFits}
use Rattle.hcube.proofs.Parts.{few, kind_is, reads_err, reads_ok, refusal_is, value_is}
use Rattle.hcube.proofs.Small.{hop_small}

-- ---- a hop

decision_decoded : (x : Decision) → H.decision_value x < 65536
    → decision_from (kind_part (packed 0 (H.decision_kind x) (H.decision_value x))) (value_part (packed 0 (H.decision_kind x) (H.decision_value x))) ≡ x
decision_decoded Deliver h = refl
decision_decoded (Hop i) h = rw (kind_is 0 1 i (omega arith) h) (ap Hop (value_is 0 1 i h))
decision_decoded Halted h = refl

kind_small : (x : Decision) → H.decision_kind x < 256
kind_small Deliver = omega arith
kind_small (Hop i) = omega arith
kind_small Halted = omega arith

hopped_decoded : (a : Result Decision Refusal) → HopFits a → hopped_from (hop_number a) ≡ a
unfolding hopped_from
hopped_decoded (Ok x) f =
    reads_ok _ _ (refusal_is 0 (H.decision_kind x) (H.decision_value x) (omega arith) (kind_small x) f) (decision_decoded x f)
hopped_decoded (Err r) f = reads_err _ _ _ r (refusal_is (number r) 0 0 (few r) (omega arith) (omega arith))

pub hop_decoded : (n j c d m : ℕ) (lab : ℕ → ℕ) → hopped_from (hop_number (H.hopped n j c d m lab)) ≡ H.hopped n j c d m lab
hop_decoded n j c d m lab = hopped_decoded (H.hopped n j c d m lab) (hop_small n j c d m lab)

-- ---- a hop by networks

module _ (n N j c d w g m : ℕ) (lab : ℕ → ℕ) where
  pub hop_networks_small : HopFits (hopped_in n N j c d w g m lab)
  unfolding hopped_in
  hop_networks_small = go (hopped_in n N j c d w g m lab) refl
    where
      go : (a : Result Decision Refusal) → hopped_in n N j c d w g m lab ≡ a → HopFits a
      go (Ok x) e =
          let p = cube.accepted (hop_refusal_in n N j c d w g m lab) _ x e in
          omega (arith, number_small n N j c d w g m lab p.0, ap H.decision_value p.1)
      go (Err r) e = omega arith

  pub hop_networks_decoded : hopped_from (hop_number (hopped_in n N j c d w g m lab)) ≡ hopped_in n N j c d w g m lab
  hop_networks_decoded = hopped_decoded (hopped_in n N j c d w g m lab) hop_networks_small

pub channels_decoded : (n p c i : ℕ) → n ≤ 12 → i < n → after p c i < 10
    → (network_part (channel_number p c i) ≡ after p c i / 2) × (cross_part (channel_number p c i) ≡ i)
unfolding channel_number
channels_decoded n p c i small h l = (omega arith, omega arith)

-- ---- a walk by networks

crossed_decoded : (a : Result Crossed Refusal) → CrossedFits a → crossed_from (crossed_number a) ≡ a
unfolding crossed_from
crossed_decoded (Ok (crossed.Delivered v)) f =
    reads_ok _ _ (refusal_is 0 0 v (omega arith) (omega arith) f) (rw (kind_is 0 0 v (omega arith) f) (ap crossed.Delivered (value_is 0 0 v f)))
crossed_decoded (Ok (crossed.Halted v)) f =
    reads_ok _ _ (refusal_is 0 1 v (omega arith) (omega arith) f) (rw (kind_is 0 1 v (omega arith) f) (ap crossed.Halted (value_is 0 1 v f)))
crossed_decoded (Err r) f = reads_err _ _ _ r (refusal_is (number r) 0 0 (few r) (omega arith) (omega arith))

module _ (n N j s d m room : ℕ) (lab : ℕ → ℕ) where
  pub walk_networks_small : CrossedFits (C.crossing n N j s d m room lab)
  walk_networks_small = omega (arith, (crossing_small n N j s d m room lab).1)

  pub walk_networks_decoded : crossed_from (crossed_number (C.crossing n N j s d m room lab)) ≡ C.crossing n N j s d m room lab
  walk_networks_decoded = crossed_decoded (C.crossing n N j s d m room lab) walk_networks_small
