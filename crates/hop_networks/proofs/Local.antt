-- Locality. A decision by networks and its refusals depend on the label of c and on those of its n neighbours, and on no other byte of the job's half.
use mathlib.Core.Path.{◌≡◌, ap, ◌∙◌}
use Prim.Native.Nat.{ℕ, ◌<◌}
use lib.Dec.{ltb}
use Rattle.cube.specs.Cube.{flip}
use Rattle.cube.specs.Tables.{highest}
use Rattle.cube.proofs.Search.{some_same}
use Rattle.blocks.specs.Blocks.{decide_in, hop_in}
use Rattle.blocks.specs.Phase.{phase_of}
use Rattle.blocks.proofs.Picks.{decide_same}
use Rattle.hop_networks.specs.Hopping.{hop_refusal_in, hopped_in}
use Rattle.hop_networks.specs.Local.{HopInLocal}

module _ (n : ℕ) (lab lab' : ℕ → ℕ) (c d : ℕ) (own : lab c ≡ lab' c) (near : (i : ℕ) → i < n → lab (flip i c) ≡ lab' (flip i c)) where
  pub hop_in_same : (p : ℕ) → hop_in n lab d p c ≡ hop_in n lab' d p c
  unfolding hop_in
  hop_in_same p =
      ap (λ (x : ℕ). decide_in n c d p x (λ i. lab (flip i c))) own ∙ decide_same n c d p (lab' c) (λ i. lab (flip i c)) (λ i. lab' (flip i c)) near

  refusal_same : (N j w g m : ℕ) → hop_refusal_in n N j c d w g m lab ≡ hop_refusal_in n N j c d w g m lab'
  unfolding hop_refusal_in
  refusal_same N j w g m =
      rw (
        hop_in_same (phase_of w g),
        own,
        some_same n (λ i. ltb highest (lab (flip i c))) (λ i. ltb highest (lab' (flip i c))) (λ i h. ap (ltb highest) (near i h)),
      )

pub hop_in_local : HopInLocal
unfolding hopped_in
hop_in_local n N j c d w g m lab lab' own near = rw (refusal_same n lab lab' c d own near N j w g m, hop_in_same n lab lab' c d own near (phase_of w g))
