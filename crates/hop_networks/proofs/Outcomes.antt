-- What an answer of the hop by networks may be: a refusal of 19 at most, or a decision whose number is small.
use mathlib.Core.Path.{◌≡◌, refl}
use mathlib.Core.Bool.{false}
use Prim.Native.Nat.{ℕ, ◌*◌, ◌^◌, ◌≤◌, ◌<◌}
use native.Mathlib.Omega.{arith}
use lib.Dec.{leb}
use borrow.Author.Tests.{leb-false, not-false}
use Rattle.std.specs.Prelude.{Ok}
use Rattle.cube.proofs.Bools.{or_false}
use Rattle.cube.proofs.Refusal.{first_le, first_none}
use Rattle.cube.proofs.Refused.{accepted}
use Rattle.hop.specs.Hop.{decision_value}
use Rattle.hop.specs.declared.Decision.{Decision}
use Rattle.hop.specs.declared.Decision.TheVariants.{Deliver, Hop, Halted}
use Rattle.blocks.specs.Blocks.{hop_in}
use Rattle.blocks.specs.Board.{beyond, numbered}
use Rattle.blocks.specs.Phase.{after, channel_number, phase_of}
use Rattle.blocks.proofs.Rising.{dim_lt}
use Rattle.hop_networks.specs.Hopping.{hop_refusal_in, hop_tests_in, hopped_in}
use Rattle.hop_networks.proofs.Refusals.{Boarded, boarded}

module _ (n N j c d w g m : ℕ) (lab : ℕ → ℕ) where
  pub refusal_le : hop_refusal_in n N j c d w g m lab ≤ 19
  unfolding hop_refusal_in
  refusal_le = first_le 19 (hop_tests_in n N j c d w g m lab) refl

  -- where nothing is refused, the board has the message's network, and that of the hop
  pub board_of : hop_refusal_in n N j c d w g m lab ≡ 0 → Boarded n N w g
  unfolding hop_refusal_in
  board_of e = let t = first_none 19 (hop_tests_in n N j c d w g m lab) refl e in boarded n N w g (not-false _ t.0) t.1.0

  pub within : hop_refusal_in n N j c d w g m lab ≡ 0 → beyond N (phase_of w g) c (hop_in n lab d (phase_of w g) c) ≡ false
  unfolding hop_refusal_in
  within e = let t = first_none 19 (hop_tests_in n N j c d w g m lab) refl e in t.1.1.1.1.1.1.1.1.0

  pub number_small : hop_refusal_in n N j c d w g m lab ≡ 0 → decision_value (numbered (phase_of w g) c (hop_in n lab d (phase_of w g) c)) < 256
  unfolding numbered channel_number beyond
  number_small e = go (hop_in n lab d (phase_of w g) c) refl (within e)
    where
      b : Boarded n N w g
      b = board_of e

      go : (x : Decision) → hop_in n lab d (phase_of w g) c ≡ x → beyond N (phase_of w g) c x ≡ false → decision_value (numbered (phase_of w g) c x) < 256
      go Deliver q h = omega arith
      go (Hop i) q h =
          omega (arith, leb-false (2 * N) (after (phase_of w g) c i) h, b.few, b.small, dim_lt n lab d (phase_of w g) c i q)
      go Halted q h = omega arith

-- what an answer says that is a hop: h is the number of a hop in a network of the board
pub record HopOf (n N c d p : ℕ) (lab : ℕ → ℕ) (h : ℕ) : Type 0 where
  pub small : n ≤ 12
  pub few : N ≤ 5
  pub inside : c < 2 ^ n
  pub dim : ℕ
  pub decided : hop_in n lab d p c ≡ Hop dim
  pub below : dim < n
  pub number : h ≡ channel_number p c dim

-- what any decision is that is answered
module _ (n N j c d w g m : ℕ) (lab : ℕ → ℕ) (x : Decision) where
  abbrev made : Decision
  made = numbered (phase_of w g) c (hop_in n lab d (phase_of w g) c)

  pub decision_of : hopped_in n N j c d w g m lab ≡ Ok x → (g ≤ 1) × (made ≡ x)
  unfolding hopped_in
  decision_of e = let a = accepted _ _ _ e in ((board_of n N j c d w g m lab a.0).direction, a.1)

module _ (n N j c d w g m : ℕ) (lab : ℕ → ℕ) (h : ℕ) where
  pub hop_of : hopped_in n N j c d w g m lab ≡ Ok (Hop h) → HopOf n N c d (phase_of w g) lab h
  unfolding hopped_in hop_refusal_in numbered beyond
  hop_of e = let a = accepted _ _ _ e in taken a.0 (hop_in n lab d (phase_of w g) c) refl a.1
    where
      taken : hop_refusal_in n N j c d w g m lab ≡ 0 → (x : Decision) → hop_in n lab d (phase_of w g) c ≡ x → numbered (phase_of w g) c x ≡ Hop h
          → HopOf n N c d (phase_of w g) lab h
      taken ok Deliver q z = absurd (let y : ◌≡◌ {A = ℕ} 0 1 = cc in omega arith)
      taken ok (Hop i) q z =
          let b = board_of n N j c d w g m lab ok in
          let t = first_none 19 (hop_tests_in n N j c d w g m lab) refl ok in
          let r = or_false (leb (2 ^ n) c) (leb (2 ^ n) d) t.1.1.1.1.0 in
          record {
            small = b.small;
            few = b.few;
            inside = leb-false (2 ^ n) c r.0;
            dim = i;
            decided = q;
            below = dim_lt n lab d (phase_of w g) c i q;
            number = cc;
          }
      taken ok Halted q z = absurd (let y : ◌≡◌ {A = ℕ} 0 1 = cc in omega arith)
