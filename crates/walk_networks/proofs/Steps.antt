-- The walk as a loop takes it. What holds each time round is one record: where the message is after its hops, that it was to go on so far, and that the list
-- holds the numbers of the hops up to here. The laws: it holds at the start, a hop keeps it, and each way out of the loop gives the walk's answer.
use mathlib.Core.Path.{◌≡◌, refl, ap, ap₂, ◌∙◌}
use mathlib.Core.Logic.{◌≢◌}
use mathlib.Core.Bool.{true, false}
use mathlib.Core.List.{List}
use Prim.Native.Nat.{ℕ, ◌+◌, ◌*◌, ◌/◌, ◌^◌, ◌≤◌, ◌<◌}
use native.Mathlib.Nat.{mul-le-mul_right}
use native.Mathlib.Numerals.{add-one}
use native.Mathlib.Omega.{arith}
use borrow.Author.Count.{below_more}
use borrow.Author.Tests.{le-leb, lt-leb}
use lib.ListN.{length, set}
use Rattle.std.specs.Prelude.{Some, None, Ok, Err}
use Rattle.cube.specs.Cube.{flip}
use Rattle.cube.specs.declared.refusals.Refusal.TheVariants.{Network}
use Rattle.cube.proofs.Bools.{or_right}
use Rattle.cube.proofs.Cube.{dist_self, flip_lt}
use Rattle.cube.proofs.Front.{front, front_write, front_zero}
use Rattle.hop.specs.declared.Decision.{Decision}
use Rattle.hop.specs.declared.Decision.TheVariants.{Deliver, Hop, Halted}
use Rattle.walk.specs.Walk.{stops}
use Rattle.blocks.specs.Blocks.{decide_in, hop_in, pick}
use Rattle.blocks.specs.Board.{beyond, ends_on, hops_on, last_on, most_hops, number_at, numbered}
use Rattle.blocks.specs.Course.{Place, phase, place, spot, turn}
use Rattle.blocks.specs.Phase.{after, channel_number}
use Rattle.blocks.proofs.Board.{ends_at, on_within, stop_ends}
use Rattle.blocks.proofs.Rising.{place_suc}
use Rattle.hop.specs.Helpers.{found}
use Rattle.hop.proofs.Sets.{some_found}
use Rattle.hop_networks.proofs.Deciding as deciding
use Rattle.walk_networks.specs.Crossing.{ended_by}
use Rattle.walk_networks.specs.declared.Crossed.TheVariants as crossed

-- no walk has more than 120 hops
pub most_few : (n N : ℕ) → n ≤ 12 → N ≤ 5 → most_hops n N ≤ 120
most_few n N small few = let h : 2 * n ≤ 24 = omega arith in omega (arith, mul-le-mul_right N h)

pub record Going (n N : ℕ) (lab : ℕ → ℕ) (d s : ℕ) (lent list : List ℕ) (x p k : ℕ) : Type 0 where
  pub inside : x < 2 ^ n
  pub below : p < 2 * N
  pub here : place n lab d s k ≡ record { node = x; phase = p }
  pub going : (j : ℕ) → j < k → ends_on n N lab d s j ≡ false
  pub written : list ≡ front (number_at n lab d s) k lent

module _ (n N : ℕ) (lab : ℕ → ℕ) (d s : ℕ) (hs : s < 2 ^ n) (some : 0 < N) (lent : List ℕ) where
  pub start : Going n N lab d s lent lent s 0 0
  unfolding place
  start =
      record { inside = hs; below = omega arith; here = refl; going = λ j l. absurd (omega arith); written = front_zero (number_at n lab d s) lent }

  module _ (list : List ℕ) (x p k : ℕ) (w : Going n N lab d s lent list x p k) where
    pub within : k ≤ most_hops n N
    within = on_within n lab d s hs N some k w.going

    spot_is : spot n lab d s k ≡ x
    spot_is = ap (λ (q : Place). q.node) w.here

    phase_is : phase n lab d s k ≡ p
    phase_is = ap (λ (q : Place). q.phase) w.here

    turn_is : turn n lab d s k ≡ hop_in n lab d p x
    turn_is = ap₂ (hop_in n lab d) phase_is spot_is

    -- ---- a way out of the loop

    ends : (a : Decision) → turn n lab d s k ≡ a → ends_on n N lab d s k ≡ true
        → (ended_by k a ≡ ended_by (hops_on n N lab d s) (last_on n N lab d s)) × (list ≡ front (number_at n lab d s) (hops_on n N lab d s) lent)
    unfolding last_on
    ends a e h = let z = ends_at n lab d s hs N k some w.going h in (rw (z, e), rw z w.written)

    pub delivered : x ≡ d
        → (Ok (crossed.Delivered k) ≡ ended_by (hops_on n N lab d s) (last_on n N lab d s)) × (list ≡ front (number_at n lab d s) (hops_on n N lab d s) lent)
    unfolding hop_in decide_in ended_by stops
    delivered e = let t : turn n lab d s k ≡ Deliver = turn_is ∙ rw (e, dist_self) in ends Deliver t (stop_ends n lab d s hs N k (ap stops t))

    module _ (hd : d < 2 ^ n) (far : x ≢ d) where
      pub halted : None ≡ found n (pick n x d p (lab x) (λ j. lab (flip j x)))
          → (Ok (crossed.Halted k) ≡ ended_by (hops_on n N lab d s) (last_on n N lab d s)) × (list ≡ front (number_at n lab d s) (hops_on n N lab d s) lent)
      unfolding hop_in ended_by stops
      halted e =
          let t = turn_is ∙ deciding.halts n N x d p (lab x) (λ j. lab (flip j x)) w.inside hd far e in
          ends Halted t (stop_ends n lab d s hs N k (ap stops t))

      module _ (i : ℕ) (e : Some i ≡ found n (pick n x d p (lab x) (λ j. lab (flip j x)))) (q : ℕ) (eq : q ≡ after p x i) where
        hops_here : turn n lab d s k ≡ Hop i
        unfolding hop_in
        hops_here = turn_is ∙ deciding.hops n N x d p (lab x) (λ j. lab (flip j x)) w.inside hd far i e

        pub lacking : 2 * N ≤ q
            → (Err Network ≡ ended_by (hops_on n N lab d s) (last_on n N lab d s)) × (list ≡ front (number_at n lab d s) (hops_on n N lab d s) lent)
        unfolding ended_by ends_on beyond
        lacking h = ends (Hop i) hops_here (or_right (stops (turn n lab d s k)) (rw (hops_here, phase_is, spot_is, ← eq) (le-leb (2 * N) q h)))

        -- ---- a hop

        module _ (h : q < 2 * N) where
          goes_on : ends_on n N lab d s k ≡ false
          unfolding ends_on beyond stops
          goes_on = rw (hops_here, phase_is, spot_is, ← eq) (lt-leb (2 * N) q h)

          on_so_far : (j : ℕ) → j < k + 1 → ends_on n N lab d s j ≡ false
          on_so_far = below_more _ k w.going goes_on

          below : i < n
          below = let f = some_found n i (pick n x d p (lab x) (λ j. lab (flip j x))) e in omega (arith, f.0, f.1)

          pub room : k < most_hops n N
          room = omega (arith, on_within n lab d s hs N some (k + 1) on_so_far)

          number_is : q / 2 * 16 + i ≡ number_at n lab d s k
          unfolding number_at numbered channel_number
          number_is = rw (hops_here, phase_is, spot_is, ← eq)

          pub on : k < length lent → (y : ℕ) → y ≡ flip i x → Going n N lab d s lent (set list k (q / 2 * 16 + i)) y q (k + 1)
          on r y ey =
              rw ey
              (record {
                inside = flip_lt n i x below w.inside;
                below = h;
                here = ap (place n lab d s) (add-one k) ∙ place_suc n lab d s k i hops_here ∙ rw (phase_is, spot_is, eq);
                going = on_so_far;
                written = front_write (number_at n lab d s) k lent list (q / 2 * 16 + i) r w.written number_is;
              })
