-- 16 in words: a hop needs a network that the board lacks; and of a walk, that each decision is a hop in a network of the board until one needs another.
use mathlib.Core.Bool.{true, false, not, ◌||◌}
use mathlib.Core.Logic.{⊎_elim, ◌↔◌}
use mathlib.Core.Path.{◌≡◌, refl, sym, ap, ◌∙◌}
use Prim.Native.Nat.{ℕ, zero, suc, ◌*◌, ◌^◌, ◌≤◌, ◌<◌}
use native.Mathlib.Numerals.{add-one}
use native.Mathlib.Omega.{arith}
use borrow.Author.Tests.{le-leb, leb-true, lt-leb, not-true}
use Rattle.cube.specs.Cube.{flip}
use Rattle.cube.proofs.Bools.{clash, or_right, or_true}
use Rattle.hop.specs.declared.Decision.{Decision}
use Rattle.hop.specs.declared.Decision.TheVariants.{Deliver, Hop, Halted}
use Rattle.walk.specs.Walk.{stops}
use Rattle.blocks.specs.Blocks.{hop_in}
use Rattle.blocks.specs.Board.{beyond, ends_on, hops_on, last_on}
use Rattle.blocks.specs.Course.{Place, phase, place, spot, turn}
use Rattle.blocks.specs.Phase.{after}
use Rattle.blocks.proofs.Board.{ends_at, walks}
use Rattle.blocks.proofs.Rising.{phase_zero, place_suc, spot_zero, step}
use Rattle.promises.specs.NetworkRefusals.{Needs, RunsOut}

-- a hop needs a network that the board lacks
pub beyond_says : (n N : ℕ) (lab : ℕ → ℕ) (d p c : ℕ) → (beyond N p c (hop_in n lab d p c) ≡ true) ↔ Needs n N lab d p c
unfolding beyond
beyond_says n N lab d p c = (said (hop_in n lab d p c) refl, given)
  where
    said : (x : Decision) → hop_in n lab d p c ≡ x → beyond N p c x ≡ true → Needs n N lab d p c
    said Deliver q e = absurd (clash e refl)
    said (Hop i) q e = (i, q, omega (arith, leb-true (2 * N) (after p c i) e))
    said Halted q e = absurd (clash e refl)

    given : Needs n N lab d p c → beyond N p c (hop_in n lab d p c) ≡ true
    given r = rw r.1 (le-leb (2 * N) (after p c r.0) (omega (arith, r.2)))

-- ---- a walk that runs out of networks

module _ (n N : ℕ) (lab : ℕ → ℕ) (d s : ℕ) (hs : s < 2 ^ n) (some-network : 0 < N) where
  abbrev K : ℕ
  K = hops_on n N lab d s

  pub out_says : not (stops (last_on n N lab d s)) ≡ true → RunsOut n N lab d s
  unfolding last_on ends_on
  out_says e =
      let W = walks n lab d s hs N some-network in
      let z = not-true (stops (turn n lab d s K)) e in
      let b = ⊎_elim (λ (t : stops (turn n lab d s K) ≡ true). absurd (clash t z)) (λ t. t) (or_true _ _ W.ends) in (
        spot n lab d s,
        phase n lab d s,
        K,
        spot_zero n lab d s,
        phase_zero n lab d s,
        λ i h.
            let r = step n lab d s hs i (W.runs i h) in (
              r.dim,
              r.decided,
              ap (λ (k : ℕ). spot n lab d s k) (add-one i) ∙ r.node_is,
              ap (λ (k : ℕ). phase n lab d s k) (add-one i) ∙ r.phase_is,
              omega (arith, ap (λ (k : ℕ). phase n lab d s k) (add-one i), W.phases (suc i) h),
            ),
        (beyond_says n N lab d (phase n lab d s K) (spot n lab d s K)).0 b,
      )

  module _ (r : RunsOut n N lab d s) where
    abbrev at : ℕ → ℕ
    at = r.0

    abbrev ph : ℕ → ℕ
    ph = r.1

    here : (i : ℕ) → i ≤ r.2 → place n lab d s i ≡ record { node = at i; phase = ph i }
    unfolding place
    here zero h = rw (r.3, r.4)
    here (suc i) h =
        let q = r.5 i h in
        let e = here i (omega arith) in
        let t : turn n lab d s i ≡ Hop q.0 = ap (λ (p : Place). hop_in n lab d p.phase p.node) e ∙ q.1 in
        place_suc n lab d s i q.0 t
        ∙ ap (λ (p : Place). record { node = flip q.0 p.node; phase = after p.phase p.node q.0 }) e
        ∙ rw (sym (ap at (sym (add-one i)) ∙ q.2), sym (ap ph (sym (add-one i)) ∙ q.3))

    turn_is : (i : ℕ) → i ≤ r.2 → turn n lab d s i ≡ hop_in n lab d (ph i) (at i)
    turn_is i h = ap (λ (p : Place). hop_in n lab d p.phase p.node) (here i h)

    ends_is : (i : ℕ) → i ≤ r.2 → ends_on n N lab d s i ≡ (stops (hop_in n lab d (ph i) (at i)) || beyond N (ph i) (at i) (hop_in n lab d (ph i) (at i)))
    unfolding ends_on
    ends_is i h =
        ap (λ (p : Place). stops (hop_in n lab d p.phase p.node) || beyond N p.phase p.node (hop_in n lab d p.phase p.node)) (here i h)

    goes_on : (i : ℕ) → i < r.2 → ends_on n N lab d s i ≡ false
    unfolding stops beyond
    goes_on i h =
        let q = r.5 i h in
        ends_is i (omega arith) ∙ rw q.1 (lt-leb (2 * N) (after (ph i) (at i) q.0) (omega (arith, q.3, q.4)))

    stuck : ends_on n N lab d s r.2 ≡ true
    stuck = ends_is r.2 (omega arith) ∙ or_right (stops (hop_in n lab d (ph r.2) (at r.2))) ((beyond_says n N lab d (ph r.2) (at r.2)).1 r.6)

    pub out_given : not (stops (last_on n N lab d s)) ≡ true
    unfolding last_on stops
    out_given = rw (ends_at n lab d s hs N r.2 some-network goes_on stuck, turn_is r.2 (omega arith), r.6.1)
