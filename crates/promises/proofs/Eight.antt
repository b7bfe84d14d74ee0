-- 8 is given where every decision up to the last that is asked is a hop: then none of them stops, and the places are the walk's.
use mathlib.Core.Path.{◌≡◌, sym, ap, ◌∙◌}
use mathlib.Core.Logic.{⊎_elim, ◌↔◌}
use mathlib.Core.Bool.{true, false, not}
use Prim.Native.Nat.{ℕ, zero, suc, ◌+◌, ◌≤◌, ◌<◌}
use native.Mathlib.Nat.{eq-or-lt_of_le}
use native.Mathlib.Numerals.{add-one}
use native.Mathlib.Omega.{arith}
use borrow.Author.Tests.{not-true}
use Rattle.cube.specs.Cube.{flip}
use Rattle.cube.proofs.Bools.{clash}
use Rattle.hop.specs.declared.Decision.{Decision}
use Rattle.hop.specs.declared.Decision.TheVariants.{Hop}
use Rattle.walk.specs.Walk.{hops, last, route, spot, stops, turn}
use Rattle.walk.proofs.Steps.{hops_end, hops-on, hops_within, is_hop, spot_next, spot_zero}
use Rattle.promises.specs.Refusals.{AllHops}

module _ (n : ℕ) (lab : ℕ → ℕ) (d s : ℕ) where
  abbrev go : ℕ → Decision
  go = route n lab d

  -- where each decision is a hop, the places are the walk's
  same_places : (f : AllHops n lab d s) (k : ℕ) → k ≤ n + 4 → spot go s k ≡ f.0 k
  unfolding turn
  same_places f zero h = spot_zero go s ∙ sym f.1
  same_places f (suc k) h =
      let e : spot go s k ≡ f.0 k = same_places f k (omega arith) in
      let q = f.2 k (omega arith) in
      ap (spot go s) (sym (add-one k)) ∙ spot_next go s k q.0 (ap go e ∙ q.1) ∙ ap (flip q.0) e ∙ sym q.2 ∙ ap f.0 (add-one k)

  pub eight : (not (stops (last n go s)) ≡ true) ↔ AllHops n lab d s
  unfolding last stops turn
  eight = (λ e. (spot go s, spot_zero go s, all (not-true _ e)), given)
    where
      all : stops (last n go s) ≡ false → (k : ℕ) → k ≤ n + 4
          → (i : ℕ) × (turn go s k ≡ Hop i) × (spot go s (k + 1) ≡ flip i (spot go s k))
      all e k h =
          let r = is_hop (turn go s k)
          (⊎_elim (λ (q : k ≡ hops n go s). rw q e) (λ l. hops-on n go s k l) (eq-or-lt_of_le (omega (arith, full)))) in
          (r.0, r.1, spot_next go s k r.0 r.1)
        where
          full : ¬ (hops n go s < n + 4)
          full l = clash (hops_end n go s l) e

      given : AllHops n lab d s → not (stops (last n go s)) ≡ true
      given f =
          let h = hops_within n go s in
          let r = f.2 (hops n go s) h in
          ap (λ x. not (stops x)) (ap go (same_places f (hops n go s) h) ∙ r.1)
