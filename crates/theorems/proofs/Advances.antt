-- A walk each of whose decisions makes progress: it keeps to the nodes that work and the destination, its measure falls with each hop, and its hops and the
-- distance that is left differ from the distance at the start by an even number. So it ends before n + 4 hops are done, where a decision is no hop.
use mathlib.Core.Path.{◌≡◌, refl, sym, ap, ◌∙◌}
use mathlib.Core.Logic.{◌⊎◌, inl, inr, ◌≢◌}
use mathlib.Core.Bool.{Bool, true, false}
use Prim.Native.Nat.{ℕ, zero, suc, ◌+◌, ◌*◌, ◌^◌, ◌≤◌, ◌<◌}
use native.Mathlib.Numerals.{add-one}
use native.Mathlib.Omega.{arith}
use lib.Dec.{ltb}
use borrow.Author.Tests.{ltb-true, ltb-false}
use Rattle.cube.specs.Cube.{flip, apart, dist}
use Rattle.cube.proofs.Bools.{either, clash}
use Rattle.cube.proofs.Cube.{dist_zero, dist_fall, dist_rise}
use Rattle.scans.specs.Progress.{Inside, Progress}
use Rattle.hop.specs.Hop.{hop}
use Rattle.hop.specs.declared.Decision.{Decision}
use Rattle.hop.specs.declared.Decision.TheVariants.{Deliver, Hop, Halted}
use Rattle.hop.proofs.Gathered.{arrives}
use Rattle.walk.specs.Walk.{stops, spot, turn, hops, last, route}
use Rattle.walk.proofs.Steps.{hops_end, hops-on, spot_next, spot_zero}
use Rattle.theorems.specs.Picked.{Picked, arrived, took, stopped}
use Rattle.theorems.proofs.Decision.{picked}

-- ---- any walk: its steps are the decisions' own

stops_is : {h : Decision} {b : Bool} (x : Decision) → h ≡ x → stops x ≡ b → stops h ≡ b
stops_is x e f = ap stops e ∙ f

-- the node after its last hop
abbrev pub end_of : (n : ℕ) (lab : ℕ → ℕ) (d s : ℕ) → ℕ
end_of n lab d s = spot (route n lab d) s (hops n (route n lab d) s)

-- where the walk goes on, it is not at the destination
pub not_there : (n : ℕ) (lab : ℕ → ℕ) (d s k : ℕ) → k < hops n (route n lab d) s → spot (route n lab d) s k ≢ d
unfolding turn stops
not_there n lab d s k h e = clash (stops_is Deliver (sym (arrives n lab (spot (route n lab d) s k) d e)) refl) (hops-on n (route n lab d) s k h)

-- ---- a walk that makes progress

module _ (n : ℕ) (lab : ℕ → ℕ) (d : ℕ) (hd : d < 2 ^ n) (measure : ℕ → ℕ) (Stuck : ℕ → Type 0) (P : Progress n lab d measure Stuck) where
  -- what the decision at c does
  data Next (c : ℕ) : Type 0 where
    arrive : c ≡ d → hop n lab c d ≡ Deliver → Next c
    stuck : hop n lab c d ≡ Halted → Stuck c → Next c
    move : (i : ℕ) → i < n → hop n lab c d ≡ Hop i → Inside n lab d (flip i c) → measure (flip i c) < measure c → Next c

  next : (c : ℕ) → Inside n lab d c → Next c
  next c p = go (hop n lab c d) refl (picked n lab c d)
    where
      go : (x : Decision) → hop n lab c d ≡ x → Picked n lab c d x → Next c
      go x h (arrived e) = arrive (dist_zero n c d p.0 hd e) h
      go x h (took {i} s far k) = move i k.dimension h (P.inside c s i p far k) (P.falls c s i p far k)
      go x h (stopped far m) = stuck h (P.stuck c p far m)

module _ (n : ℕ) (lab : ℕ → ℕ) (d : ℕ) (hd : d < 2 ^ n) (measure : ℕ → ℕ) (Stuck : ℕ → Type 0) (P : Progress n lab d measure Stuck)
    (s : ℕ) (ps : Inside n lab d s) (fuel : measure s ≤ n + 4) where
  -- after k hops
  pub record On (k : ℕ) : Type 0 where
    pub inside : Inside n lab d (spot (route n lab d) s k)
    pub room : k + measure (spot (route n lab d) s k) ≤ measure s
    pub extra : ℕ
    pub even : k + dist (spot (route n lab d) s k) d ≡ dist s d + 2 * extra

  -- what one hop does
  pub record Made (k : ℕ) : Type 0 where
    pub i : ℕ
    pub dim : i < n
    pub decided : turn (route n lab d) s k ≡ Hop i
    pub inside : Inside n lab d (flip i (spot (route n lab d) s k))
    pub falls : measure (flip i (spot (route n lab d) s k)) < measure (spot (route n lab d) s k)
    pub is : spot (route n lab d) s (k + 1) ≡ flip i (spot (route n lab d) s k)

  pub made : (k : ℕ) → k < hops n (route n lab d) s → On k → Made k
  unfolding turn stops
  made k h o = go (next n lab d hd measure Stuck P (spot (route n lab d) s k) o.inside)
    where
      go : Next n lab d hd measure Stuck P (spot (route n lab d) s k) → Made k
      go (arrive _ e) = absurd (clash (stops_is Deliver e refl) (hops-on n (route n lab d) s k h))
      go (stuck e _) = absurd (clash (stops_is Halted e refl) (hops-on n (route n lab d) s k h))
      go (move i hi e q l) = record { i = i; dim = hi; decided = e; inside = q; falls = l; is = spot_next (route n lab d) s k i e }

  pub on : (k : ℕ) → k ≤ hops n (route n lab d) s → On k
  on zero h =
      record {
        inside = rw (spot_zero (route n lab d) s) ps;
        room = omega (arith, ap measure (spot_zero (route n lab d) s));
        extra = 0;
        even = omega (arith, ap (λ x. dist x d) (spot_zero (route n lab d) s));
      }
  on (suc k) h = go (on k (omega arith)) (made k (omega arith) (on k (omega arith)))
    where
      go : On k → Made k → On (suc k)
      go o r =
          let m = left (either (apart r.i (spot (route n lab d) s k) d)) in
          record { inside = rw is r.inside; room = omega (arith, ap measure is); extra = m.0; even = m.1 }
        where
          is : spot (route n lab d) s (suc k) ≡ flip r.i (spot (route n lab d) s k)
          is = ap (spot (route n lab d) s) (sym (add-one k)) ∙ r.is

          left : (apart r.i (spot (route n lab d) s k) d ≡ true) ⊎ (apart r.i (spot (route n lab d) s k) d ≡ false)
              → (m : ℕ) × (suc k + dist (spot (route n lab d) s (suc k)) d ≡ dist s d + 2 * m)
          left (inl a) =
              let f = dist_fall n r.i (spot (route n lab d) s k) d o.inside.0 hd r.dim a in
              (o.extra, omega (arith, o.even, ap (λ x. dist x d) is))
          left (inr a) =
              let f = dist_rise n r.i (spot (route n lab d) s k) d o.inside.0 hd r.dim a in
              (suc o.extra, omega (arith, o.even, ap (λ x. dist x d) is))

  -- how it ends
  pub end : ((last n (route n lab d) s ≡ Deliver) × (end_of n lab d s ≡ d)) ⊎ ((last n (route n lab d) s ≡ Halted) × Stuck (end_of n lab d s))
  unfolding last turn stops
  end = go (next n lab d hd measure Stuck P (end_of n lab d s) o.inside) (either (ltb (hops n (route n lab d) s) (n + 4)))
    where
      o : On (hops n (route n lab d) s)
      o = on (hops n (route n lab d) s) (omega arith)

      go : Next n lab d hd measure Stuck P (end_of n lab d s)
          → (ltb (hops n (route n lab d) s) (n + 4) ≡ true) ⊎ (ltb (hops n (route n lab d) s) (n + 4) ≡ false)
          → ((last n (route n lab d) s ≡ Deliver) × (end_of n lab d s ≡ d)) ⊎ ((last n (route n lab d) s ≡ Halted) × Stuck (end_of n lab d s))
      go (arrive q e) _ = inl (e, q)
      go (stuck e q) _ = inr (e, q)
      go (move i hi e q l) (inl a) = absurd (clash (hops_end n (route n lab d) s (ltb-true (hops n (route n lab d) s) (n + 4) a)) (stops_is (Hop i) e refl))
      go (move i hi e q l) (inr a) = absurd (omega (arith, o.room, ltb-false (hops n (route n lab d) s) (n + 4) a))
