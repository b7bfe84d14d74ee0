-- Why a hop is taken, beside the hop question: both go by the same tests, and away from the destination by what the scans pick.
use mathlib.Core.Path.{◌≡◌, refl, sym, ap, ◌∙◌}
use mathlib.Core.Logic.{◌⊎◌, inl, inr, ⊎_elim, ◌≢◌}
use mathlib.Core.Bool.{true, false, cond}
use mathlib.Core.List.{List}
use Prim.Native.Nat.{ℕ, zero, suc, ◌^◌, ◌≤◌, ◌<◌}
use lib.Dec.{eqb, ltb}
use borrow.Author.Tests.{ne_eqb}
use Rattle.std.specs.Prelude.{Ok, Option, Some, None, get_or}
use Rattle.cube.specs.Cube.{dist, flip}
use Rattle.cube.proofs.Bools.{either}
use Rattle.cube.proofs.Cube.{dist_self, dist_zero}
use Rattle.cube.specs.Refused.{answered}
use Rattle.scans.specs.Scans.{first_scan, lowest, no_scan}
use Rattle.scans.proofs.Local.{first_same, lowest_same}
use Rattle.hop.specs.Helpers.{around, chosen, gathered}
use Rattle.hop.proofs.Gathered.{chosen_is}
use Rattle.hop.specs.Hop as H
use Rattle.hop.specs.declared.Decision.{Decision}
use Rattle.hop.specs.declared.Decision.TheVariants as decision
use Rattle.hop.proofs.Local.{refusal_same}
use Rattle.why.specs.Helpers.{taken}
use Rattle.why.specs.HopReasons.{answer, explain, hop_reason, without_scan}
use Rattle.why.specs.declared.HopReason.{HopReason}
use Rattle.why.specs.declared.HopReason.TheVariants.{Deliver, Hop, Halted}

-- ---- one answer beside the other

module _ (l s i : ℕ) where
  -- what is decided: to deliver, a hop, or to halt
  data Decided : Type 0 where
    delivers : H.answer l s i ≡ decision.Deliver → answer l s i ≡ Deliver → Decided
    hops : H.answer l s i ≡ decision.Hop i → answer l s i ≡ Hop s i → Decided
    halts : H.answer l s i ≡ decision.Halted → answer l s i ≡ Halted → Decided

  decided : Decided
  unfolding H.answer answer
  decided = go (either (eqb l 0)) (either (ltb s no_scan))
    where
      go : (eqb l 0 ≡ true) ⊎ (eqb l 0 ≡ false) → (ltb s no_scan ≡ true) ⊎ (ltb s no_scan ≡ false) → Decided
      go (inl a) _ = delivers (rw a) (rw a)
      go (inr a) (inl b) = hops (rw (a, b)) (rw (a, b))
      go (inr a) (inr b) = halts (rw (a, b)) (rw (a, b))

  same_decision : without_scan (Ok (answer l s i)) ≡ Ok (H.answer l s i)
  same_decision = go decided
    where
      go : Decided → without_scan (Ok (answer l s i)) ≡ Ok (H.answer l s i)
      go (delivers a b) = rw (a, b)
      go (hops a b) = rw (a, b)
      go (halts a b) = rw (a, b)

-- refused or not
without_refused : (k : ℕ) (x : HopReason) (y : Decision) → without_scan (Ok x) ≡ Ok y → without_scan (answered k x) ≡ answered k y
without_refused zero x y e = e
without_refused (suc k) x y e = refl

-- what the scans pick
picked : (s i : ℕ) → taken (cond (ltb s no_scan) (Some (s, i)) None) ≡ cond (ltb s no_scan) (Hop s i) Halted
picked s i = ⊎_elim (λ (t : ltb s no_scan ≡ true). rw t) (λ (t : ltb s no_scan ≡ false). rw t) (either (ltb s no_scan))

module _ (n j c d m : ℕ) (lab : ℕ → ℕ) where
  abbrev own : ℕ
  own = lab c

  abbrev near : ℕ → ℕ
  near i = lab (flip i c)

  abbrev scan : ℕ
  scan = first_scan n c d own near

  -- "kind and dimension are those of the hop decision", and so are the refusals
  pub same_hop : without_scan (hop_reason n j c d m lab) ≡ H.hopped n j c d m lab
  unfolding hop_reason H.hopped H.hop H.decide explain
  same_hop =
      without_refused (H.hop_refusal n j c d m lab) _ _ (same_decision (dist c d) scan (lowest n c d own near scan))

  pub reasons : (x : HopReason) → H.hop_refusal n j c d m lab ≡ 0 → x ≡ explain n c d own near → Ok x ≡ hop_reason n j c d m lab
  unfolding hop_reason
  reasons x e ex = rw (e, ex)

  -- it goes by the label of c and those of its neighbours, as the hop does
  pub reason_same : (lab' : ℕ → ℕ) → lab c ≡ lab' c → ((i : ℕ) → i < n → lab (flip i c) ≡ lab' (flip i c))
      → hop_reason n j c d m lab ≡ hop_reason n j c d m lab'
  unfolding hop_reason explain
  reason_same lab' same-own same-near =
      rw (
        refusal_same n j c d m lab lab' same-own same-near,
        same-own,
        first_same n c d (lab' c) near (λ i. lab' (flip i c)) same-near,
        lowest_same n c d (lab' c) near (λ i. lab' (flip i c)) same-near,
      )

  -- ---- from what the code has, where nothing is refused

  module _ (good : H.hop_refusal n j c d m lab ≡ 0) where
    pub delivers_is : c ≡ d → Ok Deliver ≡ hop_reason n j c d m lab
    unfolding explain answer
    delivers_is e = reasons Deliver good (rw (e, dist_self))

    -- away from the destination, by what the scans picked
    pub taken_is : c < 2 ^ n → d < 2 ^ n → c ≢ d → (p : Option (ℕ × ℕ)) → p ≡ chosen n c d own near → Ok (taken p) ≡ hop_reason n j c d m lab
    unfolding explain answer chosen
    taken_is hc hd far p e =
        reasons (taken p) good
        (ap taken e ∙ picked scan (lowest n c d own near scan) ∙ sym (rw (ne_eqb (dist c d) 0 (λ z. far (dist_zero n c d hc hd z)))))

    -- as it was read at the node
    pub taken_by : n ≤ 12 → c < 2 ^ n → d < 2 ^ n → c ≢ d → (h : ℕ × ℕ × ℕ × ℕ × List ℕ) (p : Option (ℕ × ℕ)) → h ≡ around n c d lab
        → p ≡ chosen h.0 h.1 h.2 h.3 (λ i. get_or h.4 i 0) → Ok (taken p) ≡ hop_reason n j c d m lab
    unfolding around
    taken_by small hc hd far h p e ep = taken_is hc hd far p ((rw e at ep) ∙ chosen_is n lab c (gathered n lab c) small refl d)
