-- Following causes down: each neighbour that a true cause names does not work, or its own round is smaller. So with every step to an unsafe node the round
-- falls, and it is never below 1.
use mathlib.Core.Path.{◌≡◌, refl}
use mathlib.Core.Logic.{◌⊎◌, inl, inr, ⊎_elim}
use mathlib.Core.Bool.{Bool, true}
use Prim.Native.Nat.{ℕ, zero, suc, ◌≤◌, ◌<◌}
use native.Mathlib.Omega.{arith}
use Rattle.cube.specs.Cube.{flip}
use Rattle.causes.specs.Cause.{cause_of, round_of}
use Rattle.causes.specs.Laws.{CauseLaws, Causes, ComesDown, Down, LeadsTo, Marked, MarkedBefore, Names, TrueCause, faulty, two, three}
use Rattle.causes.specs.declared.Cause.{Cause}
use Rattle.causes.proofs.Causes.{alone, cause, in_time, round}

-- a neighbour that a true cause names does not work or was marked earlier
named : (n k : ℕ) (Out Earlier : ℕ → Type 0) (x : ℕ) (c : Cause) → TrueCause n k Out Earlier x c → (i : ℕ) → Names c i
    → Out (flip i x) ⊎ Earlier (flip i x)
named n k Out Earlier x _ (faulty L) i (inl e) = inl (rw e L.first)
named n k Out Earlier x _ (faulty L) i (inr e) = inl (rw e L.second)
named n k Out Earlier x _ (two _ _ L) i (inl e) = rw e L.first
named n k Out Earlier x _ (two _ _ L) i (inr e) = rw e L.second
named n k Out Earlier x _ (three _ _ L) i (inl e) = rw e L.two.first
named n k Out Earlier x _ (three _ _ L) i (inr (inl e)) = rw e L.two.second
named n k Out Earlier x _ (three _ _ L) i (inr (inr e)) = rw e L.third

-- it is across one of the n dimensions,
named_inside : (n k : ℕ) (Out Earlier : ℕ → Type 0) (x : ℕ) (c : Cause) → TrueCause n k Out Earlier x c → (i : ℕ) → Names c i → i < n
named_inside n k Out Earlier x _ (faulty L) i (inl e) = omega (arith, e, L.rising, L.inside)
named_inside n k Out Earlier x _ (faulty L) i (inr e) = omega (arith, e, L.inside)
named_inside n k Out Earlier x _ (two _ _ L) i (inl e) = omega (arith, e, L.rising, L.inside)
named_inside n k Out Earlier x _ (two _ _ L) i (inr e) = omega (arith, e, L.inside)
named_inside n k Out Earlier x _ (three _ _ L) i (inl e) = omega (arith, e, L.two.rising, L.two.inside)
named_inside n k Out Earlier x _ (three _ _ L) i (inr (inl e)) = omega (arith, e, L.two.inside)
named_inside n k Out Earlier x _ (three _ _ L) i (inr (inr e)) = omega (arith, e, L.inside)

-- and there is one
names : (n k : ℕ) (Out Earlier : ℕ → Type 0) (x : ℕ) (c : Cause) → TrueCause n k Out Earlier x c → (i : ℕ) × Names c i
names n k Out Earlier x _ (faulty {a} L) = (a, inl refl)
names n k Out Earlier x _ (two {a} _ _ L) = (a, inl refl)
names n k Out Earlier x _ (three {a} _ _ L) = (a, inl refl)

module _ (n k : ℕ) (F : ℕ → Bool) (low : 2 ≤ k) (high : k ≤ 3) where
  leads : (x y : ℕ) → Marked n k F x → LeadsTo n k F x y → (F y ≡ true) ⊎ MarkedBefore n k F x y
  leads x y M l =
      rw l.2 (named n k (λ z. F z ≡ true) (MarkedBefore n k F x) x (cause_of n k F x) (cause n k F low high x M) l.0 l.1)

  goes_on : (x : ℕ) → Marked n k F x → (y : ℕ) × LeadsTo n k F x y
  goes_on x M =
      let a = names n k (λ z. F z ≡ true) (MarkedBefore n k F x) x (cause_of n k F x) (cause n k F low high x M) in
      (flip a.0 x, (a.0, a.1, refl))

  -- most bounds the round of where the way begins
  comes_down : (most : ℕ) (at : ℕ → ℕ) → round_of n k F (at 0) ≤ most → Marked n k F (at 0) → Down n k F at → ComesDown n k F at (round_of n k F (at 0))
  comes_down zero at h M D = absurd (omega (arith, (round n k F (at 0) M).one))
  comes_down (suc most) at h M D =
      ⊎_elim
      (λ (f : F (at 1) ≡ true). (1, (round n k F (at 0) M).one, f, λ s l. let z : s ≡ 0 = omega arith in rw z M))
      (λ (b : MarkedBefore n k F (at 0) (at 1)). step b (comes_down most (λ t. at (suc t)) (omega (arith, b.1)) b.0 (λ t. D (suc t))))
      (leads (at 0) (at 1) M (D 0 M))
    where
      above : (t s : ℕ) → ((s : ℕ) → s < t → Marked n k F (at (suc s))) → s < suc t → Marked n k F (at s)
      above t zero c l = M
      above t (suc s) c l = c s (omega arith)

      step : MarkedBefore n k F (at 0) (at 1) → ComesDown n k F (λ t. at (suc t)) (round_of n k F (at 1)) → ComesDown n k F at (round_of n k F (at 0))
      step b c = (suc c.0, omega (arith, c.1, b.1), c.2, λ s. above c.0 s c.3)

  causes : Causes n k F
  unfolding round_of
  causes =
      record {
        round = round n k F;
        round_few = λ x M. omega (arith, in_time n k F x M);
        alone = λ x r M. alone n k F x M r;
        cause = cause n k F low high;
        inside = λ x M. named_inside n k _ _ x (cause_of n k F x) (cause n k F low high x M);
        leads = leads;
        goes_on = goes_on;
        down = λ at M D. comes_down (round_of n k F (at 0)) at (omega arith) M D;
      }

pub cause_laws : CauseLaws
cause_laws = causes
