-- What a safe node sees of the cube, from the four facts of a good table: it has so few bad neighbours that, towards any node far enough
-- away, one of the neighbours on the way is safe. So the safe nodes reach close to everything, and a strongly unsafe node has an
-- ordinarily unsafe neighbour (theorem 5 of Chiu and Wu 1994).
use mathlib.Core.Path.{◌≡◌, refl, sym, ap, ◌∙◌}
use mathlib.Core.Logic.{◌⊎◌, inl, inr}
use mathlib.Core.Bool.{true, false, not}
use Prim.Native.Nat.{ℕ, zero, suc, ◌^◌, ◌≤◌, ◌<◌}
use native.Mathlib.Omega.{arith}
use native.Mathlib.Decide.{ℕ_discrete}
use lib.Dec.{leb, eqb}
use borrow.Author.Tests.{leb-false, eqb-true, eqb-false}
use Rattle.cube.specs.Cube.{flip, apart, dist}
use Rattle.cube.proofs.Bools.{clash}
use Rattle.cube.proofs.Count.{pigeon}
use Rattle.cube.proofs.Search.{find}
use Rattle.rule.specs.Good.{Good}
use Rattle.cube.proofs.Cube.{flip_lt, flip_flip, apart_same, apart_other, dist_count, dist_zero, dist_fall, neighbour}

-- a dimension that leads from x towards y
keep : (i j x y : ℕ) → apart i x y ≡ true → apart j (flip i x) y ≡ true → apart j x y ≡ true
keep i j x y a b =
    elim (ℕ_discrete j i) [
      | yes e ↦ absurd (clash (rw e at b) (apart_same i x y ∙ ap not a))
      | no d ↦ sym (apart_other j i x y d) ∙ b
    ]

module _ (n : ℕ) (lab : ℕ → ℕ) (G : Good n lab) where
  -- no neighbour of a safe node is strongly unsafe
  no_strong : (x i : ℕ) → x < 2 ^ n → i < n → lab x ≡ 0 → lab (flip i x) ≡ 2 → ⊥
  no_strong x i hx h e k = G.strong (flip i x) i (flip_lt n i x h hx) h k (rw (flip_flip n i x h hx) e)

  -- from a safe node to one that is 3 or more away: a safe neighbour on the way
  pub safe_step : (x y : ℕ) → x < 2 ^ n → y < 2 ^ n → lab x ≡ 0 → 3 ≤ dist x y → (i : ℕ) × (i < n) × (apart i x y ≡ true) × (lab (flip i x) ≡ 0)
  safe_step x y hx hy e h =
      let r = pigeon n (λ i. leb 1 (lab (flip i x))) (λ i. apart i x y) (omega (arith, G.few_unsafe x hx e, dist_count n x y hx hy)) in
      (r.0, r.1, r.2, omega (arith, leb-false 1 (lab (flip r.0 x)) r.3))

  -- to one that is 2 or more away: one on the way that is safe or ordinarily unsafe
  pub near_step : (x y : ℕ) → x < 2 ^ n → y < 2 ^ n → lab x ≡ 0 → 2 ≤ dist x y → (i : ℕ) × (i < n) × (apart i x y ≡ true) × (lab (flip i x) ≤ 1)
  near_step x y hx hy e h =
      let r = pigeon n (λ i. leb 3 (lab (flip i x))) (λ i. apart i x y) (omega (arith, G.few_out x hx e, dist_count n x y hx hy)) in
      (r.0, r.1, r.2, omega (arith, leb-false 3 (lab (flip r.0 x)) r.3, no_strong x r.0 hx r.1 e))

  -- from any c, some neighbour nearer a safe x is safe or ordinarily unsafe
  pub toward : (c : ℕ) → c < 2 ^ n → (k x : ℕ) → x < 2 ^ n → dist x c ≡ suc k → lab x ≡ 0 → (j : ℕ) × (j < n) × (apart j x c ≡ true) × (lab (flip j c) ≤ 1)
  toward c hc zero x hx h e = let r = neighbour n x c hx hc h in (r.0, r.1, r.2, omega (arith, ap lab r.3))
  toward c hc (suc zero) x hx h e =
      let r = near_step x c hx hc e (omega arith) in
      let s = neighbour n (flip r.0 x) c (flip_lt n r.0 x r.1 hx) hc (omega (arith, dist_fall n r.0 x c hx hc r.1 r.2)) in
      (s.0, s.1, keep r.0 s.0 x c r.2 s.2, omega (arith, ap lab s.3))
  toward c hc (suc (suc k)) x hx h e =
      let r = safe_step x c hx hc e (omega arith) in
      let s = toward c hc (suc k) (flip r.0 x) (flip_lt n r.0 x r.1 hx) (omega (arith, dist_fall n r.0 x c hx hc r.1 r.2)) r.3 in
      (s.0, s.1, keep r.0 s.0 x c r.2 s.2, s.3)

  -- theorem 5 of Chiu and Wu 1994
  module _ (a : ℕ) (ha : a < 2 ^ n) (ea : lab a ≡ 2) (none : (i : ℕ) → i < n → eqb (lab (flip i a)) 1 ≡ false) where
    all_bad : (k x : ℕ) → x < 2 ^ n → dist x a ≡ k → lab x ≡ 0 → ⊥
    all_bad zero x hx h e = omega (arith, ap lab (dist_zero n x a hx ha h))
    all_bad (suc zero) x hx h e = let r = neighbour n x a hx ha h in G.strong a r.0 ha r.1 ea (rw (← r.3) e)
    all_bad (suc (suc zero)) x hx h e =
        let r = near_step x a hx ha e (omega arith) in
        let s = neighbour n (flip r.0 x) a (flip_lt n r.0 x r.1 hx) ha (omega (arith, dist_fall n r.0 x a hx ha r.1 r.2)) in
        G.strong a s.0 ha s.1 ea (omega (arith, ap lab s.3, eqb-false (lab (flip s.0 a)) 1 (none s.0 s.1)))
    all_bad (suc (suc (suc k))) x hx h e =
        let r = safe_step x a hx ha e (omega arith) in
        all_bad (suc (suc k)) (flip r.0 x) (flip_lt n r.0 x r.1 hx) (omega (arith, dist_fall n r.0 x a hx ha r.1 r.2)) r.3

  pub theorem5 : (a : ℕ) → a < 2 ^ n → lab a ≡ 2 → (s : ℕ) → s < 2 ^ n → lab s ≡ 0 → (i : ℕ) × (i < n) × (lab (flip i a) ≡ 1)
  theorem5 a ha ea s hs es = go (find n (λ i. eqb (lab (flip i a)) 1))
    where
      go : ((i : ℕ) × (i < n) × (eqb (lab (flip i a)) 1 ≡ true)) ⊎ ((i : ℕ) → i < n → eqb (lab (flip i a)) 1 ≡ false) → (i : ℕ) × (i < n) × (lab (flip i a) ≡ 1)
      go (inl r) = (r.0, r.1, eqb-true (lab (flip r.0 a)) 1 r.2)
      go (inr f) = absurd (all_bad a ha ea f (dist s a) s hs refl es)
