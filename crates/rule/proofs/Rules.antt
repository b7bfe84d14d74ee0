-- The two rules. A set that is closed for a number is closed for any higher one, so the largest set grows with the number and every label falls or stays.
-- With rule 2 a safe node has at most one neighbour that is not safe. So from a safe node, two or more away from x, one of the neighbours nearer x is safe
-- too: step by step a safe node comes within one of x.
use mathlib.Core.Path.{◌≡◌, refl}
use mathlib.Core.Logic.{◌⊎◌, inl, inr, ⊎_elim}
use mathlib.Core.Bool.{Bool, true, false, not}
use Prim.Native.Nat.{ℕ, zero, suc, ◌^◌, ◌≤◌, ◌<◌}
use native.Mathlib.Omega.{arith}
use borrow.Author.Tests.{not-false}
use Rattle.cube.specs.Cube.{apart, dist, flip}
use Rattle.cube.proofs.Bools.{clash}
use Rattle.cube.proofs.Count.{pigeon}
use Rattle.cube.proofs.Cube.{dist_count, dist_fall, dist_zero, flip_lt, neighbour}
use Rattle.rule.specs.Closed.{Closed}
use Rattle.rule.specs.Rule.{label, label_of, safe}
use Rattle.rule.specs.Rules.{Rules}
use Rattle.rule.proofs.Bytes.{Label, four, is-out, is_safe, is-ordinary, is_strong, out-byte}
use Rattle.rule.proofs.Largest.{safe_closed, safe_largest}

module _ (n : ℕ) (F : ℕ → Bool) where
  -- ---- a lower number and a higher one

  closed_up : (j k : ℕ) → j ≤ k → (H : ℕ → Bool) → Closed n j F H → Closed n k F H
  closed_up j k l H C = record { works = C.works; few_out = C.few_out; few_outside = λ x h e. omega (arith, C.few_outside x h e) }

  safe_stays : (j k : ℕ) → j ≤ k → (x : ℕ) → x < 2 ^ n → safe n j F x ≡ true → safe n k F x ≡ true
  safe_stays j k l = (safe_largest n k F).largest (safe n j F) (closed_up j k l (safe n j F) (safe_closed n j F))

  -- the label of a working node is at most m, where m is 1 or more for an unsafe node and 2 or more for one without a safe neighbour
  at_most : (byte : ℕ → ℕ) (S : ℕ → Bool) (x : ℕ) → F x ≡ false → (m : ℕ) → (S x ≡ false → 1 ≤ m)
      → (S x ≡ false → ((i : ℕ) → i < n → S (flip i x) ≡ false) → 2 ≤ m) → label_of n F byte S x ≤ m
  at_most byte S x works m one two = go (four n F byte S x)
    where
      go : Label n F byte S x → label_of n F byte S x ≤ m
      go (is-out a b) = absurd (clash a works)
      go (is_safe a b c) = omega arith
      go (is-ordinary a b i h s c) = omega (arith, one b)
      go (is_strong a b f c) = omega (arith, two b f)

  safe_least : (byte : ℕ → ℕ) (S : ℕ → Bool) (x : ℕ) → F x ≡ false → S x ≡ true → label_of n F byte S x ≤ 0
  safe_least byte S x works s = at_most byte S x works 0 (λ b. absurd (clash s b)) (λ b f. absurd (clash s b))

  near_least : (byte : ℕ → ℕ) (S : ℕ → Bool) (x : ℕ) → F x ≡ false → (i : ℕ) → i < n → S (flip i x) ≡ true → label_of n F byte S x ≤ 1
  near_least byte S x works i h s = at_most byte S x works 1 (λ b. omega arith) (λ b f. absurd (clash s (f i h)))

  label_falls : (j k : ℕ) → j ≤ k → (byte : ℕ → ℕ) (x : ℕ) → x < 2 ^ n → label n k F byte x ≤ label n j F byte x
  unfolding label
  label_falls j k l byte x h = go (four n F byte (safe n j F) x)
    where
      go : Label n F byte (safe n j F) x → label_of n F byte (safe n k F) x ≤ label_of n F byte (safe n j F) x
      go (is-out a b) = omega (arith, out-byte n F byte (safe n k F) x a)
      go (is_safe a b c) = omega (arith, safe_least byte (safe n k F) x a (safe_stays j k l x h b))
      go (is-ordinary a b i m s c) = omega (arith, near_least byte (safe n k F) x a i m (safe_stays j k l (flip i x) (flip_lt n i x m h) s))
      go (is_strong a b f c) = omega (arith, at_most byte (safe n k F) x a 2 (λ b. omega arith) (λ b f. omega arith))

  -- ---- rule 2

  -- x is safe or has a safe neighbour
  abbrev Near : ℕ → Type 0
  Near x = (safe n 2 F x ≡ true) ⊎ ((i : ℕ) × (i < n) × (safe n 2 F (flip i x) ≡ true))

  module _ (x : ℕ) (hx : x < 2 ^ n) where
    -- a safe node that is two or more away has a safe neighbour nearer x
    nearer : (s : ℕ) → s < 2 ^ n → safe n 2 F s ≡ true → 2 ≤ dist s x → (i : ℕ) × (i < n) × (apart i s x ≡ true) × (safe n 2 F (flip i s) ≡ true)
    nearer s hs e far =
        let few = (safe_closed n 2 F).few_outside s hs e in
        let r = pigeon n (λ i. not (safe n 2 F (flip i s))) (λ i. apart i s x) (omega (arith, dist_count n s x hs hx)) in
        (r.0, r.1, r.2, not-false _ r.3)

    walk : (m s : ℕ) → s < 2 ^ n → safe n 2 F s ≡ true → dist s x ≡ m → Near x
    walk zero s hs e q = inl (rw (dist_zero n s x hs hx q) at e)
    walk (suc zero) s hs e q = let r = neighbour n s x hs hx q in inr (r.0, r.1, rw r.3 at e)
    walk (suc (suc m)) s hs e q =
        let r = nearer s hs e (omega arith) in
        walk (suc m) (flip r.0 s) (flip_lt n r.0 s r.1 hs) r.3 (omega (arith, dist_fall n r.0 s x hs hx r.1 r.2))

  none_strong : (s : ℕ) → s < 2 ^ n → safe n 2 F s ≡ true → (byte : ℕ → ℕ) (x : ℕ) → x < 2 ^ n → F x ≡ false → label n 2 F byte x ≤ 1
  unfolding label
  none_strong s hs e byte x hx works =
      ⊎_elim (λ (a : safe n 2 F x ≡ true). omega (arith, safe_least byte (safe n 2 F) x works a))
      (λ (a : (i : ℕ) × (i < n) × (safe n 2 F (flip i x) ≡ true)). near_least byte (safe n 2 F) x works a.0 a.1 a.2)
      (walk x hx (dist s x) s hs e refl)

  pub rules : Rules n F
  rules =
      record {
        safe_stays = safe_stays;
        label_falls = label_falls;
        near_safe = λ s hs e x hx. walk x hx (dist s x) s hs e refl;
        none_strong = none_strong;
      }
