-- Where F has no twins even but for two dimensions, its nodes are far apart: no node outside their shadow has two neighbours in it. So all nodes outside are a
-- closed set; and there is one, if F has no more nodes than D dimensions.
use mathlib.Core.Path.{◌≡◌, ap}
use mathlib.Core.Logic.{◌⊎◌, inl, inr, ⊎_elim, ◌≢◌}
use mathlib.Core.Bool.{Bool, true, false, not, not-not}
use Prim.Native.Nat.{ℕ, ◌^◌, ◌≤◌, ◌<◌}
use native.Mathlib.Omega.{arith}
use lib.Pow.{pow_pos}
use borrow.Author.Tests.{not-true}
use Rattle.cube.specs.Count.{count}
use Rattle.cube.specs.Cube.{flip}
use Rattle.cube.proofs.Bools.{clash, either, is_false}
use Rattle.cube.proofs.Count.{count_alone, count_none, count_pos, count_without, counted, without, without_is}
use Rattle.cube.proofs.Cube.{flip_lt}
use Rattle.cube.proofs.Search.{find}
use Rattle.rule.specs.Closed.{Closed}
use Rattle.enough.specs.Enough.{LeavesSafe}
use Rattle.enough.proofs.Safe.{closed_safe}
use Rattle.enough.proofs.Shadow.{like_across, like_fewer, like_itself, like_over, shadow, shadow_is, shadow_says}
use Rattle.enough.proofs.Twins.{Twin, beside, but_one_is, but_two_is, but_two, fewer_twins, two_twins}

module _ (n : ℕ) (D F : ℕ → Bool) (far : but_two n D F ≡ false) where
  none : (i j : ℕ) → i < n → j < n → D i ≡ true → without D i j ≡ true → Twin n (without (without D i) j) F → ⊥
  none i j hi hj di dj t = clash (but_two_is n D F i hi di (but_one_is n (without D i) F j hj dj t)) far

  abbrev S : ℕ → Bool
  S = shadow n D F

  -- ---- neighbours in the shadow

  module _ (x : ℕ) (outside : S x ≡ false) where
    -- a neighbour in the shadow is one across a dimension of D
    across : (i : ℕ) → S (flip i x) ≡ true → D i ≡ true
    across i e =
        ⊎_elim (λ (d : D i ≡ true). d)
        (λ (d : D i ≡ false). absurd (clash (shadow_is n D F x (like_over n D F i x d (shadow_says n D F (flip i x) e))) outside)) (either (D i))

    one : (i j : ℕ) → i < n → j < n → j ≢ i → S (flip i x) ≡ true → S (flip j x) ≡ true → ⊥
    one i j hi hj d e t =
        let dj = without_is D i j (across j t) d in
        none i j hi hj (across i e) dj
        (beside n (without D i) F j x hj dj (like_fewer n D F i (shadow_says n D F (flip j x) t)) (like_across n D F i x (shadow_says n D F (flip i x) e)))

    few : count n (λ i. S (flip i x)) ≤ 1
    few = go (find n (λ i. S (flip i x)))
      where
        go : ((i : ℕ) × (i < n) × (S (flip i x) ≡ true)) ⊎ ((i : ℕ) → i < n → S (flip i x) ≡ false) → count n (λ i. S (flip i x)) ≤ 1
        go (inl (i, h, e)) = count_alone n (λ j. S (flip j x)) i h (λ j l d. one i j h l d e)
        go (inr f) = omega (arith, count_none n (λ i. S (flip i x)) f)

  closed : (k : ℕ) → 2 ≤ k → Closed n k S (λ x. not (S x))
  closed k h =
      record {
        works = λ x _ e. not-true (S x) e;
        few_out = λ x _ e. few x (not-true (S x) e);
        few_outside = λ x _ e. simp not-not (omega (arith, few x (not-true (S x) e)));
      }

  -- ---- a node outside

  -- beside a node of F: were its neighbour across i in the shadow too, there would be twins but for i, and then but for i and any other dimension
  outside : (m : count (2 ^ n) F ≤ count n D) (i y : ℕ) → i < n → D i ≡ true → y < 2 ^ n → F y ≡ true → S (flip i y) ≡ false
  outside m i y hi di hy e = is_false go
    where
      go : S (flip i y) ≡ true → ⊥
      go t =
          let w = beside n D F i y hi di (shadow_says n D F (flip i y) t) (like_itself n D F y hy e) in
          let (j, hj, dj) = counted n (without D i) (omega (arith, count_without n D i hi di, two_twins n (without D i) F w)) in
          none i j hi hj di dj (fewer_twins n (without D i) F j w)

  spare : count (2 ^ n) F ≤ count n D → (x : ℕ) × (x < 2 ^ n) × (not (S x) ≡ true)
  spare m = go (find (2 ^ n) F)
    where
      go : ((y : ℕ) × (y < 2 ^ n) × (F y ≡ true)) ⊎ ((y : ℕ) → y < 2 ^ n → F y ≡ false) → (x : ℕ) × (x < 2 ^ n) × (not (S x) ≡ true)
      go (inl (y, h, e)) =
          let (i, hi, di) = counted n D (omega (arith, count_pos (2 ^ n) F y h e)) in
          (flip i y, flip_lt n i y hi h, ap not (outside m i y hi di h e))
      go (inr f) = (0, pow_pos n, ap not (is_false (λ t. let l = shadow_says n D F 0 t in clash l.of (f l.y l.below))))

  pub far_safe : (k : ℕ) → 2 ≤ k → count (2 ^ n) F ≤ count n D → LeavesSafe n k S
  far_safe k h m = let (x, hx, e) = spare m in closed_safe n k S (λ y. not (S y)) (closed k h) x hx e
