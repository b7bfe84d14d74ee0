-- Nodes of F that fall together in the dimensions D: F has twins if one of its nodes is like another of them. That one can be left out, and the shadow of F
-- stays as it was. F has twins but for one dimension, or but for two, if it has them once so many are dropped. Two neighbours in the shadow, across a dimension
-- of D, show twins but for that dimension.
use mathlib.Core.Path.{◌≡◌, sym, ap, ◌∙◌, subst}
use mathlib.Core.Logic.{by_cases, ◌≢◌}
use mathlib.Core.Bool.{Bool, true, ◌&&◌}
use Prim.Native.Nat.{ℕ, ◌^◌, ◌≤◌, ◌<◌}
use native.Mathlib.Decide.{ℕ_discrete}
use native.Mathlib.Omega.{arith}
use Rattle.cube.specs.Count.{count, some}
use Rattle.cube.specs.Cube.{bit, flip}
use Rattle.cube.proofs.Bools.{not_itself, xor_not}
use Rattle.cube.proofs.Count.{count_pos, count_without, without, without_is, without_self}
use Rattle.cube.proofs.Cube.{bit_flip_same}
use Rattle.cube.proofs.Search.{both_found, both_hit}
use Rattle.enough.specs.Enough.{LeavesSafe}
use Rattle.enough.proofs.Safe.{fewer_out}
use Rattle.enough.proofs.Shadow.{
  Agree,
  Like,
  agree_fewer,
  agree_flip,
  agree_sym,
  agree_trans,
  like_agree,
  like_fewer,
  shadow,
  shadow_is,
  shadow_says,
}

-- some node of F is like another of them
unfoldable pub twins : (n : ℕ) (D F : ℕ → Bool) → Bool
twins n D F = some (2 ^ n) (λ y. F y && shadow n D (without F y) y)

unfoldable pub but_one : (n : ℕ) (D F : ℕ → Bool) → Bool
but_one n D F = some n (λ i. D i && twins n (without D i) F)

unfoldable pub but_two : (n : ℕ) (D F : ℕ → Bool) → Bool
but_two n D F = some n (λ i. D i && but_one n (without D i) F)

-- y is like another node of F
pub record Twin (n : ℕ) (D F : ℕ → Bool) : Type 0 where
  pub y : ℕ
  pub below : y < 2 ^ n
  pub of : F y ≡ true
  pub other : Like n D (without F y) y

module _ (n : ℕ) (D F : ℕ → Bool) where
  pub twins_say : twins n D F ≡ true → Twin n D F
  unfolding twins
  twins_say e =
      let (y, h, f, s) = both_found (2 ^ n) F (λ z. shadow n D (without F z) z) e in
      record { y = y; below = h; of = f; other = shadow_says n D (without F y) y s }

  pub twins_are : Twin n D F → twins n D F ≡ true
  unfolding twins
  twins_are t =
      both_hit (2 ^ n) F (λ z. shadow n D (without F z) z) t.y t.below t.of (shadow_is n D (without F t.y) t.y t.other)

  -- there are two of them
  pub two_twins : Twin n D F → 2 ≤ count (2 ^ n) F
  two_twins t =
      omega (
        arith,
        count_without (2 ^ n) F t.y t.below t.of,
        count_pos (2 ^ n) (without F t.y) t.other.y t.other.below t.other.of,
      )

  pub fewer_twins : (i : ℕ) → Twin n D F → Twin n (without D i) F
  fewer_twins i t = record { y = t.y; below = t.below; of = t.of; other = like_fewer n D (without F t.y) i t.other }

  -- one of them can be left out: what is like it is like the other
  pub like_other : (t : Twin n D F) (x : ℕ) → Like n D F x → Like n D (without F t.y) x
  like_other t x l =
      by_cases (ℕ_discrete l.y t.y) (λ e. like_agree n (subst (λ z. Agree n D x z) e l.agree) t.other)
      (λ d. record { y = l.y; below = l.below; of = without_is F t.y l.y l.of d; agree = l.agree })

  pub left_out : (k : ℕ) (t : Twin n D F) → LeavesSafe n k (shadow n D (without F t.y)) → LeavesSafe n k (shadow n D F)
  left_out k t =
      fewer_out n k (shadow n D F) (shadow n D (without F t.y)) (λ x h e. shadow_is n D (without F t.y) x (like_other t x (shadow_says n D F x e)))

  -- two neighbours in the shadow
  pub beside : (i x : ℕ) → i < n → D i ≡ true → Like n D F (flip i x) → Like n D F x → Twin n (without D i) F
  beside i x h d l m =
      record {
        y = l.y;
        below = l.below;
        of = l.of;
        other = record {
          y = m.y;
          below = m.below;
          of = without_is F l.y m.y m.of differ;
          agree = agree_trans n (agree_sym n (agree_fewer n D i l.agree)) (agree_trans n hop (agree_fewer n D i m.agree));
        };
      }
    where
      hop : Agree n (without D i) (flip i x) x
      hop = agree_flip n (without D i) i x (without_self D i)

      differ : m.y ≢ l.y
      differ e =
          not_itself (bit i x) (sym (xor_not (bit i x)) ∙ sym (bit_flip_same i x) ∙ l.agree.at i h d ∙ ap (bit i) (sym e) ∙ sym (m.agree.at i h d))

-- ---- but for one dimension, and but for two

module _ (n : ℕ) (D F : ℕ → Bool) where
  pub but_one_says : but_one n D F ≡ true → (i : ℕ) × (i < n) × (D i ≡ true) × Twin n (without D i) F
  unfolding but_one
  but_one_says e = let (i, h, d, t) = both_found n D (λ j. twins n (without D j) F) e in (i, h, d, twins_say n (without D i) F t)

  pub but_one_is : (i : ℕ) → i < n → D i ≡ true → Twin n (without D i) F → but_one n D F ≡ true
  unfolding but_one
  but_one_is i h d t = both_hit n D (λ j. twins n (without D j) F) i h d (twins_are n (without D i) F t)

  pub but_two_says : but_two n D F ≡ true → (i : ℕ) × (i < n) × (D i ≡ true) × (but_one n (without D i) F ≡ true)
  unfolding but_two
  but_two_says = both_found n D (λ i. but_one n (without D i) F)

  pub but_two_is : (i : ℕ) → i < n → D i ≡ true → but_one n (without D i) F ≡ true → but_two n D F ≡ true
  unfolding but_two
  but_two_is = both_hit n D (λ i. but_one n (without D i) F)
