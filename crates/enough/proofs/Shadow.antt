-- Nodes as they are seen in some of the dimensions alone, D. Two of them are alike if they agree in each dimension of D, and the shadow of F are the nodes that
-- are like one of F. In all dimensions it is F itself. In fewer dimensions more nodes are alike and the shadow is larger: so a node that is safe where the
-- shadow does not work is safe where F does not.
use mathlib.Core.Path.{◌≡◌, refl, sym, ap, ◌∙◌}
use mathlib.Core.Logic.{◌⊎◌, inl, inr}
use mathlib.Core.Bool.{Bool, true, false, not, ◌&&◌}
use Prim.Native.Nat.{ℕ, ◌^◌, ◌<◌}
use borrow.Author.Tests.{not-true}
use Rattle.cube.specs.Count.{some}
use Rattle.cube.specs.Cube.{apart, bit, flip}
use Rattle.cube.proofs.Bools.{and_both, and_true, clash, either, is_false}
use Rattle.cube.proofs.Count.{without, without_says, without_self}
use Rattle.cube.proofs.Cube.{bit_flip_other}
use Rattle.cube.proofs.Laws.{apart_agree, apart_differ}
use Rattle.cube.proofs.Search.{both_found, both_hit, none_some, some_none}
use Rattle.enough.specs.Enough.{LeavesSafe}
use Rattle.enough.proofs.Safe.{fewer_out}

-- x and y agree in every dimension of D
unfoldable pub alike : (n : ℕ) (D : ℕ → Bool) (x y : ℕ) → Bool
alike n D x y = not (some n (λ i. D i && apart i x y))

-- x is like a node of F
unfoldable pub shadow : (n : ℕ) (D F : ℕ → Bool) (x : ℕ) → Bool
shadow n D F x = some (2 ^ n) (λ y. F y && alike n D x y)

pub record Agree (n : ℕ) (D : ℕ → Bool) (x y : ℕ) : Type 0 where
  pub at : (i : ℕ) → i < n → D i ≡ true → bit i x ≡ bit i y

-- x is like y, which is a node of F
pub record Like (n : ℕ) (D F : ℕ → Bool) (x : ℕ) : Type 0 where
  pub y : ℕ
  pub below : y < 2 ^ n
  pub of : F y ≡ true
  pub agree : Agree n D x y

module _ (n : ℕ) where
  alike_says : (D : ℕ → Bool) (x y : ℕ) → alike n D x y ≡ true → Agree n D x y
  unfolding alike
  alike_says D x y e = record { at = λ i h d. apart_agree i x y (is_false (λ t. clash (and_both d t) (none i h))) }
    where
      none : (i : ℕ) → i < n → (D i && apart i x y) ≡ false
      none = none_some n (λ i. D i && apart i x y) (not-true (some n (λ i. D i && apart i x y)) e)

  alike_is : (D : ℕ → Bool) (x y : ℕ) → Agree n D x y → alike n D x y ≡ true
  unfolding alike
  alike_is D x y a =
      ap not (some_none n (λ i. D i && apart i x y)
      (λ i h. is_false (λ t. let r = and_true (D i) (apart i x y) t in apart_differ i x y r.1 (a.at i h r.0))))

  pub shadow_says : (D F : ℕ → Bool) (x : ℕ) → shadow n D F x ≡ true → Like n D F x
  unfolding shadow
  shadow_says D F x e =
      let (y, h, f, a) = both_found (2 ^ n) F (alike n D x) e in
      record { y = y; below = h; of = f; agree = alike_says D x y a }

  pub shadow_is : (D F : ℕ → Bool) (x : ℕ) → Like n D F x → shadow n D F x ≡ true
  unfolding shadow
  shadow_is D F x l = both_hit (2 ^ n) F (alike n D x) l.y l.below l.of (alike_is D x l.y l.agree)

  -- ---- agreeing

  pub agree_sym : {D : ℕ → Bool} {x y : ℕ} → Agree n D x y → Agree n D y x
  agree_sym a = record { at = λ i h d. sym (a.at i h d) }

  pub agree_trans : {D : ℕ → Bool} {x y z : ℕ} → Agree n D x y → Agree n D y z → Agree n D x z
  agree_trans a b = record { at = λ i h d. a.at i h d ∙ b.at i h d }

  pub agree_fewer : (D : ℕ → Bool) (i : ℕ) {x y : ℕ} → Agree n D x y → Agree n (without D i) x y
  agree_fewer D i a = record { at = λ j h d. a.at j h (without_says D i j d).0 }

  -- a hop across another dimension changes nothing
  pub agree_flip : (D : ℕ → Bool) (i x : ℕ) → D i ≡ false → Agree n D (flip i x) x
  agree_flip D i x e = record { at = λ j h d. bit_flip_other j i x (λ k. clash d (ap D k ∙ e)) }

  -- ---- being like a node of F

  pub like_itself : (D F : ℕ → Bool) (x : ℕ) → x < 2 ^ n → F x ≡ true → Like n D F x
  like_itself D F x h e = record { y = x; below = h; of = e; agree = record { at = λ i l d. refl } }

  pub like_agree : {D F : ℕ → Bool} {x z : ℕ} → Agree n D z x → Like n D F x → Like n D F z
  like_agree a l = record { y = l.y; below = l.below; of = l.of; agree = agree_trans a l.agree }

  pub like_fewer : (D F : ℕ → Bool) (i : ℕ) {x : ℕ} → Like n D F x → Like n (without D i) F x
  like_fewer D F i l = record { y = l.y; below = l.below; of = l.of; agree = agree_fewer D i l.agree }

  -- a node is like what its neighbour across i is like, if i is not one of the dimensions
  pub like_over : (D F : ℕ → Bool) (i x : ℕ) → D i ≡ false → Like n D F (flip i x) → Like n D F x
  like_over D F i x e = like_agree (agree_sym (agree_flip D i x e))

  -- or no more one of them
  pub like_across : (D F : ℕ → Bool) (i x : ℕ) → Like n D F (flip i x) → Like n (without D i) F x
  like_across D F i x l = like_over (without D i) F i x (without_self D i) (like_fewer D F i l)

  -- ---- the shadow

  -- on both sides of a dimension that is not one of them it is the same
  pub shadow_across : (D F : ℕ → Bool) (i : ℕ) → D i ≡ false → (x : ℕ) → shadow n D F (flip i x) ≡ shadow n D F x
  shadow_across D F i e x = go (either (shadow n D F x))
    where
      go : (shadow n D F x ≡ true) ⊎ (shadow n D F x ≡ false) → shadow n D F (flip i x) ≡ shadow n D F x
      go (inl t) = shadow_is D F (flip i x) (like_agree (agree_flip D i x e) (shadow_says D F x t)) ∙ sym t
      go (inr t) = is_false (λ s. clash (shadow_is D F x (like_over D F i x e (shadow_says D F (flip i x) s))) t) ∙ sym t

-- a node that is safe where the shadow in fewer dimensions does not work
pub dropped : (n k : ℕ) (D F : ℕ → Bool) (i : ℕ) → LeavesSafe n k (shadow n (without D i) F) → LeavesSafe n k (shadow n D F)
dropped n k D F i =
    fewer_out n k (shadow n D F) (shadow n (without D i) F) (λ x h e. shadow_is n (without D i) F x (like_fewer n D F i (shadow_says n D F x e)))

-- in all dimensions
pub whole : (n k : ℕ) (F : ℕ → Bool) → LeavesSafe n k (shadow n (λ _. true) F) → LeavesSafe n k F
whole n k F = fewer_out n k F (shadow n (λ _. true) F) (λ x h e. shadow_is n (λ _. true) F x (like_itself n (λ _. true) F x h e))
