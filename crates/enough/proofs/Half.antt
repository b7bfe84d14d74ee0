-- A half of the cube: the nodes of one side of dimension i. Let H be the safe nodes by rule 2 of the cube without that dimension, where the nodes of F on that
-- side alone do not work. Then the part of H on that side is closed by rule 3: of each of its nodes one neighbour more is outside, the one across i. That this
-- neighbour is in the shadow of F is possible only where no other is, if no two neighbours are in the shadow once i is dropped.
use mathlib.Core.Path.{◌≡◌, refl, sym, ap, ◌∙◌}
use mathlib.Core.Logic.{◌⊎◌, inl, inr, ◌≢◌}
use mathlib.Core.Bool.{Bool, true, false, beq, not, ◌&&◌, ◌||◌}
use Prim.Native.Nat.{ℕ, ◌+◌, ◌^◌, ◌≤◌, ◌<◌}
use native.Mathlib.Omega.{arith}
use Rattle.cube.specs.Count.{count}
use Rattle.cube.specs.Cube.{bit, flip}
use Rattle.cube.proofs.Bools.{and_both, and_true, clash, either, is_false, xor_not}
use Rattle.cube.proofs.Count.{count_alone, count_but_one, count_le, count_sum, without, without_is, without_self}
use Rattle.cube.proofs.Cube.{bit_flip_other, bit_flip_same, flip_lt}
use Rattle.rule.specs.Closed.{Closed}
use Rattle.rule.specs.Rule.{safe}
use Rattle.rule.proofs.Largest.{safe_closed}
use Rattle.enough.specs.Enough.{LeavesSafe}
use Rattle.enough.proofs.Safe.{closed_safe, safe_across}
use Rattle.enough.proofs.Shadow.{Like, agree_fewer, like_across, like_fewer, like_over, shadow, shadow_across, shadow_is, shadow_says}

-- the side of dimension i where bit i is b, and the nodes of F there
unfoldable pub side : (i : ℕ) (b : Bool) (x : ℕ) → Bool
side i b x = beq (bit i x) b

abbrev pub on_side : (i : ℕ) (b : Bool) (F : ℕ → Bool) → ℕ → Bool
on_side i b F x = F x && side i b x

module _ (i : ℕ) (b : Bool) where
  same_bit : (x y : ℕ) → bit i x ≡ bit i y → side i b x ≡ side i b y
  unfolding side
  same_bit x y e = ap (λ a. beq a b) e

  same_side : (j x : ℕ) → j ≢ i → side i b (flip j x) ≡ side i b x
  same_side j x d = same_bit (flip j x) x (bit_flip_other i j x (λ e. d (sym e)))

  other_side : (x : ℕ) → side i b (flip i x) ≡ not (side i b x)
  unfolding side
  other_side x = ap (λ a. beq a b) (bit_flip_same i x ∙ xor_not (bit i x)) ∙ go (bit i x) b
    where
      go : (a c : Bool) → beq (not a) c ≡ not (beq a c)
      go true true = refl
      go true false = refl
      go false true = refl
      go false false = refl

-- the two halves have no more nodes of F than the whole
pub halves : (n i : ℕ) (F : ℕ → Bool) → count (2 ^ n) (on_side i true F) + count (2 ^ n) (on_side i false F) ≤ count (2 ^ n) F
unfolding side
halves n i F =
    omega (
      arith,
      count_sum (2 ^ n) (on_side i true F) (on_side i false F) (λ x _ e. apart (F x) (bit i x) e),
      count_le (2 ^ n) (λ x. on_side i true F x || on_side i false F x) F (λ x _ e. part (F x) (beq (bit i x) true) (beq (bit i x) false) e),
    )
  where
    apart : (a c : Bool) → (a && beq c true) ≡ true → (a && beq c false) ≡ false
    apart true true e = refl
    apart true false e = absurd (clash refl (sym e))
    apart false c e = refl

    part : (a c d : Bool) → ((a && c) || (a && d)) ≡ true → a ≡ true
    part true c d e = refl
    part false c d e = e

not_left : (a b : Bool) → b ≡ true → not (a && b) ≡ true → not a ≡ true
not_left true b p e = absurd (clash e (ap not p))
not_left false b p e = refl

module _ (n : ℕ) (D F : ℕ → Bool) (i : ℕ) (hi : i < n) (di : D i ≡ true) (b : Bool)
    (far : (j x : ℕ) → j < n → without D i j ≡ true → Like n (without D i) F (flip j x) → Like n (without D i) F x → ⊥) where
  abbrev E : ℕ → Bool
  E = without D i

  abbrev s : ℕ → Bool
  s = side i b

  -- what does not work in the half, and what is safe there
  abbrev G : ℕ → Bool
  G = shadow n E (on_side i b F)

  abbrev H : ℕ → Bool
  H = safe n 2 G

  C : Closed n 2 G H
  C = safe_closed n 2 G

  -- a node of the side that is like one of F is like one of F on the side
  own : (x : ℕ) → s x ≡ true → shadow n D F x ≡ true → G x ≡ true
  own x e t =
      let l = shadow_says n D F x t in
      shadow_is n E (on_side i b F) x
      (record {
        y = l.y;
        below = l.below;
        of = and_both l.of (sym (same_bit i b x l.y (l.agree.at i hi di)) ∙ e);
        agree = agree_fewer n D i l.agree;
      })

  module _ (x : ℕ) (hx : x < 2 ^ n) (e : H x ≡ true) (t : s x ≡ true) where
    works : shadow n D F x ≡ false
    works = is_false (λ a. clash (own x t a) (C.works x hx e))

    -- where the neighbour across i is in the shadow, no other is
    alone : shadow n D F (flip i x) ≡ true → (j : ℕ) → j < n → j ≢ i → shadow n D F (flip j x) ≡ true → ⊥
    alone a j hj d c = go (either (D j))
      where
        l : Like n D F (flip j x)
        l = shadow_says n D F (flip j x) c

        go : (D j ≡ true) ⊎ (D j ≡ false) → ⊥
        go (inl dj) = far j x hj (without_is D i j dj d) (like_fewer n D F i l) (like_across n D F i x (shadow_says n D F (flip i x) a))
        go (inr dj) = clash (shadow_is n D F x (like_over n D F j x dj l)) works

    few_out : count n (λ j. shadow n D F (flip j x)) ≤ 1
    few_out = go (either (shadow n D F (flip i x)))
      where
        go : (shadow n D F (flip i x) ≡ true) ⊎ (shadow n D F (flip i x) ≡ false) → count n (λ j. shadow n D F (flip j x)) ≤ 1
        go (inl a) = count_alone n (λ j. shadow n D F (flip j x)) i hi (alone a)
        go (inr a) = omega (arith, C.few_out x hx e, count_le n (λ j. shadow n D F (flip j x)) (λ j. G (flip j x)) part)
          where
            part : (j : ℕ) → j < n → shadow n D F (flip j x) ≡ true → G (flip j x) ≡ true
            part j l c = own (flip j x) (same_side i b j x (λ q. clash c (ap (λ m. shadow n D F (flip m x)) q ∙ a)) ∙ t) c

    few_outside : count n (λ j. not (H (flip j x) && s (flip j x))) < 3
    few_outside =
        omega (
          arith,
          C.few_outside x hx e,
          count_but_one n (λ j. not (H (flip j x) && s (flip j x))) (λ j. not (H (flip j x))) i hi
              (λ j _ d. not_left (H (flip j x)) (s (flip j x)) (same_side i b j x d ∙ t)),
        )

  closed : Closed n 3 (shadow n D F) (λ x. H x && s x)
  closed =
      record {
        works = λ x h e. let a = and_true (H x) (s x) e in works x h a.0 a.1;
        few_out = λ x h e. let a = and_true (H x) (s x) e in few_out x h a.0 a.1;
        few_outside = λ x h e. let a = and_true (H x) (s x) e in few_outside x h a.0 a.1;
      }

  -- a safe node of the half, or its neighbour across i, is on the side
  pub half_safe : LeavesSafe n 2 G → LeavesSafe n 3 (shadow n D F)
  half_safe (x, h, e) = go (either (s x))
    where
      at : (y : ℕ) → y < 2 ^ n → H y ≡ true → s y ≡ true → LeavesSafe n 3 (shadow n D F)
      at y l a c = closed_safe n 3 (shadow n D F) (λ z. H z && s z) closed y l (and_both a c)

      go : (s x ≡ true) ⊎ (s x ≡ false) → LeavesSafe n 3 (shadow n D F)
      go (inl t) = at x h e t
      go (inr t) =
          at (flip i x) (flip_lt n i x hi h)
          (safe_across n 2 G i hi (λ y _. shadow_across n E (on_side i b F) i (without_self D i) y) x h e)
          (other_side i b x ∙ ap not t)
