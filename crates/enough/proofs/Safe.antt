-- The safe nodes of two sets of nodes that do not work. Where fewer do not work, a set that was closed still is, so what was safe still is. And where the nodes
-- that do not work are the same on both sides of dimension i, so are the safe ones: the mirror image of a closed set is closed.
use mathlib.Core.Path.{◌≡◌, sym, ap, ◌∙◌}
use mathlib.Core.Bool.{Bool, true, not}
use Prim.Native.Nat.{ℕ, ◌^◌, ◌<◌}
use native.Mathlib.Omega.{arith}
use Rattle.cube.specs.Cube.{flip}
use Rattle.cube.proofs.Bools.{clash, is_false}
use Rattle.cube.proofs.Count.{count_le, count_same}
use Rattle.cube.proofs.Cube.{flip_flip, flip_lt}
use Rattle.cube.proofs.Neighbours.{flip_swap}
use Rattle.rule.specs.Closed.{Closed}
use Rattle.rule.specs.Rule.{safe}
use Rattle.rule.proofs.Largest.{safe_closed, safe_largest}
use Rattle.enough.specs.Enough.{LeavesSafe}

module _ (n k : ℕ) (F : ℕ → Bool) where
  -- a node of a closed set is safe
  pub closed_safe : (H : ℕ → Bool) → Closed n k F H → (x : ℕ) → x < 2 ^ n → H x ≡ true → LeavesSafe n k F
  closed_safe H C x h e = (x, h, (safe_largest n k F).largest H C x h e)

  -- ---- fewer do not work

  pub fewer_out : (G : ℕ → Bool) → ((x : ℕ) → x < 2 ^ n → F x ≡ true → G x ≡ true) → LeavesSafe n k G → LeavesSafe n k F
  fewer_out G part (x, h, e) = closed_safe (safe n k G) still x h e
    where
      C : Closed n k G (safe n k G)
      C = safe_closed n k G

      still : Closed n k F (safe n k G)
      still =
          record {
            works = λ y l s. is_false (λ t. clash (part y l t) (C.works y l s));
            few_out = λ y l s. omega (
              arith,
              count_le n (λ i. F (flip i y)) (λ i. G (flip i y)) (λ i m. part (flip i y) (flip_lt n i y m l)),
              C.few_out y l s,
            );
            few_outside = C.few_outside;
          }

  -- ---- alike on both sides of dimension i

  module _ (i : ℕ) (hi : i < n) (same : (x : ℕ) → x < 2 ^ n → F (flip i x) ≡ F x) where
    mirrored : (H : ℕ → Bool) → Closed n k F H → Closed n k F (λ x. H (flip i x))
    mirrored H C =
        record {
          works = λ x h e. sym (same x h) ∙ C.works (flip i x) (over x h) e;
          few_out = λ x h e. omega (
            arith,
            count_same n (λ j. F (flip j x)) (λ j. F (flip j (flip i x)))
                (λ j l. sym (same (flip j x) (flip_lt n j x l h)) ∙ ap F (flip_swap n i j x hi l h)),
            C.few_out (flip i x) (over x h) e,
          );
          few_outside = λ x h e. omega (
            arith,
            count_same n (λ j. not (H (flip i (flip j x)))) (λ j. not (H (flip j (flip i x)))) (λ j l. ap (λ y. not (H y)) (flip_swap n i j x hi l h)),
            C.few_outside (flip i x) (over x h) e,
          );
        }
      where
        over : (x : ℕ) → x < 2 ^ n → flip i x < 2 ^ n
        over x = flip_lt n i x hi

    pub safe_across : (x : ℕ) → x < 2 ^ n → safe n k F x ≡ true → safe n k F (flip i x) ≡ true
    safe_across x h e =
        (safe_largest n k F).largest (λ y. safe n k F (flip i y)) (mirrored (safe n k F) (safe_closed n k F)) (flip i x) (flip_lt n i x hi h)
        (ap (safe n k F) (flip_flip n i x hi h) ∙ e)
