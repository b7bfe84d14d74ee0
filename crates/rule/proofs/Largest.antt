-- Demand 2: the safe nodes are the largest closed set. They are closed because the last round marked nothing: a safe node does not meet the
-- rule. Every closed set is inside, because none of its nodes can be the first that a round marks.
use mathlib.Core.Path.{◌≡◌, sym, ap, ◌∙◌}
use mathlib.Core.Logic.{◌⊎◌, inl, inr, ⊎_elim}
use mathlib.Core.Bool.{Bool, true, false, not, ◌||◌, not-not}
use Prim.Native.Nat.{ℕ, zero, suc, ◌^◌, ◌≤◌, ◌<◌}
use native.Mathlib.Omega.{arith}
use lib.Dec.{leb}
use borrow.Author.Tests.{leb-true, leb-false, not-true}
use Rattle.cube.specs.Count.{count}
use Rattle.cube.specs.Cube.{flip}
use Rattle.cube.proofs.Bools.{clash, is_false, or_true, or_false}
use Rattle.cube.proofs.Count.{count_le}
use Rattle.cube.proofs.Cube.{flip_lt}
use Rattle.rule.specs.Closed.{Closed, Largest}
use Rattle.rule.specs.Rule.{meets, newly, marked, rounds, safe}
use Rattle.rule.proofs.Rounds.{marked_zero, marked_suc, newly_says, newly_is, none_new}

module _ (n k : ℕ) (F : ℕ → Bool) where
  pub safe_says : (x : ℕ) → safe n k F x ≡ true → (F x ≡ false) × (marked n k F (rounds n k F) x ≡ false)
  unfolding safe
  safe_says x e = or_false (F x) (marked n k F (rounds n k F) x) (not-true (F x || marked n k F (rounds n k F) x) e)

  safe_meets : (x : ℕ) → x < 2 ^ n → safe n k F x ≡ true → meets n k F (marked n k F (rounds n k F)) x ≡ false
  safe_meets x h e = let s = safe_says x e in sym (newly_is n k F (marked n k F (rounds n k F)) x s.0 s.1) ∙ none_new n k F x h

  meets_not : (m : ℕ → Bool) (x : ℕ) → meets n k F m x ≡ false → (count n (λ i. F (flip i x)) ≤ 1) × (count n (λ i. F (flip i x) || m (flip i x)) < k)
  unfolding meets
  meets_not m x e =
      let a = or_false (leb 2 (count n (λ i. F (flip i x)))) (leb k (count n (λ i. F (flip i x) || m (flip i x)))) e in
      (omega (arith, leb-false 2 (count n (λ i. F (flip i x))) a.0), leb-false k (count n (λ i. F (flip i x) || m (flip i x))) a.1)

  -- the safe nodes are a closed set,
  pub safe_closed : Closed n k F (safe n k F)
  unfolding safe
  safe_closed =
      record {
        works = λ x h e. (safe_says x e).0;
        few_out = λ x h e. (meets_not (marked n k F (rounds n k F)) x (safe_meets x h e)).0;
        few_outside = λ x h e. simp not-not (meets_not (marked n k F (rounds n k F)) x (safe_meets x h e)).1;
      }

  -- and every closed set is a part of it
  module _ (H : ℕ → Bool) (C : Closed n k F H) where
    -- no round that finds H without marks marks a node of H
    still : (m : ℕ → Bool) → ((x : ℕ) → x < 2 ^ n → H x ≡ true → m x ≡ false) → (x : ℕ) → x < 2 ^ n → H x ≡ true → newly n k F m x ≡ false
    unfolding meets
    still m f x h e =
        is_false
        (λ t. met (or_true (leb 2 (count n (λ i. F (flip i x)))) (leb k (count n (λ i. F (flip i x) || m (flip i x)))) (newly_says n k F m x t).2))
      where
        -- what counts against x lies outside H
        bad : (i : ℕ) → i < n → (F (flip i x) || m (flip i x)) ≡ true → not (H (flip i x)) ≡ true
        bad i l t =
            let y = flip_lt n i x l h in
            ap not
            (is_false (λ a. ⊎_elim (λ b. clash b (C.works (flip i x) y a)) (λ b. clash b (f (flip i x) y a)) (or_true (F (flip i x)) (m (flip i x)) t)))

        met : (leb 2 (count n (λ i. F (flip i x))) ≡ true) ⊎ (leb k (count n (λ i. F (flip i x) || m (flip i x))) ≡ true) → ⊥
        met (inl a) = omega (arith, leb-true 2 (count n (λ i. F (flip i x))) a, C.few_out x h e)
        met (inr a) =
            omega (
              arith,
              leb-true k (count n (λ i. F (flip i x) || m (flip i x))) a,
              C.few_outside x h e,
              count_le n (λ i. F (flip i x) || m (flip i x)) (λ i. not (H (flip i x))) bad,
            )

    outside : (r x : ℕ) → x < 2 ^ n → H x ≡ true → marked n k F r x ≡ false
    outside zero x h e = marked_zero n k F x
    outside (suc r) x h e = marked_suc n k F r x ∙ rw (outside r x h e) (still (marked n k F r) (λ y. outside r y) x h e)

    inside : (x : ℕ) → x < 2 ^ n → H x ≡ true → safe n k F x ≡ true
    unfolding safe
    inside x h e = rw (C.works x h e, outside (rounds n k F) x h e)

  pub safe_largest : Largest n k F
  safe_largest = record { closed = safe_closed; largest = inside }
