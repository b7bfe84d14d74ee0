-- How many rounds can mark something new. The first marks the working nodes that have two or more neighbours that do not work, and each round after it marks
-- one node at least: each of these has at most one such neighbour, or the first would have marked it. And where the first marks a node at all, two of its
-- neighbours do not work, so at most 2 ^ n - 2 nodes do.
use mathlib.Core.Path.{◌≡◌, ◌∙◌}
use mathlib.Core.Logic.{◌⊎◌, inl, inr, ⊎_elim, ◌↔◌}
use mathlib.Core.Bool.{Bool, true, false, not, or-false, ◌&&◌, ◌||◌}
use Prim.Native.Nat.{ℕ, ◌+◌, ◌^◌, ◌≤◌, ◌<◌}
use native.Mathlib.Numerals.{add-one}
use native.Mathlib.Omega.{arith}
use lib.Dec.{leb, ltb}
use lib.Pow.{pow-lt}
use borrow.Author.Tests.{leb-false, ltb-false, ltb-true, not-true}
use Rattle.cube.specs.Count.{count}
use Rattle.cube.specs.Cube.{flip}
use Rattle.cube.proofs.Bools.{and_both, clash, either, or_left}
use Rattle.cube.proofs.Count.{count_bound, count_same, count_sum, count_union}
use Rattle.cube.proofs.Neighbours.{near_few}
use Rattle.rule.specs.Exchanges.{late}
use Rattle.rule.specs.Rounds.{Unsafe}
use Rattle.rule.specs.Rule.{marked, rounds, working}
use Rattle.rule.proofs.Rounds.{marked_suc, marked_zero, marks, marks_work, one_each, rested, rounds_first}

module _ (n k : ℕ) (F : ℕ → Bool) where
  -- how many neighbours of x do not work
  abbrev out : ℕ → ℕ
  out x = count n (λ i. F (flip i x))

  -- ---- the first exchange

  two_marked : (x : ℕ) → F x ≡ false → 2 ≤ out x → marked n k F 1 x ≡ true
  two_marked x f h = ((marks n k F).next 0 x).1 (inr (f, inl h))

  -- without marks, the rule counts the neighbours that do not work
  pub unmarked : (x : ℕ) → count n (λ i. F (flip i x) || marked n k F 0 (flip i x)) ≡ out x
  unmarked x =
      count_same n (λ i. F (flip i x) || marked n k F 0 (flip i x)) (λ i. F (flip i x)) (λ i l. rw (marked_zero n k F (flip i x)) (or-false (F (flip i x))))

  pub first : 2 ≤ k → (x : ℕ) → (marked n k F 1 x ≡ true) ↔ ((F x ≡ false) × (2 ≤ out x))
  first h x = (said, λ e. two_marked x e.0 e.1)
    where
      two : Unsafe n k F (marked n k F 0) x → 2 ≤ out x
      two (inl l) = l
      two (inr l) = omega (arith, unmarked x)

      said : marked n k F 1 x ≡ true → (F x ≡ false) × (2 ≤ out x)
      said e =
          ⊎_elim (λ (t : marked n k F 0 x ≡ true). absurd (clash t (marked_zero n k F x)))
          (λ (t : (F x ≡ false) × Unsafe n k F (marked n k F 0) x). (t.0, two t.1)) (((marks n k F).next 0 x).0 e)

  -- ---- the later ones

  -- a node with a mark that the first round did not give has at most one neighbour that does not work
  one_out : (r x : ℕ) → marked n k F r x ≡ true → (marked n k F 1 x ≡ true) ⊎ (leb (out x) 1 ≡ true)
  one_out r x e =
      ⊎_elim (λ (t : leb (out x) 1 ≡ true). inr t)
      (λ (t : leb (out x) 1 ≡ false). inl (two_marked x (marks_work n k F r x e) (leb-false (out x) 1 t))) (either (leb (out x) 1))

  stays : (r x : ℕ) → marked n k F r x ≡ true → marked n k F (r + 1) x ≡ true
  stays r x e = rw add-one (marked_suc n k F r x ∙ or_left _ e)

  -- so the marks are no more than those of the first round and the late nodes
  marked_few : (r : ℕ) → count (2 ^ n) (marked n k F r) ≤ count (2 ^ n) (marked n k F 1) + late n (marked n k F (r + 1)) F
  unfolding late
  marked_few r =
      count_union (2 ^ n) (marked n k F r) (marked n k F 1) (λ x. marked n k F (r + 1) x && leb (out x) 1)
      (λ x h e. ⊎_elim (λ (t : marked n k F 1 x ≡ true). inl t) (λ (t : leb (out x) 1 ≡ true). inr (and_both (stays r x e) t)) (one_out r x e))

  pub rounds_late : rounds n k F ≤ late n (marked n k F (rounds n k F + 1)) F + 1
  rounds_late = go (either (ltb 0 (rounds n k F)))
    where
      go : (ltb 0 (rounds n k F) ≡ true) ⊎ (ltb 0 (rounds n k F) ≡ false) → rounds n k F ≤ late n (marked n k F (rounds n k F + 1)) F + 1
      go (inl t) = omega (arith, one_each n k F 1 (rounds n k F) (ltb-true 0 (rounds n k F) t) (rounds_first n k F), marked_few (rounds n k F))
      go (inr t) = omega (arith, ltb-false 0 (rounds n k F) t)

  -- ---- all of them

  -- the nodes that work and those that do not are no more than all
  parts : working n F + count (2 ^ n) F ≤ 2 ^ n
  unfolding working
  parts =
      omega (arith, count_sum (2 ^ n) (λ x. not (F x)) F (λ x h e. not-true (F x) e), count_bound (2 ^ n) (λ x. not (F x) || F x))

  -- the first round marks a node only where two do not work
  two_out : 2 ≤ k → 0 < rounds n k F → 2 ≤ count (2 ^ n) F
  two_out h l =
      let new = (rested n k F).loud 0 l in
      omega (arith, ((first h new.0).0 new.3).1, near_few n new.0 F new.1)

  pub rounds_below : 1 ≤ n → 2 ≤ k → rounds n k F + 1 < 2 ^ n
  rounds_below one h = go (either (ltb 0 (rounds n k F)))
    where
      go : (ltb 0 (rounds n k F) ≡ true) ⊎ (ltb 0 (rounds n k F) ≡ false) → rounds n k F + 1 < 2 ^ n
      go (inl t) = omega (arith, (rested n k F).ceiling, parts, two_out h (ltb-true 0 (rounds n k F) t))
      go (inr t) = omega (arith, ltb-false 0 (rounds n k F) t, pow-lt one)
