-- The numbers of a range that have a property, as a rising list: among them are those that have it and no other, so they are as many as `count` says; and any
-- rising list is that of the numbers which are among it, so it is given by them.
use mathlib.Core.Path.{◌≡◌, refl, sym, ap₂, ◌∙◌}
use mathlib.Core.Logic.{◌⊎◌, inl, inr}
use mathlib.Core.Bool.{Bool, true, false}
use mathlib.Core.List.{List, [], ◌∷◌}
use Prim.Native.Nat.{ℕ, zero, suc, ◌+◌, ◌≤◌, ◌<◌}
use native.Mathlib.Omega.{arith}
use native.Mathlib.Decide.{ℕ_discrete}
use lib.ListN.{length}
use borrow.Author.Tests.{le-leb, lt-ltb, eq-eqb, ne_eqb}
use Rattle.cube.specs.Count.{count}
use Rattle.cube.proofs.Bools.{either, and_both, or_left}
use Rattle.cube.proofs.Count.{count_same}
use Rattle.notice.specs.Addresses.{rising, among}
use Rattle.notice.proofs.Rising.{rises, not_among, count_among}
use Rattle.spelling.specs.Spelled.{having}

-- ---- rising lists

rising_cons : (base size a : ℕ) (l : List ℕ) → base ≤ a → a < size → rising (a + 1) size l ≡ true → rising base size (a ∷ l) ≡ true
unfolding rising
rising_cons base size a l h k up = and_both (le-leb base a h) (and_both (lt-ltb a size k) up)

-- from a base on, and so from a lower one
rising_lower : (lower base size : ℕ) (l : List ℕ) → lower ≤ base → rising base size l ≡ true → rising lower size l ≡ true
unfolding rising
rising_lower lower base size [] h e = refl
rising_lower lower base size (a ∷ l) h e = let r = rises base size a l e in rising_cons lower size a l (omega (arith, r.0)) r.1 r.2

among_first : (a : ℕ) (l : List ℕ) → among (a ∷ l) a ≡ true
unfolding among
among_first a l = or_left (among l a) (eq-eqb a a refl)

among_other : (a : ℕ) (l : List ℕ) (k : ℕ) → (k ≡ a → ⊥) → among (a ∷ l) k ≡ among l k
unfolding among
among_other a l k d = rw (ne_eqb k a d)

-- ---- the numbers that have p

module _ (size : ℕ) (p : ℕ → Bool) where
  pub having_yes : (left k : ℕ) → p k ≡ true → having (suc left) k p ≡ k ∷ having left (k + 1) p
  unfolding having
  having_yes left k e = rw e

  pub having_no : (left k : ℕ) → p k ≡ false → having (suc left) k p ≡ having left (k + 1) p
  unfolding having
  having_no left k e = rw e

  pub having_rises : (left k : ℕ) → k + left ≡ size → rising k size (having left k p) ≡ true
  unfolding having rising
  having_rises zero k e = refl
  having_rises (suc left) k e = go (having_rises left (k + 1) (omega arith)) (either (p k))
    where
      go : rising (k + 1) size (having left (k + 1) p) ≡ true → (p k ≡ true) ⊎ (p k ≡ false) → rising k size (having (suc left) k p) ≡ true
      go more (inl t) = rw (having_yes left k t) (rising_cons k size k (having left (k + 1) p) (omega arith) (omega arith) more)
      go more (inr t) = rw (having_no left k t) (rising_lower k (k + 1) size (having left (k + 1) p) (omega arith) more)

  pub having_among : (left k i : ℕ) → k + left ≡ size → k ≤ i → i < size → among (having left k p) i ≡ p i
  having_among zero k i e h l = absurd (omega arith)
  having_among (suc left) k i e h l = go (λ past. having_among left (k + 1) i (omega arith) past l) (either (p k)) (ℕ_discrete i k)
    where
      go : (k + 1 ≤ i → among (having left (k + 1) p) i ≡ p i) → (p k ≡ true) ⊎ (p k ≡ false) → Dec (i ≡ k) → among (having (suc left) k p) i ≡ p i
      go more (inl t) (yes q) = rw (having_yes left k t, q) (among_first k (having left (k + 1) p) ∙ sym t)
      go more (inl t) (no d) = rw (having_yes left k t) (among_other k (having left (k + 1) p) i d ∙ more (omega arith))
      go more (inr t) (yes q) =
          rw (having_no left k t, q)
          (not_among (k + 1) size (having left (k + 1) p) k (having_rises left (k + 1) (omega arith)) (inl (omega arith)) ∙ sym t)
      go more (inr t) (no d) = rw (having_no left k t) (more (omega arith))

  pub having_count : length (having size 0 p) ≡ count size p
  having_count =
      sym (count_among 0 size (having size 0 p) (having_rises size 0 (omega arith)))
      ∙ count_same size (among (having size 0 p)) p (λ i h. having_among size 0 i (omega arith) (omega arith) h)

  pub having_is : (left k : ℕ) (l : List ℕ) → k + left ≡ size → rising k size l ≡ true → ((i : ℕ) → k ≤ i → i < size → p i ≡ among l i)
      → having left k p ≡ l
  unfolding having among rising
  having_is zero k [] e up same = refl
  having_is zero k (a ∷ l) e up same = let r = rises k size a l up in absurd (omega (arith, r.0, r.1))
  having_is (suc left) k [] e up same =
      rw (same k (omega arith) (omega arith)) (having_is left (k + 1) [] (omega arith) up (λ i h. same i (omega arith)))
  having_is (suc left) k (a ∷ l) e up same =
      let r = rises k size a l up in
      go r (having_is left (k + 1)) (ℕ_discrete k a)
    where
      go : (k ≤ a) × (a < size) × (rising (a + 1) size l ≡ true)
          → ((t : List ℕ) → k + 1 + left ≡ size → rising (k + 1) size t ≡ true → ((i : ℕ) → k + 1 ≤ i → i < size → p i ≡ among t i) → having left (k + 1) p ≡ t)
          → Dec (k ≡ a) → having (suc left) k p ≡ a ∷ l
      go r more (yes q) =
          having_yes left k (same k (omega arith) (omega arith) ∙ rw q (among_first a l))
          ∙ ap₂ (λ (x : ℕ) (t : List ℕ). x ∷ t) q
          (more l (omega arith) (rising_lower (k + 1) (a + 1) size l (omega arith) r.2)
          (λ i h u. same i (omega arith) u ∙ among_other a l i (omega arith)))
      go r more (no d) =
          let low = r.0 in
          let past = rising_cons (k + 1) size a l (omega arith) r.1 r.2 in
          having_no left k (same k (omega arith) (omega arith) ∙ not_among (k + 1) size (a ∷ l) k past (inl (omega arith)))
          ∙ more (a ∷ l) (omega arith) past (λ i h. same i (omega arith))
