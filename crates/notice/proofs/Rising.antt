-- Rising addresses: each is at least the base and below the size, and no two are the same, so as many nodes are among them as there are addresses.
use mathlib.Core.Path.{◌≡◌, refl, ap, ◌∙◌}
use mathlib.Core.Logic.{◌⊎◌, inl, inr, ⊎_elim}
use mathlib.Core.Bool.{true, false, ◌&&◌, ◌||◌}
use mathlib.Core.List.{List, [], ◌∷◌}
use Prim.Native.Nat.{ℕ, suc, ◌+◌, ◌≤◌, ◌<◌}
use native.Mathlib.Omega.{arith}
use lib.Dec.{eqb, leb, ltb}
use lib.ListN.{length}
use borrow.Author.Tests.{leb-true, ltb-true, le-leb, lt-ltb, eqb-true, eq-eqb, ne_eqb}
use Rattle.cube.specs.Count.{count}
use Rattle.cube.proofs.Bools.{either, and_true, and_both, or_true, or_left}
use Rattle.cube.proofs.Count.{count_none, count_more}
use Rattle.notice.specs.Addresses.{rising, among}

pub rises : (base size a : ℕ) (l : List ℕ) → rising base size (a ∷ l) ≡ true → (base ≤ a) × (a < size) × (rising (a + 1) size l ≡ true)
unfolding rising
rises base size a l e =
    let p = and_true (leb base a) (ltb a size && rising (a + 1) size l) e in
    let q = and_true (ltb a size) (rising (a + 1) size l) p.1 in
    (leb-true base a p.0, ltb-true a size q.0, q.1)

-- below a size, and so below a larger one
pub rising_wider : (base size wider : ℕ) (l : List ℕ) → size ≤ wider → rising base size l ≡ true → rising base wider l ≡ true
unfolding rising
rising_wider base size wider [] h e = refl
rising_wider base size wider (a ∷ l) h e =
    let r = rises base size a l e in
    and_both (le-leb base a r.0) (and_both (lt-ltb a wider (omega (arith, r.1))) (rising_wider (a + 1) size wider l h r.2))

-- what is among them is within their bounds
among_within : (base size : ℕ) (l : List ℕ) (k : ℕ) → rising base size l ≡ true → among l k ≡ true → (base ≤ k) × (k < size)
unfolding among
among_within base size [] k e f = let z : ◌≡◌ {A = ℕ} 0 1 = cc in absurd (omega arith)
among_within base size (a ∷ l) k e f = go (rises base size a l e) (among_within (a + 1) size l k) (or_true (eqb k a) (among l k) f)
  where
    go : (base ≤ a) × (a < size) × (rising (a + 1) size l ≡ true) → (rising (a + 1) size l ≡ true → among l k ≡ true → (a + 1 ≤ k) × (k < size))
        → (eqb k a ≡ true) ⊎ (among l k ≡ true) → (base ≤ k) × (k < size)
    go r ih (inl p) = let q = eqb-true k a p in (omega (arith, r.0), omega (arith, r.1))
    go r ih (inr p) = let q = ih r.2 p in (omega (arith, r.0, q.0), q.1)

pub not_among : (base size : ℕ) (l : List ℕ) (k : ℕ) → rising base size l ≡ true → (k < base) ⊎ (size ≤ k) → among l k ≡ false
not_among base size l k e h = ⊎_elim (λ (t : among l k ≡ true). absurd (out (among_within base size l k e t) h)) (λ t. t) (either (among l k))
  where
    out : (base ≤ k) × (k < size) → (k < base) ⊎ (size ≤ k) → ⊥
    out w (inl p) = omega (arith, w.0)
    out w (inr p) = omega (arith, w.1)

-- as many nodes are among them as there are addresses
pub count_among : (base size : ℕ) (l : List ℕ) → rising base size l ≡ true → count size (among l) ≡ length l
unfolding among
count_among base size [] e = count_none size (λ k. false) (λ i h. refl)
count_among base size (a ∷ l) e =
    let r = rises base size a l e in
    let fresh = not_among (a + 1) size l a r.2 (inl (omega arith)) in
    count_more size a (among l) (λ k. eqb k a || among l k) r.1 fresh (or_left (among l a) (eq-eqb a a refl)) (λ i h d. rw (ne_eqb i a d))
    ∙ ap suc (count_among (a + 1) size l r.2)
