-- What `named_by` says in words, and the row: it has the lowest of those who name a node that is added, and 0 elsewhere.
use mathlib.Core.Bool.{Bool, true, false, not, ◌&&◌}
use mathlib.Core.List.{List}
use mathlib.Core.Logic.{◌⊎◌, inl, inr}
use mathlib.Core.Path.{◌≡◌, refl, ◌∙◌}
use Prim.Native.Nat.{ℕ, suc, ◌+◌, ◌^◌, ◌≤◌, ◌<◌}
use native.Mathlib.Omega.{arith}
use lib.Dec.{eqb, ltb}
use lib.ListN.{get_or, length, replicate, get_or-eq_default}
use borrow.Author.Tests.{eq-eqb, eqb-true, ltb-true, ltb-false, not-true}
use Rattle.cube.specs.Count.{least}
use Rattle.cube.specs.Cube.{bit, flip}
use Rattle.cube.specs.Tables.{node_bit}
use Rattle.cube.proofs.Bools.{and_both, and_true, clash, either, is_false}
use Rattle.cube.proofs.Front.{get_d_tab, length_tab, tab_cong, tab_zeros}
use Rattle.cube.proofs.Search.{both_found, both_hit, least_found, some_found, some_hit, the_least}
use Rattle.repair.specs.Laws.{Lowest, NamesNode}
use Rattle.repair.specs.Repaired.{added, mask_of, named, named_by, namer_of, namers, names}
use Rattle.repair.proofs.Bits.{named_within}

-- ---- in words

module _ {n : ℕ} {faults masks : List ℕ} {w k : ℕ} where
  pub said : w < 2 ^ n → named_by n faults masks k w ≡ true → NamesNode n faults masks w k
  unfolding named_by names
  said h e =
      let r = and_true (not (node_bit faults w)) (names n (mask_of masks w) w k) e in
      let (i, l, b, f) = both_found n (λ j. bit j (mask_of masks w)) (λ j. eqb (flip j w) k) r.1 in
      record { node = h; works = not-true (node_bit faults w) r.0; across = i; dimension = l; marked = b; neighbour = eqb-true (flip i w) k f }

  pub says : NamesNode n faults masks w k → named_by n faults masks k w ≡ true
  unfolding named_by names
  says N =
      and_both {a = not (node_bit faults w)} (rw N.works)
      (both_hit n (λ j. bit j (mask_of masks w)) (λ j. eqb (flip j w) k) N.across N.dimension N.marked (eq-eqb (flip N.across w) k N.neighbour))

module _ (n : ℕ) (faults masks : List ℕ) where
  -- some node names k
  pub namer : (k : ℕ) → named n faults masks k ≡ true → (w : ℕ) × NamesNode n faults masks w k
  unfolding named
  namer k e = let (w, h, t) = some_found (2 ^ n) (named_by n faults masks k) e in (w, said h t)

  pub is_named : {w k : ℕ} → NamesNode n faults masks w k → named n faults masks k ≡ true
  unfolding named
  is_named {w} {k} N = some_hit (2 ^ n) (named_by n faults masks k) w N.node (says N)

  pub not_named : (k : ℕ) → ((w : ℕ) → ¬ (NamesNode n faults masks w k)) → named n faults masks k ≡ false
  not_named k none = is_false (λ e. let (w, N) = namer k e in none w N)

-- ---- the row

pub and_none : (a : Bool) {b : Bool} → b ≡ false → (a && b) ≡ false
and_none true e = e
and_none false e = refl

module _ (n : ℕ) (faults masks : List ℕ) where
  pub row_at : (k : ℕ) → k < 2 ^ n → get_or (namers n faults masks) k 0 ≡ namer_of n faults masks k
  unfolding namers
  row_at k h = get_d_tab (2 ^ n) (namer_of n faults masks) k h

  pub row_sized : length (namers n faults masks) ≡ 2 ^ n
  unfolding namers
  row_sized = length_tab (2 ^ n) (namer_of n faults masks)

  pub lowest : {w k : ℕ} → NamesNode n faults masks w k → Lowest n faults masks k (least (2 ^ n) (named_by n faults masks k))
  lowest {w} {k} N =
      let L = the_least (2 ^ n) (named_by n faults masks k) in
      let h = least_found (2 ^ n) (named_by n faults masks k) w N.node (says N) in
      record { names = said h (L.hit h); lowest = λ u M. low u M (either (ltb u (least (2 ^ n) (named_by n faults masks k)))) }
    where
      low : (u : ℕ) → NamesNode n faults masks u k → let v = least (2 ^ n) (named_by n faults masks k) in (ltb u v ≡ true) ⊎ (ltb u v ≡ false) → v ≤ u
      low u M (inl a) =
          let v = least (2 ^ n) (named_by n faults masks k) in
          absurd (clash (says M) ((the_least (2 ^ n) (named_by n faults masks k)).before u (ltb-true u v a)))
      low u M (inr a) = ltb-false u (least (2 ^ n) (named_by n faults masks k)) a

  pub row : (w k : ℕ) → node_bit faults k ≡ false → NamesNode n faults masks w k
      → (v : ℕ) × (get_or (namers n faults masks) k 0 ≡ v + 1) × Lowest n faults masks k v
  unfolding namer_of
  row w k old N =
      let v = least (2 ^ n) (named_by n faults masks k) in
      let m : named n faults masks k ≡ true = is_named n faults masks N in
      let e : namer_of n faults masks k ≡ suc v = rw (old, m) in
      (v, omega (arith, row_at k (named_within n faults masks k m), e), lowest N)

  pub zero_in : (k : ℕ) → added n faults masks k ≡ false → namer_of n faults masks k ≡ 0
  unfolding namer_of
  zero_in k e = rw e

  pub not_added : (k : ℕ) → (node_bit faults k ≡ true) ⊎ ((w : ℕ) → ¬ (NamesNode n faults masks w k)) → added n faults masks k ≡ false
  not_added k (inl e) = rw e
  not_added k (inr none) = and_none (not (node_bit faults k)) (not_named n faults masks k none)

  pub others : (k : ℕ) → (node_bit faults k ≡ true) ⊎ ((w : ℕ) → ¬ (NamesNode n faults masks w k)) → get_or (namers n faults masks) k 0 ≡ 0
  others k e = go (either (ltb k (2 ^ n)))
    where
      go : (ltb k (2 ^ n) ≡ true) ⊎ (ltb k (2 ^ n) ≡ false) → get_or (namers n faults masks) k 0 ≡ 0
      go (inl a) = row_at k (ltb-true k (2 ^ n) a) ∙ zero_in k (not_added k e)
      go (inr a) = get_or-eq_default (namers n faults masks) 0 {n = k} (omega (arith, row_sized, ltb-false k (2 ^ n) a))

  -- where nobody is added the row is 0 throughout
  pub no_rows : ((k : ℕ) → k < 2 ^ n → added n faults masks k ≡ false) → namers n faults masks ≡ replicate (2 ^ n) 0
  unfolding namers
  no_rows f = tab_cong (2 ^ n) (namer_of n faults masks) (λ _. 0) (λ k h. zero_in k (f k h)) ∙ tab_zeros (2 ^ n)
