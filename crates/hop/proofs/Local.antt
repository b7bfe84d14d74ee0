-- Locality. A decision and its refusals depend on the label of c and on those of its n neighbours, and on no other byte of the job's half, since each
-- scan looks at the neighbours alone.
use mathlib.Core.Path.{◌≡◌, ap, ◌∙◌}
use mathlib.Core.Logic.{◌⊎◌, inl, inr}
use mathlib.Core.Bool.{true, false}
use Prim.Native.Nat.{ℕ, ◌<◌}
use native.Mathlib.Omega.{arith}
use lib.Dec.{eqb, ltb}
use borrow.Author.Tests.{ltb-true}
use Rattle.cube.specs.Cube.{dist, flip}
use Rattle.cube.specs.Tables.{highest}
use Rattle.cube.proofs.Bools.{either}
use Rattle.cube.proofs.Search.{some_same, the_least}
use Rattle.scans.specs.Scans.{first_scan, lowest, no_scan}
use Rattle.scans.proofs.Local.{first_same, lowest_same}
use Rattle.hop.specs.Hop.{answer, decide, hop, hop_refusal, hopped}
use Rattle.hop.specs.Local.{HopLocal}
use Rattle.hop.specs.declared.Decision.TheVariants.{Deliver, Hop, Halted}

-- ---- the decision

module _ (n c d own : ℕ) (near near' : ℕ → ℕ) (same : (i : ℕ) → i < n → near i ≡ near' i) where
  pub decide_same : decide n c d own near ≡ decide n c d own near'
  unfolding decide
  decide_same = rw (first_same n c d own near near' same, lowest_same n c d own near near' same)

-- a hop is across one of the n dimensions
decide_dim : (n c d own : ℕ) (near : ℕ → ℕ) (i : ℕ) → decide n c d own near ≡ Hop i → i < n
unfolding decide answer first_scan
decide_dim n c d own near i e = go (either (eqb (dist c d) 0)) (either (ltb (first_scan n c d own near) no_scan))
  where
    s : ℕ
    s = first_scan n c d own near

    go : (eqb (dist c d) 0 ≡ true) ⊎ (eqb (dist c d) 0 ≡ false) → (ltb s no_scan ≡ true) ⊎ (ltb s no_scan ≡ false) → i < n
    go (inl a) _ = let q : Deliver ≡ Hop i = rw a at e in let z : ◌≡◌ {A = ℕ} 0 1 = cc in omega arith
    go (inr a) (inl b) =
        let q : Hop (lowest n c d own near s) ≡ Hop i = rw (a, b) at e in
        let z : lowest n c d own near s ≡ i = cc in
        omega (arith, ltb-true (lowest n c d own near s) n ((the_least no_scan (λ t. ltb (lowest n c d own near t) n)).hit (ltb-true s no_scan b)))
    go (inr a) (inr b) = let q : Halted ≡ Hop i = rw (a, b) at e in let z : ◌≡◌ {A = ℕ} 0 1 = cc in omega arith

module _ (n : ℕ) (lab lab' : ℕ → ℕ) (c d : ℕ) (own : lab c ≡ lab' c) (near : (i : ℕ) → i < n → lab (flip i c) ≡ lab' (flip i c)) where
  pub hop_same : hop n lab c d ≡ hop n lab' c d
  unfolding hop
  hop_same = ap (λ x. decide n c d x (λ i. lab (flip i c))) own ∙ decide_same n c d (lab' c) (λ i. lab (flip i c)) (λ i. lab' (flip i c)) near

pub hop_dim : (n : ℕ) (lab : ℕ → ℕ) (c d i : ℕ) → hop n lab c d ≡ Hop i → i < n
unfolding hop
hop_dim n lab c d i e = decide_dim n c d (lab c) (λ j. lab (flip j c)) i e

-- ---- the question: labels that agree at c and at its neighbours are answered alike, refused or not

module _ (n j c d m : ℕ) (lab lab' : ℕ → ℕ) (own : lab c ≡ lab' c) (near : (i : ℕ) → i < n → lab (flip i c) ≡ lab' (flip i c)) where
  pub refusal_same : hop_refusal n j c d m lab ≡ hop_refusal n j c d m lab'
  unfolding hop_refusal
  refusal_same =
      rw (own, some_same n (λ i. ltb highest (lab (flip i c))) (λ i. ltb highest (lab' (flip i c))) (λ i h. ap (ltb highest) (near i h)))

  hopped_same : hopped n j c d m lab ≡ hopped n j c d m lab'
  unfolding hopped
  hopped_same = rw (refusal_same, hop_same n lab lab' c d own near)

pub hop_local : HopLocal
hop_local = hopped_same
