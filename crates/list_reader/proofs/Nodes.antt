-- The nodes of a run, as a rising list: it has those from the first to the last and no other.
use mathlib.Core.Bool.{true, false, ◌&&◌}
use mathlib.Core.Logic.{◌⊎◌, inl, inr}
use mathlib.Core.Path.{◌≡◌, sym, ◌∙◌}
use Prim.Native.Nat.{ℕ, ◌+◌, ◌-◌, ◌≤◌, ◌<◌}
use native.Mathlib.Omega.{arith}
use lib.Dec.{leb}
use borrow.Author.Tests.{leb-false, leb-true}
use Rattle.cube.proofs.Bools.{either}
use Rattle.notice.specs.Addresses.{among, rising}
use Rattle.notice.proofs.Rising.{not_among, rising_wider}
use Rattle.spelling.proofs.Having.{having_among, having_rises}
use Rattle.list_reader.specs.Front.{between}

module _ (lo hi : ℕ) (up : lo ≤ hi) where
  run_rises : rising lo (hi + 1) (between lo hi) ≡ true
  run_rises = having_rises (hi + 1) (λ k. true) (hi + 1 - lo) lo (omega arith)

  pub run_within : (size : ℕ) → hi < size → rising lo size (between lo hi) ≡ true
  run_within size h = rising_wider lo (hi + 1) size (between lo hi) (omega arith) run_rises

  pub run_has : (k : ℕ) → among (between lo hi) k ≡ (leb lo k && leb k hi)
  run_has k = go (either (leb lo k)) (either (leb k hi))
    where
      go : (leb lo k ≡ true) ⊎ (leb lo k ≡ false) → (leb k hi ≡ true) ⊎ (leb k hi ≡ false) → among (between lo hi) k ≡ (leb lo k && leb k hi)
      go (inl a) (inl b) =
          let l = leb-true lo k a in
          let m = leb-true k hi b in
          having_among (hi + 1) (λ k. true) (hi + 1 - lo) lo k (omega arith) l (omega arith) ∙ sym (rw (a, b))
      go (inl a) (inr b) = let m = leb-false k hi b in not_among lo (hi + 1) (between lo hi) k run_rises (inr (omega arith)) ∙ sym (rw (a, b))
      go (inr a) _ = let m = leb-false lo k a in not_among lo (hi + 1) (between lo hi) k run_rises (inl m) ∙ sym (rw a)
