-- The labels have the four facts on which routing rests, for any rule number up to 3, any set of nodes that do not work, and any bytes of 3
-- and more for these. The first two facts are those of a closed set, the other two are what the bytes 1 and 2 say.
use mathlib.Core.Path.{◌≡◌, sym, ap, ◌∙◌}
use mathlib.Core.Bool.{Bool, true, not}
use Prim.Native.Nat.{ℕ, ◌^◌, ◌≤◌, ◌<◌}
use native.Mathlib.Omega.{arith}
use lib.Dec.{leb}
use borrow.Author.Tests.{leb-true}
use Rattle.cube.specs.Count.{count}
use Rattle.cube.specs.Cube.{flip}
use Rattle.cube.proofs.Bools.{clash, is_false}
use Rattle.cube.proofs.Count.{count_le, count_same}
use Rattle.cube.proofs.Cube.{flip_lt}
use Rattle.rule.specs.Closed.{Closed}
use Rattle.rule.specs.Good.{Good, LabelsGood}
use Rattle.rule.specs.Rule.{label_of, label, safe}
use Rattle.rule.proofs.Bytes.{zero_safe, safe_zero, byte_out, ordinary_near, strong_none}
use Rattle.rule.proofs.Largest.{safe_closed}

module _ (n k : ℕ) (F : ℕ → Bool) (byte : ℕ → ℕ) (S : ℕ → Bool) (C : Closed n k F S) (high : (x : ℕ) → F x ≡ true → 3 ≤ byte x) (small : k ≤ 3) where
  unsafe : (x : ℕ) → x < 2 ^ n → leb 1 (label_of n F byte S x) ≡ true → not (S x) ≡ true
  unsafe x h e = ap not (is_false (λ t. omega (arith, leb-true 1 (label_of n F byte S x) e, safe_zero n F byte S C.works high x h t)))

  not_working : (x : ℕ) → leb 3 (label_of n F byte S x) ≡ true → F x ≡ true
  not_working x e = byte_out n F byte S C.works high x (leb-true 3 (label_of n F byte S x) e)

  -- the bytes of any closed set are good
  closed_good : Good n (label_of n F byte S)
  closed_good =
      record {
        few_out = λ x h e. omega (
          arith,
          C.few_out x h (zero x e),
          count_le n (λ i. leb 3 (label_of n F byte S (flip i x))) (λ i. F (flip i x)) (λ i l t. not_working (flip i x) t),
        );
        few_unsafe = λ x h e. omega (
          arith,
          C.few_outside x h (zero x e),
          count_le n (λ i. leb 1 (label_of n F byte S (flip i x))) (λ i. not (S (flip i x))) (λ i l t. unsafe (flip i x) (flip_lt n i x l h) t),
        );
        ordinary = λ x h e.
            let r = ordinary_near n F byte S C.works high x e in
            (r.0, r.1, safe_zero n F byte S C.works high (flip r.0 x) (flip_lt n r.0 x r.1 h) r.2);
        strong = λ x i h l e z. clash (zero (flip i x) z) (strong_none n F byte S C.works high x e i l);
      }
    where
      zero : (x : ℕ) → label_of n F byte S x ≡ 0 → S x ≡ true
      zero = zero_safe n F byte S C.works high

pub labels_good : LabelsGood
unfolding label
labels_good n k F byte high small = closed_good n k F byte (safe n k F) (safe_closed n k F) high small

-- goodness is a matter of the cube's nodes alone
pub good_same : (n : ℕ) (lab lab' : ℕ → ℕ) → ((x : ℕ) → x < 2 ^ n → lab x ≡ lab' x) → Good n lab → Good n lab'
good_same n lab lab' same G =
    record {
      few_out = λ x h e. omega (arith, G.few_out x h (same x h ∙ e), counts 3 x h);
      few_unsafe = λ x h e. omega (arith, G.few_unsafe x h (same x h ∙ e), counts 1 x h);
      ordinary = λ x h e. let r = G.ordinary x h (same x h ∙ e) in (r.0, r.1, sym (near r.0 x r.1 h) ∙ r.2);
      strong = λ x i h l e z. G.strong x i h l (same x h ∙ e) (near i x l h ∙ z);
    }
  where
    near : (i x : ℕ) → i < n → x < 2 ^ n → lab (flip i x) ≡ lab' (flip i x)
    near i x l h = same (flip i x) (flip_lt n i x l h)

    counts : (b x : ℕ) → x < 2 ^ n → count n (λ i. leb b (lab (flip i x))) ≡ count n (λ i. leb b (lab' (flip i x)))
    counts b x h = count_same n (λ i. leb b (lab (flip i x))) (λ i. leb b (lab' (flip i x))) (λ i l. ap (leb b) (near i x l h))
