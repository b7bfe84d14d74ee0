-- `count_of` counts the labels that its filter lets through, and `label_count` the nodes that have the label: one for each such label.
use mathlib.Core.Bool.{Bool, true, false}
use mathlib.Core.List.{List}
use mathlib.Core.Logic.{◌⊎◌, inl, inr}
use mathlib.Core.Path.{◌≡◌, sym, ap, ◌∙◌}
use Prim.Native.Nat.{ℕ, zero, suc, ◌≤◌}
use native.Mathlib.Omega.{arith}
use native.Mathlib.Numerals.{add-one}
use lib.Dec.{eqb}
use lib.ListN.{get_or, length, take}
use lib.Seq.{take_all}
use Rattle.std.proofs.Common.{rules, tests}
use Rattle.std.specs.List.{count_by}
use Rattle.std.proofs.lemmas.Iterator.{YieldsList-from_slice}
use Rattle.std.proofs.lemmas.Iterator.Consumers.{YieldsList-from_filter, count_from_yields_List}
use Rattle.std.proofs.lemmas.List.Sums.{count_by_more_no, count_by_more_yes, length-filter}
use Rattle.cube.specs.Count.{count}
use Rattle.cube.specs.Tables.{label_count, label_in}
use Rattle.cube.proofs.Bools.{either}
use Rattle.cube.proofs.Count.{count_no, count_yes, count_zero}
use Rattle.cube.proofs.count_of.Goals as goal

front_count : (l : List ℕ) (p : ℕ → Bool) (n : ℕ) → n ≤ length l → count n (λ x. p (get_or l x 0)) ≡ count_by p (take n l)
front_count l p zero h = count_zero (λ x. p (get_or l x 0))
front_count l p (suc n) h = go (front_count l p n (omega arith)) (either (p (get_or l n 0)))
  where
    go : count n (λ x. p (get_or l x 0)) ≡ count_by p (take n l) → (p (get_or l n 0) ≡ true) ⊎ (p (get_or l n 0) ≡ false)
        → count (suc n) (λ x. p (get_or l x 0)) ≡ count_by p (take (suc n) l)
    go ih (inl e) = omega (arith, ih, count_yes n (λ x. p (get_or l x 0)) e, rw add-one at (count_by_more_yes p l n 0 (omega arith) e))
    go ih (inr e) = omega (arith, ih, count_no n (λ x. p (get_or l x 0)) e, rw add-one at (count_by_more_no p l n 0 (omega arith) e))

labels_counted : (l : List ℕ) (k : ℕ) → count_by (λ x. eqb x k) l ≡ label_count l k
unfolding label_in
labels_counted l k = ap (count_by (λ x. eqb x k)) (sym (take_all (length l) l (omega arith))) ∙ sym (front_count l (λ x. eqb x k) (length l) (omega arith))

pub returns : goal.returns
returns c =
    let a = c.args in
    count_from_yields_List _ _ c.count.ensures.ran
    (YieldsList-from_filter _ (λ x. eqb x a.label) (YieldsList-from_slice a.labels.now cc) c.filter.ensures.closure (λ x r q k. search (rules, tests)))
    ∙ length-filter (λ x. eqb x a.label) a.labels.now
    ∙ labels_counted a.labels.now a.label
