-- `some_above`: some of the first n labels is above the highest exactly where some place below n has such a label.
use mathlib.Core.Bool.{Bool, ◌||◌}
use mathlib.Core.List.{List}
use mathlib.Core.Path.{◌≡◌, sym, ap, ◌∙◌}
use Prim.Native.Nat.{ℕ, zero, suc, ◌≤◌}
use native.Mathlib.Omega.{arith}
use native.Mathlib.Numerals.{add-one}
use lib.Dec.{ltb}
use lib.ListN.{get_or, length, take}
use Rattle.std.proofs.Common.{rules, tests}
use Rattle.std.specs.List.{list_any}
use Rattle.std.proofs.lemmas.Iterator.{YieldsList-from_slice}
use Rattle.std.proofs.lemmas.Iterator.Search.{any_from_yields_List}
use Rattle.std.proofs.lemmas.List.Folds.{list_any_more}
use Rattle.cube.specs.Count.{some}
use Rattle.cube.specs.Tables.{highest}
use Rattle.cube.proofs.Search.{some_none, some_suc}
use Rattle.hop.proofs.some_above.Goals as goal

front_some : (p : ℕ → Bool) (l : List ℕ) (n : ℕ) → n ≤ length l → list_any p (take n l) ≡ some n (λ i. p (get_or l i 0))
front_some p l zero h = sym (some_none zero (λ i. p (get_or l i 0)) (λ i k. absurd (omega arith)))
front_some p l (suc n) h =
    (rw add-one at (list_any_more p l n 0 (omega arith))) ∙ ap (λ (b : Bool). b || p (get_or l n 0)) (front_some p l n (omega arith))
    ∙ sym (some_suc n (λ i. p (get_or l i 0)))

pub returns : goal.returns
returns c =
    let a = c.args in
    any_from_yields_List (ltb highest) _ _ _ c.any.ensures.ran (YieldsList-from_slice (take a.n a.near.now) cc) (λ x b q k. search (rules, tests))
    ∙ front_some (ltb highest) a.near.now a.n (omega arith)
