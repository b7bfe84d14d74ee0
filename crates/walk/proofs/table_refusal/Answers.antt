-- `table_refusal`: some byte is too high exactly where the largest is; then the labels of s and d.
use mathlib.Core.Path.{◌≡◌, sym, ap, ◌∙◌}
use Prim.Native.Nat.{ℕ, ◌^◌}
use borrow.Author.Tests.{eq-eqb, ne_eqb, le-leb, le-ltb, lt-leb, lt-ltb}
use lib.Dec.{eqb, leb, ltb}
use Rattle.cube.specs.Count.{some}
use Rattle.cube.specs.Refusal.{first}
use Rattle.cube.specs.Tables.{highest, label_in}
use Rattle.cube.proofs.Search.{largest_above}
use Rattle.walk.specs.Helpers.{table_refusal}
use Rattle.walk.proofs.table_refusal.Goals as goal
use Rattle.walk.proofs.table_refusal.Goals.{After-largest}

high_is : (c : After-largest) → let a = c.args in some (2 ^ a.labels.n) (λ x. ltb highest (label_in a.labels.bytes.now x)) ≡ ltb highest c.largest.result
high_is c =
    let lab = label_in c.args.labels.bytes.now in
    ap (λ (m : ℕ). some m (λ x. ltb highest (lab x))) (sym c.args.labels.sized) ∙ sym (largest_above highest _ lab)
    ∙ ap (ltb highest) (sym c.largest.ensures)

pub returns-then-largest-gt-HIGHEST : goal.returns-then-largest-gt-HIGHEST
unfolding table_refusal first
returns-then-largest-gt-HIGHEST c = rw (high_is (goal.at.returns-then-largest-gt-HIGHEST c).After-largest ∙ lt-ltb _ _ c.if-largest-gt-HIGHEST.true)

pub returns-then-at-ge3 : goal.returns-then-at-ge3
unfolding table_refusal first
returns-then-at-ge3 c =
    rw (
      high_is (goal.at.returns-then-at-ge3 c).After-largest ∙ le-ltb _ _ c.if-largest-gt-HIGHEST.false,
      ap (leb 3) (sym c.at.ensures) ∙ le-leb _ _ c.if-at-ge3.true,
    )

pub returns-then-at-eq3 : goal.returns-then-at-eq3
unfolding table_refusal first
returns-then-at-eq3 c =
    rw (
      high_is (goal.at.returns-then-at-eq3 c).After-largest ∙ le-ltb _ _ c.if-largest-gt-HIGHEST.false,
      ap (leb 3) (sym c.at.ensures) ∙ lt-leb _ _ c.if-at-ge3.false,
      ap (λ (k : ℕ). eqb k 3) (sym c.at-2.ensures) ∙ eq-eqb _ _ c.if-at-eq3.true,
    )

pub returns : goal.returns
unfolding table_refusal first
returns c =
    rw (
      high_is (goal.at.returns c).After-largest ∙ le-ltb _ _ c.if-largest-gt-HIGHEST.false,
      ap (leb 3) (sym c.at.ensures) ∙ lt-leb _ _ c.if-at-ge3.false,
      ap (λ (k : ℕ). eqb k 3) (sym c.at-2.ensures) ∙ ne_eqb _ _ c.if-at-eq3.false,
    )
