-- `add_figures`: the counters of tables are raised by hand, and those of walks by `add_walks`, which is lent the last four.
use mathlib.Core.Path.{◌≡◌, sym, ap, ◌∙◌}
use Prim.Native.Nat.{ℕ}
use mathlib.Core.List.{List}
use Rattle.cube.specs.Tables.{label_count}
use Rattle.rule.specs.Cabinet.{plain}
use Rattle.figures.specs.Figures.{any_safe}
use Rattle.counters.specs.Helpers.{plus}
use Rattle.counters.proofs.Rows.{first_two, row_done, walks_room, with_none, with_some}
use Rattle.counters.proofs.Table.add_figures.Goals as goal
use Rattle.counters.proofs.Table.add_figures.Goals.{Joined-count_of-eq0, else-count_of-eq0, then-count_of-eq0}

-- after the test the first two counters are done
made : (c : Joined-count_of-eq0) → let t = c.args.self.now in
    c.if-count_of-eq0.row ≡ plus 6 (first_two (any_safe (plain t.n 3 t.faults.now))) c.args.row.now
made c =
    let counted = c.count_of.ensures ∙ ap (λ (h : List ℕ). label_count h 0) c.half.ensures.bytes in
    let t = c.args.self.now.tallying in
    elim c.if-count_of-eq0.branch [
      | then-count_of-eq0 w ↦ w.row-is ∙ with_none _ _ _ t _ c.requires (sym counted ∙ w.if-count_of-eq0.true)
      | else-count_of-eq0 w ↦ w.row-is ∙ with_some _ _ _ t _ c.requires (λ z. w.if-count_of-eq0.false (counted ∙ z))
    ]

pub add_walks-requires : goal.add_walks-requires
add_walks-requires c = walks_room _ _ _ c.args.self.now.tallying _ c.requires _ (made (goal.at.add_walks-requires c).Joined-count_of-eq0)

pub returns : goal.returns
returns c = row_done _ _ _ c.args.self.now.tallying _ c.requires _ (made (goal.at.returns c).Joined-count_of-eq0) _ c.add_walks.ensures
