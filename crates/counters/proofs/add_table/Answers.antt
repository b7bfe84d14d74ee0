-- `add_table`: the bytes of the number are the table, labelling leaves its labels, and the nodes with label 3 say which line it is.
use mathlib.Core.List.{List, [], ◌∷◌}
use mathlib.Core.Path.{◌≡◌, refl, ap, ◌∙◌}
use Prim.Native.Nat.{ℕ, ◌≤◌}
use native.Mathlib.Omega.{arith}
use lib.ListN.{length}
use Rattle.cube.specs.Tables.{label_count}
use Rattle.figures.specs.Figures.{cube_of, faults_of}
use Rattle.counters.proofs.Tabled.{bytes_are, fault_count, faults_few, few_tables, front_length, len_few, line_done, line_within, tallying}
use Rattle.counters.proofs.add_table.Goals as goal
use Rattle.counters.proofs.add_table.Goals.{After-count_of-from}

pub overflow_cast-t : goal.overflow_cast-t
overflow_cast-t c = omega (arith, c.requires.t_bound.0, few_tables _ c.requires.le_n)

-- the length of the table is 1 or 2
pub slice_bounds-bytes-end : goal.slice_bounds-bytes-end
slice_bounds-bytes-end c = omega (arith, c.table_len-len.ensures, len_few _ c.requires.le_n)

pub slice_bounds-faults-end : goal.slice_bounds-faults-end
slice_bounds-faults-end c = front_length _ c.requires.le_n _ c.table_len-len.ensures _ (ap length c.to_le_bytes-bytes.ensures)

pub slice_bounds-zeros-end : goal.slice_bounds-zeros-end
slice_bounds-zeros-end c = omega (arith, c.table_len-len.ensures, len_few _ c.requires.le_n)

pub slice_bounds-none-end : goal.slice_bounds-none-end
slice_bounds-none-end c = front_length _ c.requires.le_n _ c.table_len-len.ensures (0 ∷ 0 ∷ []) refl

-- the labels are the table's, so those that were counted are its faults
counted : (c : After-count_of-from) → let a = c.args in c.count_of-from.result ≡ faults_of (cube_of a.n a.t)
counted c =
    let is-len = c.table_len-len.ensures in
    let are = c.to_le_bytes-bytes.ensures in
    let (t, sized) = c.requires.t_bound in
    let dim = c.requires.le_n in
    c.count_of-from.ensures ∙ ap (λ (h : List ℕ). label_count h 3) c.half.ensures.bytes
    ∙ fault_count _ dim _ t _ _ (bytes_are _ dim _ t _ is-len _ are) (tallying _ dim _ t _ is-len _ are _ _ sized c.label.ensures.labels)

few : (c : After-count_of-from) → c.count_of-from.result ≤ 16
few c = faults_few _ c.requires.le_n _ c.requires.t_bound.0 _ (counted c)

pub overflow_mul-from : goal.overflow_mul-from
overflow_mul-from c = omega (arith, few c)

pub overflow_add-to : goal.overflow_add-to
overflow_add-to c = omega (arith, few c)

pub offset_bounds-counters-from : goal.offset_bounds-counters-from
offset_bounds-counters-from c = omega (arith, few (goal.at.offset_bounds-counters-from c).After-count_of-from)

pub slice_bounds-add_figures-end : goal.slice_bounds-add_figures-end
slice_bounds-add_figures-end c =
    let n = counted (goal.at.slice_bounds-add_figures-end c).After-count_of-from in
    omega (arith, line_within _ c.requires.le_n _ c.requires.t_bound.0 _ n, c.requires.room.sized)

pub invariant_of-table : goal.invariant_of-table
invariant_of-table c =
    let (t, sized) = c.requires.t_bound in
    record { tallying = tallying _ c.requires.le_n _ t _ c.table_len-len.ensures _ c.to_le_bytes-bytes.ensures _ _ sized c.label.ensures.labels }

pub returns : goal.returns
returns c =
    let t = c.requires.t_bound.0 in
    line_done _ c.requires.le_n _ t _ (counted (goal.at.returns c).After-count_of-from) _ _ _ c.requires.room.sized
    (bytes_are _ c.requires.le_n _ t _ c.table_len-len.ensures _ c.to_le_bytes-bytes.ensures) c.add_figures.ensures
