use mathlib.Core.Path.{◌≡◌, sym, ap, subst, ◌∙◌}
use Prim.Native.Nat.{ℕ, ◌*◌, ◌%◌, ◌^◌, ◌≤◌}
use native.Mathlib.Omega.{arith}
use Rattle.cube.proofs.Cube.{shl_one}
use Rattle.figures.specs.Figures.{tables}
use Rattle.counters.proofs.Tabled.{few_nodes}
use Rattle.counters.proofs.Whole.{Added, added_room, all_added, none_added, one_added}
use Rattle.counters.proofs.add_tables.Goals as goal

pub overflow_shl-end : goal.overflow_shl-end
overflow_shl-end c = omega (arith, c.nodes-end.ensures, few_nodes _ c.requires.le_n.0)

-- the loop goes through all tables
end : (n b : ℕ) → (1 ≤ n) × (n ≤ 4) → b ≡ 2 ^ n → 1 * 2 ^ b % 18446744073709551616 ≡ tables n
end n b d e = shl_one b (omega (arith, few_nodes n d)) ∙ ap (λ (k : ℕ). 2 ^ k) e

pub loop-t-init : goal.loop-t-init
loop-t-init c = subst (Added _ 0) (sym c.requires.counters_value) (none_added _)

pub add_table-requires-clause-room : goal.add_table-requires-clause-room
add_table-requires-clause-room c = added_room _ c.requires.le_n.0 _ _ c.loop-t.invariant

pub loop-t-preserved : goal.loop-t-preserved
loop-t-preserved c =
    let dim = c.requires.le_n.0 in
    one_added _ dim _ _ c.loop-t.invariant _ (omega (arith, end _ _ dim c.nodes-end.ensures)) c.add_table.ensures

pub returns : goal.returns
returns c =
    let dim = c.requires.le_n.0 in
    all_added _ dim _ _ c.loop-t.invariant (omega (arith, end _ _ dim c.nodes-end.ensures))
