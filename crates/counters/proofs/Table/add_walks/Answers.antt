-- In the loop s is a node, and past the test one that works.
use mathlib.Core.Path.{◌≡◌, sym, ap, ◌∙◌}
use Prim.Native.Nat.{ℕ, ◌^◌, ◌<◌}
use native.Mathlib.Omega.{arith}
use Rattle.rule.specs.Cabinet.{plain}
use Rattle.figures.specs.Figures.{pairs}
use Rattle.counters.specs.Helpers.{plus, walks_from}
use Rattle.counters.proofs.Walking.{all_start, at_work, from_faulty, from_working, in_table, room_left}
use Rattle.counters.proofs.Table.add_walks.Goals as goal
use Rattle.counters.proofs.Table.add_walks.Goals.{In-loop-s, else-not-node_bit, then-not-node_bit}

pub loop-s-init : goal.loop-s-init
loop-s-init c = all_start _ _ _ c.args.self.now.tallying _ c.requires

node : (c : In-loop-s) → c.loop-s.s < 2 ^ c.args.self.now.n
node c = omega (arith, c.nodes-s-end.ensures)

pub node_bit-requires : goal.node_bit-requires
node_bit-requires c = in_table _ _ _ c.args.self.now.tallying _ (node (goal.at.node_bit-requires c).In-loop-s)

pub add_walks_from-requires : goal.add_walks_from-requires
add_walks_from-requires c =
    let t = c.args.self.now.tallying in
    let s = node (goal.at.add_walks_from-requires c).In-loop-s in
    record {
      works = at_work _ _ _ t _ s (sym c.node_bit.ensures ∙ c.if-not-node_bit.true);
      room = room_left _ _ _ t _ c.requires _ s _ c.loop-s.invariant;
    }

pub loop-s-preserved : goal.loop-s-preserved
loop-s-preserved c =
    let t = c.args.self.now.tallying in
    let node : c.loop-s.s < 2 ^ c.args.self.now.n = omega (arith, c.nodes-s-end.ensures) in
    elim c.if-not-node_bit.branch [
      | then-not-node_bit w ↦
          w.kinds-is
          ∙ from_working _ _ _ t _ c.requires _ node _ c.loop-s.invariant _ (sym c.node_bit.ensures ∙ w.if-not-node_bit.true) w.add_walks_from.ensures
      | else-not-node_bit w ↦
          w.kinds-is ∙ from_faulty _ _ _ t _ c.requires _ node _ c.loop-s.invariant (sym c.node_bit.ensures ∙ w.if-not-node_bit.false)
    ]

pub returns : goal.returns
unfolding pairs
returns c =
    let table = c.args.self.now in
    let end : c.loop-s.s ≡ 2 ^ table.n = omega (arith, c.nodes-s-end.ensures) in
    c.loop-s.invariant ∙ ap (λ (s : ℕ). plus 4 (walks_from (plain table.n 3 table.faults.now) s) c.args.kinds.now) end
