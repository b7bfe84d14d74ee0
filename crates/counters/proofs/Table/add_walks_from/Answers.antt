-- In the loop d is a node, and past the test one that works; its walk's kind is the place of a counter, which has room for one more.
use mathlib.Core.Path.{sym, ◌∙◌}
use Prim.Native.Nat.{◌^◌, ◌<◌}
use native.Mathlib.Omega.{arith}
use Rattle.counters.proofs.Walking.{at_work, from_start, has_kind, in_table, kind_room, to_faulty, to_working}
use Rattle.counters.proofs.Table.add_walks_from.Goals as goal
use Rattle.counters.proofs.Table.add_walks_from.Goals.{In-loop-d, else-not-node_bit, then-not-node_bit}

pub loop-d-init : goal.loop-d-init
loop-d-init c = from_start _ _ _ c.args.self.now.tallying _ c.requires.works _ c.requires.room

node : (c : In-loop-d) → c.loop-d.d < 2 ^ c.args.self.now.n
node c = omega (arith, c.nodes-d-end.ensures)

pub node_bit-requires : goal.node_bit-requires
node_bit-requires c = in_table _ _ _ c.args.self.now.tallying _ (node (goal.at.node_bit-requires c).In-loop-d)

pub kind-requires : goal.kind-requires
kind-requires c =
    let t = c.args.self.now.tallying in
    let works = sym c.node_bit.ensures ∙ c.if-not-node_bit.true in
    has_kind _ _ _ t _ _ c.requires.works (at_work _ _ _ t _ (node (goal.at.kind-requires c).In-loop-d) works)

pub overflow_add-kinds : goal.overflow_add-kinds
overflow_add-kinds c =
    let works = sym c.node_bit.ensures ∙ c.if-not-node_bit.true in
    omega (
      arith,
      kind_room _ _ _ c.args.self.now.tallying _ c.requires.works _ c.requires.room _ (omega (arith, c.nodes-d-end.ensures)) _ c.loop-d.invariant works _
          (c.place-k.ensures ∙ c.kind.ensures),
    )

pub loop-d-preserved : goal.loop-d-preserved
loop-d-preserved c =
    let t = c.args.self.now.tallying in
    let node : c.loop-d.d < 2 ^ c.args.self.now.n = omega (arith, c.nodes-d-end.ensures) in
    elim c.if-not-node_bit.branch [
      | then-not-node_bit w ↦
          w.kinds-is
          ∙ to_working _ _ _ t _ c.requires.works _ c.requires.room _ node _ c.loop-d.invariant (sym c.node_bit.ensures ∙ w.if-not-node_bit.true) _
          (w.place-k.ensures ∙ w.kind.ensures)
      | else-not-node_bit w ↦
          w.kinds-is
          ∙ to_faulty _ _ _ t _ c.requires.works _ c.requires.room _ node _ c.loop-d.invariant (sym c.node_bit.ensures ∙ w.if-not-node_bit.false)
    ]
