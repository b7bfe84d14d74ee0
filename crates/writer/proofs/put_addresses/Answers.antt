use mathlib.Core.Path.{sym, ◌∙◌}
use native.Mathlib.Omega.{arith}
use Rattle.cube.proofs.Tables.{nodes_few}
use Rattle.writer.proofs.Passes.{put_count, put_end, put_here, put_not, put_room}
use Rattle.writer.proofs.put_addresses.Goals as goal
use Rattle.writer.proofs.put_addresses.Goals.{else-has, then-has}

pub put_number-requires : goal.put_number-requires
put_number-requires g c =
    let P = c.loop-node.invariant in
    (omega (arith, nodes_few c.args.faults.n c.args.faults.small), put_room P (omega arith) (sym c.has.ensures ∙ c.if-has.true) c.requires (g.met.S.Sink.left _ _ _ P.put))

pub loop-node-preserved : goal.loop-node-preserved
loop-node-preserved g c =
    let P = c.loop-node.invariant in
    let bit = sym c.has.ensures in
    elim c.if-has.branch [
      | then-has w ↦
          rw (w.sink-is, w.count-is, w.base-is)
          (put_here P (omega arith) (bit ∙ w.if-has.true) (g.met.S.Sink.more _ _ _ _ _ P.put w.put_number.ensures))
      | else-has w ↦ rw (w.sink-is, w.count-is, w.base-is) (put_not P (omega arith) (bit ∙ w.if-has.false))
    ]

pub returns-clause-count : goal.returns-clause-count
returns-clause-count g c = put_count c.loop-node.invariant (omega arith)

pub returns-clause-bytes : goal.returns-clause-bytes
returns-clause-bytes g c = put_end c.loop-node.invariant (omega arith)
