use mathlib.Core.Path.{sym, ◌∙◌}
use native.Mathlib.Omega.{arith}
use Rattle.cube.proofs.Tables.{nodes_few}
use Rattle.ranges.specs.Written.{list_text}
use Rattle.list_writer.proofs.Passes.{put_end, put_not, put_run, put_start, run_begins, run_nodes, run_room}
use Rattle.list_writer.proofs.Runs.{run_some}
use Rattle.list_writer.proofs.put_list.Goals as goal

pub loop-k-init : goal.loop-k-init
loop-k-init g c = put_start _ _ _ (g.met.S.Sink.nothing _)

pub put_gap-requires : goal.put_gap-requires
unfolding list_text
put_gap-requires g c =
    let P = c.loop-k.invariant in
    omega (
      arith,
      run_room _ _ P (omega arith) _ c.run_end-end.ensures (sym c.has.ensures ∙ c.if-not-has.false) c.requires (g.met.S.Sink.left _ _ _ P.put),
    )

pub overflow_sub-end : goal.overflow_sub-end
overflow_sub-end g c = run_begins _ _ (omega arith) c.run_end-end.ensures (sym c.has.ensures ∙ c.if-not-has.false)

pub put_entry-requires : goal.put_entry-requires
unfolding list_text
put_entry-requires g c =
    let P = c.loop-k.invariant in
    let n = run_nodes _ _ (omega arith) c.run_end-end.ensures (nodes_few c.args.faults.n c.args.faults.small) in (
      n.0,
      omega (arith, n.1),
      omega (
        arith,
        run_room _ _ P (omega arith) _ c.run_end-end.ensures (sym c.has.ensures ∙ c.if-not-has.false) c.requires (g.met.S.Sink.left _ _ _ P.put),
        g.met.S.Sink.left _ _ _ c.put_gap.ensures,
      ),
    )

pub loop-k-smaller : goal.loop-k-smaller
loop-k-smaller g c =
    omega (arith, run_some _ _ _ _ (omega arith) c.run_end-end.ensures (sym c.has.ensures ∙ c.if-not-has.false))

pub loop-k-preserved : goal.loop-k-preserved
loop-k-preserved g c =
    let P = c.loop-k.invariant in
    let gap = g.met.S.Sink.more _ _ _ _ _ P.put c.put_gap.ensures in
    put_run _ _ P (omega arith) _ c.run_end-end.ensures (sym c.has.ensures ∙ c.if-not-has.false)
    (g.met.S.Sink.more _ _ _ _ _ gap c.put_entry.ensures)

pub loop-k-preserved-then-not-has : goal.loop-k-preserved-then-not-has
loop-k-preserved-then-not-has g c = put_not _ _ c.loop-k.invariant (omega arith) (sym c.has.ensures ∙ c.if-not-has.true)

pub returns : goal.returns
unfolding list_text
returns g c = put_end _ _ c.loop-k.invariant (omega arith)
