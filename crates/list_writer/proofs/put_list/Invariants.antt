-- `put_list` goes from run to run and puts each one's entry behind those before: its loop keeps `Putting`.
use Prim.Native.Nat.{◌-◌, ◌^◌}
use Rattle.cube.specs.Tables.{node_bit}
use Rattle.list_writer.proofs.Passes.{Putting}
use Rattle.list_writer.proofs.put_list.Given as goal

abbrev pub invariant-loop-k : goal.invariant-loop-k
invariant-loop-k g l = Putting (node_bit l.faults.bytes.now) (2 ^ l.faults.n) g.S.Sink.puts l.initial.sink l.sink l.first l.k

abbrev pub decreases-loop-k : goal.decreases-loop-k
decreases-loop-k g l = 2 ^ l.faults.n - l.k
