-- `put_addresses` goes through the nodes and puts each faulty one's address behind those before: its loop keeps `Putting`.
use Prim.Native.Nat.{◌^◌}
use Rattle.cube.specs.Tables.{node_bit}
use Rattle.writer.proofs.Passes.{Putting}
use Rattle.writer.proofs.put_addresses.Given as goal

abbrev pub invariant-loop-node : goal.invariant-loop-node
invariant-loop-node g l = Putting g.S.Sink.puts (node_bit l.faults.bytes.now) (2 ^ l.faults.n) l.initial.sink l.sink l.count l.base l.node
