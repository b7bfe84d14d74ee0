-- `run_end` goes on while the nodes are faulty: the run that begins at k ends where that from the node in hand on ends.
use mathlib.Core.Path.{◌≡◌}
use Prim.Native.Nat.{◌-◌, ◌^◌}
use Rattle.cube.specs.Tables.{node_bit}
use Rattle.list_writer.specs.Lists.{run_end}
use Rattle.list_writer.proofs.run_end.Given as goal

abbrev pub invariant-loop-end : goal.invariant-loop-end
invariant-loop-end l =
    run_end (2 ^ l.faults.n - l.end) l.end (node_bit l.faults.bytes.now) ≡ run_end (2 ^ l.faults.n - l.k) l.k (node_bit l.faults.bytes.now)
