-- `set_run` goes through the nodes of the run, by one or by eight: its loop keeps `Running`.
use Prim.Native.Nat.{◌+◌, ◌-◌}
use Rattle.list_reader.proofs.Running.{Running}
use Rattle.list_reader.proofs.set_run.Given as goal

abbrev pub invariant-loop-k : goal.invariant-loop-k
invariant-loop-k l = Running l.initial.faults l.low l.high l.faults l.k

abbrev pub decreases-loop-k : goal.decreases-loop-k
decreases-loop-k l = l.high + 1 - l.k
