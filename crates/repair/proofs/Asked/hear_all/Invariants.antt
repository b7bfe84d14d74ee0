-- `hear_all` hears the nodes in rising order: its loop keeps `Asking`.
use Rattle.repair.proofs.Asking.{Asking}
use Rattle.repair.proofs.Asked.hear_all.Given as goal

abbrev pub invariant-loop-w : goal.invariant-loop-w
invariant-loop-w l = Asking l.self.n l.self.faults.now l.self.masks.now l.res l.row l.w
