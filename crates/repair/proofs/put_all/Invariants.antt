-- `put_all` goes through the dimensions of a mask: its loop keeps `Heard`, of the dimensions so far.
use Rattle.repair.specs.Hearing.{Heard}
use Rattle.repair.proofs.put_all.Given as goal

abbrev pub invariant-loop-i : goal.invariant-loop-i
invariant-loop-i l = Heard l.i l.mask l.w l.initial.res l.initial.row l.res l.row
