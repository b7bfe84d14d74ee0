-- `check` goes through the entries and writes nothing: its loop keeps `Judging`.
use lib.ListN.{length}
use Rattle.list_reader.proofs.Judging.{Judging}
use Rattle.list_reader.proofs.check.Given as goal

abbrev pub invariant-loop-rest : goal.invariant-loop-rest
invariant-loop-rest l = Judging l.text l.size l.far l.rest

abbrev pub decreases-loop-rest : goal.decreases-loop-rest
decreases-loop-rest l = length l.rest
