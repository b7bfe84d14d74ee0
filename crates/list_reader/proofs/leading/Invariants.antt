-- `leading` goes through the first four digits, where its loop keeps `Few`, and leaves the others to `more_digits`.
use Rattle.list_reader.proofs.Counted.{Few}
use Rattle.list_reader.proofs.leading.Given as goal

abbrev pub invariant-loop-count : goal.invariant-loop-count
invariant-loop-count l = Few l.s l.value l.count
