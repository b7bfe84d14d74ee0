-- `put_entries` goes through the entries again, and sets the bits of each: its loop keeps `Putting`.
use lib.ListN.{length}
use Rattle.list_reader.proofs.Putting.{Putting}
use Rattle.list_reader.proofs.put_entries.Given as goal

abbrev pub invariant-loop-rest : goal.invariant-loop-rest
invariant-loop-rest l = Putting l.text l.initial.faults l.faults l.rest

abbrev pub decreases-loop-rest : goal.decreases-loop-rest
decreases-loop-rest l = length l.rest
