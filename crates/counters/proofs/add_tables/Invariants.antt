-- `add_tables` has added the tables below t.
use Rattle.counters.proofs.Whole.{Added}
use Rattle.counters.proofs.add_tables.Given as goal

abbrev pub invariant-loop-t : goal.invariant-loop-t
invariant-loop-t l = Added l.n l.t l.counters
