-- `main` goes from cube to cube, and the counters stay as many as they are.
use mathlib.Core.Path.{◌≡◌}
use lib.ListN.{length}
use Rattle.tally.proofs.main.Given as goal

abbrev pub invariant-loop-n : goal.invariant-loop-n
invariant-loop-n l = length l.counters ≡ 102
