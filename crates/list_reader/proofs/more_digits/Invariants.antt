-- `more_digits` goes through the digits from a place on: its loop keeps `Capping`.
use Prim.Native.Nat.{◌+◌, ◌-◌}
use lib.ListN.{drop, length}
use Rattle.list_reader.specs.Front.{front, lead}
use Rattle.ranges.specs.Grammar.{value_from}
use Rattle.list_reader.proofs.Counted.{Capping}
use Rattle.list_reader.proofs.more_digits.Given as goal

abbrev pub invariant-loop-value : goal.invariant-loop-value
invariant-loop-value l = Capping l.s (l.from + lead (drop l.from l.s)) (value_from l.known (front (drop l.from l.s))) l.value l.count

abbrev pub decreases-loop-value : goal.decreases-loop-value
decreases-loop-value l = length l.s - l.count
