-- `add_walks_from` has added the walks to the destinations below d.
use mathlib.Core.Path.{◌≡◌}
use Rattle.rule.specs.Cabinet.{plain}
use Rattle.counters.specs.Helpers.{plus, walks_to}
use Rattle.counters.proofs.Table.add_walks_from.Given as goal

abbrev pub invariant-loop-d : goal.invariant-loop-d
invariant-loop-d l = l.kinds ≡ plus 4 (walks_to (plain l.self.n 3 l.self.faults.now) l.s l.d) l.initial.kinds
