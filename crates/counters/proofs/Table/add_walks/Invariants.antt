-- `add_walks` has added the walks of the sources below s.
use mathlib.Core.Path.{◌≡◌}
use Rattle.rule.specs.Cabinet.{plain}
use Rattle.counters.specs.Helpers.{plus, walks_from}
use Rattle.counters.proofs.Table.add_walks.Given as goal

abbrev pub invariant-loop-s : goal.invariant-loop-s
invariant-loop-s l = l.kinds ≡ plus 4 (walks_from (plain l.self.n 3 l.self.faults.now) l.s) l.initial.kinds
