-- `meets_rule` adds up what its neighbours weigh until they are enough. Invariant: those across the dimensions passed weigh so much, which is not enough.
use mathlib.Core.Path.{◌≡◌}
use Prim.Native.Nat.{◌^◌}
use Rattle.passes.proofs.Testing.{Seen}
use Rattle.passes.proofs.Node.meets_rule.Given as goal

abbrev pub invariant-loop-i : goal.invariant-loop-i
invariant-loop-i l = Seen l.self.n l.fn.rule.number l.self.labels.now l.self.x l.weight l.looked × (l.bit ≡ 2 ^ l.looked) × (l.looked ≡ l._i)
