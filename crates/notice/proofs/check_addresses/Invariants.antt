-- `check_addresses` goes through the addresses and writes nothing: its loop keeps `Checking`, with as many addresses due as there are turns left.
use Prim.Native.Nat.{◌-◌}
use Rattle.notice.proofs.Passes.{Checking}
use Rattle.notice.proofs.check_addresses.Given as goal

abbrev pub invariant-loop-i : goal.invariant-loop-i
invariant-loop-i l = Checking l.m l.bytes l.size (l.m - l._i) l.at l.base
