-- `write_addresses` goes through the addresses again and sets each one's bit: its loop keeps `Writing`, with as many
-- addresses left as turns.
use Prim.Native.Nat.{◌-◌}
use Rattle.notice.proofs.Passes.{Writing}
use Rattle.notice.proofs.write_addresses.Given as goal

abbrev pub invariant-loop : goal.invariant-loop
invariant-loop l = Writing l.m l.bytes l.initial.faults l.faults (l.m - l.counter) l.at l.base
