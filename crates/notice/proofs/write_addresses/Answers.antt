use mathlib.Core.Path.{sym, ◌∙◌}
use Prim.Native.Nat.{◌+◌, ◌*◌, ◌<◌}
use native.Mathlib.Omega.{arith}
use lib.ListN.{length}
use Rattle.notice.proofs.Passes.{written, write_refused, write_below, write_on}
use Rattle.notice.proofs.write_addresses.Goals as goal
use Rattle.notice.proofs.write_addresses.Goals.{In-Ok}

-- the turn's address has its bit in the table, and so it is small
below : (c : goal.In-Ok) → c.loop.base + c.in-Ok.v < 8 * length c.loop.faults
below c = write_below c.loop.invariant (omega arith) (sym c.in-Ok.is ∙ c.number_at-number.ensures)

pub returns-in_default : goal.returns-in_default
returns-in_default c =
    write_refused c.loop.invariant (omega arith) (sym c.in_default.is ∙ c.number_at-number.ensures)

pub overflow_add-node : goal.overflow_add-node
overflow_add-node c = omega (arith, below c, c.loop.invariant.sized, c.requires.faults_len_bound)

pub set_bit-requires : goal.set_bit-requires
set_bit-requires c = omega (arith, below (goal.at.set_bit-requires c).In-Ok)

pub overflow_add-base : goal.overflow_add-base
overflow_add-base c = omega (arith, below (goal.at.overflow_add-base c).In-Ok, c.loop.invariant.sized, c.requires.faults_len_bound)

pub loop-preserved : goal.loop-preserved
loop-preserved c =
    write_on c.loop.invariant (omega arith) (sym c.in-Ok.is ∙ c.number_at-number.ensures) c.set_bit.ensures (omega arith)

pub returns : goal.returns
returns c = written c.loop.invariant (omega arith)
