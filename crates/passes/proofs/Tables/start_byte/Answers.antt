-- `start_byte` asks all three tables.
use mathlib.Core.Path.{sym}
use Rattle.passes.specs.Passes.{started}
use Rattle.passes.proofs.Tables.start_byte.Goals as goal

pub returns-then-out-drains : goal.returns-then-out-drains
unfolding started
returns-then-out-drains c = rw (sym c.has-out.ensures, sym c.node_bit-drains.ensures, c.if-out-drains.true)

pub returns-else-out-drains : goal.returns-else-out-drains
unfolding started
returns-else-out-drains c = rw (sym c.has-out.ensures, sym c.node_bit-drains.ensures, c.if-out-drains.false)
