-- `put_gap` makes the test by which `gap` chooses.
use mathlib.Core.Path.{ap}
use native.Mathlib.Omega.{arith}
use lib.ListN.{length}
use Rattle.list_writer.proofs.Passes.{gap_none, gap_some}
use Rattle.list_writer.proofs.put_gap.Goals as goal

pub put-requires : goal.put-requires
put-requires g c = omega (arith, c.requires, ap length (gap_some _ c.if-not-first.true))

pub returns-then-not-first : goal.returns-then-not-first
returns-then-not-first g c = rw (gap_some _ c.if-not-first.true) c.put.ensures

pub returns-else-not-first : goal.returns-else-not-first
returns-else-not-first g c = rw (gap_none _ c.if-not-first.false) (g.met.S.Sink.nothing _)
