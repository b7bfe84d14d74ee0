-- `put_digit` makes the test by which `digit_at` chooses.
use mathlib.Core.Path.{ap}
use native.Mathlib.Omega.{arith}
use lib.ListN.{length}
use Rattle.list_writer.proofs.Digits.{digit_none, digit_some}
use Rattle.list_writer.proofs.put_digit.Goals as goal

pub put-requires : goal.put-requires
put-requires g c = omega (arith, c.requires.1, ap length (digit_some c.args.unit c.args.v c.if-unit-v.true))

pub returns-then-unit-v : goal.returns-then-unit-v
returns-then-unit-v g c = rw (digit_some c.args.unit c.args.v c.if-unit-v.true) c.put.ensures

pub returns-else-unit-v : goal.returns-else-unit-v
returns-else-unit-v g c = rw (digit_none c.args.unit c.args.v c.if-unit-v.false) (g.met.S.Sink.nothing _)
