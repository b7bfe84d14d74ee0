-- `put_number` makes the test by which `groups_of` chooses, and puts the groups that it has: the one, or the low and the high one.
use mathlib.Core.Path.{ap}
use native.Mathlib.Omega.{arith}
use lib.ListN.{length}
use Rattle.writer.proofs.Passes.{one_group, some_group, two-groups}
use Rattle.writer.proofs.put_number.Goals as goal

pub put-requires : goal.put-requires
put-requires g c = omega (arith, c.requires.1, some_group c.args.v)

pub put-requires-else-v-lt128 : goal.put-requires-else-v-lt128
put-requires-else-v-lt128 g c = omega (arith, c.requires.1, some_group c.args.v)

pub put-requires-else-v-lt128-2 : goal.put-requires-else-v-lt128-2
put-requires-else-v-lt128-2 g c =
    omega (arith, c.requires.1, ap length (two-groups c.if-v-lt128.false), g.met.S.Sink.left _ _ _ c.put-else-v-lt128.ensures)

pub returns-then-v-lt128 : goal.returns-then-v-lt128
returns-then-v-lt128 g c = rw (one_group c.if-v-lt128.true) c.put.ensures

pub returns-else-v-lt128 : goal.returns-else-v-lt128
returns-else-v-lt128 g c =
    rw (two-groups c.if-v-lt128.false) (g.met.S.Sink.more _ _ _ _ _ c.put-else-v-lt128.ensures c.put-else-v-lt128-2.ensures)
