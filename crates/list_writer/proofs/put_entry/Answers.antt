-- `put_entry` makes the test by which `entry_text` chooses, and puts a number, or two with a dash between.
use mathlib.Core.List.{append_assoc}
use native.Mathlib.Omega.{arith}
use Rattle.list_writer.proofs.Digits.{entry_low, entry_one, entry_two, entry_two_length}
use Rattle.list_writer.proofs.put_entry.Goals as goal

pub put_number-requires : goal.put_number-requires
put_number-requires g c = (omega (arith, c.requires.0), omega (arith, c.requires.2, entry_low c.args.low c.args.high))

-- the dash has room, and the second number behind it
pub put-requires : goal.put-requires
put-requires g c =
    omega (arith, c.requires.2, entry_two_length c.args.low c.args.high c.if-low-high.true, g.met.S.Sink.left _ _ _ c.put_number.ensures)

pub put_number-requires-then-low-high : goal.put_number-requires-then-low-high
put_number-requires-then-low-high g c = (
  omega (arith, c.requires.1),
  omega (
    arith,
    c.requires.2,
    entry_two_length c.args.low c.args.high c.if-low-high.true,
    g.met.S.Sink.left _ _ _ c.put_number.ensures,
    g.met.S.Sink.left _ _ _ c.put.ensures,
  ),
)

pub returns-then-low-high : goal.returns-then-low-high
returns-then-low-high g c =
    let two = g.met.S.Sink.more _ _ _ _ _ c.put_number.ensures c.put.ensures in
    rw (entry_two c.args.low c.args.high c.if-low-high.true)
    (rw append_assoc at (g.met.S.Sink.more _ _ _ _ _ two c.put_number-then-low-high.ensures))

pub returns-else-low-high : goal.returns-else-low-high
returns-else-low-high g c = rw (entry_one c.args.low c.args.high c.if-low-high.false) c.put_number.ensures
