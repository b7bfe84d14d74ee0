-- `put_number` puts the digits one behind the other: those of 1000, 100 and 10 that the number has, and the last one.
use native.Mathlib.Omega.{arith}
use Rattle.list_writer.proofs.Digits.{decimal_length, four_digits}
use Rattle.list_writer.proofs.put_number.Goals as goal

pub put_digit-requires : goal.put_digit-requires
put_digit-requires g c = (omega arith, omega (arith, c.requires.1, decimal_length c.args.v (omega arith)))

pub put_digit-requires-2 : goal.put_digit-requires-2
put_digit-requires-2 g c =
    (omega arith, omega (arith, c.requires.1, decimal_length c.args.v (omega arith), g.met.S.Sink.left _ _ _ c.put_digit.ensures))

pub put_digit-requires-3 : goal.put_digit-requires-3
put_digit-requires-3 g c = (
  omega arith,
  omega (
    arith,
    c.requires.1,
    decimal_length c.args.v (omega arith),
    g.met.S.Sink.left _ _ _ c.put_digit.ensures,
    g.met.S.Sink.left _ _ _ c.put_digit-2.ensures,
  ),
)

pub put-requires : goal.put-requires
put-requires g c =
    omega (
      arith,
      c.requires.1,
      decimal_length c.args.v (omega arith),
      g.met.S.Sink.left _ _ _ c.put_digit.ensures,
      g.met.S.Sink.left _ _ _ c.put_digit-2.ensures,
      g.met.S.Sink.left _ _ _ c.put_digit-3.ensures,
    )

pub returns : goal.returns
returns g c =
    let two = g.met.S.Sink.more _ _ _ _ _ c.put_digit.ensures c.put_digit-2.ensures in
    let three = g.met.S.Sink.more _ _ _ _ _ two c.put_digit-3.ensures in
    rw (four_digits c.args.v (omega arith)) (g.met.S.Sink.more _ _ _ _ _ three c.put.ensures)
