-- `close` makes the tests of `closing` on the byte at its place.
use native.Mathlib.Omega.{arith}
use Rattle.list_reader.proofs.Steps.{close_comma, close_end, close_not}
use Rattle.list_reader.proofs.close.Goals as goal

pub returns-then-end-s : goal.returns-then-end-s
returns-then-end-s c = close_end _ _ _ _ c.if-end-s.true

pub returns-then-s-end : goal.returns-then-s-end
returns-then-s-end c = close_comma _ _ _ _ (omega (arith, c.requires)) c.if-s-end.true

pub returns : goal.returns
returns c = close_not _ _ _ _ (omega (arith, c.requires)) c.if-s-end.false
