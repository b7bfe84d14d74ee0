-- `digit_at` looks at the byte, and past the end there is none.
use mathlib.Core.Path.{sym}
use borrow.Author.Tests.{le-ltb}
use Rattle.ranges.specs.Grammar.{is_digit}
use Rattle.list_reader.proofs.Counted.{past_end}
use Rattle.list_reader.proofs.digit_at.Goals as goal

pub returns-then-i-s : goal.returns-then-i-s
unfolding is_digit
returns-then-i-s c = c.is_ascii_digit.ensures.value

pub returns-else-i-s : goal.returns-else-i-s
returns-else-i-s c = rw (le-ltb _ _ c.if-i-s.false) (sym (past_end _ _ c.if-i-s.false))
