-- `is_number` makes the tests of `no_zero` by the count of digits and the first.
use Rattle.list_reader.proofs.Steps.{no_digits, some_digits}
use Rattle.list_reader.proofs.is_number.Goals as goal

pub returns-then-count-eq0 : goal.returns-then-count-eq0
returns-then-count-eq0 c = no_digits _ _ c.if-count-eq0.true

pub returns : goal.returns
returns c = some_digits _ _ c.requires c.if-count-eq0.false
