-- `and_digit` takes a digit, so its value is what the byte is above 48.
use Rattle.ranges.proofs.Decimal.{digit_is}
use Rattle.list_reader.proofs.and_digit.Goals as goal

pub overflow_sub-result : goal.overflow_sub-result
overflow_sub-result c = (digit_is c.args.x c.requires.1).0
