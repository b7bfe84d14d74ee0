-- `is_rule` is the test itself.
use mathlib.Core.Path.{refl}
use Rattle.rule.specs.Cabinet.{is_rule}
use Rattle.labels.proofs.is_rule.Goals as goal

pub returns : goal.returns
unfolding is_rule
returns c = refl
