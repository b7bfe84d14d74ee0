-- `dimension` opens the first number and tests its value: a refusal of the number stays, and then the table of the dimension decides.
use mathlib.Core.Path.{refl, sym, ◌∙◌}
use Rattle.cube.specs.Refusal.{first}
use Rattle.notice.specs.Tests.{dimension_tests}
use Rattle.notice.specs.Notice.{dimension_at}
use Rattle.notice.proofs.Cases.{tested_refused, tested_fails, tested_passes}
use Rattle.notice.proofs.dimension.Goals as goal

pub returns-in_default : goal.returns-in_default
unfolding dimension_at
returns-in_default c =
    let e = c.in_default.is in
    e ∙ tested_refused dimension_tests 0 (sym e ∙ c.number_at-number.ensures)

pub returns-then-is_dimension : goal.returns-then-is_dimension
unfolding dimension_at first
returns-then-is_dimension c =
    tested_passes dimension_tests 0 (sym c.in-Ok.is ∙ c.number_at-number.ensures) (rw (sym c.is_dimension.ensures ∙ c.if-is_dimension.true))

pub returns : goal.returns
unfolding dimension_at first
returns c =
    tested_fails dimension_tests 0 1 (sym c.in-Ok.is ∙ c.number_at-number.ensures) (rw (sym c.is_dimension.ensures ∙ c.if-is_dimension.false)) refl
