-- `write_row`: the 34 bytes are written where the walk is accepted, and else none is.
use mathlib.Core.Path.{sym, ◌∙◌}
use Rattle.hcube.proofs.Small.{written, kept}
use Rattle.hcube.proofs.write_row.Goals as goal

pub returns-then-has_row : goal.returns-then-has_row
returns-then-has_row c =
    c.put_row.ensures ∙ written c.args.walked c.args.row.now (sym c.has_row.ensures ∙ c.if-has_row.true)

pub returns-else-has_row : goal.returns-else-has_row
returns-else-has_row c =
    kept c.args.walked c.args.row.now (sym c.has_row.ensures ∙ c.if-has_row.false)
