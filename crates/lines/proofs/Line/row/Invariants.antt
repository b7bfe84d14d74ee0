-- `Line::row`: so many of the numbers are put behind what the line had.
use mathlib.Core.Path.{◌≡◌}
use mathlib.Core.List.{map}
use Rattle.lines.specs.Lines.{put, row_text}
use Rattle.lines.proofs.Line.row.Given as goal

abbrev pub invariant-loop-n : goal.invariant-loop-n
invariant-loop-n g l = l.self ≡ put l.initial.self (row_text (map g.N.Numeral.value l.numbers) l.n-index)
