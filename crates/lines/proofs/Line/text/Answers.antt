-- `Line::text`: behind the text so far stands of the word what there is room for.
use mathlib.Core.Path.{ap, ◌∙◌}
use native.Mathlib.Omega.{arith}
use lib.ListN.{length, length-take}
use Rattle.lines.proofs.Putting.{put_front, put_whole}
use Rattle.lines.proofs.Line.text.Goals as goal

pub returns-then-word-left : goal.returns-then-word-left
returns-then-word-left c =
    let long = simp length-take at (ap length c.self.view_is) in
    c.append.ensures ∙ put_whole _ _ (omega arith)

pub returns-else-word-left : goal.returns-else-word-left
returns-else-word-left c =
    let long = simp length-take at (ap length c.self.view_is) in
    c.append-else-word-left.ensures ∙ put_front _ _ _ (omega arith)
