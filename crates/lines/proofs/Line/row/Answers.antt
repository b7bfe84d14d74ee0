-- `Line::row`: nothing yet is put behind a line that is no longer than its room.
use native.Mathlib.Omega.{arith}
use lib.ListN.{length-take}
use Rattle.lines.specs.Lines.{row_text}
use Rattle.lines.proofs.Putting.{put_none}
use Rattle.lines.proofs.Line.row.Goals as goal

pub loop-n-init : goal.loop-n-init
unfolding row_text
loop-n-init g c = put_none _ (rw (← c.self.view_is) (simp length-take (omega arith)))
