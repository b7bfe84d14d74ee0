use mathlib.Core.Path.{ap, ◌∙◌}
use native.Mathlib.Omega.{arith}
use lib.ListN.{length, length-drop}
use Rattle.notice.specs.Notice.{tail_at}
use Rattle.notice.proofs.Agree.{tail_within}
use Rattle.printed.proofs.Pairs.{next_beyond}
use Rattle.listing.proofs.list_pairs.Goals as goal

-- the bytes behind the notice are as many as the tail has
pub loop-at-init : goal.loop-at-init
loop-at-init g c =
    let s = c.args.bytes.now in
    let behind = ap length c.tail-pairs.ensures.bytes ∙ length-drop (tail_at s) s in
    omega (arith, behind, tail_within s)

-- the next pair lies behind
pub loop-at-smaller : goal.loop-at-smaller
loop-at-smaller g c = omega (arith, next_beyond c.args.bytes.now c.loop-at.at (omega arith), c.line_at-next.ensures.next)

pub loop-at-preserved : goal.loop-at-preserved
loop-at-preserved g c = omega (arith, next_beyond c.args.bytes.now c.loop-at.at (omega arith), c.line_at-next.ensures.next, c.loop-at.invariant)
