-- `hcube_read_notice` packs the answer of `read`, whose parts are small.
use mathlib.Core.Path.{sym}
use native.Mathlib.Omega.{arith}
use Rattle.notice.proofs.Agree.{parts}
use Rattle.notice.proofs.Refusals.{refused_notice}
use Rattle.hcube.proofs.hcube_read_notice.Goals as goal

pub pack_notice-requires : goal.pack_notice-requires
pack_notice-requires c =
    let p = parts _ _ _ _ _ (sym c.in-Ok.ensures.answer) in
    (p.dimension, (p.count, p.short))

pub refuse_at-requires : goal.refuse_at-requires
refuse_at-requires c = omega (arith, (refused_notice _ _ _ _ (sym c.in-Err.ensures.answer)).near)
