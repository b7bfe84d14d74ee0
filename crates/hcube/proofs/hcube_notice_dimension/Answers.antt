-- `hcube_notice_dimension` packs the answer of `dimension`, whose parts are small.
use mathlib.Core.Path.{sym}
use native.Mathlib.Omega.{arith}
use Rattle.hcube.proofs.Small.{dimension_small}
use Rattle.hcube.proofs.hcube_notice_dimension.Goals as goal

pub pack-requires : goal.pack-requires
pack-requires c = (omega arith, (omega arith, dimension_small _ _ (sym c.in-Ok.ensures)))

pub refuse_at-requires : goal.refuse_at-requires
refuse_at-requires c = dimension_small _ _ (sym c.in-Err.ensures)
