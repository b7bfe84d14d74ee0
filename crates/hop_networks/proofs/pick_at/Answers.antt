-- `pick_at` picks by the labels gathered, which are the table's.
use Rattle.cube.specs.Tables.{label_in}
use Rattle.hop.proofs.Gathered.{apart_by}
use Rattle.hop_networks.proofs.Deciding.{picked_by}
use Rattle.hop_networks.proofs.pick_at.Goals as goal

pub pick-requires : goal.pick-requires
pick-requires c = let a = c.args in apart_by a.labels.n (label_in a.labels.bytes.now) a.c a.d _ c.around.ensures.here c.requires.2

pub returns : goal.returns
returns c =
    let a = c.args in
    picked_by a.labels.n a.c a.d a.phase (label_in a.labels.bytes.now) a.labels.small _ c.around.ensures.here _ c.pick.ensures
