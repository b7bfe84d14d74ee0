-- `hcube_walk` writes the row and packs the answer of one walk.
use lib.ListN.{length}
use Rattle.jobs.specs.Jobs.{label_for}
use Rattle.hcube.proofs.Small.{row_fits, walk_small}
use Rattle.hcube.proofs.hcube_walk.Goals as goal

pub write_row-requires : goal.write_row-requires
write_row-requires c =
    let a = c.args in
    rw c.walk_for-walked.ensures
    (row_fits a.n a.job a.s a.d (length a.labels.now) (length a.row.now) (label_for a.n a.job a.labels.now))

pub pack_walk-requires : goal.pack_walk-requires
pack_walk-requires c =
    let a = c.args in
    rw c.walk_for-walked.ensures
    (walk_small a.n a.job a.s a.d (length a.labels.now) (length a.row.now) (label_for a.n a.job a.labels.now))
