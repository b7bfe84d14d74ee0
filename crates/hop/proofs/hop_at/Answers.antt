-- `hop_at` delivers at the destination, and elsewhere decides by the labels gathered, which are the table's.
use mathlib.Core.Path.{◌∙◌}
use Rattle.cube.specs.Tables.{label_in}
use Rattle.hop.proofs.Gathered.{apart_by, arrives, goes_by}
use Rattle.hop.proofs.hop_at.Goals as goal

pub returns-then-c-d : goal.returns-then-c-d
returns-then-c-d c = arrives _ _ _ _ c.if-c-d.true

pub scanned-requires : goal.scanned-requires
scanned-requires c =
    let a = c.args in
    let h = c.around.result.0 in
    (h.small, h.inside, h.target, apart_by a.labels.n (label_in a.labels.bytes.now) a.c a.d _ c.around.ensures.here c.if-c-d.false)

pub returns : goal.returns
returns c =
    let a = c.args in
    c.across.ensures
    ∙ goes_by a.labels.n (label_in a.labels.bytes.now) a.c a.d _ _ a.labels.small c.requires.0 c.requires.1 c.if-c-d.false c.around.ensures.here c.scanned.ensures
