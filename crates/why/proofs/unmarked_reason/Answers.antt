-- `unmarked_reason` tells a node that does not work by its label, and counts the neighbours of a safe one.
use mathlib.Core.Path.{sym}
use native.Mathlib.Omega.{arith}
use borrow.Author.Tests.{le-leb, lt-leb}
use Rattle.cube.specs.Tables.{label_in}
use Rattle.why.specs.Helpers.{unmarked}
use Rattle.why.proofs.unmarked_reason.Goals as goal

pub returns-then-label-ge-OUT : goal.returns-then-label-ge-OUT
unfolding unmarked
returns-then-label-ge-OUT c = rw (sym c.label-label.ensures, le-leb 3 _ c.if-label-ge-OUT.true)

pub returns : goal.returns
unfolding unmarked
returns c =
    rw (lt-leb 3 (label_in c.args.node.labels.now c.args.node.x) (omega (arith, c.label-label.ensures, c.if-label-ge-OUT.false)), c.labelled_from-out.ensures, c.labelled_from-not_safe.ensures)
