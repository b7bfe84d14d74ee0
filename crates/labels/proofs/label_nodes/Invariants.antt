-- `label_nodes`. Invariant: the table stands as after some rounds, each of which marked something new, `exchanges` is one more, and the watcher has looked in
-- each of these rounds. The measure is what is left of one more than the working nodes: no more rounds mark something new than these are. proofs/Loop.antt
-- tells how it goes.
use Prim.Native.Nat.{◌+◌, ◌-◌}
use Rattle.rule.specs.Cabinet.{cabinet, out}
use Rattle.rule.specs.Rule.{working}
use Rattle.labels.proofs.Watched.{Watched}
use Rattle.labels.proofs.label_nodes.Given as goal

abbrev pub invariant-loop-rule : goal.invariant-loop-rule
invariant-loop-rule g l =
    let t = l.tables in
    Watched g.W.Watch.after g.W.Watch.fits (cabinet t.n l.rule.number t.faults.now t.draining.now t.closed.now) l.initial.watcher l.labels l.exchanges l.watcher

abbrev pub decreases-loop-rule : goal.decreases-loop-rule
decreases-loop-rule g l =
    let t = l.tables in
    working t.n (out (cabinet t.n l.rule.number t.faults.now t.draining.now t.closed.now)) + 1 - l.exchanges
