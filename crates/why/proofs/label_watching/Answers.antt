-- `label_watching`: what the watcher has seen after all rounds is what is to be seen, and gives the reason.
use mathlib.Core.Path.{ap, ◌∙◌}
use Rattle.rule.specs.Cabinet.{cabinet}
use Rattle.why.specs.declared.Watcher.{Watcher}
use Rattle.why.proofs.Reasons.{reason-of}
use Rattle.why.proofs.Watching.{watches_all}
use Rattle.why.proofs.label_watching.Goals as goal

pub returns-clause-answer : goal.returns-clause-answer
returns-clause-answer c =
    let x = c.requires.inside in
    let nodes = c.label_nodes.ensures in
    let seen = ap (λ (w : Watcher). w.seen) (nodes.watcher ∙ watches_all (cabinet _ _ _ _ _) _ x) in
    reason-of (cabinet _ _ _ _ _) _ x _ _ _ nodes.labels seen c.reason.ensures
