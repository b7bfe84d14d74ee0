-- `say_cube`: the tally is not refused, so the counters are the tally when they are written.
use mathlib.Core.Path.{sym, ◌∙◌}
use Rattle.counters.proofs.Outcomes.{accepts, counters_made}
use Rattle.tally.proofs.say_cube.Goals as goal

pub say_all-requires : goal.say_all-requires
say_all-requires c =
    let r = c.requires in
    let made = counters_made _ _ (accepts _ _ r.0 r.1) in
    (r.0.1, c.tally.ensures.counters ∙ sym made)
