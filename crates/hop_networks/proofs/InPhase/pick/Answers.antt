-- `pick` takes the first of the three that finds a dimension.
use mathlib.Core.Path.{sym, ap, ◌∙◌}
use Rattle.hop.specs.Helpers.{found}
use Rattle.hop.proofs.Sets.{none_found, some_found}
use Rattle.blocks.proofs.Picks.{pick_forward, pick_home, pick_spare}
use Rattle.hop_networks.proofs.InPhase.pick.Goals as goal

pub returns-in-Some : goal.returns-in-Some
returns-in-Some c =
    let h = c.in-Some.ensures in
    h ∙ ap (found _) (sym (pick_home _ _ _ _ _ _ (some_found _ _ _ h).1))

pub returns-in-Some-call : goal.returns-in-Some-call
returns-in-Some-call c =
    let i = c.in-Some-call.ensures in
    i ∙ ap (found _) (sym (pick_forward _ _ _ _ _ _ (none_found _ _ c.in_default.ensures) (some_found _ _ _ i).1))

pub returns : goal.returns
returns c =
    c.call-2.ensures
    ∙ ap (found _) (sym (pick_spare _ _ _ _ _ _ (none_found _ _ c.in_default.ensures) (none_found _ _ c.in_default-call.ensures)))
