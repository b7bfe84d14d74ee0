-- `after` adds the digit that says whether the hop turns.
use Rattle.hop_networks.proofs.Turning.{one_on}
use Rattle.hop_networks.proofs.after.Goals as goal

pub returns : goal.returns
returns c = one_on _ _ _
