-- `list_pairs` asks for lines behind the notice only, and ends, since each pair lies behind the one before.
use Prim.Native.Nat.{◌-◌, ◌≤◌}
use lib.ListN.{length}
use Rattle.notice.specs.Notice.{tail_at}
use Rattle.listing.proofs.list_pairs.Given as goal

abbrev pub invariant-loop-at : goal.invariant-loop-at
invariant-loop-at g l = tail_at l.bytes ≤ l.at

abbrev pub decreases-loop-at : goal.decreases-loop-at
decreases-loop-at g l = length l.bytes - l.at
