-- What the functions inside the crate may assume of an answer: its parts are small enough to be packed, and a row that is written has its 34 bytes.
-- proofs/Small.antt shows it of every answer.
use Rattle.std.specs.Prelude.{true, ◌≡◌, ℕ, ◌≤◌, ◌<◌, Result}
use Rattle.cube.specs.declared.refusals.Refusal.{Refusal}
use Rattle.causes.specs.declared.Cause.{Cause}
use Rattle.hop.specs.Hop as H
use Rattle.hop.specs.declared.Decision.{Decision}
use Rattle.walk.specs.Walk as W
use Rattle.walk.specs.declared.Walked.{Walked}
use Rattle.walk_networks.specs.Crossing as C
use Rattle.walk_networks.specs.declared.Crossed.{Crossed}
use Rattle.why.specs.NodeReasons.{first_named, second_named, third_named}
use Rattle.why.specs.declared.HopReason.{HopReason}
use Rattle.why.specs.declared.HopReason.TheVariants.{Deliver, Hop, Halted}
use Rattle.why.specs.declared.NodeReason.{NodeReason}
use Rattle.why.specs.declared.NodeReason.TheVariants.{Safe, Unsafe, Out}
use Rattle.hcube.specs.Answers.{has_row}

abbrev pub HopFits : Result Decision Refusal → Type 0
HopFits a = H.value_of a < 65536

abbrev pub CrossedFits : Result Crossed Refusal → Type 0
CrossedFits a = C.hops_of a < 65536

abbrev pub WalkFits : Walked → Type 0
WalkFits w = w.hops < 65536

abbrev pub RowFits : Walked → (m : ℕ) → Type 0
RowFits w m = has_row w.ending ≡ true → m ≡ W.row_bytes

abbrev pub CauseFits : Cause → Type 0
CauseFits c = (first_named c ≤ 12) × (second_named c ≤ 12) × (third_named c ≤ 12)

abbrev pub ReasonFits : NodeReason → Type 0
ReasonFits (Safe out bad) = (out ≤ 12) × (bad ≤ 12)
ReasonFits (Unsafe label round c) = (round ≤ 4097) × CauseFits c
ReasonFits (Out label) = Unit {0}

-- the scan and the dimension of a hop
abbrev pub ScanFits : HopReason → Type 0
ScanFits Deliver = Unit {0}
ScanFits (Hop scan i) = (scan < 6) × (i < 12)
ScanFits Halted = Unit {0}
