-- What C is answered, and what the row's buffer then holds: the number (RULES, To C) of the answer that the library's own function gives.
use Rattle.std.specs.Prelude.{Bool, true, false, cond, List, ℕ, ◌+◌, ◌*◌, ◌/◌, ◌%◌, eqb, get_or, length, Result, Ok, Err}
use Rattle.cube.specs.Refused.{refused}
use Rattle.cube.specs.declared.refusals.Refusal.{Refusal}
use Rattle.cube.specs.Tables.{tab}
use Rattle.jobs.specs.Jobs.{label_for}
use Rattle.groups.specs.Number.{Number, refusal_in}
use Rattle.notice.specs.Notice as N
use Rattle.notice.specs.Notice.{Noticed}
use Rattle.writer.specs.Writing.{Wrote}
use Rattle.hop.specs.Hop as H
use Rattle.walk.specs.Walk as W
use Rattle.walk.specs.declared.Ending.{Ending}
use Rattle.walk.specs.declared.Ending.TheVariants as ending
use Rattle.hop.specs.declared.Decision.{Decision}
use Rattle.walk.specs.declared.Walked.{Walked}
use Rattle.walk_networks.specs.Crossing as C
use Rattle.walk_networks.specs.declared.Crossed.{Crossed}
use Rattle.why.specs.HopReasons as X
use Rattle.why.specs.NodeReasons as Y
use Rattle.why.specs.declared.HopReason.{HopReason}
use Rattle.why.specs.declared.NodeReason.{NodeReason}

-- one number for the refusal, the kind and the value. An accepted answer has refusal 0; a refusal has kind 0, and value 0 but for a notice's place
abbrev pub packed : (refusal kind value : ℕ) → ℕ
packed refusal kind value = refusal * 16777216 + kind * 65536 + value

-- the number that is answered, 0 where it is refused
abbrev pub value_in : Result ℕ Refusal → ℕ
value_in (Ok value) = value
value_in (Err r) = 0

-- labelling: kind 0, the value is the number of exchanges
abbrev pub label_number : Result ℕ Refusal → ℕ
label_number a = packed (refused a) 0 (value_in a)

-- a decision: kind 0 deliver, 1 hop, with the dimension as the value, 2 halted
abbrev pub decision_number : Decision → ℕ
decision_number x = packed 0 (H.decision_kind x) (H.decision_value x)

-- hop: kind 0 deliver, 1 hop, with the dimension as the value, or by networks network * 16 + dimension, 2 halted
abbrev pub hop_number : Result Decision Refusal → ℕ
hop_number a = packed (refused a) (H.kind_of a) (H.value_of a)

-- walk: kind 0 delivered, 1 halted, the value is the hop count
abbrev pub walk_number : Walked → ℕ
walk_number w = packed (W.refusal_of w.ending) (W.kind_of w.ending) w.hops

-- a walk by networks: the same
abbrev pub crossed_number : Result Crossed Refusal → ℕ
crossed_number a = packed (refused a) (C.kind_of a) (C.hops_of a)

-- why a node has its label: the label is the kind, the round the value, and above them cause * 2 ^ 56 + third * 2 ^ 48 + second * 2 ^ 40 + first * 2 ^ 32
abbrev pub packed_reason : (cause third second first low : ℕ) → ℕ
packed_reason cause third second first low = cause * 72057594037927936 + third * 281474976710656 + second * 1099511627776 + first * 4294967296 + low

abbrev pub node_reason_number : Result NodeReason Refusal → ℕ
node_reason_number a =
    packed_reason (Y.cause_in a) (Y.third_of a) (Y.second_of a) (Y.first_of a) (packed (refused a) (Y.kind_of a) (Y.value_of a))

-- why a hop is taken: the hop's kind, the value is scan * 256 + dimension
abbrev pub hop_reason_number : Result HopReason Refusal → ℕ
hop_reason_number a = packed (refused a) (X.kind_of a) (X.value_of a)

-- the dimension of a notice by itself: kind 0, the value is the dimension or, refused, the place
abbrev pub dimension_number : Number → ℕ
dimension_number a = packed (refusal_in a) 0 (N.dimension_value a)

-- a notice: dimension * 2 ^ 48 + count * 2 ^ 32, and below them such a number, of kind 0: the value is the bytes taken or, refused, the place
abbrev pub packed_notice : (dimension count low : ℕ) → ℕ
packed_notice dimension count low = dimension * 281474976710656 + count * 4294967296 + low

abbrev pub notice_number : Noticed → ℕ
notice_number a = packed_notice (N.dimension_of a) (N.count_of a) (packed (N.refusal_of a) 0 (N.value_of a))

-- writing a notice or a list text: kind 0, the value is its length
abbrev pub written_number : Wrote → ℕ
written_number a = packed (refused a) 0 (value_in a)

-- reading a list text, and repairing a table: kind 0, value 0
abbrev pub done_number : (refusal : ℕ) → ℕ
done_number refusal = packed refusal 0 0

-- the walk with the buffers that C lends
abbrev pub walked_by : (n j s d : ℕ) (labels row : List ℕ) → Walked
walked_by n j s d labels row = W.walked n j s d (length labels) (length row) (label_for n j labels)

-- byte k of a row: two bytes a node, low byte first
unfoldable pub row_byte : (row : List ℕ) (k : ℕ) → ℕ
row_byte row k = cond (eqb (k % 2) 0) (get_or row (k / 2) 0 % 256) (get_or row (k / 2) 0 / 256 % 256)

-- a walk that ended so has a row to write
abbrev pub has_row : Ending → Bool
has_row ending.Delivered = true
has_row ending.Halted = true
has_row (ending.Refused k) = false

-- the row's buffer afterwards: all 34 bytes written, or every byte kept
unfoldable pub row_after : Walked → (before : List ℕ) → List ℕ
row_after w before = cond (has_row w.ending) (tab W.row_bytes (row_byte w.row)) before
