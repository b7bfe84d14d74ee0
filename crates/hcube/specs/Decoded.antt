-- What C takes out of an answer, by the header's own macros, and of a row, two bytes a node (RULES, To C): so the answers that C has are the library's own.
-- Proved in proofs/Decoded.antt.
use Rattle.std.specs.Prelude.{cond, List, ◌≡◌, ℕ, ◌+◌, ◌*◌, ◌/◌, ◌%◌, ◌≤◌, ◌<◌, eqb, leb, get_or, Result, Ok, Err}
use Rattle.cube.specs.Refused.{answered, number, refusal}
use Rattle.cube.specs.declared.refusals.Refusal.{Refusal}
use Rattle.cube.specs.Tables.{tab}
use Rattle.rule.specs.Cabinet.{Cabinet}
use Rattle.causes.specs.declared.Cause.{Cause}
use Rattle.causes.specs.declared.Cause.TheVariants as cause
use Rattle.labels.specs.Labelling.{labelled}
use Rattle.list_reader.specs.Reading.{list_refusal}
use Rattle.list_writer.specs.Lists.{wrote_list}
use Rattle.repair.specs.Repairing.{repair_refusal}
use Rattle.hop.specs.Hop.{hopped}
use Rattle.hop.specs.declared.Decision.{Decision}
use Rattle.hop.specs.declared.Decision.TheVariants.{Deliver, Hop, Halted}
use Rattle.walk.specs.Walk.{refused}
use Rattle.walk.specs.declared.Ending.{Ending}
use Rattle.walk.specs.declared.Ending.TheVariants as ending
use Rattle.walk.specs.declared.Walked.{Walked}
use Rattle.blocks.specs.Phase.{after, channel_number}
use Rattle.hop_networks.specs.Hopping.{hopped_in}
use Rattle.walk_networks.specs.Crossing.{crossing}
use Rattle.walk_networks.specs.declared.Crossed.{Crossed}
use Rattle.walk_networks.specs.declared.Crossed.TheVariants as crossed
use Rattle.why.specs.HopReasons.{hop_reason}
use Rattle.why.specs.NodeReasons.{node_reason}
use Rattle.why.specs.declared.HopReason.{HopReason}
use Rattle.why.specs.declared.HopReason.TheVariants as reason
use Rattle.why.specs.declared.NodeReason.{NodeReason}
use Rattle.why.specs.declared.NodeReason.TheVariants as node
use Rattle.notice.specs.Notice.{Noticed, Told, a_notice, dimension_at, noticed}
use Rattle.writer.specs.Writing.{Wrote, wrote}
use Rattle.hcube.specs.Answers.{
  crossed_number,
  dimension_number,
  hop_number,
  hop_reason_number,
  label_number,
  done_number,
  node_reason_number,
  notice_number,
  row_after,
  walk_number,
  walked_by,
  written_number,
}

-- HCUBE_REFUSAL, HCUBE_KIND and HCUBE_VALUE: each takes its own bits, so they serve answers of 32 and of 64 bits
abbrev pub refusal_part : ℕ → ℕ
refusal_part r = r / 16777216 % 256

abbrev pub kind_part : ℕ → ℕ
kind_part r = r / 65536 % 256

abbrev pub value_part : ℕ → ℕ
value_part r = r % 65536

-- HCUBE_NOTICE_DIMENSION and HCUBE_NOTICE_COUNT
abbrev pub dimension_part : ℕ → ℕ
dimension_part r = r / 281474976710656 % 65536

abbrev pub count_part : ℕ → ℕ
count_part r = r / 4294967296 % 65536

-- HCUBE_WHY_CAUSE, HCUBE_WHY_THIRD, HCUBE_WHY_SECOND and HCUBE_WHY_FIRST
abbrev pub cause_part : ℕ → ℕ
cause_part r = r / 72057594037927936 % 256

abbrev pub third_part : ℕ → ℕ
third_part r = r / 281474976710656 % 256

abbrev pub second_part : ℕ → ℕ
second_part r = r / 1099511627776 % 256

abbrev pub first_part : ℕ → ℕ
first_part r = r / 4294967296 % 256

-- HCUBE_WHY_SCAN and HCUBE_WHY_DIMENSION
abbrev pub scan_part : ℕ → ℕ
scan_part r = r / 256 % 256

abbrev pub across_part : ℕ → ℕ
across_part r = r % 256

-- HCUBE_HOP_NETWORK and HCUBE_HOP_DIMENSION, of a hop by networks
abbrev pub network_part : ℕ → ℕ
network_part h = h / 16 % 16

abbrev pub cross_part : ℕ → ℕ
cross_part h = h % 16

-- the node at place k of a row: two bytes, low byte first
abbrev pub node_at : (row : List ℕ) (k : ℕ) → ℕ
node_at row k = get_or row (2 * k) 0 + 256 * get_or row (2 * k + 1) 0

-- ---- the answers by their numbers

-- The answer of refusal number k. No refusal has a number above the last: with one, `other` is read, which is like no answer that is given.
abbrev pub last_refusal : ℕ
last_refusal = 19

abbrev pub said : {A : Type 0} → (k : ℕ) → (x other : A) → Result A Refusal
said k x other = cond (leb k last_refusal) (answered k x) (Ok other)

abbrev pub decision_from : (kind value : ℕ) → Decision
decision_from kind value = cond (eqb kind 0) Deliver (cond (eqb kind 1) (Hop value) Halted)

abbrev pub ending_from : (kind : ℕ) → Ending
ending_from kind = cond (eqb kind 0) ending.Delivered ending.Halted

unfoldable pub labelled_from : ℕ → Result ℕ Refusal
labelled_from r = said (refusal_part r) (value_part r) r

unfoldable pub hopped_from : ℕ → Result Decision Refusal
hopped_from r = said (refusal_part r) (decision_from (kind_part r) (value_part r)) (Hop r)

abbrev pub crossing_from : (kind value : ℕ) → Crossed
crossing_from kind value = cond (eqb kind 0) (crossed.Delivered value) (crossed.Halted value)

unfoldable pub crossed_from : ℕ → Result Crossed Refusal
crossed_from r = said (refusal_part r) (crossing_from (kind_part r) (value_part r)) (crossed.Delivered r)

unfoldable pub walked_from : ℕ → (row : List ℕ) → Walked
walked_from r row =
    cond (eqb (refusal_part r) 0)
    (record { row = tab 17 (node_at row); hops = value_part r; ending = ending_from (kind_part r) })
    (cond (leb (refusal_part r) last_refusal) (refused (refusal_part r)) (record { row = tab 17 (node_at row); hops = r; ending = ending.Delivered }))

-- of an unsafe node, by its label, round and cause; the caller knows by which rule it asked
abbrev pub cause_from : (rule number first second third : ℕ) → Cause
cause_from rule number first second third =
    cond (eqb number 1) (cause.Faulty first second) (cond (eqb rule 2) (cause.Two first second) (cause.Three first second third))

abbrev pub label_reason : (rule label round cause first second third : ℕ) → NodeReason
label_reason rule label round cause first second third =
    cond (eqb label 0)
    (node.Safe first second)
    (cond (leb 3 label)
    (node.Out label)
    (node.Unsafe label round (cause_from rule cause first second third)))

unfoldable pub node_reason_from : (rule : ℕ) → ℕ → Result NodeReason Refusal
node_reason_from rule r =
    said (refusal_part r) (label_reason rule (kind_part r) (value_part r) (cause_part r) (first_part r) (second_part r) (third_part r)) (node.Safe r 0)

unfoldable pub hop_reason_from : ℕ → Result HopReason Refusal
hop_reason_from r =
    said (refusal_part r)
    (cond (eqb (kind_part r) 0) reason.Deliver (cond (eqb (kind_part r) 1) (reason.Hop (scan_part r) (across_part r)) reason.Halted))
    (reason.Hop r 0)

unfoldable pub noticed_from : ℕ → Noticed
noticed_from r =
    cond (eqb (refusal_part r) 0)
    (a_notice (dimension_part r) (count_part r) (value_part r))
    (cond (leb (refusal_part r) last_refusal) (Err (refusal (refusal_part r), value_part r)) (a_notice r 0 0))

unfoldable pub wrote_from : ℕ → Wrote
wrote_from r = said (refusal_part r) (value_part r) r

-- the three parts of r are those of low
pub record Shows (r low : ℕ) : Type 0 where
  pub refusal : refusal_part r ≡ refusal_part low
  pub kind : kind_part r ≡ kind_part low
  pub value : value_part r ≡ value_part low

-- each is the answer that was put into the number
pub record Decodes : Type 0 where
  pub label : (K : Cabinet) (j m : ℕ) → labelled_from (label_number (labelled K j m)) ≡ labelled K j m
  pub hop : (n j c d m : ℕ) (lab : ℕ → ℕ) → hopped_from (hop_number (hopped n j c d m lab)) ≡ hopped n j c d m lab
  pub walk :
      (n j s d : ℕ) (labels before : List ℕ)
      → walked_from (walk_number (walked_by n j s d labels before)) (row_after (walked_by n j s d labels before) before) ≡ walked_by n j s d labels before
  pub hop-networks :
      (n N j c d w g m : ℕ) (lab : ℕ → ℕ) → hopped_from (hop_number (hopped_in n N j c d w g m lab)) ≡ hopped_in n N j c d w g m lab
  pub walk-networks :
      (n N j s d m room : ℕ) (lab : ℕ → ℕ) → crossed_from (crossed_number (crossing n N j s d m room lab)) ≡ crossing n N j s d m room lab
  -- a hop's network and dimension come out of its number, of any board
  pub channels : (n p c i : ℕ) → n ≤ 12 → i < n → after p c i < 10 → (network_part (channel_number p c i) ≡ after p c i / 2) × (cross_part (channel_number p c i) ≡ i)
  pub why-node : (K : Cabinet) (j m x : ℕ) → node_reason_from K.rule (node_reason_number (node_reason K j m x)) ≡ node_reason K j m x
  pub why-hop : (n j c d m : ℕ) (lab : ℕ → ℕ) → hop_reason_from (hop_reason_number (hop_reason n j c d m lab)) ≡ hop_reason n j c d m lab
  pub dimension :
      (bytes : List ℕ)
      → Told (dimension_at bytes) (refusal_part (dimension_number (dimension_at bytes))) (value_part (dimension_number (dimension_at bytes)))
  pub notice : (bytes before : List ℕ) → noticed_from (notice_number (noticed bytes before)) ≡ noticed bytes before
  pub written : (n : ℕ) (faults : List ℕ) (room : ℕ) → wrote_from (written_number (wrote n faults room)) ≡ wrote n faults room
  pub list_read : (n : ℕ) (text faults : List ℕ) → refusal_part (done_number (list_refusal n text faults)) ≡ list_refusal n text faults
  pub list_written : (n : ℕ) (faults : List ℕ) (room : ℕ) → wrote_from (written_number (wrote_list n faults room)) ≡ wrote_list n faults room
  pub repaired :
      (n : ℕ) (faults masks : List ℕ) (result row : ℕ)
      → refusal_part (done_number (repair_refusal n faults masks result row)) ≡ repair_refusal n faults masks result row
  -- a refusal that is read has the number that stands in the answer, and no other number is read as it
  pub label-refusal : (r : ℕ) (q : Refusal) → labelled_from r ≡ Err q → refusal_part r ≡ number q
  pub hop-refusal : (r : ℕ) (q : Refusal) → hopped_from r ≡ Err q → refusal_part r ≡ number q
  pub walk-refusal : (r : ℕ) (row : List ℕ) (q : Refusal) → (walked_from r row).ending ≡ ending.Refused q → refusal_part r ≡ number q
  pub walk-networks-refusal : (r : ℕ) (q : Refusal) → crossed_from r ≡ Err q → refusal_part r ≡ number q
  pub why-node-refusal : (rule r : ℕ) (q : Refusal) → node_reason_from rule r ≡ Err q → refusal_part r ≡ number q
  pub why-hop-refusal : (r : ℕ) (q : Refusal) → hop_reason_from r ≡ Err q → refusal_part r ≡ number q
  pub notice-refusal : (r at : ℕ) (q : Refusal) → noticed_from r ≡ Err (q, at) → refusal_part r ≡ number q
  pub written-refusal : (r : ℕ) (q : Refusal) → wrote_from r ≡ Err q → refusal_part r ≡ number q
  -- and an answer that is cut to 32 bits still shows its refusal, its kind and its value
  pub cut : (r : ℕ) → Shows r (r % 4294967296)
