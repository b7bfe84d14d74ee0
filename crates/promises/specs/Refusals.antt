-- Refusals in the words of RULES (Refusal numbers): for each number when it is given, and for each question in which order the numbers are looked at; "each is
-- given then and not otherwise". They stand apart from the tables of tests by which the definitions answer. Proved in proofs/Refusals.antt.
use Rattle.std.specs.Prelude.{true, List, [], ◌∷◌, ◌⊎◌, ◌≢◌, ◌≡◌, ℕ, zero, suc, ◌+◌, ◌*◌, ◌/◌, ◌^◌, ◌≤◌, ◌<◌, get_or, length, Ok}
use Rattle.cube.specs.Cube.{bit, flip}
use Rattle.cube.specs.Tables.{node_bit}
use Rattle.groups.specs.Number.{number_at, refusal_in}
use Rattle.notice.specs.Notice as N
use Rattle.spelling.specs.Spelled.{notice_bytes}
use Rattle.writer.specs.Writing as T
use Rattle.ranges.specs.Laws.{Entries, Entry, ListText, holds}
use Rattle.ranges.specs.Written.{list_text}
use Rattle.list_reader.specs.Reading.{list_refusal}
use Rattle.list_writer.specs.Lists.{wrote_list}
use Rattle.repair.specs.Repaired.{mask_of}
use Rattle.repair.specs.Repairing.{repair_refusal}
use Rattle.rule.specs.Cabinet.{Cabinet}
use Rattle.labels.specs.Labelling as L
use Rattle.hop.specs.Hop as H
use Rattle.hop.specs.declared.Decision.TheVariants.{Hop}
use Rattle.walk.specs.Walk as W
use Rattle.why.specs.HopReasons as X
use Rattle.why.specs.NodeReasons as Y
use Rattle.cube.specs.Refused.{refused}

-- the first number of the order whose case holds is given, and 0 where none does
pub data Given (When : ℕ → Type 0) : (order : List ℕ) (k : ℕ) → Type 0 where
  here : {k : ℕ} {more : List ℕ} → When k → Given When (k ∷ more) k
  later : {j k : ℕ} {more : List ℕ} → ¬ (When j) → Given When more k → Given When (j ∷ more) k
  none : Given When [] 0

-- ---- the words that the cases share

-- "dimension n is 1 to 12"
abbrev pub Dimension : (n : ℕ) → Type 0
Dimension n = (1 ≤ n) × (n ≤ 12)

-- the number of a rule, "2 or 3"
abbrev pub Rule : (k : ℕ) → Type 0
Rule k = (k ≡ 2) ⊎ (k ≡ 3)

-- the number of a job, "0 or 1"
abbrev pub Job : (j : ℕ) → Type 0
Job j = (j ≡ 0) ⊎ (j ≡ 1)

-- the length of a fault table, and of a table of draining or of closed nodes: "one byte for n up to 3, otherwise 2^n/8 bytes"
abbrev pub TableLength : (n bytes : ℕ) → Type 0
TableLength n bytes = ((n ≤ 3) × (bytes ≡ 1)) ⊎ ((3 < n) × (bytes ≡ 2 ^ n / 8))

-- an unused bit is set: one that stands for no node
abbrev pub Unused : (n : ℕ) (table : List ℕ) → Type 0
Unused n table = (x : ℕ) × (2 ^ n ≤ x) × (node_bit table x ≡ true)

-- "an end or current node is 2^n or more"
abbrev pub Outside : (n a b : ℕ) → Type 0
Outside n a b = (2 ^ n ≤ a) ⊎ (2 ^ n ≤ b)

-- the length of a label buffer: "exactly both halves"
abbrev pub BothHalves : (n m : ℕ) → Type 0
BothHalves n m = m ≡ 2 * 2 ^ n

-- ---- labelling, of a cabinet for job j and a label buffer of m bytes: "1, 18, 19, 2 (fault, draining, closed table, then label buffer), 3 (fault, draining,
-- closed table)"

pub data LabelWhen (K : Cabinet) (j m : ℕ) : ℕ → Type 0 where
  label_1 : ¬ (Dimension K.n) → LabelWhen K j m 1
  label_18 : ¬ (Rule K.rule) → LabelWhen K j m 18
  label_19 : ¬ (Job j) → LabelWhen K j m 19
  label_2_faults : ¬ (TableLength K.n (length K.faults)) → LabelWhen K j m 2
  label_2_draining : ¬ (TableLength K.n (length K.draining)) → LabelWhen K j m 2
  label_2_closed : ¬ (TableLength K.n (length K.closed)) → LabelWhen K j m 2
  label_2_labels : ¬ (BothHalves K.n m) → LabelWhen K j m 2
  -- "an unused bit is set in the fault table", or in that of the draining nodes, or in that of the closed ones
  label_3_faults : Unused K.n K.faults → LabelWhen K j m 3
  label_3_draining : Unused K.n K.draining → LabelWhen K j m 3
  label_3_closed : Unused K.n K.closed → LabelWhen K j m 3

abbrev pub LabelGiven : (K : Cabinet) (j m : ℕ) → ℕ → Type 0
LabelGiven K j m = Given (LabelWhen K j m) (1 ∷ 18 ∷ 19 ∷ 2 ∷ 3 ∷ [])

-- ---- why node x has its label, with what labelling is lent: "those of labelling, then 5 for the node"

abbrev pub NodeWhen : (K : Cabinet) (j m x : ℕ) → ℕ → Type 0
NodeWhen K j m x k = LabelWhen K j m k ⊎ ((k ≡ 5) × (2 ^ K.n ≤ x))

abbrev pub NodeGiven : (K : Cabinet) (j m x : ℕ) → ℕ → Type 0
NodeGiven K j m x = Given (NodeWhen K j m x) (1 ∷ 18 ∷ 19 ∷ 2 ∷ 3 ∷ 5 ∷ [])

-- ---- a hop at c for d, for job j with a label buffer of m bytes: "1, 19, 2, 5, 4, 6". lab are the labels of the job's half, and no byte of the other is
-- in a case

pub data HopWhen (n j c d m : ℕ) (lab : ℕ → ℕ) : ℕ → Type 0 where
  hop_1 : ¬ (Dimension n) → HopWhen n j c d m lab 1
  hop_19 : ¬ (Job j) → HopWhen n j c d m lab 19
  hop_2 : ¬ (BothHalves n m) → HopWhen n j c d m lab 2
  hop_5 : Outside n c d → HopWhen n j c d m lab 5
  -- "a label byte above 4" ("hop: at c or a neighbour")
  hop_4_here : 4 < lab c → HopWhen n j c d m lab 4
  hop_4_near : (i : ℕ) → i < n → 4 < lab (flip i c) → HopWhen n j c d m lab 4
  -- "current node has label 3, or label 4": this only where it is not the destination
  hop_6_faulty : lab c ≡ 3 → HopWhen n j c d m lab 6
  hop_6_draining : lab c ≡ 4 → c ≢ d → HopWhen n j c d m lab 6

abbrev pub HopGiven : (n j c d m : ℕ) (lab : ℕ → ℕ) → ℕ → Type 0
HopGiven n j c d m lab = Given (HopWhen n j c d m lab) (1 ∷ 19 ∷ 2 ∷ 5 ∷ 4 ∷ 6 ∷ [])

-- ---- a walk from s to d, for job j with a label buffer of m bytes and a row of `room` bytes: "1, 19, 2 (label buffer, then C's row), 5, 4, 6, 7, 8"

-- "after n + 4 hops without delivery, where the next decision is another hop": from the source on, each decision after 0 to n + 4 hops is one
abbrev pub AllHops : (n : ℕ) (lab : ℕ → ℕ) (d s : ℕ) → Type 0
AllHops n lab d s =
    (at : ℕ → ℕ) × (at 0 ≡ s) × ((k : ℕ) → k ≤ n + 4 → (i : ℕ) × (H.hop n lab (at k) d ≡ Hop i) × (at (k + 1) ≡ flip i (at k)))

pub data WalkWhen (n j s d m room : ℕ) (lab : ℕ → ℕ) : ℕ → Type 0 where
  walk_1 : ¬ (Dimension n) → WalkWhen n j s d m room lab 1
  walk_19 : ¬ (Job j) → WalkWhen n j s d m room lab 19
  walk_2_labels : ¬ (BothHalves n m) → WalkWhen n j s d m room lab 2
  -- "a lent buffer of exactly 34 bytes"
  walk_2_row : room ≢ 34 → WalkWhen n j s d m room lab 2
  walk_5 : Outside n s d → WalkWhen n j s d m room lab 5
  -- "a label byte above 4" ("walk: anywhere in the job's half")
  walk_4 : (x : ℕ) → x < 2 ^ n → 4 < lab x → WalkWhen n j s d m room lab 4
  -- the source has label 3, or 4, "even when it is the destination"
  walk_6 : 3 ≤ lab s → WalkWhen n j s d m room lab 6
  -- "walk's destination has label 3"
  walk_7 : lab d ≡ 3 → WalkWhen n j s d m room lab 7
  walk_8 : AllHops n lab d s → WalkWhen n j s d m room lab 8

abbrev pub WalkGiven : (n j s d m room : ℕ) (lab : ℕ → ℕ) → ℕ → Type 0
WalkGiven n j s d m room lab = Given (WalkWhen n j s d m room lab) (1 ∷ 19 ∷ 2 ∷ 5 ∷ 4 ∷ 6 ∷ 7 ∷ 8 ∷ [])

-- ---- a number at a place of the bytes: "9 or 10"

pub data NumberWhen (bytes : List ℕ) (at : ℕ) : ℕ → Type 0 where
  -- "ends before a number that is due is complete": before its first group, or before its second
  number_9_first : length bytes ≤ at → NumberWhen bytes at 9
  number_9_second : 128 ≤ get_or bytes at 0 → length bytes ≤ at + 1 → NumberWhen bytes at 9
  -- "a number's second group is zero or has its high bit set"
  number_10 : 128 ≤ get_or bytes at 0 → (get_or bytes (at + 1) 0 ≡ 0) ⊎ (128 ≤ get_or bytes (at + 1) 0) → NumberWhen bytes at 10

abbrev pub NumberGiven : (bytes : List ℕ) (at : ℕ) → ℕ → Type 0
NumberGiven bytes at = Given (NumberWhen bytes at) (9 ∷ 10 ∷ [])

-- ---- a notice, read over a fault table: "left to right; each number 9 or 10 first, then its value (1 after the dimension, then 2 for the lent fault
-- table, 11 after the count, 12 at each address)"

pub data DimensionWhen (table : List ℕ) (n : ℕ) : ℕ → Type 0 where
  dimension_1 : ¬ (Dimension n) → DimensionWhen table n 1
  dimension_2 : ¬ (TableLength n (length table)) → DimensionWhen table n 2

pub data CountWhen (n m : ℕ) : ℕ → Type 0 where
  count_11 : 2 ^ n < m → CountWhen n m 11

-- an address is a number counted from a base: 0 at first, then one more than the address before
pub data AddressWhen (n base v : ℕ) : ℕ → Type 0 where
  address_12 : 2 ^ n ≤ base + v → AddressWhen n base v 12

-- what is given at a number that is due at a place, by the cases of its value in their order, and by what is due behind it. "On refusal, the byte place
-- where that number begins .. that of the number whose value was tested": the refusal k is given with the place of the number that it is about
pub data Due
    (bytes : List ℕ) (at : ℕ) (When : (v : ℕ) → ℕ → Type 0) (order : List ℕ) (Behind : (v next : ℕ) → (k place : ℕ) → Type 0)
    : (k place : ℕ) → Type 0 where
  ill : {k : ℕ} → NumberGiven bytes at k → k ≢ 0 → Due bytes at When order Behind k at
  wrong : {v next k : ℕ} → number_at bytes at ≡ Ok (v, next) → Given (When v) order k → k ≢ 0 → Due bytes at When order Behind k at
  behind : {v next k place : ℕ} → number_at bytes at ≡ Ok (v, next) → Given (When v) order 0 → Behind v next k place → Due bytes at When order Behind k place

-- so many addresses of an n-cube, from a place and a base on; behind the last, nothing is refused, and there is no place
unfoldable pub Addresses : (left n : ℕ) (bytes : List ℕ) (at base : ℕ) → (k place : ℕ) → Type 0
Addresses zero n bytes at base k place = (k ≡ 0) × (place ≡ 0)
Addresses (suc left) n bytes at base k place =
    Due bytes at (AddressWhen n base) (12 ∷ []) (λ v next. Addresses left n bytes next (base + v + 1)) k place

abbrev pub NoticeGiven : (bytes table : List ℕ) → (k place : ℕ) → Type 0
NoticeGiven bytes table =
    Due bytes 0 (DimensionWhen table) (1 ∷ 2 ∷ [])
    (λ n at. Due bytes at (CountWhen n) (11 ∷ []) (λ m start. Addresses m n bytes start 0))

-- the dimension by itself: no table is lent, so 2 is not in its order, and nothing is due behind it. Not refused, its value is the dimension
abbrev pub DimensionGiven : (bytes : List ℕ) → (k v : ℕ) → Type 0
DimensionGiven bytes = Due bytes 0 (DimensionWhen []) (1 ∷ []) (λ n at k v. (k ≡ 0) × (v ≡ n))

-- ---- writing the bytes w for a table of an n-cube, into a buffer of `room` bytes: "1, 2, 3 as in labelling, then 13 exactly if" they are more than the
-- buffer has. They are the table's notice or its list text

pub data WriteWhen (n : ℕ) (faults w : List ℕ) (room : ℕ) : ℕ → Type 0 where
  write_1 : ¬ (Dimension n) → WriteWhen n faults w room 1
  write_2 : ¬ (TableLength n (length faults)) → WriteWhen n faults w room 2
  write_3 : Unused n faults → WriteWhen n faults w room 3
  write_13 : room < length w → WriteWhen n faults w room 13

abbrev pub BytesGiven : (n : ℕ) (faults w : List ℕ) (room : ℕ) → ℕ → Type 0
BytesGiven n faults w room = Given (WriteWhen n faults w room) (1 ∷ 2 ∷ 3 ∷ 13 ∷ [])

abbrev pub WriteGiven : (n : ℕ) (faults : List ℕ) (room : ℕ) → ℕ → Type 0
WriteGiven n faults room = BytesGiven n faults (notice_bytes n faults) room

abbrev pub WriteListGiven : (n : ℕ) (faults : List ℕ) (room : ℕ) → ℕ → Type 0
WriteListGiven n faults room = BytesGiven n faults (list_text n faults) room

-- ---- reading a list text into a table of so many bytes: "1, 2, then 14 for text that breaks these rules anywhere, then 12"

-- 14 where it is not that of entries, each a number or a range with low at most high, joined by commas; 12 where one of them has a node beyond the cube
pub data ReadListWhen (n : ℕ) (text : List ℕ) (bytes : ℕ) : ℕ → Type 0 where
  list_1 : ¬ (Dimension n) → ReadListWhen n text bytes 1
  list_2 : ¬ (TableLength n bytes) → ReadListWhen n text bytes 2
  list_14 : ¬ (ListText text) → ReadListWhen n text bytes 14
  list_12 : (es : List Entry) (k : ℕ) → Entries es text → 2 ^ n ≤ k → holds es k ≡ true → ReadListWhen n text bytes 12

abbrev pub ReadListGiven : (n : ℕ) (text : List ℕ) (bytes : ℕ) → ℕ → Type 0
ReadListGiven n text bytes = Given (ReadListWhen n text bytes) (1 ∷ 2 ∷ 14 ∷ 12 ∷ [])

-- ---- repairing a table by masks, into a result of so many bytes and a row of so many numbers: "1, 2 (fault table, masks, result, row), 3, then 17"

pub data RepairWhen (n : ℕ) (faults masks : List ℕ) (result row : ℕ) : ℕ → Type 0 where
  repair_1 : ¬ (Dimension n) → RepairWhen n faults masks result row 1
  repair_2_faults : ¬ (TableLength n (length faults)) → RepairWhen n faults masks result row 2
  repair_2_masks : length masks ≢ 2 ^ n → RepairWhen n faults masks result row 2
  repair_2_result : ¬ (TableLength n result) → RepairWhen n faults masks result row 2
  repair_2_row : row ≢ 2 ^ n → RepairWhen n faults masks result row 2
  repair_3 : Unused n faults → RepairWhen n faults masks result row 3
  -- "a mask with a bit at n or above, from any node": the faulty ones too
  repair_17 : (w i : ℕ) → w < length masks → n ≤ i → i < 16 → bit i (mask_of masks w) ≡ true → RepairWhen n faults masks result row 17

abbrev pub RepairGiven : (n : ℕ) (faults masks : List ℕ) (result row : ℕ) → ℕ → Type 0
RepairGiven n faults masks result row = Given (RepairWhen n faults masks result row) (1 ∷ 2 ∷ 3 ∷ 17 ∷ [])

-- ---- each is given then and not otherwise

pub record Refusals : Type 1 where
  -- no two numbers are given by one order, and no two, or two places, for one notice
  pub one : (When : ℕ → Type 0) (order : List ℕ) (j k : ℕ) → Given When order j → Given When order k → j ≡ k
  pub one_notice : (bytes table : List ℕ) (j p k q : ℕ) → NoticeGiven bytes table j p → NoticeGiven bytes table k q → (j ≡ k) × (p ≡ q)
  pub one_dimension : (bytes : List ℕ) (j p k q : ℕ) → DimensionGiven bytes j p → DimensionGiven bytes k q → (j ≡ k) × (p ≡ q)
  -- each question's refusal, 0 for none, is the number given, and a notice's place the one given with it
  pub labelling : (K : Cabinet) (j m : ℕ) → LabelGiven K j m (refused (L.labelled K j m))
  pub hop : (n j c d m : ℕ) (lab : ℕ → ℕ) → HopGiven n j c d m lab (refused (H.hopped n j c d m lab))
  pub why-node : (K : Cabinet) (j m x : ℕ) → NodeGiven K j m x (refused (Y.node_reason K j m x))
  pub why-hop : (n j c d m : ℕ) (lab : ℕ → ℕ) → HopGiven n j c d m lab (refused (X.hop_reason n j c d m lab))
  pub walk : (n j s d m room : ℕ) (lab : ℕ → ℕ) → WalkGiven n j s d m room lab (W.refusal_of (W.walked n j s d m room lab).ending)
  pub number : (bytes : List ℕ) (at : ℕ) → NumberGiven bytes at (refusal_in (number_at bytes at))
  pub notice : (bytes table : List ℕ) → NoticeGiven bytes table (N.refusal_of (N.noticed bytes table)) (N.place_of (N.noticed bytes table))
  pub writing : (n : ℕ) (faults : List ℕ) (room : ℕ) → WriteGiven n faults room (refused (T.wrote n faults room))
  pub list_reading : (n : ℕ) (text faults : List ℕ) → ReadListGiven n text (length faults) (list_refusal n text faults)
  pub list_writing : (n : ℕ) (faults : List ℕ) (room : ℕ) → WriteListGiven n faults room (refused (wrote_list n faults room))
  pub repairing : (n : ℕ) (faults masks : List ℕ) (result row : ℕ) → RepairGiven n faults masks result row (repair_refusal n faults masks result row)
  pub dimension : (bytes : List ℕ) → DimensionGiven bytes (refusal_in (N.dimension_at bytes)) (N.dimension_value (N.dimension_at bytes))
